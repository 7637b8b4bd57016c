use Rattle.std.proofs.Common.{refl, ap, arith, ◌*◌, ℕ}
use Rattle.sieve_tables.proofs.Filled.{empty_filled, filled_table}
use Rattle.sieve_tables.proofs.tables.fill.Goals as goal

pub loop-v-init : goal.loop-v-init
loop-v-init c = (empty_filled _ _ c.requires.zero, refl)

pub returns : goal.returns
returns c = filled_table _ _ c.loop-v.v-index _ (ap (λ (n : ℕ). 32 * n) c.loop-v.invariant.1)
    c.requires.entries (omega arith) c.loop-v.invariant.0
