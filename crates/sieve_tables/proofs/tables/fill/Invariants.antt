use Rattle.std.proofs.Common.{◌≡◌, ◌*◌, length, take}
use Rattle.sieve_tables.proofs.Filled.{IsFilled}
use Rattle.sieve_tables.proofs.tables.fill.Given as goal

abbrev pub invariant-loop-v : goal.invariant-loop-v
invariant-loop-v l = IsFilled l.words (32 * length l.fn.words) (take l.v-index l.values)
    × (length l.words ≡ length l.fn.words)
