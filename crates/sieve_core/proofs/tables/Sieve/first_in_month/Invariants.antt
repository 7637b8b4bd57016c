use Rattle.std.proofs.Common.{◌≡◌, ◌<◌, ◌≤◌, ℕ, false}
use Rattle.sieve_core.specs.Seek.{sought_at}
use Rattle.sieve_core.proofs.tables.Sieve.first_in_month.Given as goal

abbrev pub invariant-loop-i : goal.invariant-loop-i
invariant-loop-i l = (k : ℕ) → l.fn.from ≤ k → k < l.i → sought_at l.self l.month l.dir k ≡ false
