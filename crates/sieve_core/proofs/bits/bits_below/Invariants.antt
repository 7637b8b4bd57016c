use Rattle.std.proofs.Common.{◌≡◌, ◌≤◌, ◌<◌, ◌+◌, ◌*◌, ℕ, false}
use Rattle.sieve_core.specs.Bits.{has_bit}
use Rattle.sieve_core.proofs.bits.bits_below.Given as goal

abbrev pub invariant-loop-i : goal.invariant-loop-i
invariant-loop-i l = record {
  clear : (k : ℕ) → l.end ≤ k → k < 64 * l.i → has_bit l.words (64 * l.half + k) ≡ false;
  most : l.end ≤ 64 * l.i;
}
