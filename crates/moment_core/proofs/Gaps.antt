-- A gap is the difference of two numbers where that is not below 0, and 0 elsewhere.
use Rattle.std.proofs.Common.{◌≡◌, refl, arith, ℤ, pos, negsuc, ◌+ℤ◌, ◌≤ℤ◌}
use Rattle.std.proofs.lemmas.Int.{ints}
use Rattle.std.specs.Int.{int_gap}

pub gap-up : (a b : ℤ) → a ≤ℤ b → a +ℤ pos (int_gap a b) ≡ b
gap-up (pos a) (pos b) h = omega (arith, ints)
gap-up (pos a) (negsuc b) h = absurd (omega (arith, ints))
gap-up (negsuc a) (pos b) h = omega (arith, ints)
gap-up (negsuc a) (negsuc b) h = omega (arith, ints)

pub gap-none : (a b : ℤ) → b ≤ℤ a → int_gap a b ≡ 0
gap-none (pos a) (pos b) h = omega (arith, ints)
gap-none (pos a) (negsuc b) h = refl
gap-none (negsuc a) (pos b) h = absurd (omega (arith, ints))
gap-none (negsuc a) (negsuc b) h = omega (arith, ints)

pub gap-most : (a b : ℤ) → b ≤ℤ (a +ℤ pos (int_gap a b))
gap-most (pos a) (pos b) = omega (arith, ints)
gap-most (pos a) (negsuc b) = omega (arith, ints)
gap-most (negsuc a) (pos b) = omega (arith, ints)
gap-most (negsuc a) (negsuc b) = omega (arith, ints)
