-- What a comparison of whole numbers tells.
use Rattle.std.proofs.Common.{◌≡◌, ◌⊎◌, inl, inr, arith, ℕ, ℤ, pos, ◌+ℤ◌, ◌≤ℤ◌, ◌<ℤ◌, true, false, int_le}
use Rattle.std.specs.Ordering.{int_eq}
use Rattle.std.proofs.lemmas.Int.{by_lt_z, ints}

pub int_le-true : (p q : ℤ) → int_le p q ≡ true → p ≤ℤ q
int_le-true p q e = grind (arith, ints)

pub int_le-false : (p q : ℤ) → int_le p q ≡ false → q <ℤ p
int_le-false p q e = grind (arith, ints)

pub le-int_le : (p q : ℤ) → p ≤ℤ q → int_le p q ≡ true
le-int_le p q h = grind (arith, ints)

pub lt-int_le : (p q : ℤ) → q <ℤ p → int_le p q ≡ false
lt-int_le p q h = grind (arith, ints)

-- one of two numbers comes first
pub cases_le_z : (a b : ℤ) → (a ≤ℤ b) ⊎ (b <ℤ a)
cases_le_z a b = by_lt_z b a inr inl

-- below r is up to the number before it
pub int_le-below : (p q r : ℤ) → q +ℤ pos 1 ≡ r → int_le (p +ℤ pos 1) r ≡ int_le p q
int_le-below p q r e = grind (arith, ints)

pub int_eq-refl : (a : ℤ) → int_eq a a ≡ true
int_eq-refl a = grind (arith, ints)

pub int_eq-is : (a b : ℤ) → int_eq a b ≡ true → a ≡ b
int_eq-is a b e = grind (arith, ints)

pub int_eq-below : (a b : ℤ) → a <ℤ b → int_eq a b ≡ false
int_eq-below a b h = grind (arith, ints)

-- what is another number, and no greater one, is less
pub less_if_other : (a b : ℤ) → int_eq a b ≡ false → a ≤ℤ b → (a +ℤ pos 1) ≤ℤ b
less_if_other a b e h = grind (arith, ints)

pub int_eq-same : (a b : ℤ) (c : ℕ) → int_eq (a +ℤ pos c) (b +ℤ pos c) ≡ int_eq a b
int_eq-same a b c = grind (arith, ints)
