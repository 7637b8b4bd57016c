-- Floor division for `omega`, which reads an integer z as `up z - down z`: std's `ints` with the
-- euclidean forms.
use Rattle.std.proofs.Common.{◌≡◌, ℕ, ◌+◌, ◌*◌, ◌<◌, ◌≤◌, ◌⊎◌, inl, inr, refl, arith, ℤ, pos, negsuc, unsigned_abs}
use Rattle.std.proofs.lemmas.Int.{ints}
use Rattle.std.specs.Int.{int_div_euclid, int_rem_euclid}
use borrow.Author.Differences.{up, down}

pub unsigned_abs-parts : (z : ℤ) → unsigned_abs z ≡ up z + down z
unsigned_abs-parts (pos n) = omega arith
unsigned_abs-parts (negsuc n) = omega arith

-- the quotient q of a by k has k * q ≤ a < k * q + k
pub int_div_euclid-parts : (a : ℤ) (k : ℕ) → 0 < k
    → (up (int_div_euclid a (pos k)) * k + down a ≤ down (int_div_euclid a (pos k)) * k + up a)
    × (down (int_div_euclid a (pos k)) * k + up a < up (int_div_euclid a (pos k)) * k + down a + k)
int_div_euclid-parts (pos a) k h = omega arith
int_div_euclid-parts (negsuc a) k h = omega arith

-- and the remainder is what that leaves
pub int_rem_euclid-parts : (a : ℤ) (k : ℕ) → 0 < k
    → (up (int_rem_euclid a (pos k)) + up (int_div_euclid a (pos k)) * k + down a
    ≡ down (int_div_euclid a (pos k)) * k + up a) × (down (int_rem_euclid a (pos k)) ≡ 0)
    × (up (int_rem_euclid a (pos k)) < k)
int_rem_euclid-parts (pos a) k h = omega arith
int_rem_euclid-parts (negsuc a) k h = omega arith

-- one of the two parts is 0: list it for a number that is divided
pub one_part : (z : ℤ) → (up z ≡ 0) ⊎ (down z ≡ 0)
one_part (pos n) = inr refl
one_part (negsuc n) = inl refl

-- for `omega (arith, floor_arith)`
pub ruleset floor_arith = (ints, unsigned_abs-parts, int_div_euclid-parts, int_rem_euclid-parts)
