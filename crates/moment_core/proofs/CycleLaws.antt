-- What is the same after so many times 400 years, and after so many intervals.
use Rattle.std.proofs.Common.{◌≡◌, ℕ, ◌+◌, ◌-◌, ◌*◌, ◌<◌, ◌≤◌, ◌==◌, suc, zero, sym, ap, ◌∙◌, refl, arith, ℤ, pos, negsuc, ◌+ℤ◌, unsigned_abs}
use Rattle.std.proofs.Math.Nat.{add-mul-mod_self_right, mul-le-mul_left}
use Rattle.std.proofs.lemmas.Int.{ints, int_rem_euclid_is}
use Rattle.std.specs.Int.{int_rem_euclid}
use Rattle.moment_core.specs.Calendar.{divides}
use Rattle.moment_core.specs.Units.{unit_of, units_of}
use Rattle.moment_core.specs.declared.line.TheConstants.{G}
use Rattle.moment_core.specs.declared.units.Unit.{Unit as TimeUnit}
use Rattle.moment_core.proofs.UnitLaws.{unit_of-cycle}

-- no time more, and one time more
pub later-none : (t : ℤ) (p : ℕ) → t +ℤ pos (0 * p) ≡ t
later-none t p = omega (arith, ints)

pub later-more : (t : ℤ) (m p : ℕ) → t +ℤ pos (suc m * p) ≡ (t +ℤ pos (m * p)) +ℤ pos p
later-more t m p = omega (arith, ints)

-- the number of the unit after m times 400 years
pub unit_of-cycles : (u : TimeUnit) (t : ℤ) (m : ℕ) → unit_of u (t +ℤ pos (m * G))
    ≡ unit_of u t +ℤ pos (m * units_of u)
unit_of-cycles u t zero = ap (unit_of u) (later-none t G)
    ∙ sym (later-none (unit_of u t) (units_of u))
unit_of-cycles u t (suc m) =
    ap (unit_of u) (later-more t m G) ∙ unit_of-cycle u (t +ℤ pos (m * G))
    ∙ ap (λ z. z +ℤ pos (units_of u)) (unit_of-cycles u t m)
    ∙ sym (later-more (unit_of u t) m (units_of u))

-- a multiple of the interval changes nothing
lifted : (z : ℤ) (n : ℕ) → 0 < n → (k : ℕ) × (m : ℕ) × (z +ℤ pos (k * n) ≡ pos m)
lifted (pos a) n some = (0, a, omega (arith, ints))
lifted (negsuc a) n some =
    let one : 1 ≤ n = omega arith in
    let enough : suc a * 1 ≤ suc a * n = mul-le-mul_left (suc a) one in
    (suc a, suc a * n - suc a, omega (arith, ints, enough))

pub divides-multiple : (n : ℕ) (z : ℤ) (j : ℕ) → 0 < n → divides n (z +ℤ pos (j * n)) ≡ divides n z
divides-multiple n z j some =
    let found = lifted z n some in
    let k = found.0 in
    let m = found.1 in
    let place : (z +ℤ pos (j * n)) +ℤ pos (k * n) ≡ pos (m + j * n) =
    omega (arith, ints, found.2) in
    let there = int_rem_euclid_is (z +ℤ pos (j * n)) (pos n) n k (m + j * n) some refl place in
    let here = int_rem_euclid_is z (pos n) n k m some refl found.2 in
    let same : int_rem_euclid (z +ℤ pos (j * n)) (pos n) ≡ int_rem_euclid z (pos n) = there
    ∙ ap pos (add-mul-mod_self_right m j n) ∙ sym here in
    ap (λ r. unsigned_abs r == 0) same
