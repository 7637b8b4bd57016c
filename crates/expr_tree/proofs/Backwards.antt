-- What the numbers at or before one say, in plain words.
use Rattle.std.proofs.Common.{◌≡◌, ◌↔◌, inl, inr, refl, ap, sym, ◌∙◌, arith, ℕ, zero, suc, ℤ, pos, ◌-ℤ◌, ◌≤ℤ◌, ◌<ℤ◌, Bool, true, false, not, ◌&&◌, ◌||◌}
use Rattle.std.proofs.lemmas.Bool.{and_from, and_parts, both_ways, not-true, or_cases, not_from_false, or_left, or_right}
use Rattle.std.proofs.lemmas.Int.{ints, by_lt_z}
use Rattle.expr_tree.specs.Backs.{is_open, some_back}

some_back-zero : (test : ℤ → Bool) (z : ℤ) → some_back test z 0 ≡ false
unfolding some_back
some_back-zero test z = refl

some_back-suc : (test : ℤ → Bool) (z : ℤ) (n : ℕ) → some_back test z (suc n) ≡ (test z || some_back
    test (z -ℤ pos 1) n)
unfolding some_back
some_back-suc test z n = refl

is_open-zero : (o c : ℤ → Bool) (z : ℤ) → is_open o c z 0 ≡ false
unfolding is_open
is_open-zero o c z = refl

is_open-suc : (o c : ℤ → Bool) (z : ℤ) (n : ℕ)
    → is_open o c z (suc n) ≡ (o z || (not (c z) && is_open o c (z -ℤ pos 1) n))
unfolding is_open
is_open-suc o c z n = refl

-- one of the n numbers up to z passes
abbrev pub IsBack : (ℤ → Bool) → ℤ → ℕ → Type 0
IsBack test z n = (t : ℤ) × ((z -ℤ pos n) <ℤ t) × (t ≤ℤ z) × (test t ≡ true)

some_back-shows : (test : ℤ → Bool) (z : ℤ) (n : ℕ) → some_back test z n ≡ true → IsBack test z n
some_back-shows test z zero e = absurd (both_ways (some_back test z 0) (some_back-zero test z) e)
some_back-shows test z (suc n) e =
    elim (or_cases (test z) (some_back test (z -ℤ pos 1) n) (sym (some_back-suc test z n) ∙ e)) [
      | inl here ↦ (z, omega (arith, ints), omega (arith, ints), here)
      | inr rest ↦
          let r = some_back-shows test (z -ℤ pos 1) n rest in
          let low : (z -ℤ pos 1 -ℤ pos n) <ℤ r.0 = r.1 in
          let high : r.0 ≤ℤ (z -ℤ pos 1) = r.2 in
          (r.0, omega (arith, ints), omega (arith, ints), r.3)
    ]

some_back-finds : (test : ℤ → Bool) (z : ℤ) (n : ℕ) (t : ℤ) → (z -ℤ pos n) <ℤ t → t ≤ℤ z
    → test t ≡ true → some_back test z n ≡ true
some_back-finds test z zero t low high e = absurd (omega (arith, ints))
some_back-finds test z (suc n) t low high e =
    by_lt_z t z
    (λ past. some_back-suc test z n ∙ or_right (test z) (some_back test (z -ℤ pos 1) n)
    (some_back-finds test (z -ℤ pos 1) n t (omega (arith, ints)) (omega (arith, ints)) e))
    (λ above. let same : z ≡ t = omega (arith, ints) in
    some_back-suc test z n ∙ or_left (test z) (some_back test (z -ℤ pos 1) n) (ap test same ∙ e))

pub some_back-is : (test : ℤ → Bool) (z : ℤ) (n : ℕ) → (some_back test z n ≡ true) ↔ IsBack test z n
some_back-is test z n = (some_back-shows test z n, λ r. some_back-finds test z n r.0 r.1 r.2 r.3)

-- one of the n numbers up to z opens, and none after it closes
abbrev pub IsOpenBack : (o c : ℤ → Bool) → ℤ → ℕ → Type 0
IsOpenBack o c z n =
    (t : ℤ) × ((z -ℤ pos n) <ℤ t) × (t ≤ℤ z) × (o t ≡ true) × ((u : ℤ) → t <ℤ u → u ≤ℤ z
    → c u ≡ false)

is_open-shows : (o c : ℤ → Bool) (z : ℤ) (n : ℕ) → is_open o c z n ≡ true → IsOpenBack o c z n
is_open-shows o c z zero e = absurd (both_ways (is_open o c z 0) (is_open-zero o c z) e)
is_open-shows o c z (suc n) e =
    let later = not (c z) && is_open o c (z -ℤ pos 1) n in
    elim (or_cases (o z) later (sym (is_open-suc o c z n) ∙ e)) [
      | inl here ↦ (
        z,
        omega (arith, ints),
        omega (arith, ints),
        here,
        λ u low high. absurd (omega (arith, ints)),
      )
      | inr rest ↦
          let parts = and_parts (not (c z)) (is_open o c (z -ℤ pos 1) n) rest in
          let r = is_open-shows o c (z -ℤ pos 1) n parts.1 in
          let low : (z -ℤ pos 1 -ℤ pos n) <ℤ r.0 = r.1 in
          let high : r.0 ≤ℤ (z -ℤ pos 1) = r.2 in (
            r.0,
            omega (arith, ints),
            omega (arith, ints),
            r.3,
            λ u past near. by_lt_z u z
                (λ before. r.4 u past (omega (arith, ints)))
                (λ last. let same : u ≡ z = omega (arith, ints) in ap c same
                ∙ not-true (c z) parts.0),
          )
    ]

is_open-finds : (o c : ℤ → Bool) (z : ℤ) (n : ℕ) (t : ℤ) → (z -ℤ pos n) <ℤ t → t ≤ℤ z → o t ≡ true
    → ((u : ℤ) → t <ℤ u → u ≤ℤ z → c u ≡ false) → is_open o c z n ≡ true
is_open-finds o c z zero t low high e none = absurd (omega (arith, ints))
is_open-finds o c z (suc n) t low high e none =
    by_lt_z t z
    (λ past. is_open-suc o c z n ∙ or_right (o z) (not (c z) && is_open o c (z -ℤ pos 1) n)
    (and_from (not (c z)) (is_open o c (z -ℤ pos 1) n) (not_from_false (c z)
    (none z past (omega (arith, ints))))
    (is_open-finds o c (z -ℤ pos 1) n t (omega (arith, ints)) (omega (arith, ints)) e
    (λ u a b. none u a (omega (arith, ints))))))
    (λ above. let same : z ≡ t = omega (arith, ints) in
    is_open-suc o c z n ∙ or_left (o z) (not (c z) && is_open o c (z -ℤ pos 1) n) (ap o same ∙ e))

pub is_open-is : (o c : ℤ → Bool) (z : ℤ) (n : ℕ) → (is_open o c z n ≡ true) ↔ IsOpenBack o c z n
is_open-is o c z n = (is_open-shows o c z n, λ r. is_open-finds o c z n r.0 r.1 r.2 r.3 r.4)
