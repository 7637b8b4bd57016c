-- The latest number that passes a test, and how far durations and pairs look back.
use Rattle.std.proofs.Common.{◌≡◌, ◌⊎◌, refl, ap, ◌∙◌, inl, inr, arith, ℕ, zero, suc, ◌*◌, ◌<◌, ◌≤◌, ℤ, pos, negsuc, ◌-ℤ◌, ◌≤ℤ◌, ◌<ℤ◌, unsigned_abs, Bool, true, false, cond}
use Rattle.std.proofs.lemmas.Bool.{cases_Bool}
use Rattle.std.proofs.lemmas.Int.{by_lt_z, ints}
use Rattle.std.specs.Int.{int_gap}
use Rattle.moment_core.specs.Line.{position_of}
use Rattle.moment_core.specs.declared.line.TheConstants.{LOW}
use Rattle.search_core.specs.Laws.{DurationsLookBack, PairsLookBack}
use Rattle.search_core.specs.LookingBack.{during_from, either, latest, pairs_from}
use Rattle.moment_core.proofs.Gaps.{gap-most, gap-none, gap-up}

latest-zero : (test : ℤ → Bool) (z : ℤ) → latest test z 0 ≡ z
unfolding latest
latest-zero test z = refl

latest-suc : (test : ℤ → Bool) (z : ℤ) (n : ℕ) → latest test z (suc n) ≡ cond (test z) z
    (latest test (z -ℤ pos 1) n)
unfolding latest
latest-suc test z n = refl

-- the latest number that passes is not past n numbers that don't
latest-is : (test : ℤ → Bool) (z : ℤ) (n : ℕ) (b : Bool) → test z ≡ b
    → (latest test z (suc n) ≡ cond b z (latest test (z -ℤ pos 1) n))
latest-is test z n b e = latest-suc test z n ∙ ap (λ x. cond x z (latest test (z -ℤ pos 1) n)) e

latest-here : (test : ℤ → Bool) (z : ℤ) (n : ℕ) → test z ≡ true → latest test z (suc n) ≡ z
latest-here test z n e = latest-is test z n true e

latest-before : (test : ℤ → Bool) (z : ℤ) (n : ℕ) → test z ≡ false → latest test z (suc n) ≡ latest
    test (z -ℤ pos 1) n
latest-before test z n e = latest-is test z n false e

pub latest-most : (test : ℤ → Bool) (z : ℤ) (n : ℕ) → latest test z n ≤ℤ z
latest-most test z zero = let e = latest-zero test z in omega (arith, ints)
latest-most test z (suc n) = elim (cases_Bool (test z)) [
  | inl here ↦ let e = latest-here test z n here in omega (arith, ints)
  | inr none ↦
      let e = latest-before test z n none in
      let rest = latest-most test (z -ℤ pos 1) n in
      omega (arith, ints)
]

pub latest-least : (test : ℤ → Bool) (z : ℤ) (n : ℕ) → (z -ℤ pos n) ≤ℤ latest test z n
latest-least test z zero = let e = latest-zero test z in omega (arith, ints)
latest-least test z (suc n) = elim (cases_Bool (test z)) [
  | inl here ↦ let e = latest-here test z n here in omega (arith, ints)
  | inr none ↦
      let e = latest-before test z n none in
      let rest = latest-least test (z -ℤ pos 1) n in
      omega (arith, ints)
]

pub latest-past : (test : ℤ → Bool) (z : ℤ) (limit n : ℕ) → n ≤ limit → ((k : ℕ) → k < n
    → test (z -ℤ pos k) ≡ false) → latest test z limit ≤ℤ (z -ℤ pos n)
latest-past test z limit zero near none = let most = latest-most test z limit in omega (arith, ints)
latest-past test z zero (suc n) near none = absurd (omega arith)
latest-past test z (suc limit) (suc n) near none =
    let here : test z ≡ false = ap test (omega (arith, ints)) ∙ none 0 (omega arith) in
    let e = latest-before test z limit here in
    let rest = latest-past test (z -ℤ pos 1) limit n (omega arith)
    (λ k h. let place : z -ℤ pos 1 -ℤ pos k ≡ z -ℤ pos (suc k) = omega (arith, ints) in
    ap test place ∙ none (suc k) (omega arith)) in
    omega (arith, ints)

-- no event lies after the latest one
latest-none : (test : ℤ → Bool) (q : ℤ) (n : ℕ) (z : ℤ) → latest test q n <ℤ z → z ≤ℤ q
    → test z ≡ false
latest-none test q zero z low high =
    let e = latest-zero test q in
    absurd (omega (arith, ints))
latest-none test q (suc n) z low high = elim (cases_Bool (test q)) [
  | inl here ↦ let e = latest-here test q n here in absurd (omega (arith, ints))
  | inr none ↦
      let e = latest-before test q n none in
      by_lt_z z q
      (λ before. latest-none test (q -ℤ pos 1) n z (omega (arith, ints)) (omega (arith, ints)))
      (λ last. let same : z ≡ q = omega (arith, ints) in ap test same ∙ none)
]

-- looking back from further on leads no further back
latest-grows : (test : ℤ → Bool) (a q : ℤ) (m n : ℕ) → a ≤ℤ q → (a -ℤ pos m) ≤ℤ (q -ℤ pos n)
    → latest test a m ≤ℤ latest test q n
latest-grows test a q m n order ends =
    let l : ℤ = latest test q n in
    let least = latest-least test q n in
    by_lt_z l a
    (λ below.
    let k : ℕ = unsigned_abs (a -ℤ l) in
    let past = latest-past test a m k (omega (arith, ints))
    (λ j h. latest-none test q n (a -ℤ pos j) (omega (arith, ints)) (omega (arith, ints))) in
    omega (arith, ints))
    (λ above. let most = latest-most test a m in omega (arith, ints))

pub during-grows : (set : ℤ → Bool) (seconds a q : ℤ) → a ≤ℤ q
    → during_from set seconds a ≤ℤ during_from set seconds q
during-grows set seconds a q order =
    let n = int_gap (pos 0) (position_of seconds) in
    latest-grows set a q n n order (omega (arith, ints))

pairs_end : (q : ℤ) → (((q <ℤ position_of LOW) × (q -ℤ pos (int_gap (position_of LOW) q) ≡ q))
    ⊎ ((position_of LOW ≤ℤ q) × (q -ℤ pos (int_gap (position_of LOW) q) ≡ position_of LOW)))
pairs_end q = by_lt_z q (position_of LOW)
    (λ below. let none = gap-none (position_of LOW) q (omega (arith, ints)) in inl (
      below,
      omega (arith, ints),
    ))
    (λ above. let up = gap-up (position_of LOW) q above in inr (above, omega (arith, ints)))

pub pairs-grows : (f g : ℤ → Bool) (a q : ℤ) → a ≤ℤ q → pairs_from f g a ≤ℤ pairs_from f g q
pairs-grows f g a q order =
    latest-grows (either f g) a q (int_gap (position_of LOW) a) (int_gap (position_of LOW) q) order
    (elim (pairs_end a) as (λ _. (a -ℤ pos (int_gap (position_of LOW) a)) ≤ℤ (q -ℤ pos
    (int_gap (position_of LOW) q))) [
      | inl below ↦ elim (pairs_end q) as (λ _. (a -ℤ pos (int_gap (position_of LOW) a)) ≤ℤ (q
          -ℤ pos (int_gap (position_of LOW) q))) [
            | inl under ↦ omega (arith, ints, below.0, below.1, under.1)
            | inr over ↦ omega (arith, ints, below.0, below.1, over.1)
          ]
      | inr above ↦ elim (pairs_end q) as (λ _. (a -ℤ pos (int_gap (position_of LOW) a)) ≤ℤ (q
          -ℤ pos (int_gap (position_of LOW) q))) [
            | inl under ↦ absurd (omega (arith, ints, above.0, under.0))
            | inr over ↦ omega (arith, ints, above.1, over.1)
          ]
    ])

pub during-most : (set : ℤ → Bool) (seconds q : ℤ) → during_from set seconds q ≤ℤ q
during-most set seconds q = latest-most set q (int_gap (pos 0) (position_of seconds))

pub pairs-most : (f g : ℤ → Bool) (q : ℤ) → pairs_from f g q ≤ℤ q
pairs-most f g q = latest-most (either f g) q (int_gap (position_of LOW) q)

-- what is looked back at from a stretch is looked back at from a position of it
pub meets_back : (from : ℤ → ℤ) → ((q : ℤ) → from q ≤ℤ q) → (a b r : ℤ) → a ≤ℤ b → from a ≤ℤ r
    → r ≤ℤ b → (q : ℤ) × (a ≤ℤ q) × (q ≤ℤ b) × (from q ≤ℤ r) × (r ≤ℤ q)
meets_back from most a b r order low high = by_lt_z r a
    (λ before. (a, omega (arith, ints), order, low, omega (arith, ints)))
    (λ there. (r, there, high, most r, omega (arith, ints)))

gap-abs : (z : ℤ) → int_gap (pos 0) (position_of z) ≤ 2 * unsigned_abs z
gap-abs (pos n) = omega (arith, ints)
gap-abs (negsuc n) =
    let none = gap-none (pos 0) (position_of (negsuc n)) (omega (arith, ints)) in
    omega (arith, ints)

pub during_from-least : (set : ℤ → Bool) (seconds q : ℤ)
    → (q -ℤ pos (2 * unsigned_abs seconds)) ≤ℤ during_from set seconds q
during_from-least set seconds q =
    let least = latest-least set q (int_gap (pos 0) (position_of seconds)) in
    let gap = gap-abs seconds in
    omega (arith, ints)

-- pairs look back no farther than to the range's first position, and from below it not at all
pub pairs_from-least : (f g : ℤ → Bool) (q : ℤ) → (q ≤ℤ pairs_from f g q)
    ⊎ (position_of LOW ≤ℤ pairs_from f g q)
pairs_from-least f g q =
    let least = latest-least (either f g) q (int_gap (position_of LOW) q) in
    elim (pairs_end q) [
      | inl below ↦ inl (omega (arith, ints, below.1))
      | inr above ↦ inr (omega (arith, ints, above.1))
    ]

-- the latest one isn't past a place up to which none passes
latest-near : (test : ℤ → Bool) (p place : ℤ) (limit : ℕ) → place ≤ℤ p → (p -ℤ pos limit) ≤ℤ place
    → ((z : ℤ) → place <ℤ z → z ≤ℤ p → test z ≡ false) → latest test p limit ≤ℤ place
latest-near test p place limit order near none =
    let n = unsigned_abs (p -ℤ place) in
    let past =
    latest-past test p limit n (omega (arith, ints)) (λ k h. none (p -ℤ pos k) (omega (arith, ints))
    (omega (arith, ints))) in
    omega (arith, ints)

pub during-near : DurationsLookBack
during-near set seconds p place order near none =
    let gap = gap-most (pos 0) (position_of seconds) in
    latest-near set p place (int_gap (pos 0) (position_of seconds)) order (omega (arith, ints)) none

pub pairs-near : PairsLookBack
pairs-near f g p place order near none =
    let gap = gap-most (position_of LOW) p in
    latest-near (either f g) p place (int_gap (position_of LOW) p) order (omega (arith, ints)) none
