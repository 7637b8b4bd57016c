-- Bits of one word, and the next one that is set in either direction.
use Rattle.std.proofs.Common.{inl, inr, ◌≡◌, ℕ, ◌+◌, ◌-◌, ◌*◌, ◌^◌, ◌/◌, ◌%◌, ◌<◌, ◌≤◌, suc, true, false, [], ◌∷◌, ◌||◌, ◌==◌, refl, sym, ap, ◌∙◌, arith, add-zero, List, length, slice_index, bit_or}
use Rattle.std.proofs.Math.Bool.{or-false, or-true}
use Rattle.std.proofs.lemmas.Bool.{cases_eq, cases_lt}
use Rattle.std.proofs.lemmas.Bool.Decides.{nat_tests}
use Rattle.std.proofs.lemmas.List.{get_or-set_same, get_or-set_other}
use Rattle.std.proofs.lemmas.Nat.{shr-shr, shr_le, leading_top, pow_pos, shr_split, le-div, div_below, mod_below}
use Rattle.std.proofs.lemmas.Nat.Bits.{bit_at-zero, bit_at-trailing_zeros, bit_at_above, bit_at_set_other, bit_at_set_same, bit_at_cat_low, bit_at_cat_high}
use Rattle.std.proofs.Math.Nat.{pow-suc}
use Rattle.std.specs.Int.{bit_at, w64, trailing_zeros, leading_zeros}
use Rattle.std.specs.Int.Count.{trailing_of_zero}
use lib.Count.{count_leading_zeros}
use Rattle.moment_core.specs.declared.line.Dir.TheVariants.{Back}
use Rattle.sieve_core.specs.Bits.{has_bit, with_bit}
use Rattle.sieve_core.specs.Times.{turned_bit}

pub has_bit-word : (word i : ℕ) → i < 64 → has_bit (word ∷ []) i ≡ (bit_at word i == 1)
unfolding has_bit
has_bit-word word i below =
    let quotient : i / 64 ≡ 0 = omega arith in
    let rest : i % 64 ≡ i = omega arith in
    rw (quotient, rest) refl

pub has_bit-past : (word i : ℕ) → 64 ≤ i → has_bit (word ∷ []) i ≡ false
unfolding has_bit
has_bit-past word i past =
    let quotient : i / 64 ≡ suc (i / 64 - 1) = omega arith in
    rw quotient (grind (arith, nat_tests, bit_at-zero))

pub bit_at-shr : (word from k : ℕ) → bit_at (word / 2 ^ from) k ≡ bit_at word (from + k)
bit_at-shr word from k = ap (λ x. x % 2) (shr-shr word from k)

pub bit_at-shl : (word s i : ℕ) → s + i < 64 → bit_at ((word * 2 ^ s) % 2 ^ 64) (s + i)
    ≡ bit_at word i
bit_at-shl word s i below =
    let n = word * 2 ^ s in
    let some : 0 < 2 ^ s = pow_pos s in
    let low = bit_at_cat_low (n / 2 ^ 64) 64 (n % 2 ^ 64) (s + i) below in
    let whole : bit_at (n / 2 ^ 64 * 2 ^ 64 + n % 2 ^ 64) (s + i) ≡ bit_at n (s + i) =
    ap (λ m. bit_at m (s + i)) (shr_split n 64) in
    let high = bit_at_cat_high word s 0 (s + i) some (omega arith) in
    let plain : bit_at (word * 2 ^ s + 0) (s + i) ≡ bit_at n (s + i) = ap (λ m. bit_at m (s + i))
    (add-zero n) in
    let place : s + i - s ≡ i = omega arith in
    sym low ∙ whole ∙ sym plain ∙ high ∙ ap (bit_at word) place

-- the highest bit of a number that isn't 0
top_bit : (n j : ℕ) → 2 ^ j ≤ n → n < 2 ^ suc j → bit_at n j ≡ 1
top_bit n j low high =
    let some : 0 < 2 ^ j = pow_pos j in
    let twice : 2 ^ suc j ≡ 2 ^ j * 2 = pow-suc 2 j in
    let more : 1 ≤ n / 2 ^ j = le-div 1 n (2 ^ j) some (omega arith) in
    let less : n / 2 ^ j < 2 = div_below n (2 ^ j) 2 some (omega arith) in
    let one : n / 2 ^ j ≡ 1 = omega arith in
    rw one refl

pub bit_at-leading_zeros : (n : ℕ) → 0 < n → n < 2 ^ 64 → (leading_zeros w64 n < 64)
    × (bit_at n (63 - leading_zeros w64 n) ≡ 1)
    × ((k : ℕ) → k < leading_zeros w64 n → bit_at n (63 - k) ≡ 0)
bit_at-leading_zeros n some fits =
    let top = leading_top 64 n some fits in
    let j = top.0 in
    let count : leading_zeros w64 n + suc j ≡ 64 = top.1 in
    let place : 63 - leading_zeros w64 n ≡ j = omega arith in (
      omega arith,
      rw place (top_bit n j top.2 top.3),
      λ k below. bit_at_above n (suc j) (63 - k) top.3 (omega arith),
    )

-- bit i of a mask by a bit of what is left of it
from_bit : (word i b : ℕ) → i < 64 → bit_at word i ≡ b → has_bit (word ∷ []) i ≡ (b == 1)
from_bit word i b below e = has_bit-word word i below ∙ ap (λ x. x == 1) e

-- upwards: by the zeros at the low end of what is left
pub up-set : (word from : ℕ) → word < 2 ^ 64 → from + trailing_zeros w64 (word / 2 ^ from) < 64
    → has_bit (word ∷ []) (from + trailing_zeros w64 (word / 2 ^ from)) ≡ true
up-set word from fits below = elim (cases_lt 0 (word / 2 ^ from)) [
  | inl some ↦ (let small = shr_le word from in
      let found = bit_at-trailing_zeros w64 (word / 2 ^ from) some (omega arith) in
      from_bit word (from + trailing_zeros w64 (word / 2 ^ from)) 1 below
      (sym (bit_at-shr word from (trailing_zeros w64 (word / 2 ^ from))) ∙ found.1))
  | inr none ↦ (let zero_rest : word / 2 ^ from ≡ 0 = omega arith in
      let all : trailing_zeros w64 (word / 2 ^ from) ≡ 64 = rw zero_rest (trailing_of_zero 64) in
      absurd (omega arith))
]

pub up-clear : (word from k : ℕ) → word < 2 ^ 64 → k < trailing_zeros w64 (word / 2 ^ from)
    → has_bit (word ∷ []) (from + k) ≡ false
up-clear word from k fits below = elim (cases_lt (from + k) 64) [
  | inr past ↦ has_bit-past word (from + k) past
  | inl within ↦ elim (cases_lt 0 (word / 2 ^ from)) [
    | inl some ↦ (let small = shr_le word from in
        let found = bit_at-trailing_zeros w64 (word / 2 ^ from) some (omega arith) in
        from_bit word (from + k) 0 within (sym (bit_at-shr word from k) ∙ found.2 k below))
    | inr none ↦ (let zero_rest : word / 2 ^ from ≡ 0 = omega arith in
        from_bit word (from + k) 0 within (sym (bit_at-shr word from k) ∙ ap (λ m. bit_at m k)
        zero_rest ∙ bit_at-zero k))
  ]
]

-- downwards: by the zeros at the high end
down-bit : (word from k : ℕ) → from < 64 → k ≤ from → bit_at ((word * 2 ^ (63 - from)) % 2 ^ 64)
    (63 - k) ≡ bit_at word (from - k)
down-bit word from k below within =
    let place : 63 - from + (from - k) ≡ 63 - k = omega arith in
    ap (bit_at ((word * 2 ^ (63 - from)) % 2 ^ 64)) (sym place) ∙ bit_at-shl word (63 - from)
    (from - k) (omega arith)

leading_of_zero : leading_zeros w64 0 ≡ 64
unfolding count_leading_zeros
leading_of_zero = refl

pub down-set : (word from rest : ℕ) → rest ≡ (word * 2 ^ (63 - from)) % 2 ^ 64 → from < 64
    → leading_zeros w64 rest ≤ from → has_bit (word ∷ []) (from - leading_zeros w64 rest) ≡ true
down-set word from rest is below within =
    let fits : rest < 2 ^ 64 = rw is (mod_below (word * 2 ^ (63 - from)) (2 ^ 64) (pow_pos 64)) in
    elim (cases_lt 0 rest) [
      | inl some ↦ (let found = bit_at-leading_zeros rest some fits in
          from_bit word (from - leading_zeros w64 rest) 1 (omega arith)
          (sym (down-bit word from (leading_zeros w64 rest) below within)
          ∙ ap (λ m. bit_at m (63 - leading_zeros w64 rest)) (sym is) ∙ found.1))
      | inr none ↦ (let zero_rest : rest ≡ 0 = omega arith in
          let all : leading_zeros w64 rest ≡ 64 = rw zero_rest leading_of_zero in
          absurd (omega arith))
    ]

pub down-clear : (word from rest k : ℕ) → rest ≡ (word * 2 ^ (63 - from)) % 2 ^ 64 → from < 64
    → k < leading_zeros w64 rest → k ≤ from → has_bit (word ∷ []) (from - k) ≡ false
down-clear word from rest k is below before within =
    let fits : rest < 2 ^ 64 = rw is (mod_below (word * 2 ^ (63 - from)) (2 ^ 64) (pow_pos 64)) in
    let same = sym (down-bit word from k below within) ∙ ap (λ m. bit_at m (63 - k)) (sym is) in
    elim (cases_lt 0 rest) [
      | inl some ↦ from_bit word (from - k) 0 (omega arith)
          (same ∙ (bit_at-leading_zeros rest some fits).2 k before)
      | inr none ↦ (let zero_rest : rest ≡ 0 = omega arith in
          from_bit word (from - k) 0 (omega arith) (same ∙ ap (λ m. bit_at m (63 - k)) zero_rest
          ∙ bit_at-zero (63 - k)))
    ]

-- downwards, counted from the mask's end
pub back-clear : (mask len from steps : ℕ) → ((k : ℕ) → k < steps → k ≤ len - (from + 1)
    → has_bit (mask ∷ []) (len - (from + 1) - k) ≡ false) → (k : ℕ) → k < steps → k < len - from
    → turned_bit Back mask len (from + k) ≡ false
back-clear mask len from steps none k before within =
    let place : len - (from + k + 1) ≡ len - (from + 1) - k = omega arith in
    ap (has_bit (mask ∷ [])) place ∙ none k before (omega arith)

-- above the highest bit of a word
pub clear-above : (word k : ℕ) → word < 2 ^ 64 → 64 - leading_zeros w64 word ≤ k → k < 64
    → bit_at word k ≡ 0
clear-above word k fits high below = elim (cases_lt 0 word) [
  | inl some ↦ (let top = bit_at-leading_zeros word some fits in
      let place : 63 - (63 - k) ≡ k = omega arith in
      ap (bit_at word) (sym place) ∙ top.2 (63 - k) (omega arith))
  | inr none ↦ (let zero_word : word ≡ 0 = omega arith in ap (λ w. bit_at w k) zero_word
      ∙ bit_at-zero k)
]

-- bit k of a word in its place
has_bit-at : (words : List ℕ) (i k : ℕ) → k < 64 → bit_at (slice_index words i) k ≡ 0
    → has_bit words (64 * i + k) ≡ false
unfolding has_bit
has_bit-at words i k below e =
    let quotient : (64 * i + k) / 64 ≡ i = omega arith in
    let rest : (64 * i + k) % 64 ≡ k = omega arith in
    rw (quotient, rest, e) refl

pub clear-more : (words : List ℕ) (half i end next : ℕ)
    → ((k : ℕ) → end ≤ k → k < 64 * i → has_bit words (64 * half + k) ≡ false)
    → ((k : ℕ) → next ≤ 64 * i + k → k < 64 → bit_at (slice_index words (half + i)) k ≡ 0)
    → end ≤ next → (k : ℕ) → next ≤ k → k < 64 * (i + 1) → has_bit words (64 * half + k) ≡ false
clear-more words half i end next before here le k low high = elim (cases_lt k (64 * i)) [
  | inl early ↦ before k (omega arith) early
  | inr late ↦ (let place : 64 * (half + i) + (k - 64 * i) ≡ 64 * half + k = omega arith in
      ap (has_bit words) (sym place) ∙ has_bit-at words (half + i) (k - 64 * i) (omega arith)
      (here (k - 64 * i) (omega arith) (omega arith)))
]

-- a bit that is set, and every other
pub has_bit-set : (words : List ℕ) (i j : ℕ) → i < 64 * length words → has_bit (with_bit words i) j
    ≡ (has_bit words j || (j == i))
unfolding has_bit
has_bit-set words i j fits =
    let word = slice_index words (i / 64) in
    let more = bit_or word (1 * 2 ^ (i % 64) % 2 ^ 64) in
    elim (cases_eq (j / 64) (i / 64)) [
      | inl same_word ↦ elim (cases_eq (j % 64) (i % 64)) [
        | inl same_bit ↦ (let same : (j == i) ≡ true = grind (arith, nat_tests) in
            rw (
              same_word,
              same_bit,
              get_or-set_same words (i / 64) more 0 (omega arith),
              bit_at_set_same w64 word (i % 64) (omega arith),
              same,
            ) (sym (or-true _)))
        | inr bit ↦ (let other : (j == i) ≡ false = grind (arith, nat_tests) in
            rw (
              same_word,
              get_or-set_same words (i / 64) more 0 (omega arith),
              bit_at_set_other w64
                  word (i % 64) (omega arith) (j % 64) bit,
              other,
            ) (sym (or-false _)))
      ]
      | inr word_apart ↦ (let other : (j == i) ≡ false = grind (arith, nat_tests) in
          rw (get_or-set_other words (i / 64) (j / 64) more 0 word_apart, other) (sym (or-false _)))
    ]
