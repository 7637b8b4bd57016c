-- The least number that passes a test.
use Rattle.std.proofs.Common.{inl, inr, ◌≡◌, ℕ, ◌+◌, ◌-◌, ◌*◌, ◌/◌, ◌%◌, ◌<◌, ◌≤◌, Bool, true, false, ◌&&◌, None, refl, sym, ap, ◌∙◌, arith}
use Rattle.std.proofs.lemmas.Bool.{and_from, and_left, and_right, cases_lt}
use Rattle.sieve_core.specs.Times.{IsLeast, IsLeastIn, both}

-- by the number of steps from where the search begins
pub least_by_steps : (f : ℕ → Bool) (from end steps : ℕ) → from < end
    → (steps < end - from → f (from + steps) ≡ true)
    → ((k : ℕ) → k < steps → k < end - from → f (from + k) ≡ false) → steps < end - from
    → IsLeast f from end (from + steps)
least_by_steps f from end steps below set clear within = record {
  low = omega arith;
  high = omega arith;
  meets = set within;
  none_before = λ k low before.
      let place : from + (k - from) ≡ k = omega arith in
      ap f (sym place) ∙ clear (k - from) (omega arith) (omega arith);
}

pub none_by_steps : (f : ℕ → Bool) (from end steps : ℕ)
    → ((k : ℕ) → k < steps → k < end - from → f (from + k) ≡ false) → end - from ≤ steps → (k : ℕ)
    → from ≤ k → k < end → f k ≡ false
none_by_steps f from end steps clear past k low below =
    let place : from + (k - from) ≡ k = omega arith in
    ap f (sym place) ∙ clear (k - from) (omega arith) (omega arith)

both-at : (p q : ℕ → Bool) (n h l : ℕ) → n / 60 ≡ h → n % 60 ≡ l → both p q n ≡ (p h && q l)
unfolding both
both-at p q n h l eh el = rw (eh, el) refl

both-no-high : (p q : ℕ → Bool) (n : ℕ) → p (n / 60) ≡ false → both p q n ≡ false
unfolding both
both-no-high p q n e = and_left _ _ e

both-no-low : (p q : ℕ → Bool) (n : ℕ) → q (n % 60) ≡ false → both p q n ≡ false
unfolding both
both-no-low p q n e = and_right _ _ e

-- within the block of one higher digit
pub block-none : (p q : ℕ → Bool) (from : ℕ) → p (from / 60) ≡ false → IsLeastIn (both p q) from
    (from / 60 * 60 + 60) None
block-none p q from unmet = λ k low high.
    let same : from / 60 ≡ k / 60 = omega arith in
    both-no-high p q k (ap p (sym same) ∙ unmet)

pub block-clear : (p q : ℕ → Bool) (from : ℕ) → IsLeastIn q (from % 60) 60 None
    → IsLeastIn (both p q) from (from / 60 * 60 + 60) None
block-clear p q from none = λ k low high.
    both-no-low p q k (none (k % 60) (omega arith) (omega arith))

pub block-some : (p q : ℕ → Bool) (from l : ℕ) → p (from / 60) ≡ true → IsLeast q (from % 60) 60 l
    → IsLeast (both p q) from (from / 60 * 60 + 60) (from / 60 * 60 + l)
block-some p q from l met some =
    let l_high = some.high in
    let l_low = some.low in
    record {
      low = omega arith;
      high = omega arith;
      meets = both-at p q (from / 60 * 60 + l) (from / 60) l (omega arith) (omega arith)
          ∙ and_from _ _ met some.meets;
      none_before =
          λ k low below. both-no-low p q k (some.none_before (k % 60) (omega arith) (omega arith));
    }

-- from a higher digit on
pub later-no-high : (p q : ℕ → Bool) (from end : ℕ) → IsLeastIn p from end None
    → IsLeastIn (both p q) (from * 60) (end * 60) None
later-no-high p q from end none =
    λ k low high. both-no-high p q k (none (k / 60) (omega arith) (omega arith))

pub later-no-low : (p q : ℕ → Bool) (from end : ℕ) → IsLeastIn q 0 60 None → IsLeastIn (both p q)
    (from * 60) (end * 60) None
later-no-low p q from end none =
    λ k low high. both-no-low p q k (none (k % 60) (omega arith) (omega arith))

pub later-some : (p q : ℕ → Bool) (from end h l : ℕ) → IsLeast p from end h → IsLeast q 0 60 l
    → IsLeast (both p q) (from * 60) (end * 60) (h * 60 + l)
later-some p q from end h l high low =
    let h_low = high.low in
    let h_high = high.high in
    let l_high = low.high in
    record {
      low = omega arith;
      high = omega arith;
      meets = both-at p q (h * 60 + l) h l (omega arith) (omega arith) ∙ and_from _ _ high.meets
          low.meets;
      none_before = λ k above below. elim (cases_lt (k / 60) h) [
        | inl early ↦ both-no-high p q k (high.none_before (k / 60) (omega arith) early)
        | inr here ↦ both-no-low p q k (low.none_before (k % 60) (omega arith) (omega arith))
      ];
    }
