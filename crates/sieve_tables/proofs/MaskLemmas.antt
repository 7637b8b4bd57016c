-- Masks of listed values.
use Rattle.std.proofs.Common.{inl, inr, ◌≡◌, ℕ, ◌*◌, ◌-◌, ◌^◌, ◌/◌, ◌%◌, ◌<◌, true, false, ◌||◌, ◌==◌, [], ◌∷◌, bit_or, sym, ap, ◌∙◌, w64, arith, refl, not, ℤ, pos, ◌+◌, List, length, take, get_or, ◌++◌, add-one, ◌≤◌}
use Rattle.std.proofs.lemmas.Bool.{cases_eq, ne_eqb}
use Rattle.std.proofs.lemmas.Nat.{pow_pos}
use Rattle.std.proofs.lemmas.Nat.Bits.{bit_at-zero, bit_at_ones, bit_at_set_same}
use Rattle.std.proofs.Math.Pow.{pow-lt}
use Rattle.std.specs.Int.{bit_at}
use Rattle.std.specs.List.{list_any}
use Rattle.std.specs.Ordering.{int_eq}
use Rattle.std.proofs.Math.Seq.{take-suc}
use Rattle.std.proofs.lemmas.List.{take_all}
use Rattle.std.proofs.lemmas.List.Folds.{list_any_more}
use Rattle.rule_core.specs.Values.{is_given, is_listed, meant}
use Rattle.sieve_core.specs.Bits.{has_bit, with_bit}
use Rattle.sieve_core.specs.Laws.{SettingKeepsOthers, WordsHaveBits}
use Rattle.sieve_tables.proofs.Filled.{given_push, zero_bits}

abbrev pub more : ℕ → ℕ → ℕ
more mask bit = bit_or mask (1 * 2 ^ bit % 2 ^ 64)

-- a mask is a table of one word
pub one-more-bit : SettingKeepsOthers → (mask bit k : ℕ) → bit < 64 → has_bit (more mask bit ∷ []) k
    ≡ (has_bit (mask ∷ []) k || (k == bit))
one-more-bit set mask bit k small =
    let quotient : bit / 64 ≡ 0 = omega arith in
    let rest : bit % 64 ≡ bit = omega arith in
    let word : with_bit (mask ∷ []) bit ≡ more mask bit ∷ [] = rw (quotient, rest) refl in
    ap (λ words. has_bit words k) (sym word) ∙ set (mask ∷ []) bit k (omega arith)

-- a mask with a bit isn't zero
pub more-nonzero : (mask bit : ℕ) → bit < 64 → (more mask bit == 0) ≡ false
more-nonzero mask bit small = elim (cases_eq (more mask bit) 0) [
  | inl none ↦ absurd (let clash : 1 ≡ 0 = sym (bit_at_set_same w64 mask bit small)
      ∙ ap (λ n. bit_at n bit) none ∙ bit_at-zero bit in omega arith)
  | inr some ↦ ne_eqb (more mask bit) 0 some
]

-- all bits below len
pub full_bits : WordsHaveBits → (len : ℕ) → len < 64 → (k : ℕ) → k < len
    → has_bit ((1 * 2 ^ len % 2 ^ 64 - 1) ∷ []) k ≡ true
full_bits word_has len small k below =
    let lower : 2 ^ len < 2 ^ 64 = pow-lt small in
    let word : 1 * 2 ^ len % 2 ^ 64 - 1 ≡ 2 ^ len - 1 = omega (arith, lower) in
    ap (λ n. has_bit (n ∷ []) k) word ∙ word_has (2 ^ len - 1) k (omega arith)
    ∙ ap (λ b. b == 1) (bit_at_ones len k below)

-- the bits of the values are set, and no other
pub record IsMasked (mask len : ℕ) (values : List ℤ) : Type 0 where
  pub bits : (k : ℕ) → k < 64 → has_bit (mask ∷ []) k ≡ is_listed values len k
  pub below : mask < 2 ^ len
  pub none : (mask == 0) ≡ not (is_given values)

pub empty_masked : (len : ℕ) → IsMasked 0 len []
unfolding is_listed
empty_masked len =
    record { bits = λ k below. zero_bits (0 ∷ []) k refl; below = pow_pos len; none = refl }

pub one_masked : (mask more len bit n : ℕ) (values : List ℤ) (d : ℤ) → n < length values
    → IsMasked mask len (take n values)
    → ((k : ℕ) → k < 64 → has_bit (more ∷ []) k ≡ (has_bit (mask ∷ []) k || (k == bit)))
    → more < 2 ^ len → (more == 0) ≡ false
    → ((k : ℕ) → int_eq (meant len (get_or values n d)) (pos k) ≡ (k == bit))
    → IsMasked more len (take (n + 1) values)
unfolding is_listed
one_masked mask more len bit n values d lt masked set fits some means =
    let one : take (n + 1) values ≡ take n values ++ get_or values n d ∷ [] =
    rw add-one (take-suc values n d lt) in
    record {
      bits = λ k below. set k below ∙ ap (λ b. b || (k == bit)) (masked.bits k below)
          ∙ ap (λ b. list_any (λ v. int_eq (meant len v) (pos k)) (take n values) || b)
          (sym (means k))
          ∙ sym (list_any_more (λ v. int_eq (meant len v) (pos k)) values n d lt);
      below = fits;
      none = rw (one, given_push (take n values) (get_or values n d)) some;
    }

pub whole_masked : (mask len n : ℕ) (values : List ℤ) → length values ≤ n
    → IsMasked mask len (take n values) → IsMasked mask len values
whole_masked mask len n values le masked = let whole : take n values ≡ values =
    take_all n values le in rw whole at masked
