-- A table that was filled with the values is their table.
use Rattle.std.proofs.Common.{◌≡◌, ℕ, zero, suc, ◌+◌, ◌*◌, ◌/◌, ◌%◌, ◌≤◌, ℤ, pos, negsuc, Bool, true, false, not, ◌&&◌, ◌==◌, nat_lt, List, [], ◌∷◌, ◌++◌, length, take, refl, sym, ◌∙◌, arith}
use Rattle.std.specs.Prelude.{neg_ℤ, slice_index, All}
use Rattle.std.specs.List.{list_any}
use Rattle.std.specs.Ordering.{int_eq}
use Rattle.std.proofs.lemmas.Bool.{and_parts}
use Rattle.std.proofs.lemmas.Bool.Decides.{nat_tests}
use Rattle.std.proofs.lemmas.Int.{ints}
use Rattle.std.proofs.lemmas.List.Elements.{All-head, All-tail}
use Rattle.std.proofs.lemmas.Nat.Bits.{bit_at-zero}
use Rattle.std.proofs.lemmas.List.{take_all}
use Rattle.sieve_core.specs.Bits.{has_bit, is_zero}
use Rattle.rule_core.specs.Values.{is_given}
use Rattle.sieve_tables.specs.Lowered.{has_place, IsEntry, IsTableOf}

pub and_any : {X : Type 0} (b : Bool) (p : X → Bool) (xs : List X) → (b && list_any p xs)
    ≡ list_any (λ x. b && p x) xs
and_any true p xs = refl
and_any false p [] = refl
and_any false p (x ∷ xs) = and_any false p xs

pub any_same_all : {X : Type 0} (P : X → Type 0) (p q : X → Bool) → ((x : X) → P x → p x ≡ q x)
    → (xs : List X) → All P xs → list_any p xs ≡ list_any q xs
any_same_all P p q same [] each = refl
any_same_all P p q same (x ∷ xs) each =
    rw (same x (All-head P x xs each), any_same_all P p q same xs (All-tail P x xs each)) refl

front_entry : (half v : ℕ) (x : ℤ) → IsEntry half x → (nat_lt v half && has_place half v x)
    ≡ int_eq x (pos v)
front_entry half v (pos n) entry = grind (arith, ints, nat_tests, entry.high)
front_entry half v (negsuc n) entry = grind (arith, ints, nat_tests)

back_entry : (half w : ℕ) (x : ℤ) → IsEntry half x → (nat_lt w half && has_place half (half + w) x)
    ≡ int_eq x (neg_ℤ (pos w))
back_entry half w (pos n) entry = grind (arith, ints, nat_tests, entry.high, entry.nonzero)
back_entry half w (negsuc n) entry = grind (arith, ints, nat_tests, entry.low)

pub table_is : (words : List ℕ) (half : ℕ) (values : List ℤ) → 32 * length words ≡ half
    → All (IsEntry half) values → ((j : ℕ) → has_bit words j ≡ list_any (has_place half j) values)
    → is_zero words ≡ not (is_given values) → IsTableOf words half values
table_is words half values fits entries bits none = record {
  words_fit = fits;
  front = λ v. rw (bits v) (and_any (nat_lt v half) (has_place half v) values
      ∙ any_same_all (IsEntry half) _ _ (front_entry half v) values entries);
  back = λ w. rw (bits (half + w)) (and_any (nat_lt w half) (has_place half (half + w)) values
      ∙ any_same_all (IsEntry half) _ _ (back_entry half w) values entries);
  none = none;
}

slice_zero : (words : List ℕ) (k : ℕ) → is_zero words ≡ true → slice_index words k ≡ 0
slice_zero [] k each = refl
slice_zero (word ∷ words) zero each = no_word word (and_parts (word == 0) (is_zero words) each).0
  where
    no_word : (word : ℕ) → (word == 0) ≡ true → word ≡ 0
    no_word word e = grind (arith, nat_tests)
slice_zero (word ∷ words) (suc k) each =
    slice_zero words k (and_parts (word == 0) (is_zero words) each).1

pub zero_bits : (words : List ℕ) (j : ℕ) → is_zero words ≡ true → has_bit words j ≡ false
unfolding has_bit
zero_bits words j each = rw (slice_zero words (j / 64) each, bit_at-zero (j % 64)) refl

pub not_zero : (words : List ℕ) (j : ℕ) → has_bit words j ≡ true → is_zero words ≡ false
not_zero words j set =
    let P : Bool → Type 0 = λ b. is_zero words ≡ b → b ≡ false in
    let go : (b : Bool) → P b =
    λ b. elim b as P [
      | true ↦ λ e. (let clash : true ≡ false = sym set ∙ zero_bits words j e in
          absurd cc)
      | false ↦ λ e. refl
    ] in
    go (is_zero words) refl

-- the bits of the values are set, and no other
pub record IsFilled (words : List ℕ) (half : ℕ) (values : List ℤ) : Type 0 where
  pub bits : (j : ℕ) → has_bit words j ≡ list_any (has_place half j) values
  pub none : is_zero words ≡ not (is_given values)

pub empty_filled : (words : List ℕ) (half : ℕ) → is_zero words ≡ true → IsFilled words half []
empty_filled words half empty = record { bits = λ j. zero_bits words j empty; none = empty }

pub given_push : (values : List ℤ) (x : ℤ) → is_given (values ++ x ∷ []) ≡ true
given_push [] x = refl
given_push (v ∷ values) x = refl

pub filled_table : (words : List ℕ) (half n : ℕ) (values : List ℤ) → 32 * length words ≡ half
    → All (IsEntry half) values → length values ≤ n → IsFilled words half (take n values)
    → IsTableOf words half values
filled_table words half n values fits entries le filled =
    let whole : take n values ≡ values = take_all n values le in
    let all : IsFilled words half values = rw whole at filled in
    table_is words half values fits entries all.bits all.none
