-- Digits, and parts of them.
use Rattle.std.proofs.Common.{◌≡◌, ℕ, zero, suc, ◌+◌, ◌-◌, ◌*◌, ◌^◌, ◌≤◌, ◌<◌, Bool, true, List, [], ◌∷◌, length, take, drop, get_or, refl, arith}
use Rattle.std.specs.Char.{is_ascii_digit}
use Rattle.std.specs.Int.{IsInRange}
use Rattle.std.specs.List.{list_all}
use Rattle.std.specs.Str.Parse.{digits_value}
use Rattle.std.proofs.Common.{rules}
use Rattle.std.proofs.lemmas.Bool.{and_from, and_parts}
use Rattle.std.proofs.lemmas.Bool.Decides.{nat_tests}
use Rattle.std.proofs.lemmas.Int.Digits.{digits_value_more}
use Rattle.std.proofs.lemmas.List.{length-take-le}
use Rattle.std.proofs.lemmas.List.Sums.{AllPass-from_list_all}
use Rattle.std.proofs.lemmas.Str.{digit_value_digit}
use Rattle.std.proofs.lemmas.Str.Parse.{IsNumeralModel, digits_value_short, numerals_by_value}

-- the test of digits, and the number that they write
pub own : IsNumeralModel (λ digits. list_all is_ascii_digit digits ≡ true) (digits_value 10)
own = numerals_by_value _ (search rules)

module _ {X : Type 0} (p : X → Bool) where
  pub passes_take : (n : ℕ) (xs : List X) → list_all p xs ≡ true → list_all p (take n xs) ≡ true
  passes_take zero xs each = refl
  passes_take (suc n) [] each = refl
  passes_take (suc n) (x ∷ xs) each =
      let parts = and_parts (p x) (list_all p xs) each in
      and_from (p x) (list_all p (take n xs)) parts.0 (passes_take n xs parts.1)

  pub passes_drop : (n : ℕ) (xs : List X) → list_all p xs ≡ true → list_all p (drop n xs) ≡ true
  passes_drop zero xs each = each
  passes_drop (suc n) [] each = refl
  passes_drop (suc n) (x ∷ xs) each = passes_drop n xs (and_parts (p x) (list_all p xs) each).1

pub digit_at : (digits : List ℕ) (i : ℕ) → list_all is_ascii_digit digits ≡ true → i < length digits
    → IsInRange 48 57 (get_or digits i 0)
digit_at digits i each lt = in_range (get_or digits i 0)
    (AllPass-from_list_all is_ascii_digit digits each i 0 lt)
  where
    in_range : (b : ℕ) → is_ascii_digit b ≡ true → IsInRange 48 57 b
    in_range b e = (grind (arith, nat_tests), grind (arith, nat_tests))

-- the number of the first digits
pub value_short : (digits : List ℕ) (i k : ℕ) → list_all is_ascii_digit digits ≡ true
    → i ≤ length digits → i ≤ k → digits_value 10 (take i digits) < 10 ^ k
value_short digits i k each le fits =
    digits_value_short own (take i digits) k (passes_take is_ascii_digit i digits each)
    (omega (arith, length-take-le i digits le))

pub value_step : (digits : List ℕ) (i : ℕ) → list_all is_ascii_digit digits ≡ true
    → i < length digits
    → digits_value 10 (take (i + 1) digits) ≡ 10 * digits_value 10 (take i digits) +
    (get_or digits i 0 - 48)
value_step digits i each lt = omega (
  arith,
  digits_value_more 10 digits i lt,
  digit_value_digit
      (get_or digits i 0) (digit_at digits i each lt),
)
