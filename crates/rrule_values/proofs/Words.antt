-- The bytes of written values, and what isn't among them.
use Rattle.std.proofs.Common.{◌≡◌, ℕ, zero, suc, ◌+◌, ◌-◌, ◌^◌, ◌<◌, ℤ, pos, negsuc, Bool, true, false, ◌&&◌, ◌||◌, ◌==◌, nat_le, List, [], ◌∷◌, ◌++◌, length, Some, refl, ap, ◌∙◌, arith, length-append}
use Rattle.std.specs.Prelude.{unsigned_abs, if◌then◌else◌}
use Rattle.std.specs.Char.{is_ascii_digit}
use Rattle.std.specs.Fmt.{decimal, signed_decimal}
use Rattle.std.specs.Int.{IsInRange}
use Rattle.std.specs.List.{list_all}
use Rattle.std.specs.Ordering.{int_eq}
use Rattle.std.proofs.lemmas.Bool.{and_from}
use Rattle.std.proofs.lemmas.Bool.Decides.{nat_tests}
use Rattle.std.proofs.lemmas.Fmt.{decimal_nonempty}
use Rattle.std.proofs.lemmas.Int.{ints}
use Rattle.std.proofs.lemmas.List.Folds.{list_all-append}
use Rattle.std.proofs.Math.Seq.{drop-append_seam, take-append_seam}
use Rattle.moment_core.proofs.Lists.{all_weaker}
use Rattle.rule_core.specs.declared.lists.DayItem.{DayItem}
use Rattle.rrule_values.specs.Laws.{is_value_byte}
use Rattle.rrule_values.specs.Names.{day_name, day_named}
use Rattle.rrule_values.specs.Numbers.{item_at, ordinal_at, number_at}
use Rattle.rrule_values.specs.Splitting.{is_other}
use Rattle.rrule_values.specs.Writing.{item_text}
use Rattle.rrule_values.proofs.Numerals.{decimal_digits, number_back}

-- a digit, a capital letter or a minus
abbrev pub word : ℕ → Bool
word b = (nat_le 48 b && nat_le b 57) || (nat_le 65 b && nat_le b 90) || (b == 45)

pub no_comma : (b : ℕ) → word b ≡ true → is_other 44 b ≡ true
no_comma b h = grind (arith, nat_tests)

pub word_plain : (b : ℕ) → word b ≡ true → is_value_byte b ≡ true
word_plain b h = grind (arith, nat_tests)

digit_word : (b : ℕ) → is_ascii_digit b ≡ true → word b ≡ true
digit_word b h = grind (arith, nat_tests)

pub decimal_words : (n : ℕ) → n < 2 ^ 64 → list_all word (decimal n) ≡ true
decimal_words n small = all_weaker is_ascii_digit word digit_word (decimal n)
    (decimal_digits n small)

pub signed_words : (z : ℤ) → unsigned_abs z < 10 ^ 10 → list_all word (signed_decimal z) ≡ true
signed_words (pos n) small = decimal_words n (omega arith)
signed_words (negsuc n) small = decimal_words (suc n) (omega arith)

pub signed_some : (z : ℤ) → unsigned_abs z < 10 ^ 10 → 0 < length (signed_decimal z)
signed_some (pos n) small = decimal_nonempty n (omega arith)
signed_some (negsuc n) small = omega arith

-- a weekday's name is one, of two letters
pub record IsDay (d : ℕ) : Type 0 where
  pub named : day_named (day_name d) ≡ Some d
  pub two : length (day_name d) ≡ 2
  pub words : list_all word (day_name d) ≡ true

pub day_is : (d : ℕ) → IsInRange 1 7 d → IsDay d
unfolding day_named
day_is zero h = absurd (omega (arith, h.0))
day_is (suc zero) h = record { named = refl; two = refl; words = refl }
day_is (suc (suc zero)) h = record { named = refl; two = refl; words = refl }
day_is (suc (suc (suc zero))) h = record { named = refl; two = refl; words = refl }
day_is (suc (suc (suc (suc zero)))) h = record { named = refl; two = refl; words = refl }
day_is (suc (suc (suc (suc (suc zero))))) h = record { named = refl; two = refl; words = refl }
day_is (suc (suc (suc (suc (suc (suc zero)))))) h = record {
  named = refl;
  two = refl;
  words =
      refl;
}
day_is (suc (suc (suc (suc (suc (suc (suc zero))))))) h = record {
  named = refl;
  two = refl;
  words =
      refl;
}
day_is (suc (suc (suc (suc (suc (suc (suc (suc n)))))))) h = absurd (omega (arith, h.1))

ordinal_some : (bytes : List ℕ) (z : ℤ) → 0 < length bytes → number_at true bytes ≡ Some z
    → int_eq z (pos 0) ≡ false → ordinal_at bytes ≡ Some z
unfolding ordinal_at
ordinal_some [] z some read nonzero = absurd (omega arith)
ordinal_some (b ∷ bytes) z some read nonzero = rw (read, nonzero) refl

abbrev ordinal_text : Bool → ℤ → List ℕ
ordinal_text zeroth z = if zeroth then [] else signed_decimal z

ordinal_back : (zeroth : Bool) (z : ℤ) → int_eq z (pos 0) ≡ zeroth → unsigned_abs z < 10 ^ 10
    → ordinal_at (ordinal_text zeroth z) ≡ Some z
unfolding ordinal_at
ordinal_back true z is small = ap (λ (y : ℤ). Some y) (zero_is z is)
  where
    zero_is : (z : ℤ) → int_eq z (pos 0) ≡ true → pos 0 ≡ z
    zero_is z e = grind (arith, ints)
ordinal_back false z is small = ordinal_some (signed_decimal z) z (signed_some z small)
    (number_back z small) is

ordinal_words : (zeroth : Bool) (z : ℤ) → unsigned_abs z < 10 ^ 10
    → list_all word (ordinal_text zeroth z) ≡ true
ordinal_words true z small = refl
ordinal_words false z small = signed_words z small

-- a name of two letters behind its ordinal
item_read : (front name : List ℕ) (nth : ℤ) (d : ℕ) → length name ≡ 2 → ordinal_at front ≡ Some nth
    → day_named name ≡ Some d → item_at (front ++ name) ≡ Some (record { nth = nth; day = d })
unfolding item_at
item_read front name nth d two ordinal named =
    let total : length (front ++ name) ≡ length front + 2 =
    omega (arith, length-append front name) in
    let enough : nat_le 2 (length (front ++ name)) ≡ true = grind (arith, nat_tests) in
    let less : length (front ++ name) - 2 ≡ length front = omega arith in
    rw (enough, less, take-append_seam front name, drop-append_seam front name, ordinal, named) refl

pub item_back : (item : DayItem) → IsInRange 1 7 item.day → unsigned_abs item.nth < 10 ^ 10
    → item_at (item_text item) ≡ Some item
item_back item within small =
    let day = day_is item.day within in
    item_read _ (day_name item.day) item.nth item.day day.two
    (ordinal_back (int_eq item.nth (pos 0)) item.nth refl small) day.named

pub item_words : (item : DayItem) → IsInRange 1 7 item.day → unsigned_abs item.nth < 10 ^ 10
    → list_all word (item_text item) ≡ true
item_words item within small =
    let day = day_is item.day within in
    list_all-append word (ordinal_text (int_eq item.nth (pos 0)) item.nth) (day_name item.day)
    ∙ and_from (list_all word (ordinal_text (int_eq item.nth (pos 0)) item.nth))
    (list_all word (day_name item.day)) (ordinal_words (int_eq item.nth (pos 0)) item.nth small)
    day.words
