-- Written numbers and weekdays are read back.
use Rattle.std.proofs.Common.{◌≡◌, ℕ, suc, ◌^◌, ◌<◌, ℤ, pos, negsuc, Bool, true, false, ◌==◌, nat_le, List, [], ◌∷◌, length, Some, refl, ap, ◌∙◌, arith}
use Rattle.std.specs.Char.{is_ascii_digit}
use Rattle.std.specs.Fmt.{decimal, signed_decimal}
use Rattle.std.specs.List.{list_all}
use Rattle.std.specs.Prelude.{unsigned_abs}
use Rattle.std.proofs.lemmas.Bool.{and_parts, and_right}
use Rattle.std.proofs.lemmas.Bool.Decides.{nat_tests}
use Rattle.std.proofs.lemmas.Fmt.{digits_decimal, digits_value-decimal, decimal_nonempty, length-decimal-le}
use Rattle.moment_core.specs.Texts.{with_sign}
use Rattle.rrule_values.specs.Numbers.{is_digits, digits_at, number_at}
use Rattle.rrule_values.proofs.Digits.{own}
use Rattle.moment_core.proofs.Signs.{minus_suc}

pub decimal_digits : (n : ℕ) → n < 2 ^ 64 → list_all is_ascii_digit (decimal n) ≡ true
decimal_digits n small = digits_decimal own n small

decimal_is : (n : ℕ) → n < 10 ^ 10 → is_digits (decimal n) ≡ true
unfolding is_digits
decimal_is n small =
    let some = decimal_nonempty n (omega arith) in
    let most = length-decimal-le 10 n (omega arith) small (omega arith) in
    let low : nat_le 1 (length (decimal n)) ≡ true = grind (arith, nat_tests) in
    let high : nat_le (length (decimal n)) 10 ≡ true = grind (arith, nat_tests) in
    rw (low, high) (decimal_digits n (omega arith))

pub digits_back : (minus : Bool) (n : ℕ) → n < 10 ^ 10 → digits_at minus (decimal n)
    ≡ Some (with_sign minus n)
unfolding digits_at
digits_back minus n small = rw (decimal_is n small, digits_value-decimal own n (omega arith)) refl

no_plus : (b : ℕ) → is_ascii_digit b ≡ true → (b == 43) ≡ false
no_plus b digit = grind (arith, nat_tests)

no_minus : (b : ℕ) → is_ascii_digit b ≡ true → (b == 45) ≡ false
no_minus b digit = grind (arith, nat_tests)

-- digits have no sign in front
unsigned_back : (signed : Bool) (bytes : List ℕ) → 0 < length bytes → list_all is_ascii_digit bytes
    ≡ true → number_at signed bytes ≡ digits_at false bytes
unfolding number_at
unsigned_back signed [] some each = absurd (omega arith)
unsigned_back signed (b ∷ bytes) some each =
    let digit = (and_parts (is_ascii_digit b) (list_all is_ascii_digit bytes) each).0 in
    rw (no_plus b digit, no_minus b digit, and_right signed false refl) refl

pub positive_back : (signed : Bool) (n : ℕ) → n < 10 ^ 10 → number_at signed (decimal n)
    ≡ Some (pos n)
positive_back signed n small =
    unsigned_back signed (decimal n) (decimal_nonempty n (omega arith))
    (decimal_digits n (omega arith)) ∙ digits_back false n small

pub number_back : (z : ℤ) → unsigned_abs z < 10 ^ 10 → number_at true (signed_decimal z) ≡ Some z
unfolding number_at
number_back (pos n) small = positive_back true n small
number_back (negsuc n) small = digits_back true (suc n) small ∙ ap (λ (z : ℤ). Some z) (minus_suc n)
