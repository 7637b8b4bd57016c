-- A written position is read back, and has no colon.
use Rattle.span_core.specs.Tokens.{IsFit}
use Rattle.std.proofs.Common.{◌≡◌, ◌<◌, ◌^◌, ◌+◌, ◌-◌, ◌*◌, ℕ, suc, ℤ, pos, negsuc, true, not, List, [], ◌∷◌, Option, Some, None, Result, Ok, refl, sym, ap, subst, ◌∙◌, length, drop, arith, rules, w64}
use Rattle.std.specs.Char.{is_ascii_digit}
use Rattle.std.specs.Fmt.{decimal, signed_decimal}
use Rattle.std.specs.List.{list_all}
use Rattle.std.specs.Prelude.{FitsSigned, unsigned_abs}
use Rattle.std.specs.Str.Parse.{ParsesSigned}
use Rattle.std.proofs.lemmas.Bool.{and_parts}
use Rattle.std.proofs.lemmas.Bool.Decides.{nat_tests}
use Rattle.std.proofs.lemmas.Fmt.{digits_decimal, decimal_nonempty, parse-signed_decimal}
use Rattle.std.proofs.lemmas.Int.{ints}
use Rattle.std.proofs.lemmas.Str.Parse.{numerals_by_fold, IsNumeralModel}
use Rattle.moment_core.specs.declared.line.Dir.{Dir}
use Rattle.moment_core.specs.declared.line.Dir.TheVariants.{Fore, Back}
use Rattle.moment_core.specs.declared.line.Pos.{Pos}
use Rattle.span_core.specs.declared.answers.Token.{Token}
use Rattle.token_text.specs.Parts.{is_colon, lacks_colon, IsNearIfGiven, IsNearRange}
use Rattle.token_text.specs.Texts.{begun_text, dir_text}

pub dir_lacks : (dir : Dir) → lacks_colon (dir_text dir) ≡ true
dir_lacks Fore = refl
dir_lacks Back = refl

pub near_fits : (p : Pos) → IsNearRange p → FitsSigned w64 p.0
near_fits p near = grind (arith, ints)

pub read_back : {E : Type 0} (p : Pos) (text : List ℕ) (r : Result ℤ E) → IsNearRange p → text
    ≡ signed_decimal p.0
    → ParsesSigned w64 10 text r → r ≡ Ok p.0
read_back p text r near is parses = parse-signed_decimal w64 p.0 text r (near_fits p near)
    (grind (arith, ints)) is parses

colon_is_no_digit : (b : ℕ) → is_ascii_digit b ≡ true → not (is_colon b) ≡ true
colon_is_no_digit b digit = grind (arith, nat_tests)

digits_lack : (bytes : List ℕ) → list_all is_ascii_digit bytes ≡ true → lacks_colon bytes ≡ true
digits_lack [] each = refl
digits_lack (b ∷ bytes) each =
    let parts = and_parts (is_ascii_digit b) (list_all is_ascii_digit bytes) each in
    rw (colon_is_no_digit b parts.0, digits_lack bytes parts.1) refl

-- the number that digits write, behind those that wrote n
value_from : ℕ → List ℕ → ℕ
value_from n [] = n
value_from n (d ∷ digits) = value_from (10 * n + (d - 48)) digits

own : IsNumeralModel (λ digits. list_all is_ascii_digit digits ≡ true) (value_from 0)
unfolding value_from
own = numerals_by_fold _ (search rules) value_from (search rules)

decimal_lacks : (n : ℕ) → n < 2 ^ 64 → lacks_colon (decimal n) ≡ true
decimal_lacks n small = digits_lack (decimal n) (digits_decimal own n small)

pub number_lacks : (p : Pos) → IsNearRange p → lacks_colon (signed_decimal p.0) ≡ true
number_lacks p near = by_sign p.0 (grind (arith, ints))
  where
    by_sign : (z : ℤ) → unsigned_abs z < 2 ^ 63 → lacks_colon (signed_decimal z) ≡ true
    by_sign (pos n) small = decimal_lacks n (omega (arith, small))
    by_sign (negsuc n) small = decimal_lacks (suc n) (omega (arith, small))

pub begun_lacks : (p : Option Pos) → IsNearIfGiven p → lacks_colon (begun_text p) ≡ true
begun_lacks None near = refl
begun_lacks (Some p) near = number_lacks p near

-- the positions of a token that fits lie in the calendar range, or right beside it
pub fit_near : (t : Token) → IsFit t → IsNearRange t.place × IsNearRange t.end
    × IsNearIfGiven t.begun
fit_near t fit = near t.dir t.place t.begun t.end fit
  where
    near : (dir : Dir) (place : Pos) (begun : Option Pos) (end : Pos)
        → IsFit (record { dir = dir; place = place; begun = begun; end = end })
        → IsNearRange place × IsNearRange end × IsNearIfGiven begun
    near Fore place None end fit = (grind (arith, ints), grind (arith, ints), tt)
    near Back place None end fit = (grind (arith, ints), grind (arith, ints), tt)
    near Fore place (Some begun) end fit =
        (grind (arith, ints), grind (arith, ints), grind (arith, ints))
    near Back place (Some begun) end fit =
        (grind (arith, ints), grind (arith, ints), grind (arith, ints))

pub only_ok : {E : Type 0} (a b : ℤ) → Path (Result ℤ E) (Ok a) (Ok b) → a ≡ b
only_ok a b e = cc

-- a dash alone is no number
pub no_dash : (p : Pos) → IsNearRange p → signed_decimal p.0 ≡ 45 ∷ [] → ⊥
no_dash p near e = by_sign p.0 (grind (arith, ints)) e
  where
    by_sign : (z : ℤ) → unsigned_abs z < 2 ^ 63 → signed_decimal z ≡ 45 ∷ [] → ⊥
    by_sign (pos n) small e =
        let digits : list_all is_ascii_digit (45 ∷ []) ≡ true =
        subst (λ text. list_all is_ascii_digit text ≡ true) e
        (digits_decimal own n (omega (arith, small))) in
        cc
    by_sign (negsuc n) small e =
        let none : length (decimal (suc n)) ≡ 0 = ap (λ (text : List ℕ). length (drop 1 text)) e in
        omega (arith, none, decimal_nonempty (suc n) (omega (arith, small)))

pub dash_is_none : (p : Option Pos) (text : List ℕ) → IsNearIfGiven p → text ≡ begun_text p → text
    ≡ 45 ∷ []
    → Path (Option (Option Pos)) (Some None) (Some p)
dash_is_none None text near is dash = refl
dash_is_none (Some p) text near is dash = absurd (no_dash p near (sym is ∙ dash))
