-- The literals of moments, from the laws of the calendar.
use Rattle.std.proofs.Common.{◌≡◌, ℕ, zero, suc, ◌<◌, ◌≤◌, ℤ, pos, negsuc, ◌≤ℤ◌, Bool, true, false, List, [], ◌∷◌, ◌++◌, length, Option, Some, None, IsSome, IfSome, refl, sym, ap, subst, ◌∙◌, arith}
use Rattle.std.specs.Prelude.{codes, unsigned_abs, neg_ℤ, ◌==◌, if◌then◌else◌}
use lib.Signed.{lt_z}
use Rattle.std.proofs.lemmas.List.{append-nil}
use Rattle.std.proofs.lemmas.Bool.{false≢true, eqb-true}
use Rattle.std.proofs.lemmas.Bool.Decides.{nat_tests}
use Rattle.std.proofs.lemmas.Int.{ints}
use Rattle.moment_core.specs.declared.line.Moment.{Moment}
use Rattle.moment_core.specs.declared.line.Stamp.{Stamp}
use Rattle.moment_core.specs.Calendar.{is_leap, year_of, month_of, day_of_month, month_len}
use Rattle.moment_core.specs.TimeOfDay.{day_of, hour_of, minute_of, second_of, IsCivil, seconds_of}
use Rattle.moment_core.specs.Line.{IsWorkingMoment}
use Rattle.moment_core.specs.CalendarLaws.{TimesNameMoments, RangesAreOfYears}
use Rattle.moment_core.proofs.LineLaws.{calendar_works}
use Rattle.moment_text.specs.declared.parts.Literal.{Literal}
use Rattle.moment_text.specs.Literal.{sign_of, literal_of, Names}
use Rattle.moment_text.specs.Parts.{text_of, FitsDigits, is_below_zero, parts_of, signed_year, literal_at}
use Rattle.moment_text.proofs.Options.{IfSome-at, some_same, not_both}
use Rattle.moment_text.proofs.Spelling.{text_read, text_spelled}

sign-is : (y : ℤ) → (if is_below_zero y then codes "-" else []) ≡ sign_of y
sign-is (pos n) = refl
sign-is (negsuc n) = refl

-- a moment's literal is the text of its parts
pub text_of-parts_of : (t : ℤ) (absolute : Bool) → text_of (parts_of t absolute)
    ≡ literal_of t absolute
unfolding parts_of literal_of
text_of-parts_of t absolute = rw (sign-is (year_of (day_of t))) refl

pub signed_year-is : (y : ℤ) → signed_year (is_below_zero y) (unsigned_abs y) ≡ Some y
signed_year-is (pos n) = refl
signed_year-is (negsuc n) = refl

signed_year-parts : (minus : Bool) (n : ℕ) (y : ℤ) → signed_year minus n ≡ Some y
    → (is_below_zero y ≡ minus) × (unsigned_abs y ≡ n)
signed_year-parts false n y h = let is : pos n ≡ y = cc in (rw (← is) refl, rw (← is) refl)
signed_year-parts true zero y h = absurd cc
signed_year-parts true (suc n) y h = let is : negsuc n ≡ y = cc in (rw (← is) refl, rw (← is) refl)

-- the year that a moment's literal writes is the moment's
pub year_of_parts : (l : Literal) (t : ℤ) (absolute : Bool) → l ≡ parts_of t absolute
    → signed_year l.minus l.date.year ≡ Some (year_of (day_of t))
unfolding parts_of
year_of_parts l t absolute is = rw is (signed_year-is (year_of (day_of t)))

-- a date and a time that the calendar has are the parts of their moment
civil_parts : TimesNameMoments → (l : Literal) (y : ℤ) → signed_year l.minus l.date.year ≡ Some y
    → IsCivil y l.date.month l.date.day l.time.hour l.time.minute l.time.second
    → l ≡ parts_of (seconds_of y l.date.month l.date.day l.time.hour l.time.minute l.time.second)
    l.absolute
unfolding parts_of
civil_parts times l y year civil =
    let same = times.1 y l.date.month l.date.day l.time.hour l.time.minute l.time.second civil in
    let sign = signed_year-parts l.minus l.date.year y year in
    rw (same.0, same.1, same.2, same.3, same.4, same.5, sign.0, sign.1) refl

pub moment_named : TimesNameMoments → (l : Literal) (y : ℤ) (found : Option Moment)
    → signed_year l.minus l.date.year ≡ Some y
    → (IsSome found → IsCivil y l.date.month l.date.day l.time.hour l.time.minute l.time.second
    × IsWorkingMoment (seconds_of y l.date.month l.date.day l.time.hour l.time.minute
    l.time.second))
    → IfSome found (λ t. t.0 ≡ seconds_of y l.date.month l.date.day l.time.hour l.time.minute
    l.time.second)
    → IfSome found (λ t. (l ≡ parts_of t.0 l.absolute) × IsWorkingMoment t.0)
moment_named times l y None year only value = tt
moment_named times l y (Some t) year only value =
    let civil = only refl in (
      rw value (civil_parts times l y year civil.0),
      let P : ℤ → Type 0 =
          λ z. IsWorkingMoment z in subst P (sym value) civil.1,
    )

some_at : (found : Option Moment) (t s : ℤ) → IsSome found → s ≡ t → IfSome found (λ m. m.0 ≡ s)
    → found ≡ Some (record { 0 = t })
some_at None t s h same value = absurd (false≢true h)
some_at (Some m) t s h same value = ap (λ (z : ℤ). Some (record { 0 = z })) (value ∙ same)

pub moment_found : TimesNameMoments → (l : Literal) (y : ℤ) (found : Option Moment)
    → signed_year l.minus l.date.year ≡ Some y
    → (IsCivil y l.date.month l.date.day l.time.hour l.time.minute l.time.second
    × IsWorkingMoment (seconds_of y l.date.month l.date.day l.time.hour l.time.minute l.time.second)
    → IsSome found)
    → IfSome found (λ t. t.0 ≡ seconds_of y l.date.month l.date.day l.time.hour l.time.minute
    l.time.second)
    → (t : ℤ) → IsWorkingMoment t → l ≡ parts_of t l.absolute → found ≡ Some (record { 0 = t })
unfolding parts_of
moment_found times l y found year enough value t work is =
    let y_is : y ≡ year_of (day_of t) = some_same (signed_year l.minus l.date.year) y
    (year_of (day_of t)) year (year_of_parts l t l.absolute is) in
    let month : l.date.month ≡ month_of (day_of t) = ap (λ (x : Literal). x.date.month) is in
    let day : l.date.day ≡ day_of_month (day_of t) = ap (λ (x : Literal). x.date.day) is in
    let hour : l.time.hour ≡ hour_of t = ap (λ (x : Literal). x.time.hour) is in
    let minute : l.time.minute ≡ minute_of t = ap (λ (x : Literal). x.time.minute) is in
    let second : l.time.second ≡ second_of t = ap (λ (x : Literal). x.time.second) is in
    let civil : IsCivil y l.date.month l.date.day l.time.hour l.time.minute l.time.second =
    rw (y_is, month, day, hour, minute, second) (times.0 t).0 in
    let seconds : seconds_of y l.date.month l.date.day l.time.hour l.time.minute l.time.second ≡ t =
    rw (y_is, month, day, hour, minute, second) (times.0 t).1 in
    let P : ℤ → Type 0 = λ z. IsWorkingMoment z in
    some_at found t _ (enough (civil, subst P (sym seconds) work)) seconds value

-- the parts of a moment have few digits
month_len-within : (leap : Bool) (month : ℕ) → month_len leap month ≤ 31
month_len-within leap month = grind (arith, nat_tests)

year_within : (y : ℤ) → neg_ℤ (pos 9990) ≤ℤ y → y ≤ℤ pos 9990 → unsigned_abs y < 10_000
year_within y low high = omega (arith, ints)

pub parts_fit : TimesNameMoments → RangesAreOfYears → (t : ℤ) (absolute : Bool) → IsWorkingMoment t
    → FitsDigits (parts_of t absolute)
unfolding parts_of
parts_fit times ranges t absolute work =
    let civil = (times.0 t).0 in
    let years = (ranges.1 t).1 work in
    let month = month_len-within (is_leap (year_of (day_of t))) (month_of (day_of t)) in
    record {
      year = year_within (year_of (day_of t)) years.0 years.1;
      month = omega arith;
      day = omega arith;
      hour = omega arith;
      minute = omega arith;
      second = omega arith;
    }

-- the literal of a moment of the working range is read as its parts
pub literal_read : TimesNameMoments → RangesAreOfYears → (t : ℤ) (absolute : Bool)
    → IsWorkingMoment t → literal_at (literal_of t absolute) ≡ Some (parts_of t absolute, [])
literal_read times ranges t absolute work = rw (← text_of-parts_of t absolute)
    (text_read (parts_of t absolute) (parts_fit times ranges t absolute work))

-- what is read of a moment's literal: its parts, and nothing is left
pub read_is : TimesNameMoments → RangesAreOfYears → (text : List ℕ) (l : Literal) (rest : List ℕ)
    → literal_at text ≡ Some (l, rest) → (t : ℤ) (absolute : Bool) → Names text t absolute
    → (l ≡ parts_of t l.absolute) × (l.absolute ≡ absolute) × (rest ≡ [])
unfolding parts_of
read_is times ranges text l rest read t absolute names =
    let again : literal_at text ≡ Some (parts_of t absolute, []) =
    rw names.is_literal (literal_read times ranges t absolute (calendar_works t names.in_range)) in
    let same = some_same (literal_at text) (l, rest) (parts_of t absolute, []) read again in
    let parts : l ≡ parts_of t absolute = ap (λ x. x.0) same in
    let mark : l.absolute ≡ absolute = ap (λ (x : Literal). x.absolute) parts in
    let P : Bool → Type 0 = λ b. l ≡ parts_of t b in
    (subst P (sym mark) parts, mark, ap (λ x. x.1) same)

pub is_read : TimesNameMoments → RangesAreOfYears → (text : List ℕ) → literal_at text ≡ None
    → (t : ℤ) (absolute : Bool) → Names text t absolute → ⊥
is_read times ranges text none t absolute names =
    not_both (literal_at text) (parts_of t absolute, []) none
    (rw names.is_literal (literal_read times ranges t absolute (calendar_works t names.in_range)))

pub something_left : (rest : List ℕ) → rest ≡ [] → false ≡ (length rest == 0) → ⊥
something_left rest none h = false≢true (rw none at h)

empty_is : (rest : List ℕ) → true ≡ (length rest == 0) → rest ≡ []
empty_is [] h = refl
empty_is (b ∷ rest) h = let none : length (b ∷ rest) ≡ 0 = eqb-true (length (b ∷ rest)) 0 (sym h) in
    absurd (omega arith)

-- a text of which nothing is left is the literal of the moment whose parts were read
pub text_is : (text : List ℕ) (l : Literal) (rest : List ℕ) → literal_at text ≡ Some (l, rest)
    → true ≡ (length rest == 0) → (t : ℤ) → l ≡ parts_of t l.absolute → text
    ≡ literal_of t l.absolute
text_is text l rest read ends t is =
    let none : rest ≡ [] = empty_is rest ends in
    let spelled = (IfSome-at (λ x. (text ≡ text_of x.0 ++ x.1) × FitsDigits x.0) (literal_at text)
    (l, rest) read (text_spelled text)).0 in
    let P : Literal → Type 0 = λ x. text_of l ≡ text_of x in
    spelled ∙ ap (λ s. text_of l ++ s) none ∙ append-nil (text_of l) ∙ subst P is refl
    ∙ text_of-parts_of t l.absolute

pub moment_same : (m : Moment) (t : ℤ) → Some m ≡ Some (record { 0 = t }) → m.0 ≡ t
moment_same m t h = ap (λ (x : Moment). x.0) (some_same (Some m) m (record { 0 = t }) refl h)

pub stamp_same : (m : Moment) (absolute : Bool) (s : Stamp) → m.0 ≡ s.moment.0 → absolute
    ≡ s.absolute → Some (record { moment = m; absolute = absolute }) ≡ Some s
stamp_same m absolute s moment mark =
    ap (λ (z : ℤ). Some (record { moment = record { 0 = z }; absolute = absolute })) moment
    ∙ ap (λ (b : Bool). Some (record { moment = s.moment; absolute = b })) mark

-- the parts of a date and a time are a moment's
pub parts_from : (t : ℤ) (absolute minus : Bool) (year month day hour minute second : ℕ) → minus
    ≡ is_below_zero (year_of (day_of t)) → year ≡ unsigned_abs (year_of (day_of t))
    → month ≡ month_of (day_of t) → day ≡ day_of_month (day_of t) → hour ≡ hour_of t → minute
    ≡ minute_of t → second ≡ second_of t
    → record {
      minus = minus;
      date = record { year = year; month = month; day = day };
      time =
          record { hour = hour; minute = minute; second = second };
      absolute = absolute;
    }
    ≡ parts_of t absolute
unfolding parts_of
parts_from t absolute minus year month day hour minute second a b c d e f g =
    rw (a, b, c, d, e, f, g) refl

pub lt_z-zero : (y : ℤ) → lt_z y (pos 0) ≡ is_below_zero y
lt_z-zero (pos n) = grind (arith, nat_tests)
lt_z-zero (negsuc n) = refl

-- the parts of a moment name it
same_moment : TimesNameMoments → (t other : ℤ) (absolute also : Bool) → parts_of t absolute
    ≡ parts_of other also → t ≡ other
unfolding parts_of
same_moment times t other absolute also same =
    let year : year_of (day_of t) ≡ year_of (day_of other) =
    some_same _ _ _ (year_of_parts (parts_of t absolute) t absolute refl)
    (year_of_parts (parts_of t absolute) other also same) in
    let month : month_of (day_of t) ≡ month_of (day_of other) = ap (λ (x : Literal). x.date.month)
    same in
    let day : day_of_month (day_of t) ≡ day_of_month (day_of other) =
    ap (λ (x : Literal). x.date.day) same in
    let hour : hour_of t ≡ hour_of other = ap (λ (x : Literal). x.time.hour) same in
    let minute : minute_of t ≡ minute_of other = ap (λ (x : Literal). x.time.minute) same in
    let second : second_of t ≡ second_of other = ap (λ (x : Literal). x.time.second) same in
    sym (times.0 t).1 ∙ rw (year, month, day, hour, minute, second) (times.0 other).1

same_mark : (t other : ℤ) (absolute also : Bool) → parts_of t absolute ≡ parts_of other also
    → absolute ≡ also
unfolding parts_of
same_mark t other absolute also same = ap (λ (l : Literal). l.absolute) same

-- no two moments have one literal
pub moments_apart : TimesNameMoments → RangesAreOfYears → (t other : ℤ) (absolute also : Bool)
    → IsWorkingMoment t → IsWorkingMoment other
    → literal_of t absolute ≡ literal_of other also → (t ≡ other) × (absolute ≡ also)
moments_apart times ranges t other absolute also work other_work same =
    let first = literal_read times ranges t absolute work in
    let second = literal_read times ranges other also other_work in
    let again : literal_at (literal_of t absolute) ≡ Some (parts_of other also, []) =
    rw same second in
    let parts : parts_of t absolute ≡ parts_of other also =
    ap (λ x. x.0) (some_same _ _ _ first again) in
    (same_moment times t other absolute also parts, same_mark t other absolute also parts)
