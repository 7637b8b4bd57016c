-- What an accepted rule's values are.
use Rattle.std.proofs.Common.{◌≡◌, ℕ, ◌<◌, Bool, true, false, List, [], ◌∷◌, Some, ℤ, pos, refl, arith, subst, get_or}
use Rattle.std.specs.Prelude.{All, Ok, neg_ℤ, ◌≤ℤ◌, ◌<ℤ◌, if◌then◌else◌}
use Rattle.std.specs.Int.{IsInRange}
use Rattle.std.specs.List.{AllPass}
use Rattle.std.proofs.lemmas.Bool.Decides.{nat_tests}
use Rattle.std.proofs.lemmas.Int.{ints}
use Rattle.std.proofs.lemmas.List.Elements.{All-cons}
use Rattle.rule_core.specs.FieldChecks.{check_of, counted, is_in_range, is_yearly, most_days}
use Rattle.rule_core.specs.FieldMembers.{first_weekday}
use Rattle.rule_core.specs.Laws.{FieldValuesFit}
use Rattle.rule_core.specs.Values.{is_signed, is_within}
use Rattle.rule_core.specs.declared.field.Counted.{Counted}
use Rattle.rule_core.specs.declared.field.Counted.TheVariants.{OfYear, OfMonth, OfWeek, Never}
use Rattle.rule_core.specs.declared.field.FieldRule.{FieldRule}
use Rattle.rule_core.specs.declared.part.Part.TheVariants.{Months, Weeks, Days, Hours, Minutes, Seconds, WeekStart}
use Rattle.sieve_tables.specs.Lowered.{IsEntry}
use Rattle.sieve_tables.specs.Masks.{IsValue}
use Rattle.field_rules.specs.Tested.{or_first, month_days_by, months_by, week_days_by, weeks_by, year_days_by}

-- what passes the test of a range
each_is : (P : ℤ → Type 0) (test : ℤ → Bool) → ((v : ℤ) → test v ≡ true → P v) → (values : List ℤ)
    → AllPass test values → All P values
each_is P test means values pass = λ k d lt. means (get_or values k d) (pass k d lt)

entry_of : (n half : ℕ) (v : ℤ) → n < half → is_signed n v ≡ true → IsEntry half v
entry_of n half v less e = record {
  low = grind (arith, ints, nat_tests);
  high =
      grind (arith, ints, nat_tests);
  nonzero = grind (arith, ints, nat_tests);
}

signed_value : (n len : ℕ) (v : ℤ) → n < len → is_signed n v ≡ true → IsValue len v
signed_value n len v less e = (grind (arith, ints, nat_tests), grind (arith, ints, nat_tests))

within_value : (low high : ℤ) (len : ℕ) (v : ℤ) → neg_ℤ (pos len) ≤ℤ low → high <ℤ pos len
    → is_within low high v ≡ true → IsValue len v
within_value low high len v from to e =
    (grind (arith, ints, nat_tests), grind (arith, ints, nat_tests))

all_or_first : (P : ℤ → Type 0) (values first : List ℤ) → All P values → All P first
    → All P (or_first values first)
all_or_first P [] first each one = one
all_or_first P (v ∷ values) first each one = each

none_is : (P : ℤ → Type 0) → All P []
none_is P = λ k d lt. absurd (omega (arith, lt))

all_if : (P : ℤ → Type 0) (b : Bool) (xs : List ℤ) → All P xs → All P (if b then xs else [])
all_if P true xs each = each
all_if P false xs each = none_is P

one_is : (P : ℤ → Type 0) (v : ℤ) → P v → All P (v ∷ [])
one_is P v is = All-cons P v [] is (none_is P)

-- the values of the time of day
pub hours_are : (r : FieldRule) → FieldValuesFit → check_of r ≡ Ok tt → All (IsValue 24) r.hours
hours_are r fit ok = each_is (IsValue 24) (is_within (neg_ℤ (pos 24)) (pos 23))
    (λ v. within_value (neg_ℤ (pos 24)) (pos 23) 24 v (omega (arith, ints)) (omega (arith, ints)))
    r.hours (fit r Hours ok)

pub minutes_are : (r : FieldRule) → FieldValuesFit → check_of r ≡ Ok tt → All (IsValue 60) r.minutes
minutes_are r fit ok = each_is (IsValue 60) (is_within (neg_ℤ (pos 60)) (pos 59))
    (λ v. within_value (neg_ℤ (pos 60)) (pos 59) 60 v (omega (arith, ints)) (omega (arith, ints)))
    r.minutes (fit r Minutes ok)

pub seconds_are : (r : FieldRule) → FieldValuesFit → check_of r ≡ Ok tt → All (IsValue 60) r.seconds
seconds_are r fit ok = each_is (IsValue 60) (is_within (neg_ℤ (pos 60)) (pos 59))
    (λ v. within_value (neg_ℤ (pos 60)) (pos 59) 60 v (omega (arith, ints)) (omega (arith, ints)))
    r.seconds (fit r Seconds ok)

-- a given first weekday is one
pub start_within : (r : FieldRule) → FieldValuesFit → check_of r ≡ Ok tt → (n : ℤ) → r.week_start
    ≡ Some n → (pos 1 ≤ℤ n) × (n ≤ℤ pos 7)
start_within r fit ok n e =
    let one : All (λ v. is_within (pos 1) (pos 7) v ≡ true) (n ∷ []) =
    rw e at (fit r WeekStart ok) in
    let within = one 0 (pos 0) (omega arith) in
    (grind (arith, ints, nat_tests), grind (arith, ints, nat_tests))

-- the values of the days' tables, by what the days count
pub months_are : (c : Counted) (r : FieldRule) → FieldValuesFit → check_of r ≡ Ok tt
    → All (IsValue 13) (months_by c r)
months_are OfMonth r fit ok =
    all_if (IsValue 13) (is_yearly r.freq) (or_first r.months (pos 1 ∷ []))
    (all_or_first (IsValue 13) r.months (pos 1 ∷ [])
    (each_is (IsValue 13) (is_signed 12) (λ v. signed_value 12 13 v (omega arith)) r.months
    (fit r Months ok))
    (one_is (IsValue 13) (pos 1) (omega (arith, ints), omega (arith, ints))))
months_are OfYear r fit ok = none_is (IsValue 13)
months_are OfWeek r fit ok = none_is (IsValue 13)
months_are Never r fit ok = none_is (IsValue 13)

pub weeks_are : (c : Counted) (r : FieldRule) → FieldValuesFit → check_of r ≡ Ok tt
    → All (IsEntry 64) (weeks_by c r)
weeks_are OfWeek r fit ok = each_is (IsEntry 64) (is_signed 53)
    (λ v. entry_of 53 64 v (omega arith)) r.weeks (fit r Weeks ok)
weeks_are OfYear r fit ok = none_is (IsEntry 64)
weeks_are OfMonth r fit ok = none_is (IsEntry 64)
weeks_are Never r fit ok = none_is (IsEntry 64)

-- the days of a rule that counts in this way
days_are : (P : ℤ → Type 0) (c : Counted) (r : FieldRule) → FieldValuesFit → check_of r ≡ Ok tt
    → counted r ≡ c → ((v : ℤ) → is_signed (most_days c) v ≡ true → P v) → All P r.days
days_are P c r fit ok e means = each_is P (is_signed (most_days c)) means r.days
    (ap_days (fit r Days ok))
  where
    ap_days : AllPass (is_in_range (counted r) Days) r.days → AllPass (is_signed (most_days c))
        r.days
    ap_days pass = subst (λ (k : Counted). AllPass (is_signed (most_days k)) r.days) e pass

pub year_days_are : (c : Counted) (r : FieldRule) → FieldValuesFit → check_of r ≡ Ok tt → counted r
    ≡ c → All (IsEntry 384) (year_days_by c r)
year_days_are OfYear r fit ok e =
    all_or_first (IsEntry 384) r.days (pos 1 ∷ []) (days_are (IsEntry 384) OfYear r fit ok e
    (λ v. entry_of 366 384 v (omega arith)))
    (one_is (IsEntry 384) (pos 1) (entry_of 366 384 (pos 1) (omega arith) refl))
year_days_are OfMonth r fit ok e = none_is (IsEntry 384)
year_days_are OfWeek r fit ok e = none_is (IsEntry 384)
year_days_are Never r fit ok e = none_is (IsEntry 384)

pub month_days_are : (c : Counted) (r : FieldRule) → FieldValuesFit → check_of r ≡ Ok tt → counted r
    ≡ c → All (IsEntry 32) (month_days_by c r)
month_days_are OfMonth r fit ok e =
    all_or_first (IsEntry 32) r.days (pos 1 ∷ []) (days_are (IsEntry 32) OfMonth r fit ok e
    (λ v. entry_of 31 32 v (omega arith)))
    (one_is (IsEntry 32) (pos 1) (entry_of 31 32 (pos 1) (omega arith) refl))
month_days_are OfYear r fit ok e = none_is (IsEntry 32)
month_days_are OfWeek r fit ok e = none_is (IsEntry 32)
month_days_are Never r fit ok e = none_is (IsEntry 32)

pub week_days_are : (c : Counted) (r : FieldRule) → IsInRange 1 7 (first_weekday r.week_start)
    → FieldValuesFit → check_of r ≡ Ok tt → counted r ≡ c
    → All (IsValue 8) (week_days_by c r (pos (first_weekday r.week_start) ∷ []))
week_days_are OfWeek r first fit ok e =
    all_or_first (IsValue 8) r.days (pos (first_weekday r.week_start) ∷ [])
    (days_are (IsValue 8) OfWeek r fit ok e (λ v. signed_value 7 8 v (omega arith)))
    (one_is (IsValue 8) (pos (first_weekday r.week_start))
    (omega (arith, ints), omega (arith, ints, first.1)))
week_days_are OfYear r first fit ok e = none_is (IsValue 8)
week_days_are OfMonth r first fit ok e = none_is (IsValue 8)
week_days_are Never r first fit ok e = none_is (IsValue 8)
