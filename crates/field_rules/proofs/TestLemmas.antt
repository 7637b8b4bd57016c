-- With first values put in, lists say what a rule tests.
use Rattle.std.proofs.Common.{◌≡◌, ℕ, ◌+◌, ◌<◌, ◌≤◌, to_z, w64, ◌==◌, Bool, true, false, not, ◌&&◌, ◌||◌, List, [], ◌∷◌, ℤ, pos, refl, sym, ap, ◌∙◌, arith}
use Rattle.std.specs.Int.{IsInRange}
use Rattle.std.specs.List.{list_all}
use Rattle.std.specs.Ordering.{int_eq}
use Rattle.std.proofs.lemmas.Bool.Decides.{nat_tests}
use Rattle.std.proofs.lemmas.Int.{ints}
use Rattle.moment_core.specs.Calendar.{month_of, day_of_month, week_of, week_year_of, weekday_of, weeks_in_year}
use Rattle.moment_core.specs.CalendarLaws.{WeekYearsHoldDays}
use Rattle.moment_core.specs.TimeOfDay.{hour_of, minute_of, second_of}
use Rattle.moment_core.specs.Units.{year_len_of, month_len_of, day_of_year}
use Rattle.moment_core.proofs.DateLaws.{days_into_year-is, month_of-is}
use Rattle.moment_core.proofs.FloorLemmas.{floor_arith}
use Rattle.rule_core.specs.FieldChecks.{has_hours, has_minutes, has_seconds, is_yearly}
use Rattle.rule_core.specs.FieldMembers.{first_weekday, meets, meets_day, meets_time}
use Rattle.rule_core.specs.IcalMembers.{meets_part}
use Rattle.rule_core.specs.Values.{is_given, is_listed, meant}
use Rattle.rule_core.specs.declared.field.Counted.{Counted}
use Rattle.rule_core.specs.declared.field.Counted.TheVariants.{OfYear, OfMonth, OfWeek, Never}
use Rattle.rule_core.specs.declared.field.FieldRule.{FieldRule}
use Rattle.sieve_core.specs.Bits.{has_bit, is_zero}
use Rattle.sieve_core.specs.Days.{meets_days, meets_month_days, meets_months, meets_weeks, meets_year_days}
use Rattle.sieve_core.specs.Members.{meets_masks}
use Rattle.sieve_core.specs.declared.tables.DayTest.{DayTest}
use Rattle.sieve_core.specs.declared.tables.Sieve.{Sieve}
use Rattle.sieve_tables.specs.Laws.{TablesTestLists, WeekdaysByThemselves}
use Rattle.sieve_tables.specs.Lowered.{IsTableOf}
use Rattle.field_rules.specs.Tested.{or_first, month_days_by, months_by, week_days_by, weeks_by, year_days_by, yearly_months}
use Rattle.std.proofs.Math.Bool.{and-true}

-- the first value means itself
first_means : (base first own : ℕ) → (own == first) ≡ (int_eq (meant base (pos first)) (pos own)
    || false)
first_means base first own = grind (arith, ints, nat_tests)

pub meets_listed : (values : List ℤ) (base first own : ℕ) → meets values base first own
    ≡ is_listed (or_first values (pos first ∷ [])) base own
unfolding meets is_listed
meets_listed [] base first own = first_means base first own
meets_listed (v ∷ values) base first own = refl

given_first : (values : List ℤ) (first : ℤ) → is_given (or_first values (first ∷ [])) ≡ true
given_first [] first = refl
given_first (v ∷ values) first = refl

meets_filled : (values : List ℤ) (base first own : ℕ) → meets values base first own
    ≡ meets_part (or_first values (pos first ∷ [])) base own
unfolding meets_part
meets_filled values base first own = rw (given_first values (pos first))
    (meets_listed values base first own)

-- the weekday on which weeks begin, as a listed value
pub first_listed : (c : Counted) (r : FieldRule) (number : ℕ) → number ≡ first_weekday r.week_start
    → number ≤ 7
    → week_days_by c r (to_z w64 number ∷ [])
    ≡ week_days_by c r (pos (first_weekday r.week_start) ∷ [])
first_listed c r number is small =
    let value : to_z w64 number ≡ pos (first_weekday r.week_start) =
    omega (arith, ints, is, small) in
    ap (λ z. week_days_by c r (z ∷ [])) value

-- a mask that is zero where no value is listed tests what the list means
pub mask_part : (mask base k : ℕ) (values : List ℤ) → (mask == 0) ≡ not (is_given values)
    → has_bit (mask ∷ []) k ≡ is_listed values base k → ((mask == 0) || has_bit (mask ∷ []) k)
    ≡ meets_part values base k
unfolding meets_part
mask_part mask base k values none bit = rw (none, bit) refl

-- the tables of a rule's test of days
pub record AreTables (c : Counted) (r : FieldRule) (d : DayTest) : Type 0 where
  pub months : (m : ℕ) → IsInRange 1 12 m → ((d.months == 0) || has_bit (d.months ∷ []) m)
      ≡ meets_part (months_by c r) 13 m
  pub weeks : IsTableOf d.weeks 64 (weeks_by c r)
  pub first : d.first ≡ first_weekday r.week_start
  pub weekday : IsInRange 1 7 (first_weekday r.week_start)
  pub year_days : IsTableOf d.year_days 384 (year_days_by c r)
  pub month_days : IsTableOf (d.month_days ∷ []) 32 (month_days_by c r)
  pub week_days : (w : ℕ) → IsInRange 1 7 w → ((d.week_days == 0) || has_bit (d.week_days ∷ []) w)
      ≡ meets_part (week_days_by c r (pos (first_weekday r.week_start) ∷ [])) 8 w
  pub nth : list_all is_zero d.nth ≡ true

-- what the lists test of a day
abbrev lists_meet : Counted → FieldRule → ℤ → Bool
lists_meet c r day =
    let first = first_weekday r.week_start in
    meets_part (months_by c r) 13 (month_of day)
    && meets_part (weeks_by c r) (weeks_in_year first (week_year_of first day) + 1)
    (week_of first day)
    && meets_part (year_days_by c r) (year_len_of day + 1) (day_of_year day)
    && meets_part (month_days_by c r) (month_len_of day + 1) (day_of_month day)
    && meets_part (week_days_by c r (pos first ∷ [])) 8 (weekday_of day)

weekday_within : (day : ℤ) → IsInRange 1 7 (weekday_of day)
unfolding weekday_of
weekday_within day = (omega (arith, floor_arith), omega (arith, floor_arith))

tables_meet : WeekYearsHoldDays → TablesTestLists → WeekdaysByThemselves
    → (c : Counted) (r : FieldRule) (d : DayTest) → AreTables c r d → (day : ℤ) → meets_days d day
    ≡ lists_meet c r day
unfolding meets_days meets_months meets_weeks meets_year_days meets_month_days
tables_meet holds table alone c r d is day =
    let first = first_weekday r.week_start in
    let month = month_of-is day in
    let year = days_into_year-is day in
    let week = holds first day is.weekday in
    let months_at = is.months (month_of day) month.0 in
    let weeks_at = table d.weeks 64 (weeks_in_year first (week_year_of first day))
    (week_of first day) (weeks_by c r) is.weeks week.3 in
    let year_at = table d.year_days 384 (year_len_of day) (day_of_year day) (year_days_by c r)
    is.year_days (omega arith, omega (arith, year.1)) in
    let month_at = table (d.month_days ∷ []) 32 (month_len_of day) (day_of_month day)
    (month_days_by c r) is.month_days month.1 in
    let days_at = alone d.week_days d.nth d.nth_in_month day is.nth ∙ is.week_days (weekday_of day)
    (weekday_within day) in
    rw (is.first, months_at, weeks_at, year_at, month_at, days_at) refl

-- the months of a yearly rule
months_meet : (r : FieldRule) (m : ℕ) → meets_part (yearly_months r) 13 m
    ≡ (not (is_yearly r.freq) || meets r.months 13 1 m)
unfolding meets_part
months_meet r m = by_freq (is_yearly r.freq) refl
  where
    by_freq : (b : Bool) → is_yearly r.freq ≡ b → meets_part (yearly_months r) 13 m
        ≡ (not (is_yearly r.freq) || meets r.months 13 1 m)
    by_freq true e = rw e (sym (meets_filled r.months 13 1 m))
    by_freq false e = rw e refl

lists_same : (c : Counted) (r : FieldRule) (day : ℤ) → lists_meet c r day ≡ meets_day c r day
unfolding meets_day meets_part
lists_same OfYear r day = and-true _ ∙ and-true _
    ∙ sym (meets_filled r.days (year_len_of day + 1) 1 (day_of_year day))
lists_same OfMonth r day =
    and-true _ ∙ rw (
      months_meet r (month_of day),
      sym (meets_filled r.days (month_len_of day + 1) 1
          (day_of_month day)),
      and-true (not (is_yearly r.freq) || meets r.months 13 1 (month_of day)),
      and-true (not (is_yearly r.freq) || meets r.months 13 1 (month_of day)),
    ) refl
lists_same OfWeek r day =
    let first = first_weekday r.week_start in
    let weeks = not (is_given r.weeks)
    || is_listed r.weeks (weeks_in_year first (week_year_of first day) + 1) (week_of first day) in
    rw (and-true weeks, and-true weeks, meets_filled r.days 8 first (weekday_of day)) refl
lists_same Never r day = refl

pub days_same : WeekYearsHoldDays → TablesTestLists → WeekdaysByThemselves
    → (c : Counted) (r : FieldRule) (d : DayTest) → AreTables c r d → (day : ℤ) → meets_days d day
    ≡ meets_day c r day
days_same holds table alone c r d is day = tables_meet holds table alone c r d is day
    ∙ lists_same c r day

-- the masks of a rule's test of the time of day
pub times_same : (r : FieldRule) (s : Sieve)
    → ((k : ℕ) → k < 24 → has_bit (s.hours ∷ []) k
    ≡ (not (has_hours r.freq) || meets r.hours 24 0 k))
    → ((k : ℕ) → k < 60 → has_bit (s.minutes ∷ []) k
    ≡ (not (has_minutes r.freq) || meets r.minutes 60 0 k))
    → ((k : ℕ) → k < 60 → has_bit (s.seconds ∷ []) k
    ≡ (not (has_seconds r.freq) || meets r.seconds 60 0 k))
    → (t : ℤ) → meets_masks s (hour_of t) (minute_of t) (second_of t) ≡ meets_time r t
unfolding meets_masks meets_time
times_same r s hours minutes seconds t =
    rw (
      hours (hour_of t) (omega (arith, floor_arith)),
      minutes (minute_of t) (omega arith),
      seconds
          (second_of t) (omega arith),
    ) refl
