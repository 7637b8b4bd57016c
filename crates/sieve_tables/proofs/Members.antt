-- The tests of a rule's sieve are those of the rule.
use Rattle.std.proofs.Common.{◌≡◌, ℤ, pos, Bool, true, false, ◌&&◌, refl, sym, ap, ◌∙◌, arith}
use Rattle.moment_core.specs.Calendar.{divides, month_of, day_of_month, week_of, week_year_of, weeks_in_year}
use Rattle.moment_core.specs.CalendarLaws.{WeekYearsHoldDays}
use Rattle.moment_core.specs.TimeOfDay.{day_of, hour_of, minute_of, second_of}
use Rattle.moment_core.specs.Units.{unit_of, year_len_of, month_len_of, day_of_year}
use Rattle.moment_core.specs.Ranks.{rank_in, counts_with}
use Rattle.moment_core.specs.Sets.{seen}
use Rattle.moment_core.specs.declared.line.Dir.{Dir}
use Rattle.moment_core.specs.declared.line.Dir.TheVariants.{Fore, Back}
use Rattle.std.specs.Prelude.{int_le, neg_ℤ, unsigned_abs, ◌-ℤ◌}
use Rattle.moment_core.specs.declared.units.Unit.{Unit as TimeUnit}
use Rattle.moment_core.proofs.DateLaws.{days_into_year-is, month_of-is}
use Rattle.moment_core.proofs.FloorLemmas.{floor_arith}
use Rattle.moment_core.proofs.Counting.{count-same}
use Rattle.rule_core.specs.declared.ical.IcalRule.{IcalRule}
use Rattle.rule_core.specs.IcalMembers.{filled, has_uncounted, ical_unit, is_by, meets_set_pos, meets_by_date, meets_by_time, meets_by_day, meets_parts}
use Rattle.sieve_core.specs.declared.tables.Sieve.{Sieve}
use Rattle.sieve_core.specs.Days.{meets_days, meets_months, meets_month_days, meets_weeks, meets_year_days}
use Rattle.sieve_core.specs.Members.{meets_interval, meets_masks, meets_rank, meets_rule, meets_tests}
use Rattle.sieve_tables.specs.Lowered.{IsSieveOf, has_until}
use Rattle.sieve_tables.proofs.WeekdayLemmas.{by_day_same}
use Rattle.sieve_tables.proofs.TableLemmas.{table_has, table_same, plain_part, either_listed}

-- tests that agree everywhere give the same ranks

pub rank_same : (unit : TimeUnit) (f g : ℤ → Bool) → ((t : ℤ) → f t ≡ g t) → (dir : Dir) (t : ℤ)
    → rank_in unit f dir t ≡ rank_in unit g dir t
unfolding rank_in
rank_same unit f g same dir t = count-same (seen (counts_with unit f t) dir t)
    (seen (counts_with unit g t) dir t) _ (λ n below. rw (same _) refl)

-- the same tests in another order
and_order : (a b c d e : Bool) → ((a && (b && c && d)) && e) ≡ ((((a && c) && b) && d) && e)
and_order false b c d e = refl
and_order true true true d e = refl
and_order true true false d e = refl
and_order true false true d e = refl
and_order true false false d e = refl

regroup : (a a' b b' c c' d d' e : Bool) → a ≡ a' → b ≡ b' → c ≡ c' → d ≡ d'
    → ((a && (b && c && d)) && e) ≡ ((((a' && c') && b') && d') && e)
regroup a a' b b' c c' d d' e p q r s =
    let same : ((a && (b && c && d)) && e) ≡ ((a' && (b' && c' && d')) && e) = cc in
    same ∙ and_order a' b' c' d' e

module _ (holds : WeekYearsHoldDays) (r : IcalRule) (s : Sieve) (is : IsSieveOf r s) where
  days_same : (day : ℤ) → meets_days s.days day ≡ meets_by_date (filled r) day
  unfolding meets_days meets_months meets_weeks meets_year_days meets_month_days meets_by_date
      meets_by_day filled
  days_same day =
      let month = month_of-is day in
      let year = days_into_year-is day in
      let week = holds r.week_start day is.days.weekday in
      let months_at = is.days.months (month_of day) (omega (arith, month.0.0))
      (omega (arith, month.0.1)) ∙ sym (plain_part (month_of day) (filled r).by_month) in
      let weeks_at = table_same s.days.weeks 64
      (weeks_in_year r.week_start (week_year_of r.week_start day)) (week_of r.week_start day)
      (filled r).by_week is.days.weeks week.3 in
      let year_at = table_same s.days.year_days 384 (year_len_of day) (day_of_year day)
      (filled r).by_year_day is.days.year_days (omega arith, omega (arith, year.1)) in
      let month_at = table_same _ 32 (month_len_of day) (day_of_month day) (filled r).by_month_day
      is.days.month_days month.1 in
      let days_at = by_day_same s.days.week_days s.days.nth (filled r).by_day is.days.week_days
      s.days.nth_in_month day month.1 (omega arith, omega (arith, year.1)) in
      rw (is.days.first, months_at, weeks_at, year_at, month_at, days_at, is.days.in_month) refl

  time_same : (t : ℤ) → meets_masks s (hour_of t) (minute_of t) (second_of t)
      ≡ meets_by_time (filled r) t
  unfolding meets_masks meets_by_time
  time_same t =
      let hours = is.hours (hour_of t) (omega (arith, floor_arith))
      ∙ sym (plain_part (hour_of t) (filled r).by_hour) in
      let minutes = is.minutes (minute_of t) (omega arith)
      ∙ sym (plain_part (minute_of t) (filled r).by_minute) in
      let seconds = is.seconds (second_of t) (omega arith)
      ∙ sym (plain_part (second_of t) (filled r).by_second) in
      rw (hours, minutes, seconds) refl

  pub tests_same : (t : ℤ) → meets_tests s t ≡ meets_parts r t
  unfolding meets_tests meets_parts
  tests_same t = rw (days_same (day_of t), time_same t) refl

  set_pos_same : (t : ℤ) → meets_rank s t ≡ meets_set_pos r t
  unfolding meets_rank meets_set_pos
  set_pos_same t =
      let back = rank_same s.unit (meets_tests s) (meets_parts r) tests_same Back t in
      let fore = rank_same s.unit (meets_tests s) (meets_parts r) tests_same Fore t in
      rw (
        is.rank.none,
        back,
        fore,
        is.unit,
        table_has s.rank.0 384
            (rank_in (ical_unit r) (meets_parts r) Back t)
            (rank_in (ical_unit r) (meets_parts r) Fore t) r.by_set_pos is.rank,
        either_listed r.by_set_pos
            (pos (rank_in (ical_unit r) (meets_parts r) Back t))
            (neg_ℤ (pos (rank_in (ical_unit r) (meets_parts r) Fore t))),
      ) refl

  interval_same : (t : ℤ) → meets_interval s t ≡ divides (unsigned_abs r.interval)
      (unit_of (ical_unit r) t -ℤ unit_of (ical_unit r) r.start.moment.0)
  unfolding meets_interval
  interval_same t = rw (is.interval, is.unit, is.phase) refl

  pub members_same : (t : ℤ) → has_until s r.until t ≡ has_uncounted r t
  unfolding has_until meets_rule has_uncounted
  members_same t =
      let first : int_le s.first.0 t ≡ int_le r.start.moment.0 t = ap (λ z. int_le z t) is.begins in
      regroup (int_le s.first.0 t) (int_le r.start.moment.0 t) (meets_tests s t) (meets_parts r t)
      (meets_interval s t) _ (meets_rank s t) (meets_set_pos r t) (is_by r.until t)
      first (tests_same t) (interval_same t) (set_pos_same t)
