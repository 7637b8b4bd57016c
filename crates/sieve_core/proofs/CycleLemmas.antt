-- After 400 years the tests are met again, and after enough of them the interval is too.
use Rattle.std.proofs.Common.{◌≡◌, ℕ, ◌*◌, ◌<◌, suc, zero, refl, ap, ◌∙◌, arith, ℤ, pos, ◌+ℤ◌, ◌-ℤ◌}
use Rattle.std.proofs.lemmas.Int.{ints}
use Rattle.std.specs.Int.{IsInRange}
use Rattle.moment_core.proofs.CycleLaws.{divides-multiple, later-more, later-none, unit_of-cycles}
use Rattle.moment_core.proofs.DateLaws.{days_into_year-cycle, month_of-cycle, day_of_month-cycle, weekday_of-cycle}
use Rattle.moment_core.proofs.TimeLaws.{day_of-cycle}
use Rattle.moment_core.proofs.WeekLaws.{week_year_of-cycle, week_of-cycle, weeks_in_year-cycle}
use Rattle.moment_core.proofs.YearLaws.{is_leap-cycle, year_of-cycle}
use Rattle.moment_core.specs.Calendar.{divides, is_leap, year_of, week_year_of, weeks_in_year}
use Rattle.moment_core.specs.TimeOfDay.{day_of}
use Rattle.moment_core.specs.Sets.{ahead}
use Rattle.moment_core.specs.declared.line.TheConstants.{G}
use Rattle.moment_core.specs.declared.line.Dir.{Dir}
use Rattle.moment_core.specs.declared.line.Dir.TheVariants.{Fore, Back}
use Rattle.sieve_core.specs.declared.tables.DayTest.{DayTest}
use Rattle.sieve_core.specs.declared.tables.Sieve.{Sieve}
use Rattle.sieve_core.specs.Days.{meets_months, meets_weeks, meets_year_days, meets_month_days, meets_weekdays, is_nth_weekday, meets_days}
use Rattle.moment_core.specs.Ranks.{rank_in}
use Rattle.sieve_core.specs.Members.{meets_tests, meets_interval, meets_rank, meets_rule, counts_for, rank_of}
use Rattle.moment_core.specs.Units.{unit_of, units_of}
use Rattle.moment_core.proofs.Counting.{count-same}
use Rattle.moment_core.proofs.Comparing.{int_eq-same}
use Rattle.moment_core.proofs.LineLaws.{ahead-later}

-- the day's tests
meets_days-cycle : (d : DayTest) (day : ℤ) → IsInRange 1 7 d.first
    → meets_days d (day +ℤ pos 146_097) ≡ meets_days d day
unfolding meets_days meets_months meets_weeks meets_year_days meets_month_days meets_weekdays
    is_nth_weekday
meets_days-cycle d day first =
    let leap : is_leap (year_of day +ℤ pos 400) ≡ is_leap (year_of day) =
    is_leap-cycle (year_of day) in
    let weeks : weeks_in_year d.first (week_year_of d.first day +ℤ pos 400) ≡ weeks_in_year d.first
    (week_year_of d.first day) = weeks_in_year-cycle d.first (week_year_of d.first day) in
    rw (
      month_of-cycle day,
      week_of-cycle d.first day,
      week_year_of-cycle d.first day,
      weeks,
      year_of-cycle day,
      leap,
      days_into_year-cycle day,
      day_of_month-cycle day,
      weekday_of-cycle day,
    )
    refl

meets_tests-cycle : (s : Sieve) (t : ℤ) → IsInRange 1 7 s.days.first → meets_tests s (t +ℤ pos G)
    ≡ meets_tests s t
unfolding meets_tests
meets_tests-cycle s t first =
    let place = day_of-cycle t in
    rw (place.0, place.1, meets_days-cycle s.days (day_of t) first) refl

-- the same after m times 400 years
meets_tests-cycles : (s : Sieve) (t : ℤ) (m : ℕ) → IsInRange 1 7 s.days.first
    → meets_tests s (t +ℤ pos (m * G)) ≡ meets_tests s t
meets_tests-cycles s t zero first = ap (meets_tests s) (later-none t G)
meets_tests-cycles s t (suc m) first =
    ap (meets_tests s) (later-more t m G) ∙ meets_tests-cycle s (t +ℤ pos (m * G)) first
    ∙ meets_tests-cycles s t m first

meets_interval-cycles : (s : Sieve) (t : ℤ) (m j : ℕ) → 0 < s.interval → m * units_of s.unit
    ≡ j * s.interval → meets_interval s (t +ℤ pos (m * G)) ≡ meets_interval s t
unfolding meets_interval
meets_interval-cycles s t m j some e =
    let number : unit_of s.unit (t +ℤ pos (m * G)) -ℤ s.phase ≡ (unit_of s.unit t -ℤ s.phase) +ℤ pos
    (j * s.interval) = rw (unit_of-cycles s.unit t m, e) (omega (arith, ints)) in
    ap (divides s.interval) number ∙ divides-multiple s.interval (unit_of s.unit t -ℤ s.phase) j
    some

-- ranks too

counts_for-cycles : (s : Sieve) (t u : ℤ) (m : ℕ) → IsInRange 1 7 s.days.first
    → counts_for s (t +ℤ pos (m * G)) (u +ℤ pos (m * G)) ≡ counts_for s t u
counts_for-cycles s t u m first =
    rw (
      unit_of-cycles s.unit t m,
      unit_of-cycles s.unit u m,
      int_eq-same (unit_of s.unit u)
          (unit_of s.unit t) (m * units_of s.unit),
      meets_tests-cycles s u m first,
    ) refl

rank_of-cycles : (s : Sieve) (dir : Dir) (t : ℤ) (m : ℕ) → IsInRange 1 7 s.days.first
    → rank_of s dir (t +ℤ pos (m * G)) ≡ rank_of s dir t
unfolding rank_in
rank_of-cycles s dir t m first =
    count-same _ _ _ (λ k below. ap (counts_for s (t +ℤ pos (m * G))) (ahead-later dir t (m * G) k)
    ∙ counts_for-cycles s t (ahead dir t k) m first)

meets_rank-cycles : (s : Sieve) (t : ℤ) (m : ℕ) → IsInRange 1 7 s.days.first
    → meets_rank s (t +ℤ pos (m * G)) ≡ meets_rank s t
unfolding meets_rank
meets_rank-cycles s t m first = rw (
  rank_of-cycles s Back t m first,
  rank_of-cycles s Fore t m
      first,
) refl

-- the whole rule
pub meets_rule-cycles : (s : Sieve) (t : ℤ) (m j : ℕ) → IsInRange 1 7 s.days.first → 0 < s.interval
    → m * units_of s.unit ≡ j * s.interval → meets_rule s (t +ℤ pos (m * G)) ≡ meets_rule s t
unfolding meets_rule
meets_rule-cycles s t m j first some e =
    rw (
      meets_tests-cycles s t m first,
      meets_interval-cycles s t m j some e,
      meets_rank-cycles s t
          m first,
    ) refl

pub rank_of-cycle : (s : Sieve) (dir : Dir) (t : ℤ) → IsInRange 1 7 s.days.first
    → rank_of s dir (t +ℤ pos G) ≡ rank_of s dir t
rank_of-cycle s dir t first = ap (λ n. rank_of s dir (t +ℤ pos n)) one ∙ rank_of-cycles s dir t 1
    first
  where
    one : G ≡ 1 * G
    one = omega arith
