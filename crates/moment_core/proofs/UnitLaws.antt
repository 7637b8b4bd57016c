-- The numbers of the units that hold a moment.
use Rattle.std.proofs.Common.{◌≡◌, ℕ, ◌-◌, ◌*◌, refl, sym, ap, ◌∙◌, arith, ℤ, pos, ◌+ℤ◌, ◌≤ℤ◌, ◌<ℤ◌}
use Rattle.std.proofs.lemmas.Int.{ints}
use Rattle.std.specs.Int.{IsInRange}
use Rattle.moment_core.proofs.FloorLemmas.{floor_arith}
use Rattle.moment_core.proofs.DateLaws.{month_number_mono, month_of-is}
use Rattle.moment_core.proofs.MonthLaws.{floor12-unique, month_number-cycle}
use Rattle.moment_core.proofs.TimeLaws.{day_of-cycle}
use Rattle.moment_core.proofs.WeekLaws.{week_number-cycle, week_number_mono, week_year_of-cycle, week_year_of-is, week_year_of_mono, weeks_in_year-is}
use Rattle.moment_core.proofs.YearLaws.{first_day-next, year_len_bounds, year_of-cycle, year_of-is, year_of_mono}
use Rattle.moment_core.specs.Calendar.{first_day, floor_div, month_number, month_of, week_number, week_one, week_year_of, year_of}
use Rattle.moment_core.specs.TimeOfDay.{day_of}
use Rattle.moment_core.specs.Units.{HasWeekday, unit_of, units_of}
use Rattle.moment_core.specs.declared.line.TheConstants.{G}
use Rattle.moment_core.specs.declared.units.Unit.{Unit as TimeUnit}
use Rattle.moment_core.specs.declared.units.Unit.TheVariants.{Year, WeekYear, Month, Week, Day, Hour, Minute, Second}

-- 400 years later the number is that of as many units later
pub unit_of-cycle : (u : TimeUnit) (t : ℤ) → unit_of u (t +ℤ pos G)
    ≡ unit_of u t +ℤ pos (units_of u)
unfolding unit_of
unit_of-cycle Year t = rw ((day_of-cycle t).0) (year_of-cycle (day_of t))
unit_of-cycle (WeekYear first) t = rw ((day_of-cycle t).0) (week_year_of-cycle first (day_of t))
unit_of-cycle Month t = rw ((day_of-cycle t).0) (month_number-cycle (day_of t))
unit_of-cycle (Week first) t = rw ((day_of-cycle t).0) (week_number-cycle first (day_of t))
unit_of-cycle Day t = (day_of-cycle t).0
unit_of-cycle Hour t = omega (arith, floor_arith)
unit_of-cycle Minute t = omega (arith, floor_arith)
unit_of-cycle Second t = refl

-- later moments are of later units
pub unit_of_mono : (u : TimeUnit) (t later : ℤ) → HasWeekday u → t ≤ℤ later → unit_of u t ≤ℤ unit_of
    u later
unfolding unit_of
unit_of_mono Year t later weekday le = year_of_mono (day_of t) (day_of later)
    (omega (arith, floor_arith))
unit_of_mono (WeekYear first) t later weekday le = week_year_of_mono first (day_of t) (day_of later)
    weekday (omega (arith, floor_arith))
unit_of_mono Month t later weekday le = month_number_mono (day_of t) (day_of later)
    (omega (arith, floor_arith))
unit_of_mono (Week first) t later weekday le = week_number_mono first (day_of t) (day_of later)
    (omega (arith, floor_arith))
unit_of_mono Day t later weekday le = omega (arith, floor_arith)
unit_of_mono Hour t later weekday le = omega (arith, floor_arith)
unit_of_mono Minute t later weekday le = omega (arith, floor_arith)
unit_of_mono Second t later weekday le = le

-- days of one year, and of one week-year
same-year : (a b : ℤ) → year_of a ≡ year_of b → b <ℤ (a +ℤ pos 366)
same-year a b same =
    let x = year_of-is a in
    let y = year_of-is b in
    let next = first_day-next (year_of a) in
    let most = year_len_bounds (year_of a) in
    let below : b <ℤ first_day (year_of a +ℤ pos 1) = rw same y.1 in
    omega (arith, ints, x.0, below, next, most.1)

same-week_year : (first : ℕ) (a b : ℤ) → IsInRange 1 7 first → week_year_of first a
    ≡ week_year_of first b → b <ℤ (a +ℤ pos 371)
same-week_year first a b weekday same =
    let x = week_year_of-is first a weekday in
    let y = week_year_of-is first b weekday in
    let next = weeks_in_year-is first (week_year_of first a) weekday in
    let below : b <ℤ week_one first (week_year_of first a +ℤ pos 1) = rw same y.1 in
    omega (arith, ints, x.0, below, next.0, next.1)

same-month : (a b : ℤ) → month_number a ≡ month_number b → year_of a ≡ year_of b
unfolding month_number
same-month a b same =
    let x = month_of-is a in
    let y = month_of-is b in
    let p = floor12-unique (month_number a) (year_of a) (month_of a - 1) (omega arith) refl in
    let q = floor12-unique (month_number b) (year_of b) (month_of b - 1) (omega arith) refl in
    sym p.0 ∙ ap (λ z. floor_div z 12) same ∙ q.0

-- no unit has more than 53 weeks
pub days-of-unit : (u : TimeUnit) (t later : ℤ) → HasWeekday u → unit_of u t ≡ unit_of u later
    → day_of later <ℤ (day_of t +ℤ pos 371)
unfolding unit_of week_number
days-of-unit Year t later weekday same = let h = same-year (day_of t) (day_of later) same in
    omega (arith, ints, h)
days-of-unit (WeekYear first) t later weekday same = same-week_year first (day_of t) (day_of later)
    weekday same
days-of-unit Month t later weekday same = let h = same-year (day_of t) (day_of later)
    (same-month (day_of t) (day_of later) same) in omega (arith, ints, h)
days-of-unit (Week first) t later weekday same = omega (arith, floor_arith)
days-of-unit Day t later weekday same = omega (arith, floor_arith)
days-of-unit Hour t later weekday same = omega (arith, floor_arith)
days-of-unit Minute t later weekday same = omega (arith, floor_arith)
days-of-unit Second t later weekday same = omega (arith, floor_arith)

-- so its moments lie less than 54 weeks apart
pub unit-below-54-weeks : (u : TimeUnit) (t later : ℤ) → HasWeekday u → unit_of u t
    ≡ unit_of u later → later <ℤ (t +ℤ pos (54 * 604_800))
unit-below-54-weeks u t later weekday same =
    let h = days-of-unit u t later weekday same in
    omega (arith, floor_arith)
