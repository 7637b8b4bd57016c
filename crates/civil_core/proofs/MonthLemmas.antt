-- The months one after another, and the days of a month.
use Rattle.std.proofs.Common.{◌≡◌, ℕ, suc, ◌+◌, ◌-◌, ◌%◌, ◌<◌, ◌≤◌, Bool, true, false, cond, nat_eq, refl, sym, ap, ◌∙◌, arith, ℤ, pos, ◌+ℤ◌}
use Rattle.std.specs.Int.{IsInRange}
use Rattle.moment_core.proofs.FloorLemmas.{floor_arith}
use Rattle.moment_core.specs.Calendar.{is_leap, year_len, month_len, days_of_months, day_number, year_of, month_of, day_of_month, days_into_year, weekday_of}
use Rattle.moment_core.proofs.YearLaws.{mono}
use Rattle.moment_core.proofs.DateLaws.{days_of_months-zero, days_of_months-suc, days_of_months-step, month_of-is, day_number-of, date-of_day_number, month_len_bounds}
use Rattle.moment_core.proofs.MonthLaws.{day_number-day, day_number-next_month, day_number-next_year}
use Rattle.civil_core.specs.declared.months.CivilMonth.{CivilMonth}
use Rattle.civil_core.specs.Months.{IsMonth, IsDayIn}

pub weekday_of-on : (d : ℤ) (n : ℕ) → weekday_of (d +ℤ pos n) ≡ (weekday_of d + n + 6) % 7 + 1
unfolding weekday_of
weekday_of-on d n = omega (arith, floor_arith)

pub weekday_of-back : (d e : ℤ) (n : ℕ) → n ≤ 34 → e +ℤ pos n ≡ d → weekday_of e
    ≡ (weekday_of d + 34 - n) % 7 + 1
unfolding weekday_of
weekday_of-back d e n few place = omega (arith, floor_arith)

weekday_of_range : (d : ℤ) → IsInRange 1 7 (weekday_of d)
unfolding weekday_of
weekday_of_range d = (omega (arith, floor_arith), omega (arith, floor_arith))

days_of_eleven : (leap : Bool) → days_of_months leap 11 ≡ cond leap 335 334
unfolding days_of_months
days_of_eleven true = refl
days_of_eleven false = refl

days_of_eleven_most : (leap : Bool) → days_of_months leap 11 ≤ 335
days_of_eleven_most true = omega (arith, days_of_eleven true)
days_of_eleven_most false = omega (arith, days_of_eleven false)

befores-most : (leap : Bool) (n : ℕ) → n ≤ 11 → days_of_months leap n ≤ 335
befores-most leap n h =
    omega (
      arith,
      mono (days_of_months leap)
          (days_of_months-step leap) n 11 h,
      days_of_eleven_most leap,
    )

-- what is left follows
pub month-from : (r : CivilMonth) → IsInRange 1 12 r.month → r.leap ≡ is_leap r.year → r.first
    ≡ day_number r.year r.month 1 → r.weekday ≡ weekday_of r.first → r.len
    ≡ month_len r.leap r.month → r.before ≡ days_of_months r.leap (r.month - 1) → IsMonth r
month-from r month leap first weekday len before =
    let long = month_len_bounds r.leap r.month in
    record {
      month = month;
      leap = leap;
      first = first;
      weekday = weekday;
      len = len;
      before = before;
      weekdays = rw weekday (weekday_of_range r.first);
      lens = rw len long;
      befores = rw before (befores-most r.leap (r.month - 1) (omega (arith, month.1)));
    }

pub leap-of-len : (y : ℤ) (n : ℕ) → n ≡ year_len y → nat_eq n 366 ≡ is_leap y
leap-of-len y n e =
    rw e (elim (is_leap y) as (λ b. nat_eq (cond b 366 365) 366 ≡ b) [ true ↦ refl | false ↦ refl ])

-- the month of a day
pub month-of-day : (r : CivilMonth) (d : ℤ) → r.year ≡ year_of d → r.month ≡ month_of d → r.leap
    ≡ is_leap (year_of d) → r.first +ℤ pos (day_of_month d - 1) ≡ d → r.weekday
    ≡ (weekday_of d + 34 - (day_of_month d - 1)) % 7 + 1 → r.len
    ≡ month_len (is_leap (year_of d)) (month_of d) → r.before + day_of_month d
    ≡ days_into_year d + 1 → IsMonth r
month-of-day r d year month leap first weekday len before =
    let is = month_of-is d in
    let day = is.1.0 in
    let long = month_len_bounds (is_leap (year_of d)) (month_of d) in
    let within = is.1.1 in
    let start : r.first ≡ day_number (year_of d) (month_of d) 1 = omega (
      arith,
      floor_arith,
      day_number-day (year_of d) (month_of d) (day_of_month d) day,
      day_number-of d,
      first,
    ) in
    let passed : r.before ≡ days_of_months (is_leap (year_of d)) (month_of d - 1) = omega (
      arith,
      is.2,
      before,
    ) in
    month-from r (rw month is.0) (rw year leap) (rw (year, month) start)
    (weekday ∙ sym (weekday_of-back d r.first (day_of_month d - 1) (omega
    (arith, day, within, long)) first))
    (rw (leap, month) len) (rw (leap, month) passed)

-- the next month of a year
pub month-later : (m r : CivilMonth) → IsMonth m → m.month < 12 → r.year ≡ m.year → r.month
    ≡ m.month + 1 → r.leap ≡ m.leap → r.first ≡ m.first +ℤ pos m.len → r.weekday
    ≡ (m.weekday + m.len + 6) % 7 + 1 → r.len ≡ month_len m.leap (m.month + 1) → r.before
    ≡ m.before + m.len → IsMonth r
month-later m r is below year month leap first weekday len before =
    let low = is.month.0 in
    let back : m.month + 1 - 1 ≡ m.month = omega arith in
    let ahead : suc (m.month - 1) ≡ m.month = omega (arith, low) in
    let more = rw ahead at (days_of_months-suc m.leap (m.month - 1)) in
    let here : m.len ≡ month_len (is_leap m.year) m.month = is.len
    ∙ ap (λ b. month_len b m.month) is.leap in
    let start : r.first ≡ day_number m.year (m.month + 1) 1 = first
    ∙ sym (day_number-next_month m.year m.month low ∙ rw (is.first, here) refl) in
    let passed : r.before ≡ days_of_months m.leap m.month = before
    ∙ sym (more ∙ rw (is.before, is.len) refl) in
    month-from r (rw month (omega arith, omega (arith, below))) (leap ∙ is.leap ∙ ap is_leap
    (sym year))
    (rw (year, month) start)
    (weekday ∙ rw (first, is.weekday) (sym (weekday_of-on m.first m.len))) (rw (leap, month) len)
    (rw (leap, month, back) passed)

-- January after December
pub month-january : (m r : CivilMonth) → IsMonth m → m.month ≡ 12 → r.year ≡ m.year +ℤ pos 1
    → r.month ≡ 1 → r.leap ≡ is_leap r.year → r.first ≡ m.first +ℤ pos m.len → r.weekday
    ≡ (m.weekday + m.len + 6) % 7 + 1 → r.len ≡ 31 → r.before ≡ 0 → IsMonth r
month-january m r is last year month leap first weekday len before =
    let here : m.len ≡ month_len (is_leap m.year) m.month = is.len
    ∙ ap (λ b. month_len b m.month) is.leap in
    let start : r.first ≡ day_number (m.year +ℤ pos 1) 1 1 = first
    ∙ rw (is.first, here, last) (sym (day_number-next_year m.year)) in
    month-from r (rw month (omega arith, omega arith)) leap (rw (year, month) start)
    (weekday ∙ rw (first, is.weekday) (sym (weekday_of-on m.first m.len))) (rw month len)
    (rw month (before ∙ sym (days_of_months-zero r.leap)))

-- the month before, by the next of it
pub month-earlier : (m r : CivilMonth) → IsMonth m → 1 < m.month → r.year ≡ m.year → r.month + 1
    ≡ m.month → r.leap ≡ m.leap → r.first +ℤ pos r.len ≡ m.first → r.weekday
    ≡ (m.weekday + 34 - r.len) % 7 + 1 → r.len ≡ month_len m.leap r.month → r.before + r.len
    ≡ m.before → IsMonth r
month-earlier m r is above year month leap first weekday len before =
    let high = is.month.1 in
    let low : 1 ≤ r.month = omega (arith, above, month) in
    let back : m.month - 1 ≡ r.month = omega (arith, month) in
    let ahead : suc (r.month - 1) ≡ r.month = omega (arith, low) in
    let more = rw ahead at (days_of_months-suc m.leap (r.month - 1)) in
    let long = month_len_bounds m.leap r.month in
    let here : r.len ≡ month_len (is_leap m.year) r.month = len
    ∙ ap (λ b. month_len b r.month) is.leap in
    let next : m.first ≡ day_number m.year r.month 1 +ℤ pos r.len = is.first
    ∙ rw (← month) (day_number-next_month m.year r.month low ∙ rw here refl) in
    let start : r.first ≡ day_number m.year r.month 1 = omega (arith, floor_arith, first, next) in
    let total : m.before ≡ days_of_months m.leap r.month = is.before ∙ ap
    (days_of_months m.leap) back in
    let passed : r.before ≡ days_of_months m.leap (r.month - 1) = omega
    (arith, before, total, more, len) in
    month-from r (low, omega (arith, month, high)) (leap ∙ is.leap ∙ ap is_leap (sym year))
    (rw year start)
    (weekday
    ∙ rw is.weekday (sym (weekday_of-back m.first r.first r.len (omega (arith, len, long)) first)))
    (rw leap len) (rw leap passed)

-- December before January
pub month-december : (m r : CivilMonth) → IsMonth m → m.month ≡ 1 → r.year +ℤ pos 1 ≡ m.year
    → r.month ≡ 12 → r.leap ≡ is_leap r.year → r.first +ℤ pos 31 ≡ m.first → r.weekday
    ≡ (m.weekday + 3) % 7 + 1 → r.len ≡ 31 → r.before ≡ cond r.leap 335 334 → IsMonth r
month-december m r is begins year month leap first weekday len before =
    let next : m.first ≡ day_number r.year 12 1 +ℤ pos 31 = is.first
    ∙ rw (begins, ← year) (day_number-next_year r.year) in
    let start : r.first ≡ day_number r.year 12 1 = omega (arith, floor_arith, first, next) in
    let shift : m.weekday + 3 ≡ m.weekday + 34 - 31 = omega arith in
    month-from r (rw month (omega arith, omega arith)) leap (rw month start)
    (weekday ∙ ap (λ n. n % 7 + 1) shift ∙ rw is.weekday (sym (weekday_of-back m.first r.first 31
    (omega arith) first)))
    (rw month len) (rw month (before ∙ sym (days_of_eleven r.leap)))

pub before-earlier : (m : CivilMonth) (n : ℕ) → IsMonth m → 1 < m.month → n
    ≡ month_len m.leap (m.month - 1) → n ≤ m.before
before-earlier m n is above e =
    let ahead : suc (m.month - 1 - 1) ≡ m.month - 1 = omega (arith, above) in
    let more = rw ahead at (days_of_months-suc m.leap (m.month - 1 - 1)) in
    omega (arith, more, is.before, e)

-- what day i of a month is
pub day-in : (m : CivilMonth) (i : ℕ) → IsMonth m → i < m.len → IsDayIn m i (m.first +ℤ pos i)
day-in m i is below =
    let d = day_number m.year m.month (i + 1) in
    let here : m.len ≡ month_len (is_leap m.year) m.month = is.len
    ∙ ap (λ b. month_len b m.month) is.leap in
    let place : m.first +ℤ pos i ≡ d = omega (
      arith,
      floor_arith,
      is.first,
      day_number-day m.year m.month (i + 1) (omega arith),
    ) in
    let date = date-of_day_number m.year m.month (i + 1) is.month
    (omega arith, omega (arith, here, below)) in
    let passed : days_of_months (is_leap m.year) (m.month - 1) + (i + 1) ≡ days_into_year d + 1 =
    rw (date.0, date.1, date.2) at (month_of-is d).2 in
    let before : m.before ≡ days_of_months (is_leap m.year) (m.month - 1) = is.before
    ∙ ap (λ b. days_of_months b (m.month - 1)) is.leap in
    record {
      year = rw place date.0;
      leap = rw (place, date.0) (sym is.leap);
      month = rw place date.1;
      day = rw place date.2;
      into = rw place (omega (arith, passed, before));
      weekday = weekday_of-on m.first i ∙ rw (← is.weekday) refl;
      len = rw (place, date.0, date.1) (sym here);
    }
