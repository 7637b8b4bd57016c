-- Months as units: where each begins, and that a day lies in the month of its number.
use Rattle.std.proofs.Common.{◌≡◌, ℕ, suc, ◌+◌, ◌-◌, ◌<◌, ◌≤◌, inl, inr, refl, ap, ◌∙◌, arith, ℤ, pos, ◌+ℤ◌, ◌*ℤ◌, ◌<ℤ◌, ◌≤ℤ◌}
use Rattle.std.specs.Int.{IsInRange}
use Rattle.std.proofs.lemmas.Bool.{cases_lt}
use Rattle.std.proofs.lemmas.Int.{by_lt_z}
use Rattle.moment_core.proofs.FloorLemmas.{floor_arith}
use Rattle.moment_core.specs.Calendar.{floor_div, floor_mod, is_leap, month_len, days_of_months, first_day, day_number, year_of, month_of, day_of_month, month_number, month_first}
use Rattle.moment_core.proofs.YearLaws.{first_day-next, year_of-cycle}
use Rattle.moment_core.proofs.DateLaws.{days_of_months-zero, days_of_months-suc, days_of_months-year, month_of-is, month_of-cycle, day_number-of, date-of_day_number, month_len_bounds, month_number_mono}

pub day_number-january : (y : ℤ) (d : ℕ) → 1 ≤ d → day_number y 1 d +ℤ pos 1 ≡ first_day y +ℤ pos d
unfolding day_number
day_number-january y d h = omega (arith, floor_arith, days_of_months-zero (is_leap y))

-- within a month the day number goes with the day
pub day_number-day : (y : ℤ) (m d : ℕ) → 1 ≤ d → day_number y m d +ℤ pos 1 ≡ day_number y m 1 +ℤ pos
    d
unfolding day_number
day_number-day y m d h = omega (arith, floor_arith)

-- the next month begins after the days of this one
pub day_number-next_month : (y : ℤ) (m : ℕ) → 1 ≤ m → day_number y (m + 1) 1
    ≡ day_number y m 1 +ℤ pos (month_len (is_leap y) m)
unfolding day_number
day_number-next_month y m h =
    let back : m + 1 - 1 ≡ m = omega arith in
    let ahead : suc (m - 1) ≡ m = omega arith in
    let next = rw ahead at (days_of_months-suc (is_leap y) (m - 1)) in
    rw back (omega (arith, floor_arith))

-- and January after December
pub day_number-next_year : (y : ℤ) → day_number (y +ℤ pos 1) 1 1 ≡ day_number y 12 1 +ℤ pos
    (month_len (is_leap y) 12)
day_number-next_year y =
    let last = day_number-next_month y 12 (omega arith) in
    let year = days_of_months-year y in
    let here : day_number y 13 1 ≡ first_day y +ℤ pos (days_of_months (is_leap y) 12) =
    unfold day_number in omega (arith, floor_arith) in
    omega (arith, floor_arith, day_number-january (y +ℤ pos 1) 1 (omega arith), first_day-next y)

pub floor12-parts : (z : ℤ) → (z ≡ floor_div z 12 *ℤ pos 12 +ℤ pos (floor_mod z 12))
    × (floor_mod z 12 < 12)
floor12-parts z = (omega (arith, floor_arith), omega (arith, floor_arith))

pub floor12-unique : (z q : ℤ) (r : ℕ) → r < 12 → z ≡ q *ℤ pos 12 +ℤ pos r → (floor_div z 12 ≡ q)
    × (floor_mod z 12 ≡ r)
floor12-unique z q r h e = (omega (arith, floor_arith), omega (arith, floor_arith))

pub month_first-at : (n y : ℤ) (m : ℕ) → IsInRange 1 12 m → n ≡ y *ℤ pos 12 +ℤ pos (m - 1)
    → month_first n ≡ day_number y m 1
unfolding month_first
month_first-at n y m h e =
    let s = floor12-unique n y (m - 1) (omega arith) e in
    let back : m - 1 + 1 ≡ m = omega arith in
    rw (s.0, s.1, back)

pub month_first-next : (n y : ℤ) (m : ℕ) → IsInRange 1 12 m → n ≡ y *ℤ pos 12 +ℤ pos (m - 1)
    → month_first (n +ℤ pos 1) ≡ day_number y m 1 +ℤ pos (month_len (is_leap y) m)
month_first-next n y m h e =
    elim (cases_lt m 12) [
      | inl lt ↦ month_first-at (n +ℤ pos 1) y (m + 1) (omega arith, omega arith)
          (omega (arith, floor_arith)) ∙ day_number-next_month y m h.0
      | inr ge ↦
          let last : m ≡ 12 = omega arith in
          rw last (month_first-at (n +ℤ pos 1) (y +ℤ pos 1) 1 (omega arith, omega arith)
          (omega (arith, floor_arith)) ∙ day_number-next_year y)
    ]

-- a year begins with its January
pub month_first-january : (y : ℤ) → month_first (y *ℤ pos 12) ≡ first_day y
month_first-january y =
    let at = month_first-at (y *ℤ pos 12) y 1 (omega arith, omega arith)
    (omega (arith, floor_arith)) in
    omega (arith, floor_arith, day_number-january y 1 (omega arith))

-- and each month after the days of the month before
pub month_first-follows : (y : ℤ) (m : ℕ) → m < 12 → month_first (y *ℤ pos 12 +ℤ pos (m + 1))
    ≡ month_first (y *ℤ pos 12 +ℤ pos m) +ℤ pos (month_len (is_leap y) (m + 1))
month_first-follows y m h =
    let n = y *ℤ pos 12 +ℤ pos m in
    let is : n ≡ y *ℤ pos 12 +ℤ pos (m + 1 - 1) = omega (arith, floor_arith) in
    let here = month_first-at n y (m + 1) (omega arith, omega arith) is in
    let next = month_first-next n y (m + 1) (omega arith, omega arith) is in
    let ahead : y *ℤ pos 12 +ℤ pos (m + 1) ≡ n +ℤ pos 1 = omega (arith, floor_arith) in
    rw (ahead, here) next

-- a day lies in the month of its number
pub month_number-is : (day : ℤ) → (month_first (month_number day) ≤ℤ day)
    × (day <ℤ month_first (month_number day +ℤ pos 1))
unfolding month_number
month_number-is day =
    let y = year_of day in
    let m = month_of day in
    let is = month_of-is day in
    let n = y *ℤ pos 12 +ℤ pos (m - 1) in
    let here = month_first-at n y m is.0 refl in
    let next = month_first-next n y m is.0 refl in
    let day_is = day_number-of day in
    let within = day_number-day y m (day_of_month day) is.1.0 in
    let in_month = is.1 in
    (omega (arith, floor_arith), omega (arith, floor_arith))

-- the first day of a month is of that month
pub month_number-first : (n : ℤ) → month_number (month_first n) ≡ n
unfolding month_number month_first
month_number-first n =
    let p = floor12-parts n in
    let long = month_len_bounds (is_leap (floor_div n 12)) (floor_mod n 12 + 1) in
    let is = date-of_day_number (floor_div n 12) (floor_mod n 12 + 1) 1 (omega arith, omega arith)
    (omega arith, omega arith) in
    rw (is.0, is.1) (omega (arith, floor_arith))

-- no other month holds it
pub month_number-unique : (day n : ℤ) → month_first n ≤ℤ day → day <ℤ month_first (n +ℤ pos 1)
    → month_number day ≡ n
month_number-unique day n low high =
    let is = month_number-is day in
    let first = month_number-first n in
    let next = month_number-first (n +ℤ pos 1) in
    let after = month_number_mono (month_first n) day low in
    let before = month_number_mono day (month_first (n +ℤ pos 1)) (omega (arith, floor_arith)) in
    by_lt_z n (month_number day)
    (λ lt. absurd (
    let same : month_number day ≡ n +ℤ pos 1 = omega (arith, floor_arith) in
    omega (arith, floor_arith, ap month_first same)))
    (λ ge. omega (arith, floor_arith))

-- 4,800 months are a cycle
pub month_number-cycle : (day : ℤ) → month_number (day +ℤ pos 146_097) ≡ month_number day +ℤ pos
    4800
unfolding month_number
month_number-cycle day = rw (year_of-cycle day, month_of-cycle day) (omega (arith, floor_arith))
