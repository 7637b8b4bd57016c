-- How weeks and years go together.
use Rattle.std.proofs.Common.{◌≡◌, ℕ, ◌+◌, ◌-◌, ◌*◌, ◌/◌, ◌%◌, ◌<◌, refl, arith, ℤ, pos, ◌+ℤ◌, ◌-ℤ◌, ◌*ℤ◌, ◌<ℤ◌, ◌≤ℤ◌}
use Rattle.std.specs.Int.{IsInRange}
use Rattle.moment_core.proofs.FloorLemmas.{floor_arith, one_part}
use Rattle.moment_core.specs.Calendar.{year_len, first_day, year_of, days_into_year, weekday_of, week_start, week_one, week_year_of, week_of, weeks_in_year, week_number}
use Rattle.moment_core.proofs.YearLaws.{first_day-next, year_len_bounds, year_of-is, year_of-unique, year_of_mono, year_of-cycle, first_day-cycle}
use Rattle.moment_core.proofs.DateLaws.{days_into_year-is, weekday_of-cycle}
use borrow.Author.Differences.{up, down}

-- a weekday from the two parts of a day number
pub weekday_of-parts : (z : ℤ) → weekday_of z ≡ (up z + 6 * down z + 3) % 7 + 1
unfolding weekday_of
weekday_of-parts z = omega (arith, floor_arith)

pub weekday_of-zero : weekday_of (pos 0) ≡ 4
unfolding weekday_of
weekday_of-zero = refl

pub weekday_of-next : (day : ℤ) → weekday_of (day +ℤ pos 1) ≡ weekday_of day % 7 + 1
unfolding weekday_of
weekday_of-next day = omega (arith, floor_arith)

-- a week starts on its first weekday, at most six days before
pub week_start-is : (first : ℕ) (day : ℤ) → IsInRange 1 7 first
    → (weekday_of (week_start first day) ≡ first) × (week_start first day ≤ℤ day)
    × (day ≤ℤ (week_start first day +ℤ pos 6))
unfolding week_start
week_start-is first day h =
    let back = (weekday_of day + 7 - first) % 7 in
    let e = weekday_of-parts day in
    let f = weekday_of-parts (day -ℤ pos back) in
    (omega (arith, floor_arith), omega (arith, floor_arith), omega (arith, floor_arith))

pub weeks-hold_days : (first : ℕ) (day : ℤ) → IsInRange 1 7 first
    → (weekday_of (week_start first day) ≡ first) × (week_start first day ≤ℤ day)
    × (day <ℤ (week_start first day +ℤ pos 7))
weeks-hold_days first day h =
    let is = week_start-is first day h in
    (is.0, is.1, omega (arith, floor_arith))

-- week 1 begins within three days of 1 January: it has at least four days in the year, and the week
-- before has not
pub week_one-is : (first : ℕ) (y : ℤ) → IsInRange 1 7 first
    → (weekday_of (week_one first y) ≡ first) × (week_one first y ≤ℤ (first_day y +ℤ pos 3))
    × (first_day y ≤ℤ (week_one first y +ℤ pos 3))
unfolding week_one
week_one-is first y h =
    let is = week_start-is first (first_day y +ℤ pos 3) h in
    (is.0, omega (arith, floor_arith), omega (arith, floor_arith))

-- the week of a day, in its year
pub week_start-in_year : (first : ℕ) (day : ℤ) → IsInRange 1 7 first
    → (week_one first (week_year_of first day) ≤ℤ week_start first day)
    × ((week_start first day +ℤ pos 7) ≤ℤ week_one first (week_year_of first day +ℤ pos 1))
unfolding week_year_of
week_start-in_year first day h =
    let s = week_start first day in
    let y = year_of (s +ℤ pos 3) in
    let year = year_of-is (s +ℤ pos 3) in
    let is = week_start-is first day h in
    let here = week_one-is first y h in
    let there = week_one-is first (y +ℤ pos 1) h in
    let a = weekday_of-parts s in
    let b = weekday_of-parts (week_one first y) in
    let c = weekday_of-parts (week_one first (y +ℤ pos 1)) in
    (omega (arith, floor_arith), omega (arith, floor_arith))

-- the week-year's weeks hold the day
pub week_year_of-is : (first : ℕ) (day : ℤ) → IsInRange 1 7 first
    → (week_one first (week_year_of first day) ≤ℤ day)
    × (day <ℤ week_one first (week_year_of first day +ℤ pos 1))
week_year_of-is first day h =
    let is = week_start-is first day h in
    let place = week_start-in_year first day h in
    (omega (arith, floor_arith), omega (arith, floor_arith))

-- and no other week-year holds it
pub week_year_of-unique : (first : ℕ) (day y : ℤ) → IsInRange 1 7 first → week_one first y ≤ℤ day
    → day <ℤ week_one first (y +ℤ pos 1) → week_year_of first day ≡ y
unfolding week_year_of
week_year_of-unique first day y h low high =
    let s = week_start first day in
    let is = week_start-is first day h in
    let here = week_one-is first y h in
    let there = week_one-is first (y +ℤ pos 1) h in
    let a = weekday_of-parts s in
    let b = weekday_of-parts (week_one first y) in
    let c = weekday_of-parts (week_one first (y +ℤ pos 1)) in
    let begun : week_one first y ≤ℤ s = omega (arith, floor_arith) in
    let not_over : (s +ℤ pos 7) ≤ℤ week_one first (y +ℤ pos 1) = omega (arith, floor_arith) in
    year_of-unique (s +ℤ pos 3) y (omega (arith, floor_arith)) (omega (arith, floor_arith))

-- week n begins 7 * (n - 1) days after week 1
pub week_of-is : (first : ℕ) (day : ℤ) → IsInRange 1 7 first → week_start first day +ℤ pos 7
    ≡ week_one first (week_year_of first day) +ℤ pos (7 * week_of first day)
unfolding week_of
week_of-is first day h =
    let w = week_one first (week_year_of first day) in
    let is = week_start-is first day h in
    let place = week_start-in_year first day h in
    let here = week_one-is first (week_year_of first day) h in
    let a = weekday_of-parts (week_start first day) in
    let b = weekday_of-parts w in
    omega (arith, floor_arith, one_part (day -ℤ w))

-- a year has 52 or 53 weeks, and the next begins after them
pub weeks_in_year-is : (first : ℕ) (y : ℤ) → IsInRange 1 7 first
    → (week_one first (y +ℤ pos 1) ≡ week_one first y +ℤ pos (7 * weeks_in_year first y))
    × IsInRange 52 53 (weeks_in_year first y)
unfolding weeks_in_year
weeks_in_year-is first y h =
    let w = week_one first y in
    let x = week_one first (y +ℤ pos 1) in
    let here = week_one-is first y h in
    let there = week_one-is first (y +ℤ pos 1) h in
    let next = first_day-next y in
    let long = year_len_bounds y in
    let a = weekday_of-parts w in
    let b = weekday_of-parts x in (
      omega (arith, floor_arith, one_part (x -ℤ w)),
      (
        omega (arith, floor_arith, one_part (x -ℤ w)),
        omega (arith, floor_arith, one_part (x -ℤ w)),
      ),
    )

pub week_of-bounds : (first : ℕ) (day : ℤ) → IsInRange 1 7 first
    → IsInRange 1 (weeks_in_year first (week_year_of first day)) (week_of first day)
week_of-bounds first day h =
    let is = week_of-is first day h in
    let place = week_start-in_year first day h in
    let weeks = weeks_in_year-is first (week_year_of first day) h in
    (omega (arith, floor_arith), omega (arith, floor_arith))

-- the number of the week is that of its fourth day among the fourth days of the year's weeks
pub week_of-fourth : (first : ℕ) (day : ℤ) → IsInRange 1 7 first → week_of first day
    ≡ days_into_year (week_start first day +ℤ pos 3) / 7 + 1
week_of-fourth first day h =
    let s = week_start first day in
    let y = week_year_of first day in
    let same : week_year_of first day ≡ year_of (s +ℤ pos 3) = unfold week_year_of in refl in
    let into = rw (← same) at (days_into_year-is (s +ℤ pos 3)).0 in
    let is = week_of-is first day h in
    let one = week_one-is first y h in
    omega (arith, floor_arith)

-- and the weeks of the year are those up to this one and those after it
pub weeks_in_year-fourth : (first : ℕ) (day : ℤ) → IsInRange 1 7 first
    → weeks_in_year first (week_year_of first day) ≡ days_into_year (week_start first day +ℤ pos 3)
    / 7 + 1 + (year_len (week_year_of first day) - 1 - days_into_year
    (week_start first day +ℤ pos 3)) / 7
weeks_in_year-fourth first day h =
    let s = week_start first day in
    let y = week_year_of first day in
    let same : week_year_of first day ≡ year_of (s +ℤ pos 3) = unfold week_year_of in refl in
    let into = rw (← same) at (days_into_year-is (s +ℤ pos 3)).0 in
    let within = rw (← same) at (days_into_year-is (s +ℤ pos 3)).1 in
    let is = week_of-is first day h in
    let one = week_one-is first y h in
    let next_one = week_one-is first (y +ℤ pos 1) h in
    let next = first_day-next y in
    let weeks = (weeks_in_year-is first y h).0 in
    let long = year_len_bounds y in
    omega (arith, floor_arith)

-- 400 years later
pub week_start-cycle : (first : ℕ) (day : ℤ) → week_start first (day +ℤ pos 146_097)
    ≡ week_start first day +ℤ pos 146_097
unfolding week_start
week_start-cycle first day = rw (weekday_of-cycle day) (omega (arith, floor_arith))

pub week_one-cycle : (first : ℕ) (y : ℤ) → week_one first (y +ℤ pos 400) ≡ week_one first y +ℤ pos
    146_097
unfolding week_one
week_one-cycle first y =
    let e : first_day (y +ℤ pos 400) +ℤ pos 3 ≡ first_day y +ℤ pos 3 +ℤ pos 146_097 =
    omega (arith, floor_arith, first_day-cycle y) in
    rw e (week_start-cycle first (first_day y +ℤ pos 3))

pub week_year_of-cycle : (first : ℕ) (day : ℤ) → week_year_of first (day +ℤ pos 146_097)
    ≡ week_year_of first day +ℤ pos 400
unfolding week_year_of
week_year_of-cycle first day =
    let e : week_start first (day +ℤ pos 146_097) +ℤ pos 3 ≡ week_start first day +ℤ pos 3 +ℤ pos
    146_097 = omega (arith, floor_arith, week_start-cycle first day) in
    rw e (year_of-cycle (week_start first day +ℤ pos 3))

pub week_of-cycle : (first : ℕ) (day : ℤ) → week_of first (day +ℤ pos 146_097) ≡ week_of first day
unfolding week_of
week_of-cycle first day =
    let year = week_year_of first day in
    let place : day +ℤ pos 146_097 -ℤ (week_one first year +ℤ pos 146_097) ≡ day -ℤ week_one first
    year = omega (arith, floor_arith) in
    rw (week_year_of-cycle first day, week_one-cycle first year, place) refl

pub weeks_in_year-cycle : (first : ℕ) (y : ℤ) → weeks_in_year first (y +ℤ pos 400)
    ≡ weeks_in_year first y
unfolding weeks_in_year
weeks_in_year-cycle first y =
    let next : y +ℤ pos 400 +ℤ pos 1 ≡ y +ℤ pos 1 +ℤ pos 400 = omega (arith, floor_arith) in
    let length : week_one first (y +ℤ pos 1) +ℤ pos 146_097 -ℤ (week_one first y +ℤ pos 146_097)
    ≡ week_one first (y +ℤ pos 1) -ℤ week_one first y = omega (arith, floor_arith) in
    rw (next, week_one-cycle first (y +ℤ pos 1), week_one-cycle first y, length) refl

pub week_number-cycle : (first : ℕ) (day : ℤ) → week_number first (day +ℤ pos 146_097)
    ≡ week_number first day +ℤ pos 20_871
unfolding week_number
week_number-cycle first day = omega (arith, floor_arith)

-- week n begins 7 n days after the first weekday `first` from day 0 on
pub week_number-is : (first start : ℕ) → start < 7 → weekday_of (pos start) ≡ first → (day : ℤ)
    → week_start first day ≡ pos start +ℤ pos 7 *ℤ week_number first day
unfolding week_number week_start
week_number-is first start h on day =
    let e = weekday_of-parts day in
    let f = weekday_of-parts (pos start) in
    omega (arith, floor_arith)

-- a later day has no earlier week or week-year
pub week_number_mono : (first : ℕ) (day later : ℤ) → day ≤ℤ later → week_number first day ≤ℤ
    week_number first later
unfolding week_number
week_number_mono first day later h = omega (arith, floor_arith)

pub week_start_mono : (first : ℕ) (day later : ℤ) → IsInRange 1 7 first → day ≤ℤ later
    → week_start first day ≤ℤ week_start first later
week_start_mono first day later h le =
    let is = week_start-is first day h in
    let later_is = week_start-is first later h in
    let a = weekday_of-parts (week_start first day) in
    let b = weekday_of-parts (week_start first later) in
    omega (arith, floor_arith)

pub week_year_of_mono : (first : ℕ) (day later : ℤ) → IsInRange 1 7 first → day ≤ℤ later
    → week_year_of first day ≤ℤ week_year_of first later
unfolding week_year_of
week_year_of_mono first day later h le =
    let starts = week_start_mono first day later h le in
    year_of_mono (week_start first day +ℤ pos 3) (week_start first later +ℤ pos 3)
    (omega (arith, floor_arith))
