-- The days of a month that are of one weekday.
use Rattle.std.proofs.Common.{◌≡◌, ℕ, ◌+◌, ◌-◌, ◌*◌, ◌/◌, ◌%◌, ◌<◌, ◌≤◌, inl, inr, refl, sym, ap, ◌∙◌, arith, ℤ, pos, neg_ℤ, ◌+ℤ◌, unsigned_abs, Bool, true, ◌||◌}
use Rattle.std.proofs.lemmas.Bool.{or_cases}
use Rattle.std.proofs.lemmas.Int.{ints}
use Rattle.std.specs.Int.{IsInRange}
use Rattle.std.specs.Ordering.{int_eq}
use Rattle.jiff_core.specs.Calendar.{IsYear}
use Rattle.moment_core.proofs.FloorLemmas.{floor_arith, one_part}
use Rattle.moment_core.proofs.WeekLaws.{weekday_of-parts}
use Rattle.moment_core.specs.Calendar.{day_number, is_leap, month_len, weekday_of}
use Rattle.moment_core.specs.Line.{IsWorkingMoment}
use Rattle.moment_core.specs.TimeOfDay.{seconds_of}
use Rattle.moment_core.specs.Units.{from_end, is_nth, nth_of}
use Rattle.moment_core.proofs.Comparing.{int_eq-is}
use Rattle.civil_core.specs.Nths.{IsNthDay}
use Rattle.civil_core.proofs.WorkingDays.{IsYear-of_civil}

-- the days of a month from its first day on
day_number-later : (y : ℤ) (m day : ℕ) → 1 ≤ day → day_number y m day ≡ day_number y m 1 +ℤ pos
    (day - 1)
unfolding day_number
day_number-later y m day some = omega (arith, ints)

-- the first day of a weekday from a day on
first_on : (z : ℤ) (w v : ℕ) → IsInRange 1 7 w → v ≡ weekday_of z
    → weekday_of (z +ℤ pos ((w + 7 - v) % 7)) ≡ w
first_on z w v h is =
    let a = weekday_of-parts z in
    let b = weekday_of-parts (z +ℤ pos ((w + 7 - v) % 7)) in
    omega (arith, floor_arith)

pub first-of_month : (y : ℤ) (m w v : ℕ) → IsInRange 1 7 w → v ≡ weekday_of (day_number y m 1)
    → weekday_of (day_number y m (1 + (w + 7 - v) % 7)) ≡ w
first-of_month y m w v h is =
    let k = (w + 7 - v) % 7 in
    let back : 1 + k - 1 ≡ k = omega arith in
    let place : day_number y m (1 + k) ≡ day_number y m 1 +ℤ pos k = day_number-later y m (1 + k)
    (omega arith) ∙ ap (λ n. day_number y m 1 +ℤ pos n) back in
    ap weekday_of place ∙ first_on (day_number y m 1) w v h is

-- so many weeks later the weekday is the same
weeks-on : (y : ℤ) (m first k : ℕ) → 1 ≤ first → weekday_of (day_number y m (first + 7 * k))
    ≡ weekday_of (day_number y m first)
weeks-on y m first k some =
    let z = day_number y m 1 in
    let a = weekday_of-parts (z +ℤ pos (first + 7 * k - 1)) in
    let b = weekday_of-parts (z +ℤ pos (first - 1)) in
    let same : weekday_of (z +ℤ pos (first + 7 * k - 1)) ≡ weekday_of (z +ℤ pos (first - 1)) =
    omega (arith, floor_arith) in
    ap weekday_of (day_number-later y m (first + 7 * k) (omega arith)) ∙ same
    ∙ sym (ap weekday_of (day_number-later y m first some))

-- and days of one weekday are whole weeks apart
weeks-apart : (y : ℤ) (m first day : ℕ) → IsInRange 1 7 first → 1 ≤ day
    → weekday_of (day_number y m day) ≡ weekday_of (day_number y m first) → day
    ≡ first + 7 * ((day - 1) / 7)
weeks-apart y m first day h some same =
    let z = day_number y m 1 in
    let a = weekday_of-parts (z +ℤ pos (day - 1)) in
    let b = weekday_of-parts (z +ℤ pos (first - 1)) in
    let e : weekday_of (z +ℤ pos (day - 1)) ≡ weekday_of (z +ℤ pos (first - 1)) =
    sym (ap weekday_of (day_number-later y m day some)) ∙ same
    ∙ ap weekday_of (day_number-later y m first h.0) in
    omega (arith, floor_arith)

-- n is the ordinal of the day at place k of count, from the front or the end
abbrev pub at_place : ℤ → ℕ → ℕ → Bool
at_place n count k = int_eq n (pos (k + 1)) || int_eq n (neg_ℤ (pos (count - k)))

is_nth-at_place : (n : ℤ) (len first count k : ℕ) → IsInRange 1 7 first → k < count
    → first + 7 * count ≤ len + 7 → len < first + 7 * count → is_nth n len (first + 7 * k)
    ≡ at_place n count k
is_nth-at_place n len first count k h below last past =
    let up : nth_of (first + 7 * k) ≡ k + 1 = omega arith in
    let down : nth_of (from_end len (first + 7 * k)) ≡ count - k = omega arith in
    rw (up, down) refl

-- an ordinal has one place
same_place : (n : ℤ) (count k place : ℕ) → k < count → place < count → at_place n count k ≡ true
    → at_place n count place ≡ true → k ≡ place
same_place n count k place below within x y =
    elim (or_cases (int_eq n (pos (k + 1))) (int_eq n (neg_ℤ (pos (count - k)))) x) [
      | inl a ↦ (let e = int_eq-is n (pos (k + 1)) a in
          elim (or_cases (int_eq n (pos (place + 1))) (int_eq n (neg_ℤ (pos (count - place)))) y) [
            | inl b ↦ (let f = int_eq-is n (pos (place + 1)) b in omega (arith, ints))
            | inr b ↦ (let f = int_eq-is n (neg_ℤ (pos (count - place))) b in
                absurd (omega (arith, ints)))
          ])
      | inr a ↦ (let e = int_eq-is n (neg_ℤ (pos (count - k))) a in
          elim (or_cases (int_eq n (pos (place + 1))) (int_eq n (neg_ℤ (pos (count - place)))) y) [
            | inl b ↦ (let f = int_eq-is n (pos (place + 1)) b in absurd (omega (arith, ints)))
            | inr b ↦ (let f = int_eq-is n (neg_ℤ (pos (count - place))) b in omega (arith, ints))
          ])
    ]

place-size : (n : ℤ) (count k : ℕ) → k < count → at_place n count k ≡ true
    → IsInRange 1 count (unsigned_abs n)
place-size n count k below x =
    elim (or_cases (int_eq n (pos (k + 1))) (int_eq n (neg_ℤ (pos (count - k)))) x) [
      | inl a ↦ (let e = int_eq-is n (pos (k + 1)) a in
          (omega (arith, floor_arith, one_part n), omega (arith, floor_arith, one_part n)))
      | inr a ↦ (let e = int_eq-is n (neg_ℤ (pos (count - k))) a in
          (omega (arith, floor_arith, one_part n), omega (arith, floor_arith, one_part n)))
    ]

-- the month has so many days of the weekday, the first of which is given
pub record AreOfWeekday (y : ℤ) (m weekday first count : ℕ) : Type 0 where
  pub in_year : IsInRange 1 12 m
  pub first_week : IsInRange 1 7 first
  pub on_weekday : weekday_of (day_number y m first) ≡ weekday
  pub last : first + 7 * count ≤ month_len (is_leap y) m + 7
  pub past : month_len (is_leap y) m < first + 7 * count

-- the day at a place
pub IsNthDay-at_place : (y : ℤ) (m : ℕ) (n : ℤ) (weekday first count place : ℕ)
    → AreOfWeekday y m weekday first count → place < count → at_place n count place ≡ true
    → IsNthDay y m n weekday (first + 7 * place)
IsNthDay-at_place y m n weekday first count place are below at_n = record {
  in_year = are.in_year;
  in_month = (omega (arith, are.first_week.0), omega (arith, are.last));
  on_weekday = weeks-on y m first place are.first_week.0 ∙ are.on_weekday;
  nth = is_nth-at_place n (month_len (is_leap y) m) first count place are.first_week below are.last
      are.past ∙ at_n;
}

-- the place of a day
pub place-of_IsNthDay : (y : ℤ) (m : ℕ) (n : ℤ) (weekday first count day : ℕ)
    → AreOfWeekday y m weekday first count → IsNthDay y m n weekday day → (k : ℕ) × (k < count)
    × (day ≡ first + 7 * k) × (at_place n count k ≡ true)
place-of_IsNthDay y m n weekday first count day are is =
    let k = (day - 1) / 7 in
    let apart = weeks-apart y m first day are.first_week is.in_month.0
    (is.on_weekday ∙ sym are.on_weekday) in
    let below : k < count = omega (arith, apart, are.past, is.in_month.1) in
    let nth : is_nth n (month_len (is_leap y) m) (first + 7 * k) ≡ true =
    ap (is_nth n (month_len (is_leap y) m)) (sym apart) ∙ is.nth in (
      k,
      below,
      apart,
      sym (is_nth-at_place n (month_len (is_leap y) m) first count k are.first_week
          below are.last are.past) ∙ nth,
    )

-- so it is the day at the place of its ordinal, which has one
pub day-at_place : (y : ℤ) (m : ℕ) (n : ℤ) (weekday first count place day : ℕ)
    → AreOfWeekday y m weekday first count → place < count → at_place n count place ≡ true
    → IsNthDay y m n weekday day → day ≡ first + 7 * place
day-at_place y m n weekday first count place day are below at_n is =
    let there = place-of_IsNthDay y m n weekday first count day are is in
    there.2 ∙ ap (λ k. first + 7 * k) (same_place n count there.0 place there.1 below there.3 at_n)

pub size-of_IsNthDay : (y : ℤ) (m : ℕ) (n : ℤ) (weekday first count day : ℕ)
    → AreOfWeekday y m weekday first count → IsNthDay y m n weekday day
    → IsInRange 1 count (unsigned_abs n)
size-of_IsNthDay y m n weekday first count day are is =
    let there = place-of_IsNthDay y m n weekday first count day are is in
    place-size n count there.0 there.1 there.3

-- a month with a midnight in the working range is one that the library has
pub IsYear-of_midnight : (y : ℤ) (m : ℕ) (n : ℤ) (weekday day : ℕ) → IsNthDay y m n weekday day
    → IsWorkingMoment (seconds_of y m day 0 0 0) → IsYear y
IsYear-of_midnight y m n weekday day is working =
    IsYear-of_civil y m day 0 0 0 (
      is.in_year,
      is.in_month,
      (omega arith, omega arith),
      (omega arith, omega arith),
      (omega arith, omega arith),
    ) working
