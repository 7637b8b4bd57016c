-- A search for days, month by month.
use Rattle.std.proofs.Common.{inl, inr, ◌≡◌, ℕ, ◌+◌, ◌-◌, ◌<◌, ◌≤◌, Bool, true, false, cond, ◌&&◌, ◌||◌, ◌==◌, None, [], ◌∷◌, refl, sym, ap, ◌∙◌, arith, ℤ, pos, neg_ℤ, ◌+ℤ◌, ◌*ℤ◌, ◌≤ℤ◌, w64, to_z, of_z}
use Rattle.std.proofs.lemmas.Bool.{and_from, and_left, and_parts, and_right, cases_lt, cases_Bool, true≢false}
use Rattle.moment_core.proofs.FloorLemmas.{floor_arith}
use Rattle.moment_core.proofs.DateLaws.{days_into_year-is}
use Rattle.moment_core.proofs.LineLaws.{ahead-ahead}
use Rattle.moment_core.proofs.TimeLaws.{years-of_working_moment, seconds-parts}
use Rattle.moment_core.specs.Calendar.{year_of, month_of}
use Rattle.moment_core.specs.Line.{IsWorkingMoment}
use Rattle.moment_core.specs.Sets.{ahead, seen}
use Rattle.moment_core.specs.TimeOfDay.{day_of}
use Rattle.moment_core.specs.Units.{unit_of}
use Rattle.moment_core.specs.declared.line.Dir.{Dir}
use Rattle.moment_core.specs.declared.line.Dir.TheVariants.{Fore, Back}
use Rattle.moment_core.specs.declared.units.Unit.{Unit as TimeUnit}
use Rattle.moment_core.specs.declared.units.Unit.TheVariants.{Year, WeekYear, Month, Week, Day, Hour, Minute, Second}
use Rattle.civil_core.proofs.MonthLemmas.{day-in}
use Rattle.sieve_core.proofs.RuleLemmas.{divides-one}
use Rattle.sieve_core.specs.Bits.{has_bit}
use Rattle.sieve_core.specs.Days.{meets_days, meets_months, meets_weeks}
use Rattle.sieve_core.specs.Members.{meets_interval}
use Rattle.civil_core.specs.Months.{IsMonth, IsNearMonth, IsDayIn}
use Rattle.sieve_core.specs.Seek.{IsDayReached, NoDaySought, day_at, day_turn, days_left, is_month_open, is_sought_day, is_working_day, month_turn, sought_at}
use Rattle.sieve_core.specs.Nearest.{IsNearest}
use Rattle.sieve_core.specs.Times.{IsLeast, IsLeastIn, turn}
use Rattle.civil_core.specs.declared.months.CivilMonth.{CivilMonth}
use Rattle.sieve_core.specs.declared.tables.Sieve.{Sieve}

pub working_day-parts : (d : ℤ) → is_working_day d ≡ true → (neg_ℤ (pos 4_368_278) ≤ℤ d)
    × (d ≤ℤ pos 2_929_587)
unfolding is_working_day
working_day-parts d e = (grind (arith, floor_arith), grind (arith, floor_arith))

pub working_day-fits : (d : ℤ) → is_working_day d ≡ true → to_z w64 (of_z w64 d) ≡ d
working_day-fits d e = omega (arith, floor_arith, working_day-parts d e)

pub working_day-from : (d : ℤ) → neg_ℤ (pos 4_368_278) ≤ℤ d → d ≤ℤ pos 2_929_587
    → is_working_day d ≡ true
unfolding is_working_day
working_day-from d low high = grind (arith, floor_arith)

pub working_day-of : (t : ℤ) → IsWorkingMoment t → is_working_day (day_of t) ≡ true
working_day-of t h =
    working_day-from (day_of t) (omega (arith, floor_arith, h)) (omega (arith, floor_arith, h))

-- past the end none is
pub working_day-past : (dir : Dir) (d : ℤ) (j k : ℕ) → is_working_day d ≡ true
    → is_working_day (ahead dir d j) ≡ false → j ≤ k → is_working_day (ahead dir d k) ≡ false
unfolding is_working_day
working_day-past Fore d j k here past h = grind (arith, floor_arith)
working_day-past Back d j k here past h = grind (arith, floor_arith)

pub in-year : (m : CivilMonth) (i : ℕ) → IsMonth m → i < m.len → (1 ≤ m.before + i + 1)
    × (m.before + i + 1 ≤ cond m.leap 366 365)
in-year m i is below =
    let day = day-in m i is below in
    let within = rw day.leap at (days_into_year-is (m.first +ℤ pos i)).1 in
    (omega arith, omega (arith, within, day.into))

-- the turns where every unit is taken
pub month_turn-one : (u : TimeUnit) (phase y : ℤ) (m : ℕ) → month_turn u 1 phase y m ≡ true
month_turn-one Year phase y m = divides-one _
month_turn-one (WeekYear first) phase y m = refl
month_turn-one Month phase y m = divides-one _
month_turn-one (Week first) phase y m = refl
month_turn-one Day phase y m = refl
month_turn-one Hour phase y m = refl
month_turn-one Minute phase y m = refl
month_turn-one Second phase y m = refl

day_turn-one : (u : TimeUnit) (phase d : ℤ) → day_turn u 1 phase d ≡ true
day_turn-one Year phase d = refl
day_turn-one (WeekYear first) phase d = divides-one _
day_turn-one Month phase d = refl
day_turn-one (Week first) phase d = divides-one _
day_turn-one Day phase d = divides-one _
day_turn-one Hour phase d = refl
day_turn-one Minute phase d = refl
day_turn-one Second phase d = refl

-- the interval as far as it tells days
abbrev pub days_turn : TimeUnit → ℕ → ℤ → ℤ → ℕ → ℤ → Bool
days_turn u n phase y m d = month_turn u n phase y m && day_turn u n phase d

pub days_turn-one : (u : TimeUnit) (n : ℕ) (phase y : ℤ) (m : ℕ) (d : ℤ) → n ≡ 1
    → days_turn u n phase y m d ≡ true
days_turn-one u n phase y m d e =
    rw e (and_from (month_turn u 1 phase y m) (day_turn u 1 phase d) (month_turn-one u phase y m)
    (day_turn-one u phase d))

pub sought-all : (s : Sieve) (d : ℤ) → is_working_day d ≡ true → meets_days s.days d ≡ true
    → days_turn s.unit s.interval s.phase (year_of d) (month_of d) d ≡ true → is_sought_day s d
    ≡ true
unfolding is_sought_day
sought-all s d working days turns =
    let parts = and_parts (month_turn s.unit s.interval s.phase (year_of d) (month_of d))
    (day_turn s.unit s.interval s.phase d) turns in
    and_from _ _ (and_from _ _ (and_from _ _ working days) parts.0) parts.1

-- the interval by days
pub turn-week_year : (s : Sieve) (t d : ℤ) (first : ℕ) → s.unit ≡ WeekYear first → day_of t ≡ d
    → meets_interval s t ≡ day_turn s.unit s.interval s.phase d
unfolding meets_interval unit_of
turn-week_year s t d first e place = rw (e, ← place) refl

pub turn-week : (s : Sieve) (t d : ℤ) (first : ℕ) → s.unit ≡ Week first → day_of t ≡ d
    → meets_interval s t ≡ day_turn s.unit s.interval s.phase d
unfolding meets_interval unit_of
turn-week s t d first e place = rw (e, ← place) refl

pub turn-day : (s : Sieve) (t d : ℤ) → s.unit ≡ Day → day_of t ≡ d
    → meets_interval s t ≡ day_turn s.unit s.interval s.phase d
unfolding meets_interval unit_of
turn-day s t d e place = rw (e, ← place) refl

-- what an open month says of its days
pub open-months : (s : Sieve) (m : CivilMonth) (i : ℕ) (d : ℤ) → IsDayIn m i d
    → is_month_open s m.year m.month ≡ true → (meets_months s.days.months d ≡ true)
    × (month_turn s.unit s.interval s.phase (year_of d) (month_of d) ≡ true)
unfolding meets_months
open-months s m i d day e =
    let parts = and_parts _ (month_turn s.unit s.interval s.phase m.year m.month) e in
    (rw day.month parts.0, rw (day.year, day.month) parts.1)

month-of-days : (s : Sieve) (d : ℤ) → meets_days s.days d ≡ true → meets_months s.days.months d
    ≡ true
unfolding meets_days
month-of-days s d e =
    let a = and_parts _ _ e in
    let b = and_parts _ _ a.0 in
    let c = and_parts _ _ b.0 in
    (and_parts (meets_months s.days.months d) _ c.0).0

pub sought-parts : (s : Sieve) (d : ℤ) → is_sought_day s d ≡ true → (is_working_day d ≡ true)
    × (meets_days s.days d ≡ true)
    × (month_turn s.unit s.interval s.phase (year_of d) (month_of d) ≡ true)
    × (day_turn s.unit s.interval s.phase d ≡ true)
unfolding is_sought_day
sought-parts s d e =
    let a = and_parts (is_working_day d && meets_days s.days d
    && month_turn s.unit s.interval s.phase (year_of d) (month_of d)) _ e in
    let b = and_parts (is_working_day d && meets_days s.days d) _ a.0 in
    let c = and_parts (is_working_day d) _ b.0 in
    (c.0, c.1, b.1, a.1)

pub nearest-works : (s : Sieve) (dir : Dir) (d e : ℤ) → IsNearest (is_sought_day s) dir d e
    → is_working_day e ≡ true
nearest-works s dir d e near = (sought-parts s e near.meets).0

months-by-number : (s : Sieve) (m : CivilMonth) (i : ℕ) (d : ℤ) → IsDayIn m i d
    → meets_months s.days.months d ≡ true
    → ((s.days.months == 0) || has_bit (s.days.months ∷ []) m.month) ≡ true
unfolding meets_months
months-by-number s m i d day e = rw (← day.month) e

-- no day of a month that isn't open is sought
opened-month : (s : Sieve) (m : CivilMonth) (i : ℕ) (d : ℤ) → IsDayIn m i d → is_sought_day s d
    ≡ true
    → is_month_open s m.year m.month ≡ true
opened-month s m i d day met =
    let parts = sought-parts s d met in
    and_from _ _ (months-by-number s m i d day (month-of-days s d parts.1))
    (rw (← day.year, ← day.month) parts.2)

pub closed-month : (s : Sieve) (m : CivilMonth) (i : ℕ) (d : ℤ) → IsDayIn m i d
    → is_month_open s m.year m.month ≡ false → is_sought_day s d ≡ false
closed-month s m i d day e =
    elim (cases_Bool (is_sought_day s d)) [
      | inl met ↦ absurd (true≢false (sym (opened-month s m i d day met) ∙ e))
      | inr unmet ↦ unmet
    ]

pub sought-not-dates : (s : Sieve) (d : ℤ) (weeks : Bool) → (false && weeks) ≡ meets_days s.days d
    → is_sought_day s d ≡ false
unfolding is_sought_day
sought-not-dates s d weeks e = and_left _ _ (and_left _ _ (and_right _ _ (sym e)))

and-true : (b : Bool) → (b && true) ≡ b
and-true true = refl
and-true false = refl

pub sought-by-dates : (s : Sieve) (d : ℤ) → (true && meets_weeks s.days.weeks s.days.first d)
    ≡ meets_days s.days d
    → month_turn s.unit s.interval s.phase (year_of d) (month_of d) ≡ true → is_sought_day s d
    ≡ (is_working_day d && meets_weeks s.days.weeks s.days.first d
    && day_turn s.unit s.interval s.phase d)
unfolding is_sought_day
sought-by-dates s d e month =
    rw (← e, month) (ap (λ b. b && day_turn s.unit s.interval s.phase d)
    (and-true (is_working_day d && meets_weeks s.days.weeks s.days.first d)))

-- the days of a month in a direction
day_at-on : (m : CivilMonth) (dir : Dir) (from j : ℕ) → from ≤ j → j < m.len → day_at m dir j
    ≡ ahead dir (day_at m dir from) (j - from)
day_at-on m Fore from j h below = omega (arith, floor_arith)
day_at-on m Back from j h below = omega (arith, floor_arith)

day_at-first : (m : CivilMonth) (dir : Dir) (d : ℤ) (i : ℕ) → i < m.len → m.first +ℤ pos i ≡ d
    → day_at m dir (turn dir m.len i) ≡ ahead dir d 0
day_at-first m Fore d i below e = omega (arith, floor_arith)
day_at-first m Back d i below e = omega (arith, floor_arith)

pub turned-within : (dir : Dir) (len i : ℕ) → i < len → turn dir len i < len
turned-within Fore len i h = h
turned-within Back len i h = omega arith

pub reached-first : (s : Sieve) (dir : Dir) (d : ℤ) (m : CivilMonth) (i from : ℕ) → is_working_day d
    ≡ true → IsMonth m → m.first +ℤ pos i ≡ d → i < m.len → from ≡ turn dir m.len i
    → IsDayReached s dir d m from
reached-first s dir d m i from working is place below e =
    let parts = working_day-parts d working in
    record {
      steps = 0;
      place = rw e (day_at-first m dir d i below place);
      none_before = λ k early. absurd (omega (arith, early));
      month = is;
      within = rw e (turned-within dir m.len i below);
      working = working;
      low = omega (arith, floor_arith, parts, is.lens, below);
      high = omega (arith, floor_arith, parts, is.lens, below);
    }

reached-place : (s : Sieve) (dir : Dir) (d : ℤ) (m : CivilMonth) (from j : ℕ)
    (at : IsDayReached s dir d m from) → from ≤ j → j < m.len → day_at m dir j
    ≡ ahead dir d (at.steps + (j - from))
reached-place s dir d m from j at h below =
    day_at-on m dir from j h below ∙ rw at.place (ahead-ahead dir d at.steps (j - from))

-- nothing is sought up to a day of the month
reached-clear : (s : Sieve) (dir : Dir) (d : ℤ) (m : CivilMonth) (from end : ℕ)
    (at : IsDayReached s dir d m from) → from ≤ end → end ≤ m.len
    → ((k : ℕ) → from ≤ k → k < end → sought_at s m dir k ≡ false) → (k : ℕ) → k < at.steps +
    (end - from) → seen (is_sought_day s) dir d k ≡ false
reached-clear s dir d m from end at low high none k below =
    elim (cases_lt k at.steps) [
      | inl early ↦ at.none_before k early
      | inr late ↦ (let whole : at.steps + (from + (k - at.steps) - from) ≡ k = omega
          (arith, late) in
          let place = reached-place s dir d m from (from + (k - at.steps)) at (omega arith)
          (omega (arith, below, late, low, high)) in
          ap (is_sought_day s) (sym (place ∙ ap (ahead dir d) whole))
          ∙ none (from + (k - at.steps)) (omega arith) (omega (arith, below, late, low)))
    ]

pub reached-found : (s : Sieve) (dir : Dir) (d u : ℤ) (m : CivilMonth) (from i : ℕ)
    → IsDayReached s dir d m from → IsLeast (sought_at s m dir) from m.len i → u ≡ day_at m dir i
    → IsNearest (is_sought_day s) dir d u
reached-found s dir d u m from i at least e = record {
  steps = at.steps + (i - from);
  place = e ∙ reached-place s dir d m from i at least.low least.high;
  meets = rw e least.meets;
  none_before = reached-clear s dir d m from i at least.low (omega (arith, least.high))
      least.none_before;
}

near-first : (dir : Dir) (m r : CivilMonth) → day_at r dir 0
    ≡ ahead dir (day_at m dir (m.len - 1)) 1 → IsNearMonth m → IsMonth r → IsMonth m
    → neg_ℤ (pos 4_500_000) ≤ℤ r.first
near-first Fore m r place near is was = omega
    (arith, floor_arith, place, near.low, is.lens, was.lens)
near-first Back m r place near is was = omega
    (arith, floor_arith, place, near.low, is.lens, was.lens)

near-last : (dir : Dir) (m r : CivilMonth) → day_at r dir 0
    ≡ ahead dir (day_at m dir (m.len - 1)) 1 → IsNearMonth m → IsMonth r → IsMonth m → r.first ≤ℤ
    pos 4_500_000
near-last Fore m r place near is was = omega
    (arith, floor_arith, place, near.high, is.lens, was.lens)
near-last Back m r place near is was = omega
    (arith, floor_arith, place, near.high, is.lens, was.lens)

pub reached-next : (s : Sieve) (dir : Dir) (d : ℤ) (m r : CivilMonth) (from : ℕ)
    → IsDayReached s dir d m from → IsLeastIn (sought_at s m dir) from m.len None → IsMonth r
    → day_at r dir 0 ≡ ahead dir (day_at m dir (m.len - 1)) 1 → IsNearMonth m
    → IsDayReached s dir d r 0
reached-next s dir d m r from at none is place near =
    let within = at.within in
    let last = reached-place s dir d m from (m.len - 1) at (omega (arith, within))
    (omega (arith, within)) in
    let whole : at.steps + (m.len - 1 - from) + 1 ≡ at.steps + (m.len - from) =
    omega (arith, within) in
    record {
      steps = at.steps + (m.len - from);
      place = place ∙ rw last (ahead-ahead dir d (at.steps + (m.len - 1 - from)) 1
          ∙ ap (ahead dir d) whole);
      none_before = reached-clear s dir d m from m.len at (omega (arith, within))
          (omega arith) none;
      month = is;
      within = omega (arith, is.lens);
      working = at.working;
      low = near-first dir m r place near is at.month;
      high = near-last dir m r place near is at.month;
    }

pub reached-end : (s : Sieve) (dir : Dir) (d : ℤ) (m : CivilMonth) (from : ℕ)
    → IsDayReached s dir d m from → is_working_day (day_at m dir from) ≡ false → NoDaySought s dir d
unfolding is_sought_day
reached-end s dir d m from at past k =
    elim (cases_lt k at.steps) [
      | inl early ↦ at.none_before k early
      | inr late ↦ and_left _ _ (and_left _ _ (and_left _ _ (working_day-past dir d at.steps k
          at.working (rw (← at.place) past) late)))
    ]

-- a month with a day of the working range
pub near-month : (m : CivilMonth) (dir : Dir) (i : ℕ) → IsMonth m → i < m.len
    → is_working_day (day_at m dir i) ≡ true → IsNearMonth m
near-month m dir i is below working =
    let parts = working_day-parts (day_at m dir i) working in
    let inside = turned-within dir m.len i below in
    let day = day-in m (turn dir m.len i) is inside in
    let at = seconds-parts (day_at m dir i) 0 (omega arith) in
    let years = rw (at.0, day.year) at (years-of_working_moment
    (day_at m dir i *ℤ pos 86_400 +ℤ pos 0)
    (omega (arith, floor_arith, parts), omega (arith, floor_arith, parts))) in
    record {
      low = omega (arith, floor_arith, parts, is.lens, inside);
      high = omega (arith, floor_arith, parts, is.lens, inside);
      years_low = years.0;
      years_high = years.1;
    }

pub days-fewer : (m r : CivilMonth) (dir : Dir) (from : ℕ) → from < m.len → IsMonth m
    → is_working_day (day_at m dir from) ≡ true → day_at r dir 0
    ≡ ahead dir (day_at m dir (m.len - 1)) 1 → days_left dir (day_at r dir 0) <
    days_left dir (day_at m dir from)
days-fewer m r Fore from below is working place =
    let parts = working_day-parts (day_at m Fore from) working in
    omega (arith, floor_arith, parts, is.lens, below, place)
days-fewer m r Back from below is working place =
    let parts = working_day-parts (day_at m Back from) working in
    omega (arith, floor_arith, parts, is.lens, below, place)
