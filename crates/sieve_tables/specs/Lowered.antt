-- The sieve of a rule.
use Rattle.std.specs.Prelude.{◌≡◌, ◌<◌, ℕ, ◌+◌, ◌-◌, ◌*◌, ◌==◌, slice_index_or, ℤ, pos, neg_ℤ, unsigned_abs, ◌<ℤ◌, Bool, false, int_lt, if◌then◌else◌, not, ◌&&◌, ◌||◌, int_le, nat_lt, List, [], ◌∷◌, length, Option}
use Rattle.std.specs.Int.{IsInRange}
use Rattle.std.specs.List.{list_all, list_any}
use Rattle.std.specs.Ordering.{int_eq}
use Rattle.moment_core.specs.Units.{unit_of}
use Rattle.rule_core.specs.declared.ical.IcalRule.{IcalRule}
use Rattle.rule_core.specs.declared.lists.DayItem.{DayItem}
use Rattle.rule_core.specs.IcalChecks.{has_ordinal, is_monthly}
use Rattle.rule_core.specs.IcalMembers.{filled, ical_unit, is_by, meets_parts, has_uncounted}
use Rattle.rule_core.specs.Values.{is_given}
use Rattle.sieve_core.specs.declared.tables.DayTest.{DayTest}
use Rattle.sieve_core.specs.declared.tables.Sieve.{Sieve}
use Rattle.sieve_core.specs.Bits.{has_bit, is_zero}
use Rattle.sieve_core.specs.Members.{meets_rule, meets_tests}
use Rattle.moment_core.specs.declared.line.Moment.{Moment}

abbrev pub lists : List ℤ → ℤ → Bool
lists values z = list_any (λ v. int_eq v z) values

-- a signed table of the numbers below half: v at bit v and -w at bit half + w; it is zero exactly
-- where nothing is given
pub record IsTableOf (words : List ℕ) (half : ℕ) (values : List ℤ) : Type 0 where
  pub words_fit : 32 * length words ≡ half
  pub front : (v : ℕ) → (nat_lt v half && has_bit words v) ≡ lists values (pos v)
  pub back : (w : ℕ) → (nat_lt w half && has_bit words (half + w)) ≡ lists values (neg_ℤ (pos w))
  pub none : is_zero words ≡ not (is_given values)

-- a mask of the numbers below n
abbrev pub IsMaskOf : ℕ → ℕ → List ℤ → Type 0
IsMaskOf mask n values =
    (v : ℕ) → v < n → has_bit (mask ∷ []) v ≡ (not (is_given values) || lists values (pos v))

-- the weekdays by themselves at their bits, and for each weekday the signed table of its ordinals
pub record IsDayTableOf (week_days : ℕ) (nth : List (List ℕ)) (items : List DayItem) : Type 0 where
  pub plain : (w : ℕ) → IsInRange 1 7 w
      → has_bit (week_days ∷ []) w
      ≡ list_any (λ (item : DayItem). (w == item.day) && not (has_ordinal item)) items
  pub tables : (w : ℕ) → IsInRange 1 7 w → 32 * length (slice_index_or nth (w - 1) []) ≡ 64
  pub front : (w v : ℕ) → IsInRange 1 7 w → 0 < v
      → (nat_lt v 64 && has_bit (slice_index_or nth (w - 1) []) v)
      ≡ list_any (λ (item : DayItem). (w == item.day) && int_eq item.nth (pos v)) items
  pub back : (w v : ℕ) → IsInRange 1 7 w → 0 < v
      → (nat_lt v 64 && has_bit (slice_index_or nth (w - 1) []) (64 + v))
      ≡ list_any (λ (item : DayItem). (w == item.day) && int_eq item.nth (neg_ℤ (pos v))) items
  pub none : ((week_days == 0) && list_all is_zero nth) ≡ not (is_given items)

-- the tables and masks of a rule's test of days
pub record IsDayTestOf (r : IcalRule) (d : DayTest) : Type 0 where
  pub months : (m : ℕ) → 0 < m → m < 13
      → ((d.months == 0) || has_bit (d.months ∷ []) m)
      ≡ (not (is_given (filled r).by_month) || lists (filled r).by_month (pos m))
  pub first : d.first ≡ r.week_start
  pub weekday : IsInRange 1 7 r.week_start
  pub weeks : IsTableOf d.weeks 64 (filled r).by_week
  pub year_days : IsTableOf d.year_days 384 (filled r).by_year_day
  pub month_days : IsTableOf (d.month_days ∷ []) 32 (filled r).by_month_day
  pub week_days : IsDayTableOf d.week_days d.nth (filled r).by_day
  pub in_month : d.nth_in_month ≡ (is_monthly r.freq || is_given (filled r).by_month)

-- the tables, masks, unit and phase of a rule
pub record IsSieveOf (r : IcalRule) (s : Sieve) : Type 0 where
  pub unit : s.unit ≡ ical_unit r
  pub interval : s.interval ≡ unsigned_abs r.interval
  pub phase : s.phase ≡ unit_of (ical_unit r) r.start.moment.0
  pub days : IsDayTestOf r s.days
  pub hours : IsMaskOf s.hours 24 (filled r).by_hour
  pub minutes : IsMaskOf s.minutes 60 (filled r).by_minute
  pub seconds : IsMaskOf s.seconds 60 (filled r).by_second
  pub rank : IsTableOf s.rank.0 384 r.by_set_pos
  pub begins : s.first.0 ≡ r.start.moment.0

abbrev pub SievesTestRules : Type 0
SievesTestRules =
    (r : IcalRule) (s : Sieve) → IsSieveOf r s → (t : ℤ) → meets_tests s t ≡ meets_parts r t

-- from the sieve's first moment on and up to UNTIL, the sieve's tests, interval and rank are met
unfoldable pub has_until : Sieve → Option Moment → ℤ → Bool
has_until s until t = int_le s.first.0 t && meets_rule s t && is_by until t

-- there they are those of the rule without its COUNT
abbrev pub SievesHaveRules : Type 0
SievesHaveRules =
    (r : IcalRule) (s : Sieve) → IsSieveOf r s → (t : ℤ) → has_until s r.until t ≡ has_uncounted r t

-- where a signed table has a value
abbrev pub place_of : ℕ → ℤ → ℕ
place_of half v = if int_lt v (pos 0) then half + unsigned_abs v else unsigned_abs v

-- a value that a signed table of so many numbers can have
pub record IsEntry (half : ℕ) (v : ℤ) : Type 0 where
  pub low : neg_ℤ (pos half) <ℤ v
  pub high : v <ℤ pos half
  pub nonzero : int_eq v (pos 0) ≡ false

abbrev pub has_place : ℕ → ℕ → ℤ → Bool
has_place half j v = j == place_of half v

-- a weekday that is listed by itself
abbrev pub is_by_itself : DayItem → Bool
is_by_itself item = not (has_ordinal item)

-- an ordinal that the weekday's table can have, or none
abbrev pub IsDayEntry : DayItem → Type 0
IsDayEntry item = (neg_ℤ (pos 64) <ℤ item.nth) × (item.nth <ℤ pos 64)

-- the item has this weekday, with an ordinal
abbrev pub has_nth : ℕ → DayItem → Bool
has_nth w item = (w == item.day) && has_ordinal item

-- the signed table of the ordinals that are listed with a weekday
pub record IsNthTableOf (words : List ℕ) (w : ℕ) (items : List DayItem) : Type 0 where
  pub two : length words ≡ 2
  pub bits : (j : ℕ)
      → has_bit words j
      ≡ list_any (λ (item : DayItem). has_nth w item && has_place 64 j item.nth) items
  pub none : is_zero words ≡ not (list_any (has_nth w) items)
