-- Rules as their written form gives them.
use Rattle.std.specs.Prelude.{◌≡◌, ◌==◌, nat_lt, int_lt, Bool, true, false, not, ◌&&◌, ◌||◌, List, [], ◌∷◌, None, Ok}
use Rattle.std.specs.Int.{IsInRange}
use Rattle.std.specs.List.{All, list_all}
use Rattle.rule_core.specs.declared.ical.IcalRule.{IcalRule}
use Rattle.rule_core.specs.declared.lists.DayItem.{DayItem}
use Rattle.rule_core.specs.IcalChecks.{check_ical, has_ordinal}

-- by weekday, and then by ordinal, an item without one first
unfoldable pub is_before : DayItem → DayItem → Bool
is_before a b =
    nat_lt a.day b.day
    || ((a.day == b.day) && has_ordinal b && (not (has_ordinal a) || int_lt a.nth b.nth))

-- each stands before all later ones, so none is repeated
abbrev pub is_in_order : {X : Type 0} → (X → X → Bool) → List X → Bool
is_in_order before [] = true
is_in_order before (x ∷ xs) = list_all (before x) xs && is_in_order before xs

-- each list stands in the order of the written form
pub record IsOrdered (r : IcalRule) : Type 0 where
  pub by_month : is_in_order int_lt r.by_month ≡ true
  pub by_week : is_in_order int_lt r.by_week ≡ true
  pub by_year_day : is_in_order int_lt r.by_year_day ≡ true
  pub by_month_day : is_in_order int_lt r.by_month_day ≡ true
  pub by_day : is_in_order is_before r.by_day ≡ true
  pub by_hour : is_in_order int_lt r.by_hour ≡ true
  pub by_minute : is_in_order int_lt r.by_minute ≡ true
  pub by_second : is_in_order int_lt r.by_second ≡ true
  pub by_set_pos : is_in_order int_lt r.by_set_pos ≡ true

-- A rule that has a written form: `check` finds no fault, the lists are in order, and only an UNTIL
-- has a Z.
pub record IsWritable (r : IcalRule) : Type 0 where
  pub checked : check_ical r ≡ Ok tt
  pub ordered : IsOrdered r
  pub until_z : r.until ≡ None → r.until_z ≡ false

-- weekdays are 1 to 7, as they are in each rule that the code holds
abbrev pub AreWeekdays : List DayItem → Type 0
AreWeekdays items = All (λ item. IsInRange 1 7 item.day) items

pub record HasWeekdays (r : IcalRule) : Type 0 where
  pub by_day : AreWeekdays r.by_day
  pub week_start : IsInRange 1 7 r.week_start
