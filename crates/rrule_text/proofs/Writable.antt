-- What is read has a written form.
use Rattle.std.proofs.Common.{◌≡◌, ℕ, Bool, true, false, List, [], Option, Some, None, Ok, Err, refl, subst, arith}
use Rattle.std.specs.Prelude.{IfOk, Result, int_lt, option_map, if◌then◌else◌}
use Rattle.std.specs.Int.{IsInRange}
use Rattle.moment_core.specs.declared.line.Moment.{Moment}
use Rattle.moment_core.specs.declared.line.Stamp.{Stamp}
use Rattle.rule_core.specs.declared.ical.IcalRule.{IcalRule}
use Rattle.rule_core.specs.declared.part.Freq.{Freq}
use Rattle.rule_core.specs.declared.part.Part.{Part}
use Rattle.rule_core.specs.declared.part.Part.TheVariants as parts
use Rattle.rule_core.specs.declared.part.RuleFault.{RuleFault}
use Rattle.rule_core.specs.IcalChecks.{check_ical}
use Rattle.rule_core.specs.WrittenForm.{AreWeekdays, is_before, is_in_order}
use Rattle.rrule_values.specs.Laws.{ItemsAreOrdered, ItemsAreWeekdays, NamesAreWeekdays, NumbersAreOrdered}
use Rattle.rrule_values.specs.Lists.{items_in, numbers_in}
use Rattle.rrule_values.specs.Names.{day_named}
use Rattle.rrule_values.specs.Until.{ends_with_z, until_at}
use Rattle.rrule_text.specs.Fault.{Tells}
use Rattle.rrule_text.specs.Fault as faults
use Rattle.rrule_text.specs.declared.fault.RruleFault.{RruleFault}
use Rattle.rrule_text.specs.Laws.{IsReadWith, RulesAreWritable}
use Rattle.rrule_text.specs.Pieces.{are_pieces, has_signs}
use Rattle.rrule_text.specs.Reading.{body_of, by_day_in, checked, first_repeated, freq_in, list_in, or_else, rule_of, sketch_of, then_read, unrepeated, until_in, until_z_in, value_of, week_start_in, with_freq}

module _ (numbers : NumbersAreOrdered) (items : ItemsAreOrdered) (item_days : ItemsAreWeekdays)
    (named_days : NamesAreWeekdays) where
  -- the lists are in order
  list_ordered : (part : Part) (body : List ℕ) → is_in_order int_lt (list_in part body) ≡ true
  unfolding list_in
  list_ordered part body = by_value (value_of part body)
    where
      by_value : (value : Option (List ℕ))
          → is_in_order int_lt (or_else [] (option_map (numbers_in (has_signs part)) value)) ≡ true
      by_value None = refl
      by_value (Some value) = numbers (has_signs part) value

  by_day_ordered : (body : List ℕ) → is_in_order is_before (by_day_in body) ≡ true
  unfolding by_day_in
  by_day_ordered body = by_value (value_of parts.ByDay body)
    where
      by_value : (value : Option (List ℕ)) → is_in_order is_before
          (or_else [] (option_map items_in value)) ≡ true
      by_value None = refl
      by_value (Some value) = items value

  -- the weekdays are weekdays
  by_day_in_week : (body : List ℕ) → AreWeekdays (by_day_in body)
  unfolding by_day_in
  by_day_in_week body = by_value (value_of parts.ByDay body)
    where
      by_value : (value : Option (List ℕ)) → AreWeekdays (or_else [] (option_map items_in value))
      by_value None = λ k d lt. absurd (omega arith)
      by_value (Some value) = item_days value

  week_start_in_week : (body : List ℕ) → IsInRange 1 7 (week_start_in body)
  unfolding week_start_in
  week_start_in_week body = by_value (value_of parts.Wkst body)
    where
      by_day : (day : Option ℕ) → ((d : ℕ) → day ≡ Some d → IsInRange 1 7 d)
          → IsInRange 1 7 (or_else 1 day)
      by_day None h = (omega arith, omega arith)
      by_day (Some day) h = h day refl

      by_value : (value : Option (List ℕ)) → IsInRange 1 7 (or_else 1 (then_read day_named value))
      by_value None = (omega arith, omega arith)
      by_value (Some value) = by_day (day_named value) (named_days value)

  -- only an UNTIL has a Z
  only_until : (body : List ℕ) → until_in body ≡ None → until_z_in body ≡ false
  unfolding until_in until_z_in
  only_until body none = by_value (value_of parts.Until body) none
    where
      by_value : (value : Option (List ℕ)) → option_map {U = Moment}
          (λ value. record { 0 = until_at value }) value ≡ None
          → or_else false (option_map ends_with_z value) ≡ false
      by_value None e = refl
      by_value (Some value) e = absurd cc

  sketched : (body : List ℕ) (start : Stamp) (freq : Freq) → check_ical (sketch_of body start freq)
      ≡ Ok tt → IsReadWith start (sketch_of body start freq)
  sketched body start freq fine = record {
    writable = record {
      checked = fine;
      ordered = record {
        by_month = list_ordered parts.ByMonth body;
        by_week = list_ordered parts.ByWeekNo body;
        by_year_day = list_ordered parts.ByYearDay body;
        by_month_day = list_ordered parts.ByMonthDay body;
        by_day = by_day_ordered body;
        by_hour = list_ordered parts.ByHour body;
        by_minute = list_ordered parts.ByMinute body;
        by_second = list_ordered parts.BySecond body;
        by_set_pos = list_ordered parts.BySetPos body;
      };
      until_z = only_until body;
    };
    weekdays = record { by_day = by_day_in_week body; week_start = week_start_in_week body };
    start_kept = refl;
  }

  by_check : (body : List ℕ) (start : Stamp) (freq : Freq) (r : IcalRule)
      (found : Result (Unit {0}) RuleFault) → check_ical (sketch_of body start freq) ≡ found
      → checked (sketch_of body start freq) found ≡ Ok r → IsReadWith start r
  by_check body start freq r (Ok x) e answer =
      let same : sketch_of body start freq ≡ r = cc in
      subst (IsReadWith start) same (sketched body start freq e)
  by_check body start freq r (Err fault) e answer = absurd cc

  by_repeated : (body : List ℕ) (start : Stamp) (freq : Freq) (r : IcalRule)
      (repeated : Option Part)
      → unrepeated repeated
      (checked (sketch_of body start freq) (check_ical (sketch_of body start freq))) ≡ Ok r
      → IsReadWith start r
  by_repeated body start freq r None answer = by_check body start freq r
      (check_ical (sketch_of body start freq)) refl answer
  by_repeated body start freq r (Some part) answer = absurd cc

  by_freq : (body : List ℕ) (start : Stamp) (r : IcalRule) (freq : Option Freq)
      → with_freq body start freq ≡ Ok r → IsReadWith start r
  by_freq body start r None answer = absurd cc
  by_freq body start r (Some freq) answer = by_repeated body start freq r (first_repeated body)
      answer

  pub writable : RulesAreWritable
  writable text start r answer = by_form (are_pieces (body_of text)) answer
    where
      by_form : (b : Bool) → (if b then with_freq (body_of text) start (freq_in (body_of text)) else
          Err faults.Syntax) ≡ Ok r → IsReadWith start r
      by_form true answer = by_freq (body_of text) start r (freq_in (body_of text)) answer
      by_form false answer = absurd cc

-- and so is what a reader tells
pub told_writable : RulesAreWritable → (text : List ℕ) (start : Stamp)
    (r : Result IcalRule RruleFault) → Tells (rule_of text start) r → IfOk r (IsReadWith start)
told_writable law text start (Ok rule) told = law text start rule told
told_writable law text start (Err fault) told = tt
