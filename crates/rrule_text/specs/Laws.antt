-- The laws of texts.
use Rattle.std.specs.Prelude.{◌≡◌, ℕ, ◌==◌, nat_le, Bool, true, ◌&&◌, ◌||◌, List, Ok}
use Rattle.std.specs.List.{list_all}
use Rattle.moment_core.specs.declared.line.Stamp.{Stamp}
use Rattle.rule_core.specs.declared.ical.IcalRule.{IcalRule}
use Rattle.rule_core.specs.WrittenForm.{HasWeekdays, IsWritable}
use Rattle.rrule_text.specs.Reading.{rule_of}
use Rattle.rrule_text.specs.Writing.{text_of}

-- the written form is read back
abbrev pub WrittenIsRead : Type 0
WrittenIsRead =
    (r : IcalRule) → IsWritable r → HasWeekdays r → rule_of (text_of r) r.start ≡ Ok r

-- a rule that is read has a written form and the first moment that it was read with
pub record IsReadWith (start : Stamp) (r : IcalRule) : Type 0 where
  pub writable : IsWritable r
  pub weekdays : HasWeekdays r
  pub start_kept : r.start ≡ start

abbrev pub RulesAreWritable : Type 0
RulesAreWritable =
    (text : List ℕ) (start : Stamp) (r : IcalRule) → rule_of text start ≡ Ok r → IsReadWith start r

-- a digit, a capital letter, or one of , - ; =
abbrev pub is_plain : ℕ → Bool
is_plain b =
    (nat_le 48 b && nat_le b 57) || (nat_le 65 b && nat_le b 90) || b == 44 || b == 45 || b == 59
    || b == 61

-- the written form has no other bytes
abbrev pub WrittenIsPlain : Type 0
WrittenIsPlain =
    (r : IcalRule) → IsWritable r → HasWeekdays r → list_all is_plain (text_of r) ≡ true
