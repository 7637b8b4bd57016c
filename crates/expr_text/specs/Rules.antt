-- The rule that fields stand for, and its fault.
use Rattle.std.specs.Prelude.{◌==◌, ℤ, pos, List, [], ◌∷◌, Option, Some, None, option_map, Result, Ok, Err, if◌then◌else◌}
use Rattle.moment_core.specs.declared.line.Stamp.{Stamp}
use Rattle.rule_core.specs.FieldChecks.{check_of}
use Rattle.rule_core.specs.declared.field.FieldRule.{FieldRule}
use Rattle.rule_core.specs.declared.part.Freq.{Freq}
use Rattle.rule_core.specs.declared.part.RuleFault.{RuleFault}
use Rattle.expr_grammar.specs.declared.syntax.Key.{Key}
use Rattle.expr_grammar.specs.declared.syntax.Key.TheVariants as keys
use Rattle.expr_grammar.specs.Fields.{key_place}
use Rattle.expr_grammar.specs.Form.{FieldForm, Values, Start}

-- the numbers of a key, none where its field isn't given
abbrev pub numbers_of : Key → List FieldForm → List ℤ
numbers_of key [] = []
numbers_of key (Values other values ∷ fields) =
    if key_place other == key_place key then values else numbers_of key fields
numbers_of key (Start stamp ∷ fields) = numbers_of key fields

abbrev pub first_of : List ℤ → Option ℤ
first_of [] = None
first_of (n ∷ ns) = Some n

-- 1 where no interval is given
abbrev pub interval_of : Option ℤ → ℤ
interval_of None = pos 1
interval_of (Some n) = n

-- the literal of the start, where a start is given
abbrev pub literal_in : List FieldForm → Option (Option Stamp)
literal_in [] = None
literal_in (Values key values ∷ fields) = literal_in fields
literal_in (Start stamp ∷ fields) = Some stamp

-- the start, where its literal names a moment
abbrev pub start_from : Option (Option Stamp) → Option (Option Stamp)
start_from None = Some None
start_from (Some literal) = option_map (λ (s : Stamp). Some s) literal

abbrev pub rule_with : Freq → List FieldForm → Option Stamp → FieldRule
rule_with freq fields start = record {
  freq = freq;
  months = numbers_of keys.Months fields;
  weeks = numbers_of keys.Weeks fields;
  days = numbers_of keys.Days fields;
  hours = numbers_of keys.Hours fields;
  minutes = numbers_of keys.Minutes fields;
  seconds = numbers_of keys.Seconds fields;
  interval = interval_of (first_of (numbers_of keys.Interval fields));
  start = start;
  week_start = first_of (numbers_of keys.WeekStart fields);
}

-- the rule, where its start names a moment
abbrev pub rule_from : Freq → List FieldForm → Option FieldRule
rule_from freq fields = option_map (rule_with freq fields) (start_from (literal_in fields))

abbrev pub fault_in_check : Result (Unit {0}) RuleFault → Option RuleFault
fault_in_check (Ok done) = None
fault_in_check (Err fault) = Some fault

-- why the rule is none
abbrev pub fault_of_rule : FieldRule → Option RuleFault
fault_of_rule rule = fault_in_check (check_of rule)

abbrev pub fault_where_rule : Option FieldRule → Option RuleFault
fault_where_rule None = None
fault_where_rule (Some rule) = fault_of_rule rule
