-- The fields of a rule's printed form.
use Rattle.std.specs.Prelude.{ℕ, ℤ, pos, Bool, true, false, List, [], ◌∷◌, ◌++◌, Option, Some, None, codes, if◌then◌else◌}
use Rattle.std.specs.Fmt.{signed_decimal}
use Rattle.std.specs.List.{flat_map}
use Rattle.std.specs.Option.{option_to_list}
use Rattle.std.specs.Ordering.{int_eq}
use Rattle.moment_core.specs.declared.line.Stamp.{Stamp}
use Rattle.moment_text.specs.Literal.{literal_of}
use Rattle.rule_core.specs.declared.field.FieldRule.{FieldRule}
use Rattle.expr_tokens.specs.Names.{name_of}
use Rattle.expr_grammar.specs.declared.syntax.Key.{Key}
use Rattle.expr_grammar.specs.declared.syntax.Key.TheVariants as keys
use Rattle.expr_grammar.specs.Fields.{freq_word, key_word}

-- no space after a comma between numbers
abbrev pub next_number : ℤ → List ℕ
next_number n = codes "," ++ signed_decimal n

-- a field of numbers before others, where there are some
abbrev pub numbers_before : Key → List ℤ → List (List ℕ) → List (List ℕ)
numbers_before key [] fields = fields
numbers_before key (n ∷ ns) fields =
    (name_of (key_word key) ++ codes "=" ++ (signed_decimal n ++ flat_map next_number ns)) ∷ fields

-- a start before others, where there is one
abbrev pub start_before : Option Stamp → List (List ℕ) → List (List ℕ)
start_before None fields = fields
start_before (Some s) fields = (codes "start=" ++ literal_of s.moment.0 s.absolute) ∷ fields

-- an interval of 1 is not printed
abbrev pub interval_printed : ℤ → List ℤ
interval_printed n = if int_eq n (pos 1) then [] else n ∷ []

-- the fields that are printed, in their order
abbrev pub printed_fields : FieldRule → List (List ℕ)
printed_fields r =
    numbers_before keys.Months r.months
    (numbers_before keys.Weeks r.weeks
    (numbers_before keys.Days r.days
    (numbers_before keys.Hours r.hours
    (numbers_before keys.Minutes r.minutes
    (numbers_before keys.Seconds r.seconds
    (numbers_before keys.Interval (interval_printed r.interval)
    (start_before r.start
    (numbers_before keys.WeekStart (option_to_list r.week_start) []))))))))

abbrev pub next_field : List ℕ → List ℕ
next_field field = codes " " ++ field

-- one space between two fields
abbrev pub with_spaces : List (List ℕ) → List ℕ
with_spaces [] = []
with_spaces (field ∷ fields) = field ++ flat_map next_field fields

-- the same, where a field stands before them or none does
abbrev pub fields_text : Bool → List (List ℕ) → List ℕ
fields_text true fields = flat_map next_field fields
fields_text false fields = with_spaces fields

abbrev pub field_rule_text : FieldRule → List ℕ
field_rule_text r =
    name_of (freq_word r.freq) ++ codes "(" ++ with_spaces (printed_fields r) ++ codes ")"
