-- The lines that refuse words or a text.
use Rattle.std.specs.Prelude.{ℕ, List, ◌++◌, codes, decimal}
use Rattle.expr_tree.specs.declared.sorting.SortFault.{SortFault}
use Rattle.expr_tree.specs.declared.sorting.SortFault.TheVariants as sorts
use Rattle.moment_core.specs.Line.{IsWorkingMoment}
use Rattle.moment_core.specs.declared.line.Clock.TheVariants.{Floating}
use Rattle.report_text.specs.Lines.{moment_text, with_line_feed}
use Rattle.report_text.specs.Parts.{rrule_part_name, rule_fault_text}
use Rattle.report_text.specs.declared.refusals.Refusal.{Refusal}
use Rattle.report_text.specs.declared.refusals.Refusal.TheVariants.{Words, Unbuilt, Long, Token, Syntax, Moment, Rule, RruleSyntax, RruleRepeated, Rrule, Sort, Two, Clock, Settle}

abbrev pub sort_text : SortFault → List ℕ
sort_text sorts.Nodes = codes "nodes"
sort_text sorts.Depth = codes "depth"
sort_text sorts.Event = codes "event"
sort_text sorts.Kind = codes "kind"
sort_text sorts.Clock = codes "clock"
sort_text sorts.Reach = codes "reach"

-- numbers are in decimal, and the place of a candidate is floating
abbrev pub refusal_text : Refusal → List ℕ
refusal_text (Words n) = codes "words " ++ decimal n
refusal_text Unbuilt = codes "unbuilt"
refusal_text Long = codes "long"
refusal_text (Token byte) = codes "token " ++ decimal byte
refusal_text Syntax = codes "syntax"
refusal_text (Moment byte) = codes "moment " ++ decimal byte
refusal_text (Rule fault) = codes "rule " ++ rule_fault_text fault
refusal_text RruleSyntax = codes "rrule syntax"
refusal_text (RruleRepeated part) = codes "rrule repeated " ++ rrule_part_name part
refusal_text (Rrule fault) = codes "rrule " ++ rule_fault_text fault
refusal_text (Sort fault) = codes "sort " ++ sort_text fault
refusal_text Two = codes "two"
refusal_text Clock = codes "clock"
refusal_text (Settle passed at) =
    codes "settle " ++ decimal passed ++ codes " " ++ moment_text Floating at.0

-- a candidate that the line tells is of the working range
abbrev pub IsPrintable : Refusal → Type 0
IsPrintable (Settle passed at) = IsWorkingMoment at.0
IsPrintable refusal = Unit {0}

-- The line of a refusal.
abbrev pub refusal_line : Refusal → List ℕ
refusal_line refusal = with_line_feed (codes "refused " ++ refusal_text refusal)
