-- Trees as every text gives them.
use Rattle.std.specs.Prelude.{◌≡◌, ◌<◌, ◌↔◌, All, Ok, Option, Some, None, length}
use Rattle.moment_core.specs.Line.{IsCalendarMoment}
use Rattle.moment_core.specs.declared.line.Clock.{Clock}
use Rattle.moment_core.specs.declared.line.Clock.TheVariants.{Any}
use Rattle.rule_core.specs.FieldChecks.{check_of}
use Rattle.rule_core.specs.FieldMembers.{start_of}
use Rattle.rule_core.specs.WrittenForm.{HasWeekdays, IsWritable}
use Rattle.span_core.specs.Bounds.{IsSpan}
use Rattle.span_core.specs.declared.bounds.Bound.{Bound}
use Rattle.span_core.specs.declared.bounds.Bound.TheVariants.{Inf}
use Rattle.expr_tree.specs.Tree.{Rule, Listed, Field, Ical, Tree, Empty, Spanned, Ruled, Joined, Pairs, Unary, Trees}

-- a bound has any clock exactly where it isn't given
abbrev pub HasClock : Bound → Clock → Type 0
HasClock bound clock = (bound ≡ Inf) ↔ (clock ≡ Any)

-- no list is empty, and its moments are of the calendar range; a rule has no fault, one of RFC 5545
-- is as its text is read, and its start is of the calendar range; a span has a position, and clocks
-- for the bounds that are given
abbrev pub IsWellFormed : Tree Rule → Type 0
IsWellFormed Empty = Unit {0}
IsWellFormed (Ruled (Listed stamps)) =
    (0 < length stamps) × All (λ stamp. IsCalendarMoment stamp.moment.0) stamps
IsWellFormed (Spanned bounds low high) =
    IsSpan bounds.0 bounds.1 × HasClock bounds.0 low × HasClock bounds.1 high
IsWellFormed (Ruled (Field rule)) = (check_of rule ≡ Ok tt) × IsCalendarMoment (start_of rule.start)
IsWellFormed (Ruled (Ical rule)) =
    IsWritable rule × HasWeekdays rule × IsCalendarMoment rule.start.moment.0
IsWellFormed (Joined op a b) = IsWellFormed a × IsWellFormed b
IsWellFormed (Pairs a b) = IsWellFormed a × IsWellFormed b
IsWellFormed (Unary op a) = IsWellFormed a

abbrev pub IsWellFormedSecond : Option (Tree Rule) → Type 0
IsWellFormedSecond None = Unit {0}
IsWellFormedSecond (Some t) = IsWellFormed t

abbrev pub AreWellFormed : Trees → Type 0
AreWellFormed p = IsWellFormed p.first × IsWellFormedSecond p.second
