-- Expressions by the moments that they are made of.
use Rattle.std.specs.Prelude.{[], ◌∷◌, Option, Some, None}
use Rattle.std.specs.List.{AllByRecursion}
use Rattle.moment_core.specs.Line.{IsCalendarMoment}
use Rattle.moment_core.specs.declared.line.Stamp.{Stamp}
use Rattle.expr_tokens.specs.Plain.{Token}
use Rattle.expr_tokens.specs.Plain as tokens
use Rattle.expr_grammar.specs.declared.syntax.SpanBound.{SpanBound}
use Rattle.expr_grammar.specs.Fields.{AreFields}
use Rattle.expr_grammar.specs.Form.{FieldForm, Values, Start, Form, Empty, Listed, Span, Rule, Rrule, Unary, Binary, Forms}

-- the literal names a moment of the calendar range
abbrev pub IsDated : Option Stamp → Type 0
IsDated None = ⊥
IsDated (Some s) = IsCalendarMoment s.moment.0

-- the property holds of the literal, where the token is one
abbrev pub HasMoment : (Option Stamp → Type 0) → Token → Type 0
HasMoment P (tokens.Moment m) = P m
HasMoment P t = Unit {0}

abbrev pub BoundHas : (Option Stamp → Type 0) → Option SpanBound → Type 0
BoundHas P None = Unit {0}
BoundHas P (Some b) = P b.stamp

abbrev pub FieldHas : (Option Stamp → Type 0) → FieldForm → Type 0
FieldHas P (Values key values) = Unit {0}
FieldHas P (Start stamp) = P stamp

-- the property holds of each literal, no list is empty, and rules have each key once and its
-- numbers
abbrev pub IsMade : (Option Stamp → Type 0) → Form → Type 0
IsMade P Empty = Unit {0}
IsMade P (Listed []) = ⊥
IsMade P (Listed (m ∷ ms)) = P m × AllByRecursion P ms
IsMade P (Span low high) = BoundHas P low × BoundHas P high
IsMade P (Rule freq fields) = AllByRecursion (FieldHas P) fields × AreFields fields
IsMade P (Rrule text start) = P start
IsMade P (Unary op a) = IsMade P a
IsMade P (Binary op a b) = IsMade P a × IsMade P b

abbrev pub IsMadeSecond : (Option Stamp → Type 0) → Option Form → Type 0
IsMadeSecond P None = Unit {0}
IsMadeSecond P (Some t) = IsMade P t

abbrev pub AreMade : (Option Stamp → Type 0) → Forms → Type 0
AreMade P p = IsMade P p.first × IsMadeSecond P p.second
