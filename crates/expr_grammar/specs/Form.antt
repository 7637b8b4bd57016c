-- Expressions as they are written, with what their tokens held.
use Rattle.std.specs.Prelude.{ℕ, ℤ, List, Option}
use Rattle.moment_core.specs.declared.line.Stamp.{Stamp}
use Rattle.rule_core.specs.declared.part.Freq.{Freq}
use Rattle.expr_grammar.specs.declared.syntax.BinaryOp.{BinaryOp}
use Rattle.expr_grammar.specs.declared.syntax.Key.{Key}
use Rattle.expr_grammar.specs.declared.syntax.SpanBound.{SpanBound}
use Rattle.moment_core.specs.declared.joining.UnaryOp.{UnaryOp}

-- a key and its numbers, or `start` and the stamp of its literal
pub data FieldForm : Type 0 where
  Values : (key : Key) (values : List ℤ) → FieldForm
  Start : (stamp : Option Stamp) → FieldForm

-- A moment is the stamp of its literal, or None where the literal names no moment of the calendar
-- range.
pub data Form : Type 0 where
  Empty : Form
  Listed : (moments : List (Option Stamp)) → Form
  Span : (low high : Option SpanBound) → Form
  Rule : (freq : Freq) (fields : List FieldForm) → Form
  Rrule : (text : List ℕ) (start : Option Stamp) → Form
  Unary : (op : UnaryOp) (a : Form) → Form
  Binary : (op : BinaryOp) (a b : Form) → Form

-- one expression, or two
pub record Forms : Type 0 where
  pub first : Form
  pub second : Option Form
