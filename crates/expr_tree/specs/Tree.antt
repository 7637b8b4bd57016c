-- Trees of sets without pointers, of which every definition speaks, over rules as they were written
-- or over what they mean.
use Rattle.std.specs.Prelude.{List, Option, option_map}
use Rattle.moment_core.specs.declared.line.Clock.{Clock}
use Rattle.moment_core.specs.declared.line.Stamp.{Stamp}
use Rattle.span_core.specs.declared.bounds.Bound.{Bound}
use Rattle.moment_core.specs.declared.joining.Op.{Op}
use Rattle.moment_core.specs.declared.joining.Op.TheVariants.{Union, Meet, Minus}
use Rattle.moment_core.specs.declared.joining.UnaryOp.{UnaryOp}
use Rattle.moment_core.specs.declared.joining.UnaryOp.TheVariants.{Not, During, Starts, Ends, Shift}
use Rattle.stored_pair.specs.Meanings.{Entries, Meaning}
use Rattle.field_rules.specs.Rules.{meaning_of_field}
use Rattle.ical_rules.specs.Rules.{meaning_of_ical}
use Rattle.rule_core.specs.declared.field.FieldRule.{FieldRule}
use Rattle.rule_core.specs.declared.ical.IcalRule.{IcalRule}
use Rattle.expr_tree.specs.Lists.{meaning_of_list}
use Rattle.expr_tree.specs.declared.tree.Expr.{Expr}
use Rattle.expr_tree.specs.declared.tree.Expr.TheVariants as exprs
use Rattle.expr_tree.specs.declared.tree.Program.{Program}

pub data Tree (R : Type 0) : Type 0 where
  Empty : Tree R
  Spanned : (bounds : Bound × Bound) (low high : Clock) → Tree R
  Ruled : (rule : R) → Tree R
  Joined : (op : Op) (a b : Tree R) → Tree R
  Pairs : (a b : Tree R) → Tree R
  Unary : (op : UnaryOp) (a : Tree R) → Tree R

-- a rule of moments as it was written: each of them, by fields, or by RFC 5545
pub data Rule : Type 0 where
  Listed : (stamps : List Stamp) → Rule
  Field : (rule : FieldRule) → Rule
  Ical : (rule : IcalRule) → Rule

abbrev pub tree_of : Expr → Tree Rule
tree_of exprs.Empty = Empty
tree_of (exprs.List stamps) = Ruled (Listed stamps)
tree_of (exprs.Span span low high) = Spanned span low high
tree_of (exprs.Field rule) = Ruled (Field rule)
tree_of (exprs.Rrule rule) = Ruled (Ical rule)
tree_of (exprs.Union' x a y b) = Joined Union (tree_of a) (tree_of b)
tree_of (exprs.Meet' x a y b) = Joined Meet (tree_of a) (tree_of b)
tree_of (exprs.Minus' x a y b) = Joined Minus (tree_of a) (tree_of b)
tree_of (exprs.Not' x a) = Unary Not (tree_of a)
tree_of (exprs.During' x a seconds) = Unary (During seconds) (tree_of a)
tree_of (exprs.Pairs' x a y b) = Pairs (tree_of a) (tree_of b)
tree_of (exprs.Starts' x a) = Unary Starts (tree_of a)
tree_of (exprs.Ends' x a) = Unary Ends (tree_of a)
tree_of (exprs.Shift' x a seconds) = Unary (Shift seconds) (tree_of a)

-- one tree, or two
pub record Trees : Type 0 where
  pub first : Tree Rule
  pub second : Option (Tree Rule)

abbrev pub trees_of : Program → Trees
trees_of p = record { first = tree_of p.first; second = option_map tree_of p.second }

-- what a rule means, where the book's entries mean these, and a tree with each rule's meaning in
-- its place
abbrev pub meaning_of : Entries → Rule → Meaning
meaning_of entries (Listed stamps) = meaning_of_list stamps
meaning_of entries (Field rule) = meaning_of_field rule
meaning_of entries (Ical rule) = meaning_of_ical rule

abbrev pub meant_of : Entries → Tree Rule → Tree Meaning
meant_of entries Empty = Empty
meant_of entries (Spanned bounds low high) = Spanned bounds low high
meant_of entries (Ruled rule) = Ruled (meaning_of entries rule)
meant_of entries (Joined op a b) = Joined op (meant_of entries a) (meant_of entries b)
meant_of entries (Pairs a b) = Pairs (meant_of entries a) (meant_of entries b)
meant_of entries (Unary op a) = Unary op (meant_of entries a)
