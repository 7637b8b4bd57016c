-- The tree that an expression stands for.
use Rattle.std.specs.Prelude.{Bool, true, false, ◌&&◌, List, [], ◌∷◌, Option, Some, None, option_map, if◌then◌else◌}
use Rattle.moment_core.specs.Clocks.{clock_of_stamp}
use Rattle.moment_core.specs.declared.line.Clock.{Clock}
use Rattle.moment_core.specs.declared.line.Clock.TheVariants.{Any}
use Rattle.moment_core.specs.declared.line.Stamp.{Stamp}
use Rattle.span_core.specs.declared.bounds.Bound.{Bound}
use Rattle.span_core.specs.declared.bounds.Bound.TheVariants.{Closed, Open, Inf}
use Rattle.expr_grammar.specs.declared.syntax.BinaryOp.{BinaryOp}
use Rattle.expr_grammar.specs.declared.syntax.BinaryOp.TheVariants as binaries
use Rattle.expr_grammar.specs.declared.syntax.SpanBound.{SpanBound}
use Rattle.expr_grammar.specs.Form.{Form, Forms}
use Rattle.expr_grammar.specs.Form as forms
use Rattle.expr_text.specs.Rules.{rule_from}
use Rattle.expr_text.specs.Rrules.{rrule_from}
use Rattle.expr_tree.specs.Tree.{Rule, Listed, Field, Ical, Tree, Empty, Spanned, Ruled, Joined, Pairs, Unary, Trees}

-- two values, where there are both
abbrev pub both : {A B C : Type 0} → (A → B → C) → Option A → Option B → Option C
both f (Some a) (Some b) = Some (f a b)
both f (Some a) None = None
both f None b = None

-- the moments that literals name, where each names one
abbrev pub stamps_of : List (Option Stamp) → Option (List Stamp)
stamps_of [] = Some []
stamps_of (m ∷ ms) = both (λ s ss. s ∷ ss) m (stamps_of ms)

-- The bound that a literal gives. One that names no moment is refused before its bound is asked.
abbrev pub bound_at : Bool → Option Stamp → Bound
bound_at closed None = Inf
bound_at true (Some s) = Closed s.moment
bound_at false (Some s) = Open s.moment

abbrev pub clock_at : Option Stamp → Clock
clock_at None = Any
clock_at (Some s) = clock_of_stamp s

-- a bound that isn't written is infinite, and has any clock
abbrev pub bound_of : Option SpanBound → Bound
bound_of None = Inf
bound_of (Some b) = bound_at b.closed b.stamp

abbrev pub clock_of : Option SpanBound → Clock
clock_of None = Any
clock_of (Some b) = clock_at b.stamp

abbrev pub is_some : Option Stamp → Bool
is_some None = false
is_some (Some s) = true

-- a bound that is written names a moment
abbrev pub is_named : Option SpanBound → Bool
is_named None = true
is_named (Some b) = is_some b.stamp

abbrev pub listed : List Stamp → Tree Rule
listed stamps = Ruled (Listed stamps)

-- the tree that is made of two
abbrev pub binary_tree : BinaryOp → Tree Rule → Tree Rule → Tree Rule
binary_tree (binaries.Infix op) a b = Joined op a b
binary_tree binaries.Pairs a b = Pairs a b

-- the tree, where each literal names a moment and each text of a rule has no fault
abbrev pub tree_from : Form → Option (Tree Rule)
tree_from forms.Empty = Some Empty
tree_from (forms.Listed literals) = option_map listed (stamps_of literals)
tree_from (forms.Span low high) =
    if is_named low && is_named high
    then Some (Spanned (bound_of low, bound_of high) (clock_of low) (clock_of high))
    else None
tree_from (forms.Rule freq fields) = option_map (λ rule. Ruled (Field rule)) (rule_from freq fields)
tree_from (forms.Rrule text start) = option_map (λ rule. Ruled (Ical rule)) (rrule_from text start)
tree_from (forms.Unary op a) = option_map (Unary op) (tree_from a)
tree_from (forms.Binary op a b) = both (binary_tree op) (tree_from a) (tree_from b)

-- one tree, or two
abbrev pub with_second : Tree Rule → Option (Tree Rule) → Trees
with_second t second = record { first = t; second = second }

abbrev pub trees_with : Option (Tree Rule) → Option Form → Option Trees
trees_with first None = option_map (λ t. with_second t None) first
trees_with first (Some second) = both (λ t u. with_second t (Some u)) first (tree_from second)

abbrev pub trees_from : Forms → Option Trees
trees_from p = trees_with (tree_from p.first) p.second
