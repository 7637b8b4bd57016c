-- The kind, the clock and the size of a tree, and the first fault that keeps it from having them.
use Rattle.std.specs.Prelude.{ℕ, ◌+◌, max, nat_lt, List, [], ◌∷◌, Bool, true, not, ◌&&◌, ◌||◌, Option, Some, None, Result, Ok, Err, if◌then◌else◌, pos, int_le, int_lt, unsigned_abs}
use Rattle.moment_core.specs.Clocks.{clock_of_stamp, one_clock}
use Rattle.moment_core.specs.declared.line.Clock.{Clock}
use Rattle.moment_core.specs.declared.line.Clock.TheVariants.{Any, Floating}
use Rattle.moment_core.specs.declared.line.Stamp.{Stamp}
use Rattle.moment_core.specs.declared.line.TheConstants.{REACH}
use Rattle.moment_core.specs.declared.joining.Op.{Op}
use Rattle.moment_core.specs.declared.joining.Op.TheVariants.{Union, Meet, Minus}
use Rattle.moment_core.specs.declared.joining.UnaryOp.{UnaryOp}
use Rattle.moment_core.specs.declared.joining.UnaryOp.TheVariants.{Not, During, Starts, Ends, Shift}
use Rattle.expr_tree.specs.Tree.{Rule, Listed, Field, Ical, Tree, Empty, Spanned, Ruled, Joined, Pairs, Unary}
use Rattle.expr_tree.specs.declared.tree.Kind.{Kind}
use Rattle.expr_tree.specs.declared.tree.Kind.TheVariants.{Moments, Spans}
use Rattle.expr_tree.specs.declared.sorting.Judged.{Judged}
use Rattle.expr_tree.specs.declared.sorting.Sort.{Sort}
use Rattle.expr_tree.specs.declared.sorting.SortFault.{SortFault}
use Rattle.expr_tree.specs.declared.sorting.SortFault.TheVariants as faults

-- how many nodes a tree has, and the longest path from its root
abbrev pub nodes_of : {R : Type 0} → Tree R → ℕ
nodes_of Empty = 1
nodes_of (Spanned bounds low high) = 1
nodes_of (Ruled rule) = 1
nodes_of (Joined op a b) = 1 + nodes_of a + nodes_of b
nodes_of (Pairs a b) = 1 + nodes_of a + nodes_of b
nodes_of (Unary op a) = 1 + nodes_of a

abbrev pub depth_of : Tree Rule → ℕ
depth_of Empty = 1
depth_of (Spanned bounds low high) = 1
depth_of (Ruled rule) = 1
depth_of (Joined op a b) = 1 + max (depth_of a) (depth_of b)
depth_of (Pairs a b) = 1 + max (depth_of a) (depth_of b)
depth_of (Unary op a) = 1 + depth_of a

-- how many seconds past a place a set is looked at for what is made of it
abbrev pub looks_past : UnaryOp → ℕ
looks_past Not = 0
looks_past (During seconds) = unsigned_abs seconds
looks_past Starts = 1
looks_past Ends = 1
looks_past (Shift seconds) = unsigned_abs seconds

-- the greatest sum of these along a path: how many seconds past the calendar range one may look for
-- a position. Pairs look back no farther than to the range's beginning.
abbrev pub reach_of : {R : Type 0} → Tree R → ℕ
reach_of Empty = 0
reach_of (Spanned bounds low high) = 0
reach_of (Ruled rule) = 0
reach_of (Joined op a b) = max (reach_of a) (reach_of b)
reach_of (Pairs a b) = max (reach_of a) (reach_of b)
reach_of (Unary op a) = looks_past op + reach_of a

-- a duration is at least a second, and so is each one of a tree
abbrev pub lasts : UnaryOp → Bool
lasts (During seconds) = int_le (pos 1) seconds
lasts op = true

abbrev pub durations_last : Tree Rule → Bool
durations_last Empty = true
durations_last (Spanned bounds low high) = true
durations_last (Ruled rule) = true
durations_last (Joined op a b) = durations_last a && durations_last b
durations_last (Pairs a b) = durations_last a && durations_last b
durations_last (Unary op a) = lasts op && durations_last a

-- the one clock of both, if there is one of the first
abbrev pub one_clock_if : Option Clock → Clock → Option Clock
one_clock_if None b = None
one_clock_if (Some a) b = one_clock a b

-- the one clock of a clock and of the moments
abbrev pub clock_with : Option Clock → List Stamp → Option Clock
clock_with clock [] = clock
clock_with clock (stamp ∷ stamps) = clock_with (one_clock_if clock (clock_of_stamp stamp)) stamps

-- the one clock of the moments, any where there are none
abbrev pub clock_of_stamps : List Stamp → Option Clock
clock_of_stamps stamps = clock_with (Some Any) stamps

-- the clock of a rule's start, floating where none is given
abbrev pub clock_of_start : Option Stamp → Clock
clock_of_start (Some stamp) = clock_of_stamp stamp
clock_of_start None = Floating

-- a set of moments and spans is one of spans
abbrev pub either_kind : Kind → Kind → Kind
either_kind Moments Moments = Moments
either_kind a b = Spans

-- what both sets have is moments where one of them is
abbrev pub both_kind : Kind → Kind → Kind
both_kind Spans Spans = Spans
both_kind a b = Moments

abbrev pub with_clock : Kind → Option Clock → Result Judged SortFault
with_clock kind (Some clock) = Ok (record { kind = kind; clock = clock })
with_clock kind None = Err faults.Clock

-- the kind of what joins two sets
abbrev pub joined_kind : Op → Kind → Kind → Kind
joined_kind Union a b = either_kind a b
joined_kind Meet a b = both_kind a b
joined_kind Minus a b = a

-- the kind and the clock of what joins two sets, of which the first one's fault comes first
abbrev pub join_judged : Op → Result Judged SortFault → Result Judged SortFault
    → Result Judged SortFault
join_judged op (Err fault) b = Err fault
join_judged op (Ok a) (Err fault) = Err fault
join_judged op (Ok a) (Ok b) = with_clock (joined_kind op a.kind b.kind) (one_clock a.clock b.clock)

-- the kind with the clock of a set, which has its fault
abbrev pub as_kind : Kind → Result Judged SortFault → Result Judged SortFault
as_kind kind (Err fault) = Err fault
as_kind kind (Ok a) = Ok (record { kind = kind; clock = a.clock })

-- spans are made of moments alone
abbrev pub spans_of : Kind → Option Clock → Result Judged SortFault
spans_of Moments clock = with_clock Spans clock
spans_of Spans clock = Err faults.Kind

abbrev pub during_judged : Result Judged SortFault → Result Judged SortFault
during_judged (Err fault) = Err fault
during_judged (Ok a) = spans_of a.kind (Some a.clock)

abbrev pub pairs_judged : Result Judged SortFault → Result Judged SortFault
    → Result Judged SortFault
pairs_judged (Err fault) b = Err fault
pairs_judged (Ok a) (Err fault) = Err fault
pairs_judged (Ok a) (Ok b) = spans_of (either_kind a.kind b.kind) (one_clock a.clock b.clock)

-- the kind and the clock of what is made of one set
abbrev pub unary_judged : UnaryOp → Result Judged SortFault → Result Judged SortFault
unary_judged Not a = as_kind Spans a
unary_judged (During seconds) a = during_judged a
unary_judged Starts a = as_kind Moments a
unary_judged Ends a = as_kind Moments a
unary_judged (Shift seconds) a = a

-- the kind and the clock of a tree, or the fault of the first node that has one: children first,
-- left before right
abbrev pub judge : Tree Rule → Result Judged SortFault
judge Empty = Ok (record { kind = Moments; clock = Any })
judge (Ruled (Listed stamps)) = with_clock Moments (clock_of_stamps stamps)
judge (Spanned bounds low high) = with_clock Spans (one_clock low high)
judge (Ruled (Field rule)) = Ok (record { kind = Moments; clock = clock_of_start rule.start })
judge (Ruled (Ical rule)) = Ok (record { kind = Moments; clock = clock_of_stamp rule.start })
judge (Joined op a b) = join_judged op (judge a) (judge b)
judge (Pairs a b) = pairs_judged (judge a) (judge b)
judge (Unary op a) = unary_judged op (judge a)

-- the most nodes that a tree with a sort has, and the most that a path from its root has
abbrev pub node_limit : ℕ
node_limit = 1024

abbrev pub path_limit : ℕ
path_limit = 128

-- a duration is too short, or some path looks too far
abbrev pub reaches_badly : Tree Rule → Bool
reaches_badly t = not (durations_last t) || int_lt REACH (pos (reach_of t))

abbrev pub sort_with : Tree Rule → Result Judged SortFault → Result Sort SortFault
sort_with t (Err fault) = Err fault
sort_with t (Ok judged) =
    if reaches_badly t then Err faults.Reach
    else Ok (record {
      kind = judged.kind;
      clock = judged.clock;
      reach = pos (reach_of t);
      depth = depth_of t;
      nodes = nodes_of t;
    })

-- the sort, or the first fault: too many nodes, too deep, a node's own, too far
abbrev pub sort_of_tree : Tree Rule → Result Sort SortFault
sort_of_tree t =
    if nat_lt node_limit (nodes_of t) then Err faults.Nodes
    else if nat_lt path_limit (depth_of t) then Err faults.Depth
    else sort_with t (judge t)
