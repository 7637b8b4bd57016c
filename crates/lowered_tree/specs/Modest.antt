-- How far the ends of a tree's frame lie.
use Rattle.std.specs.Prelude.{ℕ, ◌+◌, ◌*◌, ◌^◌, ◌≤◌, unsigned_abs, IfSome}
use Rattle.frame_core.specs.declared.frames.Frame.{Frame}
use Rattle.stored_pair.specs.Meanings.{Meaning}
use Rattle.stored_pair.specs.Recurrences.{AreModest}
use Rattle.expr_tree.specs.Sorts.{nodes_of, reach_of}
use Rattle.expr_tree.specs.Tree.{Tree, Empty, Spanned, Ruled, Joined, Pairs, Unary}
use Rattle.search_core.specs.TreeFrames.{span_frame}

-- the frame of each leaf has modest ends
abbrev pub HasModestLeaves : Tree Meaning → Type 0
HasModestLeaves Empty = Unit {0}
HasModestLeaves (Spanned bounds low high) = AreModest (span_frame bounds)
HasModestLeaves (Ruled rule) = IfSome rule.frame AreModest
HasModestLeaves (Joined op a b) = HasModestLeaves a × HasModestLeaves b
HasModestLeaves (Pairs a b) = HasModestLeaves a × HasModestLeaves b
HasModestLeaves (Unary op a) = HasModestLeaves a

-- neither end of the frame lies farther than so from 0
abbrev pub IsWithin : ℕ → Frame → Type 0
IsWithin n frame = (unsigned_abs frame.lo.0 ≤ n) × (unsigned_abs frame.hi.0 ≤ n)

-- a period more for each node, and what the tree looks farther
abbrev pub farthest_end : Tree Meaning → ℕ
farthest_end t = 2 ^ 42 * nodes_of t + 2 * reach_of t
