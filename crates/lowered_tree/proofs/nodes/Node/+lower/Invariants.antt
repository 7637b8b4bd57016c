use Rattle.std.proofs.Common.{◌+◌, ◌*◌}
use Rattle.expr_tree.specs.Sorts.{nodes_of}
use Rattle.expr_tree.specs.Tree.{tree_of}
use Rattle.lowered_tree.proofs.nodes.Node.+lower.Given as goal

abbrev pub decreases-lower : goal.decreases-lower
decreases-lower l = 2 * nodes_of (tree_of l.e.now)

abbrev pub decreases-lower_joined : goal.decreases-lower_joined
decreases-lower_joined l = 2 * (nodes_of (tree_of l.a.now) + nodes_of (tree_of l.b.now)) + 1

abbrev pub decreases-lower_pairs : goal.decreases-lower_pairs
decreases-lower_pairs l = 2 * (nodes_of (tree_of l.a.now) + nodes_of (tree_of l.b.now)) + 1

abbrev pub decreases-lower_unary : goal.decreases-lower_unary
decreases-lower_unary l = 2 * nodes_of (tree_of l.a.now) + 1
