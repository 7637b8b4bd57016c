use Rattle.std.proofs.Common.{◌+◌, ◌*◌}
use Rattle.expr_tree.specs.Sorts.{nodes_of}
use Rattle.expr_tree.specs.Tree.{tree_of}
use Rattle.expr_print.proofs.printing.+putting.Given as goal

abbrev pub decreases-put : goal.decreases-put
decreases-put l = 4 * nodes_of (tree_of l.e.now)

abbrev pub decreases-put_operand : goal.decreases-put_operand
decreases-put_operand l = 4 * nodes_of (tree_of l.e.now) + 1

abbrev pub decreases-put_infix : goal.decreases-put_infix
decreases-put_infix l = 4 * (nodes_of (tree_of l.a.now) + nodes_of (tree_of l.b.now)) + 2

abbrev pub decreases-put_pairs : goal.decreases-put_pairs
decreases-put_pairs l = 4 * (nodes_of (tree_of l.a.now) + nodes_of (tree_of l.b.now)) + 2

abbrev pub decreases-put_call : goal.decreases-put_call
decreases-put_call l = 4 * nodes_of (tree_of l.a.now) + 1
