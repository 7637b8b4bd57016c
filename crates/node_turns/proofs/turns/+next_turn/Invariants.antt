use Rattle.std.proofs.Common.{◌+◌, ◌*◌}
use Rattle.expr_tree.specs.Sorts.{nodes_of}
use Rattle.lowered_tree.specs.Nodes.{meant_of_node}
use Rattle.node_turns.proofs.turns.+next_turn.Given as goal

abbrev pub decreases-next_turn : goal.decreases-next_turn
decreases-next_turn g l = 3 * nodes_of (meant_of_node l.node.now)

abbrev pub decreases-either_turn : goal.decreases-either_turn
decreases-either_turn g l =
    3 * (nodes_of (meant_of_node l.a.now) + nodes_of (meant_of_node l.b.now)) + 1

abbrev pub decreases-shifted_turn : goal.decreases-shifted_turn
decreases-shifted_turn g l = 3 * nodes_of (meant_of_node l.a.now) + 1

abbrev pub decreases-edge_turn : goal.decreases-edge_turn
decreases-edge_turn g l = 3 * nodes_of (meant_of_node l.a.now) + 1

abbrev pub decreases-unary_turn : goal.decreases-unary_turn
decreases-unary_turn g l = 3 * nodes_of (meant_of_node l.a.now) + 2
