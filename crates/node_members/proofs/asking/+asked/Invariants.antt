use Rattle.std.proofs.Common.{◌+◌, ◌*◌, ◌≤◌, pos, ◌+ℤ◌, ◌-ℤ◌, unsigned_abs}
use Rattle.moment_core.specs.Line.{position_of}
use Rattle.moment_core.specs.declared.line.TheConstants.{LOW}
use Rattle.expr_tree.specs.Members.{is_member}
use Rattle.expr_tree.specs.Sorts.{nodes_of}
use Rattle.search_core.specs.Candidates.{is_candidate}
use Rattle.lowered_tree.specs.Nodes.{meant_of_node}
use Rattle.node_members.specs.Looking.{IsLookFrom, candidate_of_either, in_either}
use Rattle.node_members.proofs.asking.+asked.Given as goal

abbrev pub decreases-asked : goal.decreases-asked
decreases-asked g l = 3 * nodes_of (meant_of_node l.node.now)

abbrev pub decreases-asked_unary : goal.decreases-asked_unary
decreases-asked_unary g l = 3 * nodes_of (meant_of_node l.a.now) + 2

abbrev pub decreases-asked_edge : goal.decreases-asked_edge
decreases-asked_edge g l = 3 * nodes_of (meant_of_node l.a.now) + 1

abbrev pub decreases-asked_joined : goal.decreases-asked_joined
decreases-asked_joined g l =
    3 * (nodes_of (meant_of_node l.a.now) + nodes_of (meant_of_node l.b.now)) + 1

abbrev pub decreases-asked_during : goal.decreases-asked_during
decreases-asked_during g l = 3 * nodes_of (meant_of_node l.a.now) + 1

abbrev pub decreases-asked_pairs : goal.decreases-asked_pairs
decreases-asked_pairs g l =
    3 * (nodes_of (meant_of_node l.opens.now) + nodes_of (meant_of_node l.closes.now)) + 1

abbrev pub invariant-asked_during-back : goal.invariant-asked_during-back
invariant-asked_during-back g l = record {
  looked : IsLookFrom (is_member (meant_of_node l.a)) (is_candidate (meant_of_node l.a)) l.p.0
      (l.p.0 -ℤ position_of l.seconds +ℤ pos 1) l.look;
  counted : l.fn.steps ≤ l.steps;
}

abbrev pub decreases-asked_during-back : goal.decreases-asked_during-back
decreases-asked_during-back g l =
    unsigned_abs (l.look.place.0 -ℤ (l.p.0 -ℤ position_of l.seconds +ℤ pos 1))

abbrev pub invariant-asked_pairs-back : goal.invariant-asked_pairs-back
invariant-asked_pairs-back g l = record {
  looked : IsLookFrom (in_either (meant_of_node l.opens) (meant_of_node l.closes))
      (candidate_of_either (meant_of_node l.opens) (meant_of_node l.closes)) l.p.0
      (position_of LOW) l.look;
  counted : l.fn.steps ≤ l.steps;
}

abbrev pub decreases-asked_pairs-back : goal.decreases-asked_pairs-back
decreases-asked_pairs-back g l = unsigned_abs (l.look.place.0 -ℤ position_of LOW)
