use Rattle.lowered_tree.specs.Nodes.{meant_of_node}
use Rattle.node_members.proofs.Looking.{answer_due, answer_value}
use Rattle.node_members.proofs.asking.holds.Goals as goal

pub returns-clause-value : goal.returns-clause-value
returns-clause-value g c =
    answer_value (meant_of_node c.args.node.now) 1 c.args.budget c.args.p.0 c.asked.result
    c.asked.ensures.answer

pub returns-clause-due : goal.returns-clause-due
returns-clause-due g c =
    answer_due (meant_of_node c.args.node.now) 1 c.args.budget c.args.p.0 c.asked.result
    c.asked.ensures.answer
