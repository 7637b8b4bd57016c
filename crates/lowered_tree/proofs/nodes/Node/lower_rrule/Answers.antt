use Rattle.lowered_tree.proofs.nodes.Node.lower_rrule.Goals as goal

pub returns-clause-settled : goal.returns-clause-settled
returns-clause-settled c = (c.in_ok-settled.settled, c.in_ok-settled.ensures.outcome)
