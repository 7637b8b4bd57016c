use Rattle.plan_core.proofs.plan.Plan.change.Goals as goal

pub returns-clause-answer : goal.returns-clause-answer
returns-clause-answer g c = c.sweep.ensures.answer

pub returns-clause-counted : goal.returns-clause-counted
returns-clause-counted g c = c.sweep.ensures.counted
