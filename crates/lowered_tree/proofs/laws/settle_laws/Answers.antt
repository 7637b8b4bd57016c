use Rattle.lowered_tree.proofs.Settling.{first_unsettled_is_one, settled_have_none, trees_settle_or_not, unsettled_are_working}
use Rattle.lowered_tree.proofs.laws.settle_laws.Goals as goal

pub returns-clause-exist : goal.returns-clause-exist
returns-clause-exist c = trees_settle_or_not c.settling_laws.ensures.exist

pub returns-clause-apart : goal.returns-clause-apart
returns-clause-apart c = settled_have_none c.settling_laws.ensures.unique

pub returns-clause-one : goal.returns-clause-one
returns-clause-one c = first_unsettled_is_one c.settling_laws.ensures.unique

pub returns-clause-working : goal.returns-clause-working
returns-clause-working c = unsettled_are_working
