use Rattle.expr_tree.proofs.Membership.{between-is, lasts-is}
use Rattle.expr_tree.proofs.laws.member_laws.Goals as goal

pub returns-clause-during : goal.returns-clause-during
returns-clause-during c = lasts-is

pub returns-clause-pairs : goal.returns-clause-pairs
returns-clause-pairs c = between-is
