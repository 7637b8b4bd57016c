use Rattle.frame_core.proofs.Multiples.{greatest_common-IsGcd, least_common-IsLeastCommon, period_of_rule-round}
use Rattle.frame_core.proofs.laws.period_laws.Goals as goal

pub returns-clause-divisor : goal.returns-clause-divisor
returns-clause-divisor c a b = greatest_common-IsGcd a b

pub returns-clause-multiple : goal.returns-clause-multiple
returns-clause-multiple c a b some other = least_common-IsLeastCommon a b some other

pub returns-clause-rule : goal.returns-clause-rule
returns-clause-rule c = period_of_rule-round
