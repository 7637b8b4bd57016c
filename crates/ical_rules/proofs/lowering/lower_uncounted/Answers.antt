use Rattle.std.proofs.Common.{refl}
use Rattle.ical_rules.specs.Rules.{last_counted}
use Rattle.ical_rules.proofs.lowering.lower_uncounted.Goals as goal

pub lower-requires-clause-settled : goal.lower-requires-clause-settled
unfolding last_counted
lower-requires-clause-settled c = refl
