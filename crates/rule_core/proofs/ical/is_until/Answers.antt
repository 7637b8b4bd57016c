use Rattle.std.proofs.Common.{rules}
use Rattle.rule_core.specs.IcalChecks.{is_until}
use Rattle.rule_core.proofs.Untils.{first_until, last_until}
use Rattle.rule_core.proofs.ical.is_until.Goals as goal

pub returns : goal.returns
unfolding is_until
returns c = rw (first_until, last_until) (search rules)
