use Rattle.ical_rules.specs.Rules.{frame_of_ical}
use Rattle.ical_rules.proofs.Checks.{until_is}
use Rattle.ical_rules.proofs.frames.frame_of.Goals as goal

pub frame_to-requires-clause-last : goal.frame_to-requires-clause-last
frame_to-requires-clause-last c = until_is c.rule_laws.ensures.ical_values c.args.rule.now
    c.requires.checked c.rule_laws.ensures.until c.in-Some.until c.in-Some.is

pub returns-in-Some : goal.returns-in-Some
unfolding frame_of_ical
returns-in-Some c = rw c.in-Some.is c.frame_to.ensures

pub returns-in-None : goal.returns-in-None
unfolding frame_of_ical
returns-in-None c = rw c.in-None.is c.frame_by_count.ensures
