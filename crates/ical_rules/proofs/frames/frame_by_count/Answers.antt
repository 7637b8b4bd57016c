use Rattle.ical_rules.specs.Rules.{with_count}
use Rattle.ical_rules.proofs.LastCounted.{settled_within}
use Rattle.ical_rules.proofs.frames.frame_by_count.Goals as goal

pub frame_to-requires-clause-last : goal.frame_to-requires-clause-last
frame_to-requires-clause-last c = settled_within (with_count c.args.count c.args.rule.now)
    c.args.settled c.in-Last.t c.requires.start c.requires.settled c.in-Last.is
