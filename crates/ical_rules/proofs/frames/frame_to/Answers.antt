use Rattle.ical_rules.proofs.EndedFrames.{frame_is}
use Rattle.ical_rules.proofs.frames.frame_to.Goals as goal

pub returns : goal.returns
returns c = frame_is c.args.rule.now.start.moment.0 c.args.last.0 c.requires.start c.requires.last
