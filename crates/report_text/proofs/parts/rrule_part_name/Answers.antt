use Rattle.std.proofs.Common.{refl}
use Rattle.report_text.proofs.parts.rrule_part_name.Goals as goal

pub returns-in-Interval-clause-text : goal.returns-in-Interval-clause-text
returns-in-Interval-clause-text c = rw c.in-Interval.is refl
