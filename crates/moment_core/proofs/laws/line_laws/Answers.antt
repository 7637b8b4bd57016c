use Rattle.std.proofs.Common.{refl}
use Rattle.moment_core.specs.Sets.{ahead}
use Rattle.moment_core.proofs.LineLaws.{ahead-ahead, ahead-zero, calendar-between, halves, moment-of-position, one_change, one_step, same-steps, seen-ahead, seen-zero, working-between}
use Rattle.moment_core.proofs.laws.line_laws.Goals as goal

pub returns-clause-steps_add : goal.returns-clause-steps_add
returns-clause-steps_add c = λ dir p. (ahead-zero dir p, ahead-ahead dir p)

pub returns-clause-steps_tell_apart : goal.returns-clause-steps_tell_apart
returns-clause-steps_tell_apart c = λ dir p m n same. same-steps dir p (ahead dir p m) m n refl same

pub returns-clause-sights_follow : goal.returns-clause-sights_follow
returns-clause-sights_follow c = λ set dir p. (seen-zero set dir p, seen-ahead set dir p)

pub returns-clause-positions_have_moments : goal.returns-clause-positions_have_moments
returns-clause-positions_have_moments c = (moment-of-position, halves)

pub returns-clause-ranges_have_no_gaps : goal.returns-clause-ranges_have_no_gaps
returns-clause-ranges_have_no_gaps c =
    λ dir p k n le. (
      λ here there. calendar-between dir p k n here there le,
      λ here there.
          working-between dir p k n here there le,
    )

pub returns-clause-next_changes_are_one : goal.returns-clause-next_changes_are_one
returns-clause-next_changes_are_one c = one_change

pub returns-clause-next_steps_are_one : goal.returns-clause-next_steps_are_one
returns-clause-next_steps_are_one c = one_step
