use Rattle.std.proofs.Common.{◌≡◌, Some, sym, ◌∙◌}
use Rattle.frame_core.specs.Frames.{join_of}
use Rattle.frame_core.specs.declared.frames.Frame.{Frame}
use Rattle.frame_core.proofs.Repeating.{Repeats-join, join_of-IsPeriod, join_of-is}
use Rattle.frame_core.proofs.frames.join.Goals as goal

abbrev joined : goal.After-greater → Frame
joined c = record { lo = c.lesser.result; hi = c.greater.result; period = c.in_ok-period.period }

is_joined : (c : goal.After-greater) → join_of c.args.a c.args.b ≡ Some (joined c)
is_joined c =
    join_of-is c.args.a c.args.b (joined c) c.lesser.ensures c.greater.ensures
    (sym c.least_common.ensures ∙ c.in_ok-period.was)

pub returns-clause-value : goal.returns-clause-value
returns-clause-value c = sym (is_joined c)

pub returns-clause-period : goal.returns-clause-period
returns-clause-period c = join_of-IsPeriod c.args.a c.args.b (joined c) c.requires.a c.requires.b
    (is_joined c)

pub returns-clause-repeats : goal.returns-clause-repeats
returns-clause-repeats c f g op r s =
    Repeats-join op f g c.args.a c.args.b (joined c) c.requires.a c.requires.b (is_joined c) r s
