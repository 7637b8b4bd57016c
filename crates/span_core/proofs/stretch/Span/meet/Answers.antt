use Rattle.span_core.proofs.Stretches.{meet-none, meet-some}
use Rattle.span_core.proofs.stretch.Span.meet.Goals as goal

pub returns-clause-some : goal.returns-clause-some
returns-clause-some c =
    rw c.ok.ensures.value (meet-some c.args.self.now c.args.other.now
    c.self.inside.low c.self.inside.high c.other.inside.low c.other.inside.high
    c.later_low-low.result c.earlier_high-high.result c.self.view_is c.other.view_is
    c.later_low-low.ensures.both c.earlier_high-high.ensures.both c.new.result c.new.ensures.kept)

pub returns-clause-none : goal.returns-clause-none
returns-clause-none c =
    rw c.ok.ensures.value (meet-none c.args.self.now c.args.other.now
    c.self.inside.low c.self.inside.high c.other.inside.low c.other.inside.high
    c.later_low-low.result c.earlier_high-high.result c.self.view_is c.other.view_is
    c.later_low-low.ensures.both c.earlier_high-high.ensures.both c.new.result c.new.ensures.empty)
