use Rattle.std.proofs.Common.{not, ◌&&◌, ap, refl}
use Rattle.span_core.proofs.Stretches.{touching}
use Rattle.span_core.proofs.stretch.Span.touch.Goals as goal

pub returns-then-not-apart_above : goal.returns-then-not-apart_above
returns-then-not-apart_above c =
    touching c.args.self.now c.args.other.now c.self.inside.low c.self.inside.high
    c.other.inside.low c.other.inside.high
    c.self.view_is c.other.view_is c.self.invariant c.other.invariant
    c.are_apart-apart_above.result c.are_apart-apart_below.result
    (not c.are_apart-apart_below.result)
    c.are_apart-apart_above.ensures c.are_apart-apart_below.ensures
    (ap (λ x. not x && not c.are_apart-apart_below.result) c.if-not-apart_above.true)

pub returns-else-not-apart_above : goal.returns-else-not-apart_above
returns-else-not-apart_above c =
    touching c.args.self.now c.args.other.now c.self.inside.low c.self.inside.high
    c.other.inside.low c.other.inside.high
    c.self.view_is c.other.view_is c.self.invariant c.other.invariant
    c.are_apart-apart_above.result c.are_apart-apart_below.result
    (not c.are_apart-apart_above.result)
    c.are_apart-apart_above.ensures c.are_apart-apart_below.ensures
    (rw c.if-not-apart_above.false refl)
