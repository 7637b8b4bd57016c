use Rattle.std.proofs.Common.{sym, ◌∙◌, arith}
use Rattle.std.proofs.lemmas.Int.{ints}
use Rattle.span_core.proofs.Stretches.{IsSpan-first-last, IsSpan-from, IsSpan-to}
use Rattle.span_core.proofs.stretch.in_order.Goals as goal

pub returns-in-Some-Some-clause-some : goal.returns-in-Some-Some-clause-some
returns-in-Some-Some-clause-some c ordered =
    IsSpan-first-last c.args.low c.args.high c.requires.low c.requires.high c.in-Some-Some.first
    c.in-Some-Some.last
    (sym c.first_position.ensures.value ∙ c.in-Some-Some.is-0) (sym c.last_position.ensures.value
    ∙ c.in-Some-Some.is-1)
    (grind (arith, ints, c.le.ensures))

pub returns-in_default-clause-some : goal.returns-in_default-clause-some
returns-in_default-clause-some c e =
    IsSpan-from c.args.low c.args.high c.requires.low c.requires.high c.in_default.field-0-0
    (sym c.first_position.ensures.value ∙ c.in_default.is-0) (sym c.last_position.ensures.value
    ∙ c.in_default.is-1)

pub returns-in_default-2-clause-some : goal.returns-in_default-2-clause-some
returns-in_default-2-clause-some c e =
    IsSpan-to c.args.low c.args.high c.requires.low c.requires.high
    (sym c.first_position.ensures.value ∙ c.in_default.is-0)
