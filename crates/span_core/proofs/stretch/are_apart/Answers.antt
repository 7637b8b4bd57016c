use Rattle.std.proofs.Common.{sym, ◌∙◌, arith, pos, ◌+ℤ◌, ◌<ℤ◌}
use Rattle.std.proofs.lemmas.Int.{ints}
use Rattle.span_core.proofs.Stretches.{IsGap-apart, apart-IsGap}
use Rattle.span_core.proofs.stretch.are_apart.Goals as goal

pub returns-in-Some-Some : goal.returns-in-Some-Some
returns-in-Some-Some c = (
  λ e. IsGap-apart c.args.high c.args.low c.in-Some-Some.last c.in-Some-Some.first
      (sym c.last_position.ensures.value ∙ c.in-Some-Some.is-0) (sym c.first_position.ensures.value
      ∙ c.in-Some-Some.is-1) (grind (arith, ints)),
  λ gap.
      let h : (c.in-Some-Some.last.0 +ℤ pos 1) <ℤ c.in-Some-Some.first.0 =
      apart-IsGap c.args.high c.args.low c.in-Some-Some.last c.in-Some-Some.first
      (sym c.last_position.ensures.value ∙ c.in-Some-Some.is-0) (sym c.first_position.ensures.value
      ∙ c.in-Some-Some.is-1) gap in
      grind (arith, ints),
)
