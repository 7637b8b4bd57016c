use Rattle.std.proofs.Common.{◌∙◌, sym, arith}
use Rattle.expr_tokens.proofs.Digits.{most_fits, most_step, most_bound, value_step, value_end}
use Rattle.expr_tokens.proofs.reading.value.Goals as goal

pub overflow_mul-n : goal.overflow_mul-n
overflow_mul-n c = omega (arith, most_fits c.loop-d.d-index (omega arith), c.loop-d.invariant.1)

pub overflow_add-n : goal.overflow_add-n
overflow_add-n c = omega (
  arith,
  most_fits c.loop-d.d-index (omega arith),
  c.loop-d.invariant.1,
  c.type_inv.digits c.loop-d.d-index,
)

pub loop-d-preserved : goal.loop-d-preserved
loop-d-preserved c = (
  rw c.saturating_sub.ensures
      (sym (value_step c.loop-d.n c.args.digits.now c.loop-d.d-index c.loop-d-test.true)
      ∙ c.loop-d.invariant.0),
  omega (
    arith,
    most_step c.loop-d.d-index,
    c.loop-d.invariant.1,
    c.type_inv.digits
        c.loop-d.d-index,
  ),
)

pub returns-clause-value : goal.returns-clause-value
returns-clause-value c = sym (value_end c.loop-d.n c.args.digits.now c.loop-d.d-index (omega arith))
    ∙ c.loop-d.invariant.0

pub returns-clause-small : goal.returns-clause-small
returns-clause-small c = most_bound c.loop-d.n c.loop-d.d-index c.loop-d.invariant.1 (omega arith)
