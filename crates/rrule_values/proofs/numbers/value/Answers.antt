use Rattle.std.proofs.Common.{length, arith}
use Rattle.rrule_values.proofs.Digits.{digit_at, value_short, value_step}
use Rattle.rrule_values.proofs.numbers.value.Goals as goal

pub overflow_mul-n : goal.overflow_mul-n
overflow_mul-n c =
    omega (
      arith,
      c.loop-d.invariant,
      value_short c.args.digits.now c.loop-d.d-index 9
          c.requires.digits (omega arith) (omega (arith, c.requires.few)),
    )

pub overflow_add-n : goal.overflow_add-n
overflow_add-n c =
    let digit = digit_at c.args.digits.now c.loop-d.d-index c.requires.digits (omega arith) in
    omega (
      arith,
      digit.1,
      c.loop-d.invariant,
      value_short c.args.digits.now c.loop-d.d-index 9
          c.requires.digits (omega arith) (omega (arith, c.requires.few)),
    )

pub loop-d-preserved : goal.loop-d-preserved
loop-d-preserved c =
    let step = value_step c.args.digits.now c.loop-d.d-index c.requires.digits (omega arith) in
    omega (arith, step, c.loop-d.invariant)

pub returns-clause-width : goal.returns-clause-width
returns-clause-width c =
    omega (
      arith,
      c.loop-d.invariant,
      value_short c.args.digits.now c.loop-d.d-index
          (length c.args.digits.now) c.requires.digits (omega arith) (omega arith),
    )

pub returns-clause-small : goal.returns-clause-small
returns-clause-small c =
    omega (
      arith,
      c.loop-d.invariant,
      value_short c.args.digits.now c.loop-d.d-index 10
          c.requires.digits (omega arith) (omega (arith, c.requires.few)),
    )
