use Rattle.sieve_core.specs.Times.{turned_bit}
use Rattle.sieve_core.proofs.LeastLemmas.{least_by_steps, none_by_steps}
use Rattle.sieve_core.proofs.bits.first_bit.Goals as goal

pub returns-then-steps-len : goal.returns-then-steps-len
returns-then-steps-len c = least_by_steps (turned_bit c.args.dir c.args.mask c.args.len) c.args.from
    c.args.len _ c.if-from-len.false c.steps_to_bit-steps.ensures.set
    c.steps_to_bit-steps.ensures.none_before c.if-steps-len.true

pub returns-else-steps-len : goal.returns-else-steps-len
returns-else-steps-len c = none_by_steps (turned_bit c.args.dir c.args.mask c.args.len) c.args.from
    c.args.len _ c.steps_to_bit-steps.ensures.none_before c.if-steps-len.false
