use Rattle.sieve_core.proofs.BitLemmas.{back-clear}
use Rattle.sieve_core.proofs.bits.steps_to_bit.Goals as goal

pub returns-in-Back-clause-none_before : goal.returns-in-Back-clause-none_before
returns-in-Back-clause-none_before c =
    rw c.in-Back.is (back-clear c.args.mask c.args.len c.args.from c.steps_down.result
    c.steps_down.ensures.none_before)
