use Rattle.sieve_core.proofs.BitLemmas.{up-set, up-clear}
use Rattle.sieve_core.proofs.bits.steps_up.Goals as goal

pub returns-clause-set : goal.returns-clause-set
returns-clause-set c = up-set c.args.mask c.args.from c.ranges.mask.fits

pub returns-clause-none_before : goal.returns-clause-none_before
returns-clause-none_before c =
    λ k below. up-clear c.args.mask c.args.from k c.ranges.mask.fits below
