use Rattle.std.proofs.Common.{refl}
use Rattle.sieve_core.proofs.BitLemmas.{down-set, down-clear}
use Rattle.sieve_core.proofs.bits.steps_down.Goals as goal

pub returns-clause-set : goal.returns-clause-set
returns-clause-set c = down-set c.args.mask c.args.from _ refl c.requires

pub returns-clause-none_before : goal.returns-clause-none_before
returns-clause-none_before c =
    λ k before within. down-clear c.args.mask c.args.from _ k refl c.requires before within
