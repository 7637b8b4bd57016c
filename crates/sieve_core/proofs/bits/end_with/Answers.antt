use Rattle.std.proofs.Common.{arith}
use Rattle.sieve_core.proofs.BitLemmas.{clear-above}
use Rattle.sieve_core.proofs.bits.end_with.Goals as goal

pub returns-else-word-eq0-clause-clear : goal.returns-else-word-eq0-clause-clear
returns-else-word-eq0-clause-clear c =
    λ k low below. clear-above c.args.word k c.ranges.word.fits (omega arith) below
