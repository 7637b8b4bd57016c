use Rattle.sieve_core.proofs.BitLemmas.{has_bit-set, has_bit-word}
use Rattle.sieve_core.proofs.CandidateLemmas.{between-from, between-parts}
use Rattle.sieve_core.proofs.CycleLemmas.{meets_rule-cycles}
use Rattle.sieve_core.proofs.RuleLemmas.{candidate-between, has_between, member_is_candidate}
use Rattle.sieve_core.proofs.laws.sieve_laws.Goals as goal

pub returns-clause-repeats : goal.returns-clause-repeats
returns-clause-repeats c s t m j is weekday round = meets_rule-cycles s t m j weekday is.interval
    round

pub returns-clause-members : goal.returns-clause-members
returns-clause-members c = member_is_candidate

pub returns-clause-ends : goal.returns-clause-ends
returns-clause-ends c s t e = between-parts s t (candidate-between s t e)

pub returns-clause-between : goal.returns-clause-between
returns-clause-between c s t low high = has_between s t (between-from s t low high)

pub returns-clause-word : goal.returns-clause-word
returns-clause-word c = has_bit-word

pub returns-clause-set : goal.returns-clause-set
returns-clause-set c = has_bit-set
