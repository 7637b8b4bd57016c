use Rattle.search_core.proofs.Candidates.{candidates-cover, candidates-none, candidates-split, candidates-within}
use Rattle.search_core.proofs.laws.candidate_laws.Goals as goal

pub returns-clause-parts : goal.returns-clause-parts
returns-clause-parts c = candidates-split

pub returns-clause-none : goal.returns-clause-none
returns-clause-none c = candidates-none

pub returns-clause-wider : goal.returns-clause-wider
returns-clause-wider c = candidates-within

pub returns-clause-places : goal.returns-clause-places
returns-clause-places c = candidates-cover
