use Rattle.search_core.proofs.Counting.{count_between-one, count_between-split, count_between-within}
use Rattle.search_core.proofs.laws.counting_laws.Goals as goal

pub returns-clause-one : goal.returns-clause-one
returns-clause-one c = count_between-one

pub returns-clause-parts : goal.returns-clause-parts
returns-clause-parts c = count_between-split

pub returns-clause-wider : goal.returns-clause-wider
returns-clause-wider c = count_between-within
