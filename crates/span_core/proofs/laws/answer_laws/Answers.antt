use Rattle.span_core.proofs.Runs.{in_run}
use Rattle.span_core.proofs.Searches.{one_answer, some_answer}
use Rattle.span_core.proofs.laws.answer_laws.Goals as goal

pub returns-clause-some : goal.returns-clause-some
returns-clause-some c set window dir p h = some_answer set window dir p h

pub returns-clause-one : goal.returns-clause-one
returns-clause-one c set window dir p a b h k = one_answer set window dir p a b h k

pub returns-clause-run : goal.returns-clause-run
returns-clause-run c first last p = in_run first last p
