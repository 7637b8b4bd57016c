use Rattle.run_search.proofs.Existing.{one_run, some_run}
use Rattle.run_search.proofs.laws.run_laws.Goals as goal

pub returns-clause-exist : goal.returns-clause-exist
returns-clause-exist c = some_run c.answer_laws.ensures.some

pub returns-clause-unique : goal.returns-clause-unique
returns-clause-unique c = one_run
