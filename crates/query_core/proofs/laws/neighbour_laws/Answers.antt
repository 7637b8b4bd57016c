use Rattle.query_core.proofs.Unique.{one_closest, one_current, one_next, some_closest, some_current, some_next}
use Rattle.query_core.proofs.laws.neighbour_laws.Goals as goal

pub returns-clause-exist : goal.returns-clause-exist
returns-clause-exist c = record {
  next = some_next c.answer_laws.ensures.some c.run_laws.ensures.exist;
  current = some_current c.answer_laws.ensures.some c.run_laws.ensures.exist;
  closest = some_closest c.answer_laws.ensures.some c.run_laws.ensures.exist;
}

pub returns-clause-unique : goal.returns-clause-unique
returns-clause-unique c = record {
  next = one_next c.answer_laws.ensures.one c.run_laws.ensures.unique;
  current = one_current c.answer_laws.ensures.one c.run_laws.ensures.unique;
  closest = one_closest c.answer_laws.ensures.one c.run_laws.ensures.unique;
}
