use Rattle.query_core.proofs.Places.{ample_closest, ample_current, ample_next, enough_closest, enough_current, enough_next}
use Rattle.query_core.proofs.laws.budget_laws.Goals as goal

pub returns-clause-ample : goal.returns-clause-ample
returns-clause-ample c = record {
  next = ample_next c.ample_place_laws.ensures.ample;
  current = ample_current c.ample_place_laws.ensures.ample;
  closest = ample_closest c.ample_place_laws.ensures.ample;
}

pub returns-clause-enough : goal.returns-clause-enough
returns-clause-enough c = record {
  next = enough_next c.ample_laws.ensures.enough c.ample_place_laws.ensures.enough;
  current = enough_current c.ample_laws.ensures.enough c.ample_place_laws.ensures.enough;
  closest = enough_closest c.ample_laws.ensures.enough c.ample_place_laws.ensures.enough;
}
