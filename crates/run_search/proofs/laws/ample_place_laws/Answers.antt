use Rattle.run_search.proofs.Amply.{ample_finds, enough_finds}
use Rattle.run_search.proofs.laws.ample_place_laws.Goals as goal

pub returns-clause-ample : goal.returns-clause-ample
returns-clause-ample c = ample_finds c.ample_laws.ensures.ample

pub returns-clause-enough : goal.returns-clause-enough
returns-clause-enough c = enough_finds c.ample_laws.ensures.enough
