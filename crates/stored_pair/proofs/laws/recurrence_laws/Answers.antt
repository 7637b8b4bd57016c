use Rattle.stored_pair.proofs.RecurrenceLemmas.{neighbours-found, skips-none}
use Rattle.stored_pair.proofs.laws.recurrence_laws.Goals as goal

pub returns-clause-skips : goal.returns-clause-skips
returns-clause-skips c = skips-none

pub returns-clause-neighbours : goal.returns-clause-neighbours
returns-clause-neighbours c = neighbours-found
