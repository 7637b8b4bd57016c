use Rattle.search_core.proofs.Latest.{during-near, pairs-near}
use Rattle.search_core.proofs.Numbering.{numbered, tests_due}
use Rattle.search_core.proofs.Stretching.{due_in-is}
use Rattle.search_core.proofs.laws.due_laws.Goals as goal

pub returns-clause-stretches : goal.returns-clause-stretches
returns-clause-stretches c = due_in-is

pub returns-clause-during : goal.returns-clause-during
returns-clause-during c = during-near

pub returns-clause-pairs : goal.returns-clause-pairs
returns-clause-pairs c = pairs-near

pub returns-clause-numbered : goal.returns-clause-numbered
returns-clause-numbered c = numbered

pub returns-clause-tests : goal.returns-clause-tests
returns-clause-tests c = tests_due c.window_laws.ensures.lie
