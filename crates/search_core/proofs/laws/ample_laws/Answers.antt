use Rattle.search_core.proofs.Ampleness.{ahead_never_stops_tests, ample_never_stops, ample_never_stops_tests, enough}
use Rattle.search_core.proofs.Days.{below_ample, whole_days}
use Rattle.search_core.proofs.laws.ample_laws.Goals as goal

pub returns-clause-days : goal.returns-clause-days
returns-clause-days c = whole_days

pub returns-clause-above : goal.returns-clause-above
returns-clause-above c = below_ample

pub returns-clause-ample : goal.returns-clause-ample
returns-clause-ample c = ample_never_stops c.answer_laws.ensures.some c.window_laws.ensures.lie

pub returns-clause-tests : goal.returns-clause-tests
returns-clause-tests c = ample_never_stops_tests

pub returns-clause-ahead : goal.returns-clause-ahead
returns-clause-ahead c = ahead_never_stops_tests

pub returns-clause-enough : goal.returns-clause-enough
returns-clause-enough c = enough c.answer_laws.ensures.some
