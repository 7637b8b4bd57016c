use Rattle.std.proofs.Common.{◌<◌, ◌≤◌}
use Rattle.cert_audit.specs.Lowered.{meant_of_ready}
use Rattle.cert_audit.proofs.Sweeping.{HasVisited, steps_left}
use Rattle.cert_audit.proofs.search.sweep.Given as goal

abbrev pub invariant-turns : goal.invariant-turns
invariant-turns g l = record {
  visited : HasVisited (meant_of_ready l.r) l.dir l.p.0 l.end.0 l.place.0 l.passed;
  room : l.passed < l.budget;
  counted : l.fn.steps ≤ l.steps;
}

abbrev pub decreases-turns : goal.decreases-turns
decreases-turns g l = steps_left l.dir l.place.0 l.end.0
