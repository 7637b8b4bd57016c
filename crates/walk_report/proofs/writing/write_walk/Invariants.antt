use Rattle.std.proofs.Common.{◌≡◌, ◌≤◌}
use Rattle.walk_core.specs.Walks.{meant_of_walk, token_of_walk}
use Rattle.walk_report.specs.Turns.{IsOnTheWay, telling_of}
use Rattle.walk_report.proofs.writing.write_walk.Given as goal

abbrev pub invariant-loop-left : goal.invariant-loop-left
invariant-loop-left g l = record {
  same : meant_of_walk l.walk ≡ meant_of_walk l.fn.walk;
  way : IsOnTheWay g.K.Sink l.fn.sink l.sink (telling_of l.fn.walk l.kind l.clock l.budget) l.limit
      l.left (token_of_walk l.fn.walk)
      (token_of_walk l.walk);
  steps : l.fn.steps ≤ l.steps;
}

abbrev pub decreases-loop-left : goal.decreases-loop-left
decreases-loop-left g l = l.left
