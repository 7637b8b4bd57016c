use Rattle.std.proofs.Common.{◌≡◌, Some, drop}
use Rattle.expr_tree.specs.Sorts.{clock_of_stamps, clock_with}
use Rattle.expr_tree.proofs.sorting.clock_of_stamps.Given as goal

abbrev pub invariant-loop-stamp : goal.invariant-loop-stamp
invariant-loop-stamp l =
    clock_with (Some l.clock) (drop l.stamp-index l.stamps) ≡ clock_of_stamps l.stamps
