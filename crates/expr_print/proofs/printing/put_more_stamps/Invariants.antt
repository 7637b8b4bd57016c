use Rattle.std.proofs.Common.{◌≡◌, ◌++◌, take}
use Rattle.std.specs.List.{flat_map}
use Rattle.expr_print.specs.Printing.{next_stamp}
use Rattle.expr_print.proofs.printing.put_more_stamps.Given as goal

abbrev pub invariant-loop-stamp : goal.invariant-loop-stamp
invariant-loop-stamp l = l.out.items ≡ l.fn.out.items ++ flat_map next_stamp
    (take l.stamp-index l.stamps)
