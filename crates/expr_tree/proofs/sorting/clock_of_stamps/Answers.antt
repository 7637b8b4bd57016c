use Rattle.expr_tree.proofs.KindLemmas.{clock_with-stop}
use Rattle.expr_tree.proofs.sorting.clock_of_stamps.Goals as goal

pub returns-in_err-clock : goal.returns-in_err-clock
returns-in_err-clock c =
    rw c.from_residual.ensures
    (clock_with-stop c.loop-stamp.clock c.clock.result c.common.result c.args.stamps.now
    c.loop-stamp.stamp-index _
    c.clock.ensures c.common.ensures c.in_err-clock.was c.loop-stamp-test.true
    c.loop-stamp.invariant)
