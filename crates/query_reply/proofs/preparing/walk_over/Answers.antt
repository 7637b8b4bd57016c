use Rattle.std.proofs.Common.{subst}
use Rattle.expr_text.specs.Sorted.{tree_of_set}
use Rattle.expr_tree.specs.Tree.{Tree}
use Rattle.stored_pair.specs.Meanings.{Meaning}
use Rattle.query_reply.specs.Report.{IsWalkOf}
use Rattle.query_reply.proofs.PreparingLemmas.{can_be_ready, no_walk}
use Rattle.query_reply.proofs.preparing.walk_over.Goals as goal

pub make-requires : goal.make-requires
make-requires c = can_be_ready c.args.program.now.first c.requires.well_formed.0 c.requires.sorts.0

pub returns-in-Ok : goal.returns-in-Ok
returns-in-Ok c = (
  c.in-Ok.ensures.settled,
  λ o h.
      subst (λ (t : Tree Meaning). IsWalkOf t c.args.program.now.first.sort.kind c.args.clock
      c.args.from c.args.limit c.args.budget o) c.in-Ok.ensures.meant h,
)

pub returns-in-Err : goal.returns-in-Err
returns-in-Err c =
    let t = tree_of_set c.args.program.now.first in
    rw c.why_unready.ensures (no_walk t c.in-Err.fault (c.settle_laws.ensures.working t)
    c.in-Err.ensures.fault)
