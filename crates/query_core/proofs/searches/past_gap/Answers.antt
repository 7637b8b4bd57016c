use Rattle.std.proofs.Common.{subst}
use Rattle.stored_pair.specs.Meanings.{Meaning}
use Rattle.expr_tree.specs.Members.{is_member}
use Rattle.expr_tree.specs.Tree.{Tree}
use Rattle.plan_core.specs.Plans.{members_of_plan, window_of}
use Rattle.query_core.specs.Neighbours.{IsRunFrom}
use Rattle.query_core.proofs.Nearing.{begins_at_change}
use Rattle.query_core.proofs.searches.past_gap.Goals as goal

pub returns-in-Ok-clause-answer : goal.returns-in-Ok-clause-answer
returns-in-Ok-clause-answer g c =
    let P : Tree Meaning → Type 0 =
    λ t. IsRunFrom (is_member t) (window_of t) c.args.dir c.in-At.first.0 c.in-Ok.run' in (
      c.in-At.first.0,
      c.in-At.ensures.answer.1,
      begins_at_change (members_of_plan c.args.plan.now) c.args.dir c.args.p.0 c.in-At.first.0
          c.requires.gap c.in-At.ensures.answer.0,
      subst P c.change.ensures.same c.in-Ok.ensures.answer,
    )
