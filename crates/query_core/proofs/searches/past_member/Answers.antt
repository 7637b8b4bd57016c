use Rattle.std.proofs.Common.{IfErr, IfOk, subst}
use Rattle.std.proofs.lemmas.Result.{IfErr-weaker, IfOk-weaker}
use Rattle.stored_pair.specs.Meanings.{Meaning}
use Rattle.expr_tree.specs.Members.{is_member}
use Rattle.expr_tree.specs.Tree.{Tree}
use Rattle.search_core.specs.Due.{IsDue}
use Rattle.plan_core.specs.Plans.{due_of_plan, members_of_plan, window_of, window_of_plan}
use Rattle.run_search.specs.Places.{IsStopAt, PlacesWithin}
use Rattle.query_core.specs.Neighbours.{IsNextPast}
use Rattle.query_core.proofs.Nearing.{next_past_run}
use Rattle.query_core.proofs.Places.{later_stop}
use Rattle.query_core.proofs.searches.past_member.Goals as goal

pub returns-in-At-clause-answer : goal.returns-in-At-clause-answer
returns-in-At-clause-answer g c =
    let P : Tree Meaning → Type 0 =
    λ t. IfOk c.past_gap.result (IsNextPast (is_member t) (window_of t) c.args.dir
    c.in-At.gap.0) in
    IfOk-weaker c.past_gap.result (IsNextPast (members_of_plan c.args.plan.now)
    (window_of_plan c.args.plan.now) c.args.dir c.in-At.gap.0)
    (IsNextPast (members_of_plan c.args.plan.now) (window_of_plan c.args.plan.now) c.args.dir
    c.args.p.0)
    (λ near h. next_past_run (members_of_plan c.args.plan.now) (window_of_plan c.args.plan.now)
    c.args.dir c.args.p.0 c.in-At.gap.0 near c.requires.member
    c.in-At.ensures.answer.0 c.in-At.ensures.answer.1 h)
    (subst P c.change.ensures.same c.past_gap.ensures.answer)

pub returns-in-At-clause-stop : goal.returns-in-At-clause-stop
returns-in-At-clause-stop g c =
    let P : Tree Meaning → Type 0 =
    λ t. IfErr c.past_gap.result (IsStopAt (PlacesWithin (is_member t) c.args.dir 1
    c.in-At.gap.0) (IsDue t) c.args.budget) in
    IfErr-weaker c.past_gap.result (IsStopAt (PlacesWithin (members_of_plan c.args.plan.now)
    c.args.dir 1 c.in-At.gap.0) (due_of_plan c.args.plan.now) c.args.budget)
    (IsStopAt (PlacesWithin (members_of_plan c.args.plan.now) c.args.dir 2 c.args.p.0)
    (due_of_plan c.args.plan.now) c.args.budget)
    (λ s h. later_stop (members_of_plan c.args.plan.now) (due_of_plan c.args.plan.now) c.args.dir 1
    c.args.p.0 c.in-At.gap.0 c.args.budget s
    c.in-At.ensures.answer.0 c.in-At.ensures.answer.1 h)
    (subst P c.change.ensures.same c.past_gap.ensures.stop)
