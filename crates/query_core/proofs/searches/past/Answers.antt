use Rattle.std.proofs.Common.{IfErr, IfOk, subst}
use Rattle.std.proofs.lemmas.Result.{IfErr-weaker}
use Rattle.stored_pair.specs.Meanings.{Meaning}
use Rattle.expr_tree.specs.Members.{is_member}
use Rattle.expr_tree.specs.Tree.{Tree}
use Rattle.search_core.specs.Due.{IsDue}
use Rattle.plan_core.specs.Plans.{due_of_plan, members_of_plan, window_of}
use Rattle.run_search.specs.Places.{IsStopAt, PlacesWithin}
use Rattle.query_core.specs.Neighbours.{IsNextPast}
use Rattle.query_core.proofs.Places.{more_stops, stop_here}
use Rattle.query_core.proofs.searches.past.Goals as goal

pub returns-in-Ok-true-clause-answer : goal.returns-in-Ok-true-clause-answer
returns-in-Ok-true-clause-answer g c =
    let P : Tree Meaning → Type 0 =
    λ t. IfOk c.past_member.result (IsNextPast (is_member t) (window_of t) c.args.dir
    c.args.p.0) in
    subst P c.holds.ensures.same c.past_member.ensures.answer

pub returns-in-Ok-false-clause-answer : goal.returns-in-Ok-false-clause-answer
returns-in-Ok-false-clause-answer g c =
    let P : Tree Meaning → Type 0 =
    λ t. IfOk c.past_gap.result (IsNextPast (is_member t) (window_of t) c.args.dir c.args.p.0)
    in
    subst P c.holds.ensures.same c.past_gap.ensures.answer

pub returns-in-Ok-false-clause-stop : goal.returns-in-Ok-false-clause-stop
returns-in-Ok-false-clause-stop g c =
    let P : Tree Meaning → Type 0 =
    λ t. IfErr c.past_gap.result (IsStopAt (PlacesWithin (is_member t) c.args.dir 1 c.args.p.0)
    (IsDue t) c.args.budget) in
    IfErr-weaker c.past_gap.result (IsStopAt (PlacesWithin (members_of_plan c.args.plan.now)
    c.args.dir 1 c.args.p.0) (due_of_plan c.args.plan.now) c.args.budget)
    (IsStopAt (PlacesWithin (members_of_plan c.args.plan.now) c.args.dir 2 c.args.p.0)
    (due_of_plan c.args.plan.now) c.args.budget)
    (more_stops (members_of_plan c.args.plan.now) (due_of_plan c.args.plan.now) c.args.dir 1
    c.args.p.0 c.args.budget)
    (subst P c.holds.ensures.same c.past_gap.ensures.stop)

pub returns-in-Err-clause-stop : goal.returns-in-Err-clause-stop
returns-in-Err-clause-stop g c =
    stop_here (members_of_plan c.args.plan.now) (due_of_plan c.args.plan.now) c.args.dir 2
    c.args.p.0 c.args.budget c.in-Err.stop (c.in-Err.ensures.stop.1 c.args.dir)
