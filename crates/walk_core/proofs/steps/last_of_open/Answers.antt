use Rattle.std.proofs.Common.{◌≡◌, ◌∙◌, sym, subst, true, IfErr}
use Rattle.stored_pair.specs.Meanings.{Meaning}
use Rattle.expr_tree.specs.Members.{is_member}
use Rattle.expr_tree.specs.Tree.{Tree}
use Rattle.search_core.specs.Due.{IsDue}
use Rattle.plan_core.specs.Plans.{meant_of_plan}
use Rattle.run_search.specs.Places.{IsStopFrom}
use Rattle.walk_core.proofs.Stepping.{open_stop_here, open_stop_of_node}
use Rattle.walk_core.proofs.steps.last_of_open.Goals as goal
use Rattle.std.proofs.lemmas.Result.{IfErr-weaker}

pub returns-in-Ok-true-clause-stop : goal.returns-in-Ok-true-clause-stop
returns-in-Ok-true-clause-stop g c =
    let P : Tree Meaning → Type 0 =
    λ t. IfErr c.last_of_run.result (λ s. IsStopFrom (is_member t) (IsDue t) c.args.t.dir
    c.args.t.place.0 c.args.t.end.0 c.args.budget s) in
    let member : is_member (meant_of_plan c.args.plan.now) c.args.t.place.0 ≡ true =
    sym c.in-Ok-true.ensures.value ∙ c.in-Ok-true.field-0-test in
    IfErr-weaker c.last_of_run.result _ _
    (λ s h. open_stop_here (meant_of_plan c.args.plan.now) c.args.t c.args.budget s member
    c.requires.within h)
    (subst P c.holds.ensures.same c.last_of_run.ensures.stop)

pub returns-in-Err-clause-stop : goal.returns-in-Err-clause-stop
returns-in-Err-clause-stop g c =
    open_stop_of_node (meant_of_plan c.args.plan.now) c.args.t c.args.budget c.in-Err.stop
    c.requires.within
    (c.in-Err.ensures.stop.1 c.args.t.dir) c.in-Err.ensures.stop.0
