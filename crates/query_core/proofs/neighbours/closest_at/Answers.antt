use Rattle.moment_core.specs.Line.{position_of}
use Rattle.std.proofs.Common.{◌≡◌, ◌∙◌, IfErr, IfOk, inr, subst, sym, ℤ, false, inl, true}
use Rattle.std.proofs.lemmas.Result.{IfErr-weaker, IfOk-weaker}
use Rattle.stored_pair.specs.Meanings.{Meaning}
use Rattle.expr_tree.specs.Members.{is_member}
use Rattle.expr_tree.specs.Tree.{Tree}
use Rattle.search_core.specs.Due.{IsDue}
use Rattle.plan_core.specs.Plans.{due_of_plan, members_of_plan, window_of, window_of_plan}
use Rattle.run_search.specs.Places.{IsStopAt}
use Rattle.query_core.specs.Answering.{PlacesBeside, PlacesOfClosest, PlacesAround}
use Rattle.query_core.specs.Neighbours.{IsClosestRun, IsRunBeside}
use Rattle.query_core.proofs.Places.{closest_beside, closest_test}
use Rattle.query_core.proofs.neighbours.closest_at.Goals as goal

pub returns-in-Ok-false-clause-answer : goal.returns-in-Ok-false-clause-answer
returns-in-Ok-false-clause-answer g c =
    let P : Tree Meaning → Type 0 =
    λ t. IfOk c.beside.result (IsRunBeside (is_member t) (window_of t) c.args.at.0) in
    IfOk-weaker c.beside.result (IsRunBeside (members_of_plan c.args.plan.now)
    (window_of_plan c.args.plan.now) c.args.at.0)
    (IsClosestRun (members_of_plan c.args.plan.now) (window_of_plan c.args.plan.now)
    c.args.at.0)
    (λ near h. inr (
      (let G : ℤ → Type 0 = λ z. (members_of_plan c.args.plan.now) z ≡ false in
          subst G c.of-p.ensures (sym c.in-Ok-false.ensures.value ∙ c.in-Ok-false.field-0-test)),
      h,
    ))
    (subst P c.holds.ensures.same c.beside.ensures.answer)

pub returns-in-Ok-false-clause-stop : goal.returns-in-Ok-false-clause-stop
returns-in-Ok-false-clause-stop g c =
    let P : Tree Meaning → Type 0 =
    λ t. IfErr c.beside.result (IsStopAt (PlacesBeside (is_member t) c.args.at.0) (IsDue t)
    c.args.budget) in
    IfErr-weaker c.beside.result (IsStopAt (PlacesBeside (members_of_plan c.args.plan.now)
    c.args.at.0) (due_of_plan c.args.plan.now) c.args.budget)
    (IsStopAt (PlacesOfClosest (members_of_plan c.args.plan.now) c.args.at.0)
    (due_of_plan c.args.plan.now) c.args.budget)
    (λ s h. closest_beside (members_of_plan c.args.plan.now) (due_of_plan c.args.plan.now)
    c.args.at.0 c.args.budget s
    (let G : ℤ → Type 0 = λ z. (members_of_plan c.args.plan.now) z ≡ false in subst G c.of-p.ensures
    (sym c.in-Ok-false.ensures.value ∙ c.in-Ok-false.field-0-test)) h)
    (subst P c.holds.ensures.same c.beside.ensures.stop)

pub returns-in-Err-clause-stop : goal.returns-in-Err-clause-stop
returns-in-Err-clause-stop g c =
    closest_test (members_of_plan c.args.plan.now) (due_of_plan c.args.plan.now) c.args.at.0
    c.args.budget c.in-Err.stop
    (λ d. let S : ℤ → Type 0 = λ z. (due_of_plan c.args.plan.now) d z c.args.budget c.in-Err.stop in
    subst S c.of-p.ensures (c.in-Err.ensures.stop.1 d))

pub returns-in-Ok-true-clause-stop : goal.returns-in-Ok-true-clause-stop
returns-in-Ok-true-clause-stop g c =
    let P : Tree Meaning → Type 0 =
    λ t. IfErr c.around.result (IsStopAt (PlacesAround c.of-p.result.0) (IsDue t) c.args.budget)
    in
    let S : ℤ → Type 0 =
    λ z. IfErr c.around.result (IsStopAt (PlacesAround z) (due_of_plan c.args.plan.now)
    c.args.budget) in
    let G : ℤ → Type 0 = λ z. (members_of_plan c.args.plan.now) z ≡ true in
    let member =
    subst G c.of-p.ensures (sym c.in-Ok-true.ensures.value ∙ c.in-Ok-true.field-0-test) in
    IfErr-weaker c.around.result (IsStopAt (PlacesAround (position_of c.args.at.0))
    (due_of_plan c.args.plan.now) c.args.budget)
    (IsStopAt (PlacesOfClosest (members_of_plan c.args.plan.now) c.args.at.0)
    (due_of_plan c.args.plan.now) c.args.budget)
    (λ s h. (h.0, h.1, inl (member, h.2), h.3))
    (subst S c.of-p.ensures (subst P c.holds.ensures.same c.around.ensures.stop))
