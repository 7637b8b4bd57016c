use Rattle.std.proofs.Common.{◌≡◌, ◌∙◌, IfErr, IfOk, inr, subst, sym, ℤ, false, inl, true}
use Rattle.std.proofs.lemmas.Result.{IfErr-weaker, IfOk-weaker}
use Rattle.moment_core.specs.Line.{position_of}
use Rattle.moment_core.specs.declared.line.Dir.TheVariants.{Back}
use Rattle.stored_pair.specs.Meanings.{Meaning}
use Rattle.expr_tree.specs.Members.{is_member}
use Rattle.expr_tree.specs.Tree.{Tree}
use Rattle.search_core.specs.Due.{IsDue}
use Rattle.plan_core.specs.Plans.{due_of_plan, members_of_plan, window_of, window_of_plan}
use Rattle.run_search.specs.Places.{IsStopAt, PlacesWithin}
use Rattle.query_core.specs.Answering.{PlacesOfCurrent, PlacesAround}
use Rattle.query_core.specs.Neighbours.{IsCurrentRun, IsNextPast}
use Rattle.query_core.proofs.Places.{current_past, current_test}
use Rattle.query_core.proofs.neighbours.current_at.Goals as goal

pub returns-in-Ok-false-clause-answer : goal.returns-in-Ok-false-clause-answer
returns-in-Ok-false-clause-answer g c =
    let P : Tree Meaning → Type 0 =
    λ t. IfOk c.past_gap.result (IsNextPast (is_member t) (window_of t) Back c.of-p.result.0) in
    let A : ℤ → Type 0 =
    λ z. IfOk c.past_gap.result (IsNextPast (members_of_plan c.args.plan.now)
    (window_of_plan c.args.plan.now) Back z) in
    IfOk-weaker c.past_gap.result (IsNextPast (members_of_plan c.args.plan.now)
    (window_of_plan c.args.plan.now) Back (position_of c.args.at.0))
    (IsCurrentRun (members_of_plan c.args.plan.now) (window_of_plan c.args.plan.now)
    c.args.at.0)
    (λ near h. inr (
      (let G : ℤ → Type 0 = λ z. (members_of_plan c.args.plan.now) z ≡ false in
          subst G c.of-p.ensures (sym c.in-Ok-false.ensures.value ∙ c.in-Ok-false.field-0-test)),
      h,
    ))
    (subst A c.of-p.ensures (subst P c.holds.ensures.same c.past_gap.ensures.answer))

pub returns-in-Ok-false-clause-stop : goal.returns-in-Ok-false-clause-stop
returns-in-Ok-false-clause-stop g c =
    let P : Tree Meaning → Type 0 =
    λ t. IfErr c.past_gap.result (IsStopAt (PlacesWithin (is_member t) Back 1 c.of-p.result.0)
    (IsDue t) c.args.budget) in
    let S : ℤ → Type 0 =
    λ z. IfErr c.past_gap.result (IsStopAt (PlacesWithin (members_of_plan c.args.plan.now) Back
    1 z) (due_of_plan c.args.plan.now) c.args.budget) in
    IfErr-weaker c.past_gap.result (IsStopAt (PlacesWithin (members_of_plan c.args.plan.now) Back 1
    (position_of c.args.at.0)) (due_of_plan c.args.plan.now) c.args.budget)
    (IsStopAt (PlacesOfCurrent (members_of_plan c.args.plan.now) c.args.at.0)
    (due_of_plan c.args.plan.now) c.args.budget)
    (λ s h. current_past (members_of_plan c.args.plan.now) (due_of_plan c.args.plan.now) c.args.at.0
    c.args.budget s
    (let G : ℤ → Type 0 = λ z. (members_of_plan c.args.plan.now) z ≡ false in subst G c.of-p.ensures
    (sym c.in-Ok-false.ensures.value ∙ c.in-Ok-false.field-0-test)) h)
    (subst S c.of-p.ensures (subst P c.holds.ensures.same c.past_gap.ensures.stop))

pub returns-in-Err-clause-stop : goal.returns-in-Err-clause-stop
returns-in-Err-clause-stop g c =
    current_test (members_of_plan c.args.plan.now) (due_of_plan c.args.plan.now) c.args.at.0
    c.args.budget c.in-Err.stop
    (λ d. let S : ℤ → Type 0 = λ z. (due_of_plan c.args.plan.now) d z c.args.budget c.in-Err.stop in
    subst S c.of-p.ensures (c.in-Err.ensures.stop.1 d))

pub returns-in-Ok-true-clause-stop : goal.returns-in-Ok-true-clause-stop
returns-in-Ok-true-clause-stop g c =
    let P : Tree Meaning → Type 0 =
    λ t. IfErr c.around.result (IsStopAt (PlacesAround c.of-p.result.0) (IsDue t) c.args.budget)
    in
    let S : ℤ → Type 0 =
    λ z. IfErr c.around.result (IsStopAt (PlacesAround z) (due_of_plan c.args.plan.now)
    c.args.budget) in
    let G : ℤ → Type 0 = λ z. (members_of_plan c.args.plan.now) z ≡ true in
    let member =
    subst G c.of-p.ensures (sym c.in-Ok-true.ensures.value ∙ c.in-Ok-true.field-0-test) in
    IfErr-weaker c.around.result (IsStopAt (PlacesAround (position_of c.args.at.0))
    (due_of_plan c.args.plan.now) c.args.budget)
    (IsStopAt (PlacesOfCurrent (members_of_plan c.args.plan.now) c.args.at.0)
    (due_of_plan c.args.plan.now) c.args.budget)
    (λ s h. (h.0, h.1, inl (member, h.2), h.3))
    (subst S c.of-p.ensures (subst P c.holds.ensures.same c.around.ensures.stop))
