use Rattle.std.proofs.Common.{sym, subst}
use Rattle.stored_pair.specs.Meanings.{Meaning}
use Rattle.expr_tree.specs.Members.{is_member}
use Rattle.expr_tree.specs.Tree.{Tree}
use Rattle.plan_core.specs.Plans.{meant_of_plan}
use Rattle.run_search.specs.Places.{IsPlaceWithin}
use Rattle.walk_core.proofs.Stepping.{fit_gap_stop, gap_stopped, honest_gap}
use Rattle.walk_core.proofs.steps.first_from.Goals as goal

pub close-requires-clause-place : goal.close-requires-clause-place
close-requires-clause-place g c =
    let P : Tree Meaning → Type 0 =
    λ t. IsPlaceWithin (is_member t) c.args.t.dir 1 c.args.t.place.0 c.in-At.first.0 in
    subst P (sym c.first_of_run.ensures.same) c.in-At.ensures.answer.1

pub returns-in-Stopped-clause-answer : goal.returns-in-Stopped-clause-answer
returns-in-Stopped-clause-answer g c =
    gap_stopped (meant_of_plan c.args.plan.now) c.args.budget c.args.t c.stopped.result.found
    c.stopped.result.next c.in-Stopped.stop
    c.requires.begun c.requires.within c.in-Stopped.ensures.answer c.stopped.ensures.found
    c.stopped.ensures.next

pub returns-in-Stopped-clause-fit : goal.returns-in-Stopped-clause-fit
returns-in-Stopped-clause-fit g c =
    fit_gap_stop (meant_of_plan c.args.plan.now) c.args.budget c.args.t c.stopped.result.found
    c.stopped.result.next c.in-Stopped.stop
    c.requires.begun c.requires.fit c.in-Stopped.ensures.answer.1 c.stopped.ensures.next

pub returns-in-Stopped-clause-honest : goal.returns-in-Stopped-clause-honest
returns-in-Stopped-clause-honest g c honest =
    honest_gap (meant_of_plan c.args.plan.now) c.args.budget c.args.t c.stopped.result.found
    c.stopped.result.next c.in-Stopped.stop
    c.stopped.ensures.next honest
