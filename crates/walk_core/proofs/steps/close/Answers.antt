use Rattle.std.proofs.Common.{◌≡◌, subst}
use Rattle.moment_core.specs.Sets.{ahead}
use Rattle.stored_pair.specs.Meanings.{Meaning}
use Rattle.expr_tree.specs.Tree.{Tree}
use Rattle.plan_core.specs.Plans.{meant_of_plan, window_of}
use Rattle.run_search.specs.Runs.{item_from}
use Rattle.walk_core.specs.declared.steps.Found.TheVariants as founds
use Rattle.walk_core.proofs.Stepping.{fit_run_stop, honest_past, honest_run, run_given, run_stopped}
use Rattle.walk_core.proofs.steps.close.Goals as goal

pub returns-in-Ok-clause-answer : goal.returns-in-Ok-clause-answer
returns-in-Ok-clause-answer g c =
    let P : Tree Meaning → Type 0 =
    λ t. c.given.result.found ≡ founds.Given (item_from (window_of t) c.args.t.dir c.args.first.0
    c.in-Ok.last.0) in
    run_given (meant_of_plan c.args.plan.now) c.args.budget c.args.t c.given.result.found
    c.given.result.next c.args.first.0 c.in-Ok.last.0
    c.requires.begun c.requires.first c.in-Ok.ensures.last
    (subst P c.last_of_run.ensures.same c.given.ensures.found) c.given.ensures.next

pub returns-in-Err-clause-answer : goal.returns-in-Err-clause-answer
returns-in-Err-clause-answer g c =
    run_stopped (meant_of_plan c.args.plan.now) c.args.budget c.args.t c.stopped.result.found
    c.stopped.result.next c.args.first c.in-Err.stop
    c.requires.begun c.requires.first c.requires.place c.in-Err.ensures.stop c.stopped.ensures.found
    c.stopped.ensures.next

pub returns-in-Err-clause-fit : goal.returns-in-Err-clause-fit
returns-in-Err-clause-fit g c =
    fit_run_stop (meant_of_plan c.args.plan.now) c.args.budget c.args.t c.stopped.result.found
    c.stopped.result.next c.args.first c.in-Err.stop
    c.requires.begun c.requires.fit c.requires.first c.in-Err.ensures.stop c.stopped.ensures.next

pub returns-in-Ok-clause-honest : goal.returns-in-Ok-clause-honest
returns-in-Ok-clause-honest g c honest =
    honest_past (meant_of_plan c.args.plan.now) c.args.budget c.args.t c.given.result.found
    c.given.result.next (ahead c.args.t.dir c.in-Ok.last.0 1)
    c.given.ensures.next

pub returns-in-Err-clause-honest : goal.returns-in-Err-clause-honest
returns-in-Err-clause-honest g c honest =
    honest_run (meant_of_plan c.args.plan.now) c.args.budget c.args.t c.stopped.result.found
    c.stopped.result.next c.args.first c.in-Err.stop
    c.requires.first c.in-Err.ensures.stop c.stopped.ensures.next honest
