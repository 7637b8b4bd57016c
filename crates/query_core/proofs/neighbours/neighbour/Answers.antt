use Rattle.std.proofs.Common.{IfErr, IfOk, subst, ℤ}
use Rattle.moment_core.specs.Line.{position_of}
use Rattle.stored_pair.specs.Meanings.{Meaning}
use Rattle.expr_tree.specs.Tree.{Tree}
use Rattle.search_core.specs.Lawful.{AreLawful}
use Rattle.plan_core.specs.Plans.{due_of_plan, meant_of_plan, members_of_plan, window_of_plan}
use Rattle.run_search.specs.Places.{IsStopAt, PlacesWithin}
use Rattle.query_core.specs.Answering.{PlacesOfNext}
use Rattle.query_core.specs.Endless.{IsForEver}
use Rattle.query_core.specs.Neighbours.{IsNextPast, IsNextRun}
use Rattle.query_core.proofs.Answered.{Tells, tells}
use Rattle.query_core.proofs.neighbours.neighbour.Given as given
use Rattle.query_core.proofs.neighbours.neighbour.Goals as goal

whole : (g : given.Over) (c : goal.After-told g)
    → Tells (IsNextRun (members_of_plan c.args.plan.now) (window_of_plan c.args.plan.now) c.args.dir
    c.args.at.0) (IsForEver (members_of_plan c.args.plan.now) c.args.dir (position_of c.args.at.0))
    (PlacesOfNext (members_of_plan c.args.plan.now) c.args.dir c.args.at.0)
    (due_of_plan c.args.plan.now) c.args.budget c.told.result
whole g c =
    let L : Tree Meaning → Type 0 = λ t. AreLawful t in
    let lawful : AreLawful (meant_of_plan c.args.plan.now) =
    subst L c.ready.ensures c.ready_laws.ensures.lawful in
    let A : ℤ → Type 0 =
    λ z. IfOk c.past.result (IsNextPast (members_of_plan c.args.plan.now)
    (window_of_plan c.args.plan.now) c.args.dir z) in
    let S : ℤ → Type 0 =
    λ z. IfErr c.past.result (IsStopAt (PlacesWithin (members_of_plan c.args.plan.now)
    c.args.dir 2 z) (due_of_plan c.args.plan.now) c.args.budget) in
    tells (IsNextRun (members_of_plan c.args.plan.now) (window_of_plan c.args.plan.now) c.args.dir
    c.args.at.0) (IsForEver (members_of_plan c.args.plan.now) c.args.dir
    (position_of c.args.at.0)) (PlacesOfNext (members_of_plan c.args.plan.now) c.args.dir
    c.args.at.0) (due_of_plan c.args.plan.now) c.args.budget
    c.past.result c.told.result c.told.ensures (subst A c.of.ensures c.past.ensures.answer)
    (subst S c.of.ensures c.past.ensures.stop)
    (λ s h. h)
    (λ near h. c.endless_laws.ensures.for_ever.next (meant_of_plan c.args.plan.now) c.args.dir
    c.args.at.0 near lawful c.requires.range h)
    (λ s. tt)
    (λ near h. c.endless_laws.ensures.in_range.next (meant_of_plan c.args.plan.now) c.args.dir
    c.args.at.0 near c.requires.range h)

pub returns-clause-answer : goal.returns-clause-answer
returns-clause-answer g c = (whole g c).answers

pub returns-clause-complete : goal.returns-clause-complete
returns-clause-complete g c = (whole g c).complete

pub returns-clause-for_ever : goal.returns-clause-for_ever
returns-clause-for_ever g c = (whole g c).for_ever

pub returns-clause-in_range : goal.returns-clause-in_range
returns-clause-in_range g c = (whole g c).in_range
