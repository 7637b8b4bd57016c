use Rattle.std.proofs.Common.{subst}
use Rattle.stored_pair.specs.Meanings.{Meaning}
use Rattle.expr_tree.specs.Tree.{Tree}
use Rattle.search_core.specs.Lawful.{AreLawful}
use Rattle.plan_core.specs.Plans.{due_of_plan, meant_of_plan, members_of_plan, window_of_plan}
use Rattle.query_core.specs.Answering.{PlacesOfClosest}
use Rattle.query_core.specs.Endless.{IsForEverClosest}
use Rattle.query_core.specs.Neighbours.{IsClosestRun}
use Rattle.query_core.proofs.Answered.{Tells, never_closest, stop_closest, tells}
use Rattle.query_core.proofs.neighbours.closest.Given as given
use Rattle.query_core.proofs.neighbours.closest.Goals as goal

whole : (g : given.Over) (c : goal.After-told g)
    → Tells (IsClosestRun (members_of_plan c.args.plan.now) (window_of_plan c.args.plan.now)
    c.args.at.0) (IsForEverClosest (members_of_plan c.args.plan.now) c.args.at.0)
    (PlacesOfClosest (members_of_plan c.args.plan.now) c.args.at.0) (due_of_plan c.args.plan.now)
    c.args.budget c.told.result
whole g c =
    let L : Tree Meaning → Type 0 = λ t. AreLawful t in
    let lawful : AreLawful (meant_of_plan c.args.plan.now) =
    subst L c.ready.ensures c.ready_laws.ensures.lawful in
    tells (IsClosestRun (members_of_plan c.args.plan.now) (window_of_plan c.args.plan.now)
    c.args.at.0) (IsForEverClosest (members_of_plan c.args.plan.now) c.args.at.0)
    (PlacesOfClosest (members_of_plan c.args.plan.now) c.args.at.0)
    (due_of_plan c.args.plan.now) c.args.budget
    c.closest_at.result c.told.result c.told.ensures c.closest_at.ensures.answer
    c.closest_at.ensures.stop
    (never_closest (members_of_plan c.args.plan.now) (window_of_plan c.args.plan.now) c.args.at.0)
    (λ near h. c.endless_laws.ensures.for_ever.closest (meant_of_plan c.args.plan.now) c.args.at.0
    near lawful c.requires.range h)
    (stop_closest (members_of_plan c.args.plan.now) c.args.at.0)
    (λ near h. c.endless_laws.ensures.in_range.closest (meant_of_plan c.args.plan.now) c.args.at.0
    near c.requires.range h)

pub returns-clause-answer : goal.returns-clause-answer
returns-clause-answer g c = (whole g c).answers

pub returns-clause-complete : goal.returns-clause-complete
returns-clause-complete g c = (whole g c).complete

pub returns-clause-for_ever : goal.returns-clause-for_ever
returns-clause-for_ever g c = (whole g c).for_ever

pub returns-clause-in_range : goal.returns-clause-in_range
returns-clause-in_range g c = (whole g c).in_range
