use Rattle.std.proofs.Common.{subst}
use Rattle.stored_pair.specs.Meanings.{Meaning}
use Rattle.expr_tree.specs.Tree.{Tree}
use Rattle.search_core.specs.Lawful.{AreLawful}
use Rattle.plan_core.specs.Plans.{due_of_plan, meant_of_plan, members_of_plan, window_of_plan}
use Rattle.query_core.specs.Answering.{PlacesOfCurrent}
use Rattle.query_core.specs.Endless.{IsForEverCurrent}
use Rattle.query_core.specs.Neighbours.{IsCurrentRun}
use Rattle.query_core.proofs.Answered.{Tells, never_current, stop_current, tells}
use Rattle.query_core.proofs.neighbours.current.Given as given
use Rattle.query_core.proofs.neighbours.current.Goals as goal

whole : (g : given.Over) (c : goal.After-told g)
    → Tells (IsCurrentRun (members_of_plan c.args.plan.now) (window_of_plan c.args.plan.now)
    c.args.at.0) (IsForEverCurrent (members_of_plan c.args.plan.now) c.args.at.0)
    (PlacesOfCurrent (members_of_plan c.args.plan.now) c.args.at.0) (due_of_plan c.args.plan.now)
    c.args.budget c.told.result
whole g c =
    let L : Tree Meaning → Type 0 = λ t. AreLawful t in
    let lawful : AreLawful (meant_of_plan c.args.plan.now) =
    subst L c.ready.ensures c.ready_laws.ensures.lawful in
    tells (IsCurrentRun (members_of_plan c.args.plan.now) (window_of_plan c.args.plan.now)
    c.args.at.0) (IsForEverCurrent (members_of_plan c.args.plan.now) c.args.at.0)
    (PlacesOfCurrent (members_of_plan c.args.plan.now) c.args.at.0)
    (due_of_plan c.args.plan.now) c.args.budget
    c.current_at.result c.told.result c.told.ensures c.current_at.ensures.answer
    c.current_at.ensures.stop
    (never_current (members_of_plan c.args.plan.now) (window_of_plan c.args.plan.now) c.args.at.0)
    (λ near h. c.endless_laws.ensures.for_ever.current (meant_of_plan c.args.plan.now) c.args.at.0
    near lawful c.requires.range h)
    (stop_current (members_of_plan c.args.plan.now) c.args.at.0)
    (λ near h. c.endless_laws.ensures.in_range.current (meant_of_plan c.args.plan.now) c.args.at.0
    near c.requires.range h)

pub returns-clause-answer : goal.returns-clause-answer
returns-clause-answer g c = (whole g c).answers

pub returns-clause-complete : goal.returns-clause-complete
returns-clause-complete g c = (whole g c).complete

pub returns-clause-for_ever : goal.returns-clause-for_ever
returns-clause-for_ever g c = (whole g c).for_ever

pub returns-clause-in_range : goal.returns-clause-in_range
returns-clause-in_range g c = (whole g c).in_range
