use Rattle.std.proofs.Common.{arith, ◌≤◌}
use Rattle.plan_core.specs.Plans.{meant_of_plan}
use Rattle.run_search.proofs.finding.holds.Goals as goal

pub returns-in-Budget-clause-stop : goal.returns-in-Budget-clause-stop
returns-in-Budget-clause-stop g c =
    let tree = meant_of_plan c.args.plan.now in
    let s = c.in-Budget.stop in
    let due = c.in-Budget.ensures.value in (
      λ e. (let h : 1 ≤ s.node = c.due_laws.ensures.numbered tree 1 c.args.budget s c.args.p.0
          due in omega arith),
      λ dir. c.due_laws.ensures.tests tree dir c.args.p.0 c.args.budget s c.requires.range due,
    )
