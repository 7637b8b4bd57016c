use Rattle.std.proofs.Common.{sym, ◌∙◌}
use Rattle.moment_core.specs.declared.line.Dir.TheVariants.{Back}
use Rattle.node_turns.proofs.RuleTurning.{member_counts_down, member_down, step_counts, step_down}
use Rattle.node_turns.proofs.turns.leaf_turn_down.Goals as goal

pub returns-then-test-clause-turn : goal.returns-then-test-clause-turn
returns-then-test-clause-turn g c =
    rw c.turn_up_to.ensures (member_down (g.F.Leaf.has c.args.leaf.now) c.args.p.0
    c.one_before.result c.args.end c.one_before.ensures)

pub returns-then-test-clause-counts : goal.returns-then-test-clause-counts
returns-then-test-clause-counts g c =
    rw c.turn_up_to.ensures (member_counts_down (g.F.Leaf.has c.args.leaf.now)
    (g.F.Leaf.cand c.args.leaf.now) c.args.p.0 c.floor-t.result.0 c.one_before.result c.args.end
    c.requires.here c.floor-t.ensures (sym c.test.ensures.value ∙ c.if-test.true)
    c.test.ensures.candidates c.one_before.ensures)

pub returns-clause-turn : goal.returns-clause-turn
returns-clause-turn g c =
    rw c.turn_of_step.ensures (step_down (g.F.Leaf.has c.args.leaf.now)
    (g.F.Leaf.cand c.args.leaf.now) c.args.p.0 c.floor-t.result.0 c.args.end
    c.before-step.result
    c.requires.here c.requires.there c.floor-t.ensures (sym c.test.ensures.value ∙ c.if-test.false)
    c.before-step.ensures.next c.before-step.ensures.members)

pub returns-clause-counts : goal.returns-clause-counts
returns-clause-counts g c =
    rw c.turn_of_step.ensures (step_counts (g.F.Leaf.has c.args.leaf.now)
    (g.F.Leaf.cand c.args.leaf.now) Back c.floor-t.result.0 c.args.end c.before-step.result
    c.before-step.ensures.next)
