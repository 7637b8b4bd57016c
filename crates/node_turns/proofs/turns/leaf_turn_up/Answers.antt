use Rattle.std.proofs.Common.{◌≡◌, sym, ◌∙◌, false, arith}
use Rattle.std.proofs.lemmas.Int.{ints}
use Rattle.moment_core.specs.Line.{position_of}
use Rattle.moment_core.specs.Sets.{moments_in}
use Rattle.moment_core.specs.declared.line.Dir.TheVariants.{Fore}
use Rattle.node_turns.proofs.RuleTurning.{member_counts_up, member_up, off_even, off_odd, step_counts, step_up}
use Rattle.node_turns.proofs.turns.leaf_turn_up.Goals as goal
use Rattle.node_turns.proofs.turns.leaf_turn_up.Goals.{then-eq+else-test, else-eq}

pub returns-then-test-clause-turn : goal.returns-then-test-clause-turn
returns-then-test-clause-turn g c =
    rw c.turn_up_to.ensures (member_up (g.F.Leaf.has c.args.leaf.now) c.args.p.0 c.one_after.result
    c.args.end c.one_after.ensures)

pub returns-then-test-clause-counts : goal.returns-then-test-clause-counts
returns-then-test-clause-counts g c =
    let even : position_of c.floor-t.result.0 ≡ c.args.p.0 = grind (arith, ints) in
    rw c.turn_up_to.ensures (member_counts_up (g.F.Leaf.has c.args.leaf.now)
    (g.F.Leaf.cand c.args.leaf.now) c.args.p.0 c.floor-t.result.0 c.one_after.result c.args.end
    c.requires.here c.floor-t.ensures even (sym c.test.ensures.value ∙ c.if-test.true)
    c.test.ensures.candidates c.one_after.ensures)

pub returns-clause-turn : goal.returns-clause-turn
returns-clause-turn g c =
    let has = g.F.Leaf.has c.args.leaf.now in
    let off : moments_in has c.args.p.0 ≡ false = elim c.if-eq.branch [
      | then-eq+else-test w ↦ off_even has c.args.p.0 c.floor-t.result.0 c.floor-t.ensures
          (sym w.test.ensures.value ∙ w.if-test.false)
      | else-eq w ↦ off_odd has c.args.p.0 c.floor-t.result.0 c.floor-t.ensures
          (grind (arith, ints))
    ] in
    rw c.turn_of_step.ensures (step_up has (g.F.Leaf.cand c.args.leaf.now) c.args.p.0
    c.floor-t.result.0 c.args.end c.after-step.result
    c.requires.here c.requires.there c.floor-t.ensures off c.after-step.ensures.next
    c.after-step.ensures.members)

pub returns-clause-counts : goal.returns-clause-counts
returns-clause-counts g c =
    rw c.turn_of_step.ensures (step_counts (g.F.Leaf.has c.args.leaf.now)
    (g.F.Leaf.cand c.args.leaf.now) Fore c.floor-t.result.0 c.args.end c.after-step.result
    c.after-step.ensures.next)
