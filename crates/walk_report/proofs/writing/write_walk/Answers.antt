use Rattle.std.proofs.Common.{◌≡◌, ◌∙◌, sym, subst, ap, arith, ℕ}
use Rattle.stored_pair.specs.Meanings.{Meaning}
use Rattle.expr_tree.specs.Tree.{Tree}
use Rattle.report_text.specs.Items.{more_line}
use Rattle.walk_core.specs.Walks.{token_of_walk}
use Rattle.walk_report.specs.Report.{IsWalked}
use Rattle.walk_report.specs.Turns.{TurnsTo, telling_of}
use Rattle.walk_report.specs.declared.writing.Turn.TheVariants as turns
use Rattle.walk_report.proofs.Lining.{way_breaks, way_ends, way_more, way_on}
use Rattle.walk_report.proofs.writing.write_walk.Goals as goal

pub loop-left-preserved : goal.loop-left-preserved
loop-left-preserved g c =
    let P : Tree Meaning → Type 0 =
    λ x. TurnsTo g.K.Sink c.loop-left.sink c.write_next.new.sink
    (record { tree = x; kind = c.args.kind; clock = c.args.clock; budget = c.args.budget })
    (token_of_walk c.loop-left.walk) (token_of_walk c.write_next.new.walk) turns.Wrote in
    record {
      same = c.write_next.ensures.same ∙ c.loop-left.invariant.same;
      way = way_on g.K.Sink (telling_of c.args.walk.now c.args.kind c.args.clock c.args.budget)
          c.args.limit c.loop-left.left (token_of_walk c.args.walk.now)
          (token_of_walk c.loop-left.walk) c.args.sink.now c.loop-left.sink c.write_next.new.sink
          c.loop-left.invariant.way c.loop-left-test.true
          c.write_next.ensures.counted (token_of_walk c.write_next.new.walk)
          (subst P c.loop-left.invariant.same c.in-Wrote.ensures.turn);
      steps = omega (arith, c.loop-left.invariant.steps, c.write_next.ensures.steps);
    }

pub returns-in-Last-clause-walked : goal.returns-in-Last-clause-walked
returns-in-Last-clause-walked g c =
    let P : Tree Meaning → Type 0 =
    λ x. TurnsTo g.K.Sink c.loop-left.sink c.write_next.new.sink
    (record { tree = x; kind = c.args.kind; clock = c.args.clock; budget = c.args.budget })
    (token_of_walk c.loop-left.walk) (token_of_walk c.write_next.new.walk)
    (turns.Last c.in-Last.status) in
    way_ends g.K.Sink (telling_of c.args.walk.now c.args.kind c.args.clock c.args.budget)
    c.args.limit c.loop-left.left (token_of_walk c.args.walk.now)
    (token_of_walk c.loop-left.walk) c.args.sink.now c.loop-left.sink c.write_next.new.sink
    c.loop-left.invariant.way c.loop-left-test.true
    c.write_next.ensures.counted (token_of_walk c.write_next.new.walk) c.in-Last.status
    (subst P c.loop-left.invariant.same c.in-Last.ensures.turn)

pub returns-in-Broke-clause-walked : goal.returns-in-Broke-clause-walked
returns-in-Broke-clause-walked g c =
    let P : Tree Meaning → Type 0 =
    λ x. TurnsTo g.K.Sink c.loop-left.sink c.write_next.new.sink
    (record { tree = x; kind = c.args.kind; clock = c.args.clock; budget = c.args.budget })
    (token_of_walk c.loop-left.walk) (token_of_walk c.write_next.new.walk) turns.Broke in
    way_breaks g.K.Sink (telling_of c.args.walk.now c.args.kind c.args.clock c.args.budget)
    c.args.limit c.loop-left.left (token_of_walk c.args.walk.now)
    (token_of_walk c.loop-left.walk) c.args.sink.now c.loop-left.sink c.write_next.new.sink
    c.loop-left.invariant.way c.loop-left-test.true
    c.write_next.ensures.counted (token_of_walk c.write_next.new.walk)
    (subst P c.loop-left.invariant.same c.in-Broke.ensures.turn)

pub returns-clause-walked : goal.returns-clause-walked
returns-clause-walked g c =
    let none : c.loop-left.left ≡ 0 = omega (arith, c.loop-left-test.false) in
    let S : ℕ → Type 0 =
    λ x. IsWalked g.K.Sink c.args.sink.now c.put-whole.new.sink
    (telling_of c.args.walk.now c.args.kind c.args.clock c.args.budget) c.args.limit
    (token_of_walk c.args.walk.now) x in
    subst S (sym c.last_status.ensures)
    (way_more g.K.Sink (telling_of c.args.walk.now c.args.kind c.args.clock c.args.budget)
    c.args.limit c.loop-left.left (token_of_walk c.args.walk.now)
    (token_of_walk c.loop-left.walk) c.args.sink.now c.loop-left.sink c.put-whole.new.sink
    c.bytes.result.now c.put-whole.result
    c.loop-left.invariant.way none c.put-whole.ensures.counted
    (c.bytes.ensures.value ∙ c.line_more-line.ensures ∙ ap more_line c.token.ensures.value)
    c.put-whole.ensures.puts)
