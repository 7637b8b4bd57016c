use Rattle.std.proofs.Common.{◌∙◌, sym, subst, ℕ, List}
use Rattle.span_core.specs.Tokens.{IsFit}
use Rattle.span_core.specs.declared.answers.Token.{Token}
use Rattle.walk_core.specs.Walks.{token_of_walk}
use Rattle.walk_report.specs.Turns.{PutsOrBreaks, TurnsTo, telling_of}
use Rattle.walk_report.specs.declared.writing.Turn.{Turn}
use Rattle.walk_report.proofs.Lining.{turned}
use Rattle.walk_report.proofs.writing.write_next.Goals as goal

pub returns-clause-turn : goal.returns-clause-turn
returns-clause-turn g c =
    let telling = telling_of c.args.walk.now c.args.kind c.args.clock c.args.budget in
    let here = token_of_walk c.args.walk.now in
    let next = token_of_walk c.step-item.new.self in
    let T : Turn → Type 0 =
    λ x. TurnsTo g.K.Sink c.args.sink.now c.put-whole.new.sink telling here next x in
    let L : List ℕ → Type 0 =
    λ x. PutsOrBreaks g.K.Sink x c.args.sink.now c.put-whole.new.sink c.put-whole.result in
    let F : Token → Type 0 = λ x. IsFit x in
    subst T (sym c.turn_of.ensures)
    (turned g.K.Sink c.args.sink.now c.put-whole.new.sink telling here next
    (λ limit. c.report_laws.ensures.exist telling limit next c.walk_laws.ensures.lawful
    (subst F c.token-next.ensures.value c.token-next.ensures.fit))
    c.step-item.result c.put-whole.result c.step-item.ensures.answer c.step-item.ensures.for_ever
    c.step-item.ensures.complete
    (subst L (c.bytes.ensures.value ∙ c.line_item-line.ensures) c.put-whole.ensures.puts))
