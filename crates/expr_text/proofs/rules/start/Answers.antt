use Rattle.std.proofs.Common.{sym, ◌∙◌, map}
use Rattle.expr_grammar.specs.Syntax.{field_form}
use Rattle.expr_text.proofs.Started.{same_start, started}
use Rattle.expr_text.proofs.rules.start.Goals as goal

pub returns-in-Some : goal.returns-in-Some
returns-in-Some c =
    let x = started (map field_form c.args.fields.now) c.requires in
    let is = sym c.literal.ensures ∙ c.in-Some.is in
    rw is (same_start c.in-Some.literal x.start (rw is at x.found))
