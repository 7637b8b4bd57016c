use Rattle.std.proofs.Common.{◌≡◌, ◌∙◌, sym, ap}
use Rattle.expr_tokens.specs.Plain.{plains}
use Rattle.expr_grammar.specs.Parsing.{moments_end_at, list_at}
use Rattle.expr_grammar.proofs.Loop.{with_front, with_front-end}
use Rattle.expr_grammar.proofs.parser.moments.Goals as goal

pub returns-clause-read : goal.returns-clause-read
returns-clause-read c =
    let e : moments_end_at c.moments.found.items (plains c.moments.rest.now)
    ≡ list_at (plains c.args.tokens.now) =
    sym (with_front-end c.moments.found.items (plains c.moments.rest.now))
    ∙ ap (with_front c.moments.found.items) (sym c.in_default.ensures.read)
    ∙ c.moments.invariant.read in
    rw (← e) c.moments_end.ensures.read
