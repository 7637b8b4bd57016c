use Rattle.std.proofs.Common.{rules, ◌≡◌, sym, ◌∙◌}
use Rattle.token_text.proofs.Numerals.{read_back, only_ok}
use Rattle.token_text.proofs.reading.position_in.Goals as goal

pub returns-in-Ok : goal.returns-in-Ok
returns-in-Ok c = λ p near is.
    let same : c.in-Ok.number ≡ p.0 = only_ok c.in-Ok.number p.0
    (sym c.in-Ok.is ∙ read_back p c.args.text.now c.parse.result near is c.parse.ensures.value.0) in
    search rules

pub returns-in-Err : goal.returns-in-Err
returns-in-Err c = λ p near is.
    let e = sym c.in-Err.is ∙ read_back p c.args.text.now c.parse.result near is
    c.parse.ensures.value.0 in
    absurd cc
