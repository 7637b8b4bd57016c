use Rattle.std.proofs.Common.{rules, ◌≡◌, ◌∷◌, []}
use Rattle.token_text.proofs.Numerals.{dash_is_none}
use Rattle.token_text.proofs.reading.begun_in.Goals as goal

pub returns-then-eq : goal.returns-then-eq
returns-then-eq c = λ p near is.
    let dash : c.args.text.now ≡ 45 ∷ [] = search rules in
    dash_is_none p c.args.text.now near is dash
