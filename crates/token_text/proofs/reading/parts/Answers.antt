use Rattle.std.proofs.Common.{sym, subst}
use Rattle.std.specs.Str.{IsAscii}
use Rattle.std.proofs.lemmas.Str.{IsUtf8-from_ascii}
use Rattle.token_text.proofs.Ascii.{token_ascii}
use Rattle.token_text.proofs.reading.parts.Goals as goal

pub returns-in_err-text_in : goal.returns-in_err-text_in
returns-in_err-text_in c = λ t fit is.
    absurd (c.in_err-text_in.ensures.none
    (IsUtf8-from_ascii c.args.text.now (subst IsAscii (sym is) (token_ascii t fit))))
