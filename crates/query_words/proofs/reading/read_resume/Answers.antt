use Rattle.std.proofs.Common.{rules, ◌≡◌, length, map, sym, None}
use Rattle.std.proofs.lemmas.List.{length-map}
use Rattle.std.specs.String.{string_bytes}
use Rattle.query_words.specs.declared.commands.Key.TheVariants.{Token}
use Rattle.query_words.specs.Reading.{token_in, value_at}
use Rattle.query_words.proofs.Asking.{resume_asks, resume_lacks_token}
use Rattle.query_words.proofs.reading.read_resume.Goals as goal

pub returns-in_default : goal.returns-in_default
returns-in_default c =
    let words = map string_bytes c.args.later.now in
    let s = c.in_ok-settings.settings in
    let empty : token_in (value_at s Token) ≡ None = search rules in
    resume_lacks_token words s (length c.args.later.now) c.in_ok-settings.ensures.0
    c.in_ok-settings.ensures.1 empty (sym (length-map c.args.later.now string_bytes))

pub returns : goal.returns
returns c =
    let words = map string_bytes c.args.later.now in
    let s = c.in_ok-settings.settings in
    rw (c.limit.ensures, c.budget.ensures)
    (resume_asks words s c.in-Some.token c.in_ok-settings.ensures.0 c.in_ok-settings.ensures.1
    (search rules))
