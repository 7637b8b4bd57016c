use Rattle.std.proofs.Common.{rules, ◌≡◌, length, map, sym, None}
use Rattle.std.proofs.lemmas.List.{length-map}
use Rattle.std.specs.String.{string_bytes}
use Rattle.query_words.specs.declared.commands.Key.TheVariants.{At}
use Rattle.query_words.specs.Reading.{stamp_in, value_at}
use Rattle.query_words.proofs.Asking.{near_asks, near_lacks_at}
use Rattle.query_words.proofs.reading.read_near.Goals as goal

pub returns-in_default : goal.returns-in_default
returns-in_default c =
    let words = map string_bytes c.args.later.now in
    let s = c.in_ok-settings.settings in
    let empty : stamp_in (value_at s At) ≡ None = search rules in
    near_lacks_at c.args.side words s (length c.args.later.now)
    (rw c.command.ensures.value at c.in_ok-settings.ensures.0) c.in_ok-settings.ensures.1 empty
    (sym (length-map c.args.later.now string_bytes))

pub returns : goal.returns
returns c =
    let words = map string_bytes c.args.later.now in
    let s = c.in_ok-settings.settings in
    rw c.budget.ensures (near_asks c.args.side words s c.in-Some.at
    (rw c.command.ensures.value at c.in_ok-settings.ensures.0) c.in_ok-settings.ensures.1
    (search rules))
