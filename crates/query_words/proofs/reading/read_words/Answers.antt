use Rattle.std.proofs.Common.{rules, ◌≡◌, ◌≢◌, ◌∷◌, map, sym, ◌∙◌, ap, None}
use Rattle.std.specs.String.{string_bytes}
use Rattle.query_words.specs.declared.commands.Command.TheVariants.{Walk, Resume, Show}
use Rattle.query_words.specs.Neighbours.{neighbour_of}
use Rattle.query_words.specs.Words.{unbuilt}
use Rattle.query_words.proofs.Asking.{no_words, no_name, not_built}
use Rattle.query_words.proofs.reading.read_words.Goals as goal

pub returns-in_default : goal.returns-in_default
returns-in_default c = no_words string_bytes c.args.words.now c.in_default.ensures.cases

pub returns-in_default-named : goal.returns-in_default-named
returns-in_default-named c =
    let later = map string_bytes c.in-Some.later.now in
    let parts : c.args.words.now ≡ c.in-Some.first.now ∷ c.in-Some.later.now = search rules in
    no_name (map string_bytes c.args.words.now) later c.as_str.result.now
    (ap (map string_bytes) parts ∙ ap (λ f. f ∷ later) (sym c.as_str.ensures.value))
    c.in_default-named.ensures.none

pub returns-in_default-command : goal.returns-in_default-command
returns-in_default-command c =
    let later = map string_bytes c.in-Some.later.now in
    let parts : c.args.words.now ≡ c.in-Some.first.now ∷ c.in-Some.later.now = search rules in
    let none : neighbour_of c.in-Some-named.command ≡ None = search rules in
    let walk : c.in-Some-named.command ≢ Walk = search rules in
    let resume : c.in-Some-named.command ≢ Resume = search rules in
    let show : c.in-Some-named.command ≢ Show = search rules in
    unbuilt c.in-Some-named.command later
    (ap (map string_bytes) parts ∙ ap (λ f. f ∷ later) (sym c.as_str.ensures.value
    ∙ c.in-Some-named.ensures.some))
    (not_built c.in-Some-named.command none walk resume show)
