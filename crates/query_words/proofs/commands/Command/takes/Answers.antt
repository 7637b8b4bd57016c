use Rattle.query_words.proofs.WordLemmas.{in_either}
use Rattle.query_words.proofs.commands.Command.takes.Goals as goal

pub returns-else-holds : goal.returns-else-holds
returns-else-holds c =
    rw (← c.required.ensures, ← c.optional.ensures)
    (in_either c.required.result.now c.optional.result.now c.args.key c.holds.result
    c.holds-else-holds.result c.holds.ensures c.if-holds.false c.holds-else-holds.ensures)
