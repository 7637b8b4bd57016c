use Rattle.std.proofs.Common.{◌∙◌, sym}
use Rattle.sieve_core.proofs.TimeLemmas.{clear-no_time, clear-midnight, clear-unmet_day, nearest-in_day}
use Rattle.sieve_core.proofs.tables.Sieve.nearest_of_day.Goals as goal

pub returns-in-None : goal.returns-in-None
returns-in-None c =
    clear-no_time c.args.self.now c.args.dir c.args.t.0 c.requires.past
    (rw (c.turn.ensures, c.second_of_day.ensures.value) at c.in-None.ensures)

pub returns-then-meets_day : goal.returns-then-meets_day
returns-then-meets_day c =
    nearest-in_day c.args.self.now c.args.dir c.args.t.0 c.at_second.result.0 c.in-Some.n
    c.requires.past (rw (c.turn.ensures, c.second_of_day.ensures.value) at c.in-Some.ensures)
    (sym c.meets_day.ensures ∙ c.if-meets_day.true)
    (rw c.turn-second.ensures at c.at_second.ensures)

pub returns-else-meets_day : goal.returns-else-meets_day
returns-else-meets_day c = clear-unmet_day c.args.self.now c.args.dir c.args.t.0 c.requires.past
    (sym c.meets_day.ensures ∙ c.if-meets_day.false)

pub returns-then-second-eq0 : goal.returns-then-second-eq0
returns-then-second-eq0 c =
    clear-midnight c.args.self.now c.args.dir c.args.t.0 c.in-Some.n c.requires.past
    (rw (c.turn.ensures, c.second_of_day.ensures.value) at c.in-Some.ensures)
    (sym c.turn-second.ensures ∙ c.if-second-eq0.true)
