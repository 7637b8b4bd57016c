use Rattle.std.proofs.Common.{◌∙◌, sym}
use Rattle.sieve_core.proofs.TimeLemmas.{nearest-here, nearest-midnight}
use Rattle.sieve_core.proofs.tables.Sieve.nearest.Goals as goal

pub returns-then-second_of_day-eq0-clause-near : goal.returns-then-second_of_day-eq0-clause-near
returns-then-second_of_day-eq0-clause-near c = nearest-here c.args.self.now c.args.dir c.args.t.0
    (sym c.second_of_day.ensures.value ∙ c.if-second_of_day-eq0.true)

pub returns-in-None-clause-near : goal.returns-in-None-clause-near
returns-in-None-clause-near c = nearest-midnight c.args.self.now c.args.dir c.args.t.0
    c.midnight.result.0 c.midnight.ensures.place c.midnight.ensures.midnight c.in-None.ensures
