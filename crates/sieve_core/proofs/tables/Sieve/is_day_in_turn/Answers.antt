use Rattle.std.proofs.Common.{◌≡◌, ◌∙◌, w64, to_z, of_z}
use Rattle.sieve_core.proofs.SeekLemmas.{working_day-fits, turn-day, turn-week, turn-week_year}
use Rattle.sieve_core.proofs.tables.Sieve.is_day_in_turn.Goals as goal

pub returns-in-WeekYear : goal.returns-in-WeekYear
returns-in-WeekYear c =
    let day : to_z w64 (of_z w64 c.args.day) ≡ c.args.day =
    working_day-fits c.args.day c.requires.day in
    c.meets_interval.ensures ∙ turn-week_year c.args.self.now c.midnight_of.result.0 c.args.day _
    c.in-WeekYear.is (rw day at c.midnight_of.ensures.day)

pub returns-in-Week : goal.returns-in-Week
returns-in-Week c =
    let day : to_z w64 (of_z w64 c.args.day) ≡ c.args.day =
    working_day-fits c.args.day c.requires.day in
    c.meets_interval-in-Week.ensures
    ∙ turn-week c.args.self.now c.midnight_of-in-Week.result.0 c.args.day _ c.in-Week.is
    (rw day at c.midnight_of-in-Week.ensures.day)

pub returns-in-Day : goal.returns-in-Day
returns-in-Day c =
    let day : to_z w64 (of_z w64 c.args.day) ≡ c.args.day =
    working_day-fits c.args.day c.requires.day in
    c.meets_interval-in-Day.ensures
    ∙ turn-day c.args.self.now c.midnight_of-in-Day.result.0 c.args.day c.in-Day.is
    (rw day at c.midnight_of-in-Day.ensures.day)
