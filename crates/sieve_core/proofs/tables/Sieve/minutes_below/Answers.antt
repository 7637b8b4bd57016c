use Rattle.std.proofs.Common.{◌≡◌, ◌%◌, ◌∙◌, sym, arith}
use Rattle.sieve_core.specs.Times.{turned_bit, meets_minute}
use Rattle.sieve_core.proofs.CountLemmas.{count-both-end, count-both-met, count-both-unmet}
use Rattle.sieve_core.proofs.tables.Sieve.minutes_below.Goals as goal

pub returns-then-end-ge1440-clause-value : goal.returns-then-end-ge1440-clause-value
unfolding meets_minute
returns-then-end-ge1440-clause-value c =
    let whole : c.args.end % 60 ≡ 0 = omega arith in
    rw (c.ones_below.ensures.value, c.ones_below-each.ensures.value)
    (sym (count-both-end (turned_bit c.args.dir c.args.self.now.hours 24)
    (turned_bit c.args.dir c.args.self.now.minutes 60) c.args.end whole))

pub returns-then-has_hour-clause-value : goal.returns-then-has_hour-clause-value
unfolding meets_minute
returns-then-has_hour-clause-value c =
    rw (
      c.ones_below.ensures.value,
      c.ones_below-each.ensures.value,
      c.ones_below-then-has_hour.ensures.value,
    )
    (sym (count-both-met (turned_bit c.args.dir c.args.self.now.hours 24)
    (turned_bit c.args.dir c.args.self.now.minutes 60) c.args.end (sym c.has_hour.ensures
    ∙ c.if-has_hour.true)))

pub returns-else-has_hour-clause-value : goal.returns-else-has_hour-clause-value
unfolding meets_minute
returns-else-has_hour-clause-value c =
    rw (c.ones_below.ensures.value, c.ones_below-each.ensures.value)
    (sym (count-both-unmet (turned_bit c.args.dir c.args.self.now.hours 24)
    (turned_bit c.args.dir c.args.self.now.minutes 60) c.args.end (sym c.has_hour.ensures
    ∙ c.if-has_hour.false)))
