use Rattle.std.proofs.Common.{◌≡◌, ◌%◌, ◌∙◌, sym, arith}
use Rattle.sieve_core.specs.Times.{turned_bit, meets_minute, meets_second}
use Rattle.sieve_core.proofs.CountLemmas.{count_le, count-both-end, count-both-met, count-both-unmet}
use Rattle.sieve_core.proofs.tables.Sieve.seconds_below.Goals as goal

pub returns-then-end-ge86400-clause-value : goal.returns-then-end-ge86400-clause-value
unfolding meets_second
returns-then-end-ge86400-clause-value c =
    let whole : c.args.end % 60 ≡ 0 = omega arith in
    rw (c.minutes_below.ensures.value, c.ones_below-each.ensures.value)
    (sym (count-both-end (meets_minute c.args.self.now c.args.dir)
    (turned_bit c.args.dir c.args.self.now.seconds 60) c.args.end whole))

pub returns-then-has_minute-clause-value : goal.returns-then-has_minute-clause-value
unfolding meets_second
returns-then-has_minute-clause-value c =
    rw (c.minutes_below.ensures.value, c.ones_below-each.ensures.value, c.ones_below.ensures.value)
    (sym (count-both-met (meets_minute c.args.self.now c.args.dir)
    (turned_bit c.args.dir c.args.self.now.seconds 60) c.args.end (sym c.has_minute.ensures
    ∙ c.if-has_minute.true)))

pub returns-else-has_minute-clause-value : goal.returns-else-has_minute-clause-value
unfolding meets_second
returns-else-has_minute-clause-value c =
    rw (c.minutes_below.ensures.value, c.ones_below-each.ensures.value)
    (sym (count-both-unmet (meets_minute c.args.self.now c.args.dir)
    (turned_bit c.args.dir c.args.self.now.seconds 60) c.args.end (sym c.has_minute.ensures
    ∙ c.if-has_minute.false)))

pub returns-then-has_minute-clause-most : goal.returns-then-has_minute-clause-most
returns-then-has_minute-clause-most c =
    let value = returns-then-has_minute-clause-value c in
    omega (arith, value, count_le (meets_second c.args.self.now c.args.dir) c.args.end)
