use Rattle.std.proofs.Common.{◌∙◌, sym}
use Rattle.sieve_core.specs.Times.{turned_bit, meets_minute}
use Rattle.sieve_core.proofs.LeastLemmas.{block-none, block-clear, block-some}
use Rattle.sieve_core.proofs.tables.Sieve.first_in_hour.Goals as goal

pub returns-then-not-has_hour : goal.returns-then-not-has_hour
unfolding meets_minute
returns-then-not-has_hour c = block-none (turned_bit c.args.dir c.args.self.now.hours 24)
    (turned_bit c.args.dir c.args.self.now.minutes 60) c.args.from (sym c.has_hour.ensures
    ∙ c.if-not-has_hour.true)

pub returns-in-Some : goal.returns-in-Some
unfolding meets_minute
returns-in-Some c = block-some (turned_bit c.args.dir c.args.self.now.hours 24)
    (turned_bit c.args.dir c.args.self.now.minutes 60) c.args.from _ (sym c.has_hour.ensures
    ∙ c.if-not-has_hour.false) c.in-Some.ensures

pub returns-in-None : goal.returns-in-None
unfolding meets_minute
returns-in-None c = block-clear (turned_bit c.args.dir c.args.self.now.hours 24)
    (turned_bit c.args.dir c.args.self.now.minutes 60) c.args.from c.in-None.ensures
