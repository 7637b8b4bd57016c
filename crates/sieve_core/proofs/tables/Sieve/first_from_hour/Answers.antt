use Rattle.sieve_core.specs.Times.{turned_bit, meets_minute}
use Rattle.sieve_core.proofs.LeastLemmas.{later-no-high, later-no-low, later-some}
use Rattle.sieve_core.proofs.tables.Sieve.first_from_hour.Goals as goal

pub returns-in-None : goal.returns-in-None
unfolding meets_minute
returns-in-None c = later-no-high (turned_bit c.args.dir c.args.self.now.hours 24)
    (turned_bit c.args.dir c.args.self.now.minutes 60) c.args.from 24 c.in-None.ensures

pub returns-in-None-first_bit : goal.returns-in-None-first_bit
unfolding meets_minute
returns-in-None-first_bit c = later-no-low (turned_bit c.args.dir c.args.self.now.hours 24)
    (turned_bit c.args.dir c.args.self.now.minutes 60) c.args.from 24 c.in-None-first_bit.ensures

pub returns-in-Some-first_bit : goal.returns-in-Some-first_bit
unfolding meets_minute
returns-in-Some-first_bit c = later-some (turned_bit c.args.dir c.args.self.now.hours 24)
    (turned_bit c.args.dir c.args.self.now.minutes 60) c.args.from 24 _ _ c.in-Some.ensures
    c.in-Some-first_bit.ensures
