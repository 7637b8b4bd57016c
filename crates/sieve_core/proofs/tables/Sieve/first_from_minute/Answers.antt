use Rattle.sieve_core.specs.Times.{turned_bit, meets_minute, meets_second}
use Rattle.sieve_core.proofs.LeastLemmas.{later-no-high, later-no-low, later-some}
use Rattle.sieve_core.proofs.tables.Sieve.first_from_minute.Goals as goal

pub returns-in-None : goal.returns-in-None
unfolding meets_second
returns-in-None c = later-no-high (meets_minute c.args.self.now c.args.dir)
    (turned_bit c.args.dir c.args.self.now.seconds 60) c.args.from 1440 c.in-None.ensures

pub returns-in-None-first_bit : goal.returns-in-None-first_bit
unfolding meets_second
returns-in-None-first_bit c = later-no-low (meets_minute c.args.self.now c.args.dir)
    (turned_bit c.args.dir c.args.self.now.seconds 60) c.args.from 1440 c.in-None-first_bit.ensures

pub returns-in-Some-first_bit : goal.returns-in-Some-first_bit
unfolding meets_second
returns-in-Some-first_bit c = later-some (meets_minute c.args.self.now c.args.dir)
    (turned_bit c.args.dir c.args.self.now.seconds 60) c.args.from 1440 _ _ c.in-Some.ensures
    c.in-Some-first_bit.ensures
