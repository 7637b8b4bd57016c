use Rattle.std.proofs.Common.{◌∙◌, sym}
use Rattle.sieve_core.specs.Times.{turned_bit, meets_minute, meets_second}
use Rattle.sieve_core.proofs.LeastLemmas.{block-none, block-clear, block-some}
use Rattle.sieve_core.proofs.tables.Sieve.first_in_minute.Goals as goal

pub returns-then-not-has_minute : goal.returns-then-not-has_minute
unfolding meets_second
returns-then-not-has_minute c = block-none (meets_minute c.args.self.now c.args.dir)
    (turned_bit c.args.dir c.args.self.now.seconds 60) c.args.from (sym c.has_minute.ensures
    ∙ c.if-not-has_minute.true)

pub returns-in-Some : goal.returns-in-Some
unfolding meets_second
returns-in-Some c = block-some (meets_minute c.args.self.now c.args.dir)
    (turned_bit c.args.dir c.args.self.now.seconds 60) c.args.from _ (sym c.has_minute.ensures
    ∙ c.if-not-has_minute.false) c.in-Some.ensures

pub returns-in-None : goal.returns-in-None
unfolding meets_second
returns-in-None c = block-clear (meets_minute c.args.self.now c.args.dir)
    (turned_bit c.args.dir c.args.self.now.seconds 60) c.args.from c.in-None.ensures
