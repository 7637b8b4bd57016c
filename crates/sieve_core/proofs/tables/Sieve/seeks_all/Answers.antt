use Rattle.moment_core.specs.Calendar.{month_of, year_of}
use Rattle.sieve_core.proofs.SeekLemmas.{sought-all}
use Rattle.sieve_core.proofs.tables.Sieve.seeks_all.Goals as goal

pub returns-then-takes_all_days : goal.returns-then-takes_all_days
returns-then-takes_all_days c = λ free d working.
    sought-all c.args.self.now d working (c.is_free.ensures free d)
    (c.takes_all_days.ensures c.if-takes_all_days.true (year_of d) (month_of d) d)
