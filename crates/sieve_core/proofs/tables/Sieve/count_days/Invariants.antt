use Rattle.sieve_core.specs.Ranks.{IsCounted}
use Rattle.sieve_core.proofs.tables.Sieve.count_days.Given as goal

abbrev pub invariant-loop-day : goal.invariant-loop-day
invariant-loop-day l = IsCounted l.self l.dir l.fn.t.0 l.from l.day l.at.0 l.count
