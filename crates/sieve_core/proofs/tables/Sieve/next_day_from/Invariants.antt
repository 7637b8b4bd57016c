use Rattle.sieve_core.specs.Seek.{IsDayReached, day_at, days_left}
use Rattle.sieve_core.proofs.tables.Sieve.next_day_from.Given as goal

abbrev pub invariant-loop-dir : goal.invariant-loop-dir
invariant-loop-dir l = IsDayReached l.self l.dir l.fn.day l.month l.from

abbrev pub decreases-loop-dir : goal.decreases-loop-dir
decreases-loop-dir l = days_left l.dir (day_at l.month l.dir l.from)
