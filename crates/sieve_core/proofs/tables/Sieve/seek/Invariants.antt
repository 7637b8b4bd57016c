use Rattle.sieve_core.specs.Seek.{IsReached, moments_left}
use Rattle.sieve_core.proofs.tables.Sieve.seek.Given as goal

abbrev pub invariant-loop-dir : goal.invariant-loop-dir
invariant-loop-dir l = IsReached l.self l.dir l.fn.t.0 l.at.0

abbrev pub decreases-loop-dir : goal.decreases-loop-dir
decreases-loop-dir l = moments_left l.dir l.at.0
