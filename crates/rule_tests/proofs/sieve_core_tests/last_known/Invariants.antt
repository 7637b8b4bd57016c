use Rattle.std.specs.Prelude.{IfSome}
use Rattle.moment_core.specs.Line.{IsWorkingMoment}
use Rattle.sieve_core.specs.Known.{IsKnown}
use Rattle.rule_tests.proofs.sieve_core_tests.last_known.Given as goal

abbrev pub invariant-loop : goal.invariant-loop
invariant-loop l = IsWorkingMoment l.at.0 × IfSome l.known (IsKnown l.sieve)
