use Rattle.moment_core.specs.Line.{IsWorkingMoment}
use Rattle.rule_tests.proofs.sieve_core_tests.next_three_by_months.Given as goal

abbrev pub invariant-loop-i : goal.invariant-loop-i
invariant-loop-i l = IsWorkingMoment l.at.0
