use Rattle.moment_core.specs.Line.{IsWorkingMoment}
use Rattle.rule_tests.proofs.sieves.member_by_steps.Given as goal

abbrev pub invariant-loop : goal.invariant-loop
invariant-loop l = IsWorkingMoment l.at.0
