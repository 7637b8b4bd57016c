use Rattle.expr_tokens.specs.Class.{holds}
use Rattle.expr_tokens.proofs.Runs.{Passed}
use Rattle.expr_tokens.proofs.class.split.Given as goal

abbrev pub invariant-loop-i : goal.invariant-loop-i
invariant-loop-i l = Passed (holds l.class) l.bytes l.i
