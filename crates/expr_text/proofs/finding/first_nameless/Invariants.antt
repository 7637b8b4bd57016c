use Rattle.std.proofs.Common.{◌≡◌, drop}
use Rattle.expr_text.specs.Phases.{first_nameless}
use Rattle.expr_text.proofs.finding.first_nameless.Given as goal

abbrev pub invariant-loop-token : goal.invariant-loop-token
invariant-loop-token l = first_nameless (drop l.token-index l.tokens) ≡ first_nameless l.tokens
