use Rattle.std.proofs.Common.{◌≡◌, drop}
use Rattle.expr_tokens.specs.Plain.{plains}
use Rattle.expr_text.specs.Calls.{calls_unbuilt}
use Rattle.expr_text.proofs.Calls.{calls_left}
use Rattle.expr_text.proofs.finding.calls_unbuilt.Given as goal

abbrev pub invariant-loop-token : goal.invariant-loop-token
invariant-loop-token l = calls_left l.named (plains (drop l.token-index l.tokens))
    ≡ calls_unbuilt (plains l.tokens)
