use Rattle.std.proofs.Common.{◌∙◌, sym}
use Rattle.expr_tokens.specs.Plain.{plains}
use Rattle.expr_text.specs.Calls.{calls_unbuilt}
use Rattle.expr_text.proofs.Calls.{nothing_left, past_place}
use Rattle.expr_text.proofs.finding.calls_unbuilt.Goals as goal

pub loop-token-preserved : goal.loop-token-preserved
loop-token-preserved c =
    rw c.names_unbuilt-named.ensures (past_place c.args.tokens.now c.loop-token.token-index
    c.loop-token.named (calls_unbuilt (plains c.args.tokens.now)) c.loop-token-test.true
    (sym c.opens_call.ensures ∙ c.if-opens_call.false) c.loop-token.invariant)

pub returns : goal.returns
returns c = nothing_left c.args.tokens.now c.loop-token.token-index c.loop-token.named
    (calls_unbuilt (plains c.args.tokens.now)) c.loop-token-test.false c.loop-token.invariant
