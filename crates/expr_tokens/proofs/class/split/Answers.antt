use Rattle.std.proofs.Common.{◌∙◌, sym}
use Rattle.expr_tokens.specs.Class.{holds}
use Rattle.expr_tokens.proofs.Runs.{one_passed, all_done, no_more, behind_first}
use Rattle.expr_tokens.proofs.class.split.Goals as goal

pub loop-i-preserved : goal.loop-i-preserved
loop-i-preserved c = one_passed (holds c.args.class) c.args.bytes.now c.loop-i.i c.loop-i-test.true
    (sym c.if-not-is_of.ensures) c.loop-i.invariant

pub returns-then-not-is_of-clause-front : goal.returns-then-not-is_of-clause-front
returns-then-not-is_of-clause-front c = c.split_at.ensures.front
    ∙ sym (no_more (holds c.args.class) c.args.bytes.now c.loop-i.i c.loop-i-test.true
    (sym c.if-not-is_of.ensures) c.loop-i.invariant).0

pub returns-then-not-is_of-clause-rest : goal.returns-then-not-is_of-clause-rest
returns-then-not-is_of-clause-rest c = c.split_at.ensures.back
    ∙ sym (no_more (holds c.args.class) c.args.bytes.now c.loop-i.i c.loop-i-test.true
    (sym c.if-not-is_of.ensures) c.loop-i.invariant).1

pub returns-then-not-is_of-clause-progress : goal.returns-then-not-is_of-clause-progress
returns-then-not-is_of-clause-progress c =
    λ h. rw (
      c.split_at.ensures.back,
      ← (no_more (holds c.args.class) c.args.bytes.now c.loop-i.i
          c.loop-i-test.true (sym c.if-not-is_of.ensures) c.loop-i.invariant).1,
    )
    (behind_first (holds c.args.class) c.args.bytes.now h)

pub returns-clause-front : goal.returns-clause-front
returns-clause-front c = c.split_at-2.ensures.front
    ∙ sym (all_done (holds c.args.class) c.args.bytes.now c.loop-i.i c.loop-i-test.false
    c.loop-i.invariant).0

pub returns-clause-rest : goal.returns-clause-rest
returns-clause-rest c = c.split_at-2.ensures.back
    ∙ sym (all_done (holds c.args.class) c.args.bytes.now c.loop-i.i c.loop-i-test.false
    c.loop-i.invariant).1

pub returns-clause-progress : goal.returns-clause-progress
returns-clause-progress c =
    λ h. rw (
      c.split_at-2.ensures.back,
      ← (all_done (holds c.args.class) c.args.bytes.now c.loop-i.i
          c.loop-i-test.false c.loop-i.invariant).1,
    ) (behind_first (holds c.args.class) c.args.bytes.now
    h)
