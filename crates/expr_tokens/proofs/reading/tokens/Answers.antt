use Rattle.std.proofs.Common.{◌≡◌, ◌+◌, ◌-◌, suc, [], sym, arith, length}
use Rattle.std.proofs.lemmas.List.{nil_from_length}
use Rattle.expr_tokens.specs.Reading.{LeavesAt}
use Rattle.expr_tokens.proofs.Lexing.{starts_kept, past_blank, past_token, no_token_kept, ends_kept, found_alone}
use Rattle.expr_tokens.proofs.reading.tokens.Goals as goal

pub tokens-init : goal.tokens-init
tokens-init c = record {
  kept = rw c.new-found.ensures.items (starts_kept c.args.text.now);
  shorter = omega arith;
}

pub tokens-preserved-then-is_of : goal.tokens-preserved-then-is_of
tokens-preserved-then-is_of c =
    let kept = rw c.in-Some.ensures.cases.0 at c.tokens.invariant.kept in
    record {
      kept = past_blank c.args.text.now c.tokens.found.items c.in-Some.b.now c.in-Some.after.now
          (sym c.if-is_of.ensures) kept;
      shorter = omega (arith, c.in-Some.ensures.cases.1, c.tokens.invariant.shorter);
    }

pub returns-in-None-clause-reading : goal.returns-in-None-clause-reading
returns-in-None-clause-reading c =
    let kept = rw c.in-Some.ensures.cases.0 at c.tokens.invariant.kept in (
      suc (length c.in-Some.after.now),
      no_token_kept c.args.text.now c.tokens.found.items c.in-Some.b.now c.in-Some.after.now
          (sym c.if-is_of.ensures) c.in-None.ensures.read kept,
      omega (arith, c.in-Some.ensures.cases.1, c.tokens.invariant.shorter),
    )

pub tokens-preserved : goal.tokens-preserved
tokens-preserved c =
    let kept = rw c.in-Some.ensures.cases.0 at c.tokens.invariant.kept in
    let left : length c.tokens.rest.now ≡ suc (length c.in-Some.after.now) =
    omega (arith, c.in-Some.ensures.cases.1) in
    let total : length c.args.text.now - length c.tokens.rest.now + length c.tokens.rest.now
    ≡ length c.args.text.now = omega (arith, c.tokens.invariant.shorter) in
    let place : LeavesAt (length c.args.text.now) (suc (length c.in-Some.after.now))
    c.in-Some-token.token = rw (total, left) at c.in-Some-token.ensures.placed in
    record {
      kept = rw c.in_ok-push-in-Some-token.ensures.items
          (past_token c.args.text.now c.tokens.found.items c.in-Some.b.now c.in-Some.after.now
          c.in-Some-token.token c.in-Some-token.behind.now (sym c.if-is_of.ensures)
          c.in-Some-token.ensures.read c.in-Some-token.ensures.shorter place kept);
      shorter = omega (arith, left, c.tokens.invariant.shorter, c.in-Some-token.ensures.shorter);
    }

pub returns-clause-reading : goal.returns-clause-reading
returns-clause-reading c =
    let none : c.tokens.rest.now ≡ [] = nil_from_length c.tokens.rest.now
    c.in_default.ensures.cases in
    ends_kept c.args.text.now c.tokens.found.items (rw none at c.tokens.invariant.kept)

pub returns-clause-tokens : goal.returns-clause-tokens
returns-clause-tokens c =
    let none : c.tokens.rest.now ≡ [] = nil_from_length c.tokens.rest.now
    c.in_default.ensures.cases in
    found_alone c.args.text.now c.tokens.found.items (ends_kept c.args.text.now c.tokens.found.items
    (rw none at c.tokens.invariant.kept))
