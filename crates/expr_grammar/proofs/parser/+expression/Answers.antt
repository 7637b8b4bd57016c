use Rattle.std.proofs.Common.{◌≡◌, ℕ, List, ◌<◌, ◌≤◌, ◌-◌, ◌++◌, length, sym, ap, ◌∙◌, append_assoc, arith}
use Rattle.std.proofs.lemmas.Result.{err_from_is_err_and}
use Rattle.std.proofs.lemmas.List.{length-map}
use Rattle.expr_tokens.specs.Plain.{plain, plains}
use Rattle.expr_grammar.specs.Syntax.{form_of, places_of, span_places}
use Rattle.expr_grammar.specs.Parsing.{atom_at, operand_at, chain_at}
use Rattle.expr_grammar.proofs.Loop.{fails_first, starts, fails_later, goes_on, ends}
use Rattle.expr_grammar.proofs.parser.+expression.Goals as goal

pub chain-returns-in_err-left-clause-read : goal.chain-returns-in_err-left-clause-read
chain-returns-in_err-left-clause-read t c =
    let p = err_from_is_err_and c.from_residual.result c.from_residual.ensures.1 in
    rw (p.1, p.2) (fails_first (operand_at (atom_at c.args.depth) c.args.op) c.args.op
    c.in_err-left.field-0.0 (plains c.args.tokens.now) c.in_err-left.ensures.read)

pub chain-operands-init : goal.chain-operands-init
chain-operands-init t c = record {
  read = starts (operand_at (atom_at c.args.depth) c.args.op) c.args.op (plains c.args.tokens.now)
      (form_of c.in_ok-left.left) (plains c.in_ok-left.rest.now) c.in_ok-left.ensures.read;
  places = c.in_ok-left.ensures.places;
  within = c.in_ok-left.ensures.shorter;
}

pub chain-returns-in_err-right-clause-read : goal.chain-returns-in_err-right-clause-read
chain-returns-in_err-right-clause-read t c =
    let p = err_from_is_err_and c.from_residual-in_err-right.result
    c.from_residual-in_err-right.ensures.1 in
    let some : 0 < length (plains c.operands.rest.now) =
    omega (arith, length-map c.operands.rest.now plain, c.in-Some.ensures.shorter) in
    let h = rw c.in-Some.ensures.rest at c.in_err-right.ensures.read in
    rw (p.1, p.2) (fails_later (operand_at (atom_at c.args.depth) c.args.op) c.args.op
    c.in_err-right.field-0.0 (form_of c.operands.left) (plains c.operands.rest.now)
    (chain_at (operand_at (atom_at c.args.depth) c.args.op) c.args.op (plains c.args.tokens.now))
    c.in-Some.ensures.some some h c.operands.invariant.read)

pub chain-operands-preserved : goal.chain-operands-preserved
chain-operands-preserved t c =
    let some : 0 < length (plains c.operands.rest.now) =
    omega (arith, length-map c.operands.rest.now plain, c.in-Some.ensures.shorter) in
    let shorter : length (plains c.in_ok-right.after.now) ≤ length (plains c.operands.rest.now) -
    1 = omega (
      arith,
      length-map c.operands.rest.now plain,
      length-map c.in_ok-right.after.now
          plain,
      c.in-Some.ensures.shorter,
      c.in_ok-right.ensures.shorter,
    ) in
    let h = rw c.in-Some.ensures.rest at c.in_ok-right.ensures.read in
    let behind : span_places c.operands.rest.now ≡ places_of c.in_ok-right.right
    ++ span_places c.in_ok-right.after.now = sym c.in-Some.ensures.places
    ∙ c.in_ok-right.ensures.places in
    record {
      read = rw c.in_ok-left-2.ensures.form (goes_on (operand_at (atom_at c.args.depth) c.args.op)
          c.args.op (form_of c.operands.left) (plains c.operands.rest.now)
          (form_of c.in_ok-right.right) (plains c.in_ok-right.after.now)
          (chain_at (operand_at (atom_at c.args.depth) c.args.op) c.args.op
          (plains c.args.tokens.now))
          c.in-Some.ensures.some some h shorter c.operands.invariant.read);
      places = rw (c.in_ok-left-2.ensures.places, append_assoc) (c.operands.invariant.places
          ∙ ap (λ (x : List ℕ). places_of c.operands.left ++ x) behind);
      within = omega (
        arith,
        c.operands.invariant.within,
        c.in-Some.ensures.shorter,
        c.in_ok-right.ensures.shorter,
      );
    }

pub chain-returns-clause-read : goal.chain-returns-clause-read
chain-returns-clause-read t c = ends (operand_at (atom_at c.args.depth) c.args.op) c.args.op
    (form_of c.operands.left) (plains c.operands.rest.now)
    (chain_at (operand_at (atom_at c.args.depth) c.args.op) c.args.op (plains c.args.tokens.now))
    c.in_default.ensures.none c.operands.invariant.read
