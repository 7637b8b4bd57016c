-- The tokens of the printed form spell the expression.
use Rattle.std.proofs.Common.{◌≡◌, ℕ, ℤ, zero, suc, ◌≤◌, ◌<◌, Bool, true, false, List, [], ◌∷◌, ◌++◌, Option, Some, None, refl, sym, ap, arith}
use Rattle.std.proofs.lemmas.List.{append-nil}
use Rattle.moment_core.specs.declared.line.Stamp.{Stamp}
use Rattle.moment_core.specs.declared.joining.Op.{Op}
use Rattle.moment_core.specs.declared.joining.Op.TheVariants as operators
use Rattle.expr_tokens.specs.declared.token.Word.{Word}
use Rattle.expr_tokens.specs.declared.token.Word.TheVariants as words
use Rattle.expr_tokens.specs.Plain.{Token}
use Rattle.expr_tokens.specs.Plain as tokens
use Rattle.expr_grammar.specs.declared.syntax.BinaryOp.TheVariants.{Infix, Pairs}
use Rattle.expr_grammar.specs.declared.syntax.SpanBound.{SpanBound}
use Rattle.moment_core.specs.declared.joining.UnaryOp.{UnaryOp}
use Rattle.moment_core.specs.declared.joining.UnaryOp.TheVariants.{Not}
use Rattle.expr_grammar.specs.Form.{Form, Empty, Listed, Span, Rule, Rrule, Unary, Binary}
use Rattle.expr_grammar.specs.Calls.{call_of, number_end_tokens, unary_named}
use Rattle.expr_grammar.specs.Fields.{rule_tokens}
use Rattle.expr_grammar.specs.Grammar.{ends, goes, Chain, MoreMoments, closed, more, IsLow, from_start, from_after, IsHigh, to_end, to_before, Bounds, no_bound, low_bound, high_bound, both_bounds, Leaf, empty, listed, span, rule, rrule, rrule_tokens, CallEnd, unary_call, pairs_call, leaf, brackets, inverse, call, IsExpr, IsAtom, Spells, one, two, nesting_limit}
use Rattle.expr_grammar.specs.Laws.{PrintedIsSpelled}
use Rattle.expr_grammar.specs.Nesting.{is_joined, AsOperand, TakenBy, OneDeeper, NestsWithin, height, HasTokens, in_brackets, more_tokens, low_word, high_word, bounds_tokens, unary_tokens, spelled, spelled_second, IsPrintableForm, IsPrintableSecond}

module _ (Operand : Form → List Token → Type 0) (op : Op) where
  pub alone : (t : Form) (ts : List Token) → Operand t ts → Chain Operand op t ts
  alone t ts h = record {
    first = t;
    front = ts;
    others = [];
    whole = sym (append-nil ts);
    begins =
        h;
    goes_on = ends t;
  }

  pub pair : (a b : Form) (xs ys : List Token) → Operand a xs → Operand b ys
      → Chain Operand op (Binary (Infix op) a b) (xs ++ tokens.Operator op ∷ ys)
  pair a b xs ys first second = record {
    first = a;
    front = xs;
    others = tokens.Operator op ∷ ys ++ [];
    whole = ap (λ (z : List Token). xs ++ tokens.Operator op ∷ z) (sym (append-nil ys));
    begins = first;
    goes_on = goes a b (Binary (Infix op) a b) ys [] second (ends (Binary (Infix op) a b));
  }

module _ (Atom : Form → List Token → Type 0) where
  pub as_expr : (t : Form) (ts : List Token) → Atom t ts → IsExpr Atom t ts
  as_expr t ts h =
      alone (Chain (Chain Atom operators.Meet) operators.Minus) operators.Union t ts
      (alone (Chain Atom operators.Meet) operators.Minus t ts (alone Atom operators.Meet t ts h))

  -- two atoms and an operator
  pub joined_expr : (op : Op) (a b : Form) (xs ys : List Token) → Atom a xs → Atom b ys
      → IsExpr Atom (Binary (Infix op) a b) (xs ++ tokens.Operator op ∷ ys)
  joined_expr operators.Union a b xs ys first second =
      pair (Chain (Chain Atom operators.Meet) operators.Minus) operators.Union a b xs ys
      (alone (Chain Atom operators.Meet) operators.Minus a xs
      (alone Atom operators.Meet a xs first))
      (alone (Chain Atom operators.Meet) operators.Minus b ys
      (alone Atom operators.Meet b ys second))
  joined_expr operators.Minus a b xs ys first second =
      alone (Chain (Chain Atom operators.Meet) operators.Minus) operators.Union
      (Binary (Infix operators.Minus) a b) (xs ++ tokens.Operator operators.Minus ∷ ys)
      (pair (Chain Atom operators.Meet) operators.Minus a b xs ys
      (alone Atom operators.Meet a xs first) (alone Atom operators.Meet b ys second))
  joined_expr operators.Meet a b xs ys first second =
      let ts = xs ++ tokens.Operator operators.Meet ∷ ys in
      alone (Chain (Chain Atom operators.Meet) operators.Minus) operators.Union
      (Binary (Infix operators.Meet) a b) ts
      (alone (Chain Atom operators.Meet) operators.Minus (Binary (Infix operators.Meet) a b) ts
      (pair Atom operators.Meet a b xs ys first second))

leaf_atom : (depth : ℕ) (t : Form) (ts : List Token) → Leaf t ts → IsAtom depth t ts
unfolding IsAtom
leaf_atom zero t ts h = h
leaf_atom (suc depth) t ts h = leaf t ts h

-- the expression is spelled as a whole, and as an atom unless an operator joins it
pub record IsSpelled (t : Form) (depth : ℕ) : Type 0 where
  pub expr : IsExpr (IsAtom depth) t (spelled t)
  pub atom : is_joined t ≡ false → IsAtom depth t (spelled t)

from_atom : (t : Form) (depth : ℕ) → IsAtom depth t (spelled t) → IsSpelled t depth
from_atom t depth h = record { expr = as_expr (IsAtom depth) t (spelled t) h; atom = λ _. h }

bracket_atom : (t : Form) (ts : List Token) (inner depth : ℕ) → depth ≡ suc inner
    → IsExpr (IsAtom inner) t ts → IsAtom depth t (tokens.Open ∷ ts ++ tokens.Close ∷ [])
unfolding IsAtom
bracket_atom t ts inner depth e h = rw e (brackets t ts h)

operand_spelled : (t : Form) (depth : ℕ) → ((d : ℕ) → NestsWithin t d → IsSpelled t d)
    → AsOperand (is_joined t) (NestsWithin t) depth
    → IsAtom depth t (in_brackets (is_joined t) (spelled t))
operand_spelled t depth below nests =
    let P : Bool → Type 0 =
    λ b. is_joined t ≡ b → AsOperand b (NestsWithin t) depth
    → IsAtom depth t (in_brackets b (spelled t)) in
    let go : (b : Bool) → P b = λ b. elim b as P [
      | true ↦ λ e h. bracket_atom t (spelled t) h.0 depth h.1 (below h.0 h.2).expr
      | false ↦ λ e h. (below depth h).atom e
    ] in
    go (is_joined t) refl nests

inverse_atom : (t : Form) (ts : List Token) (inner depth : ℕ) → depth ≡ suc inner
    → IsAtom inner t ts → IsAtom depth (Unary Not t) (tokens.Exclamation ∷ ts)
unfolding IsAtom
inverse_atom t ts inner depth e h = rw e (inverse t ts h)

call_atom : (name : Word) (a t : Form) (ts us : List Token) (inner depth : ℕ) → depth ≡ suc inner
    → IsExpr (IsAtom inner) a ts → CallEnd (IsExpr (IsAtom inner)) a name t us
    → IsAtom depth t (tokens.Word name ∷ tokens.Open ∷ ts ++ us)
unfolding IsAtom
call_atom name a t ts us inner depth e h end = rw e (call name a t ts us h end)

-- the sign stands for the operator, or the call does
abbrev IsWrittenBy : UnaryOp → Option (Word × Option ℤ) → Type 0
IsWrittenBy op None = op ≡ Not
IsWrittenBy op (Some by) = unary_named by.0 by.1 ≡ Some op

written_by : (op : UnaryOp) → IsWrittenBy op (call_of op)
written_by Not = refl
written_by op = refl

unary_atom : (op : UnaryOp) (by : Option (Word × Option ℤ)) (a : Form) (depth : ℕ)
    → IsWrittenBy op by → ((d : ℕ) → NestsWithin a d → IsSpelled a d)
    → OneDeeper (TakenBy by (is_joined a) (NestsWithin a)) depth
    → IsAtom depth (Unary op a) (unary_tokens by (is_joined a) (spelled a))
unary_atom op None a depth is below nests =
    let operand = operand_spelled a nests.0 below nests.2 in
    rw is (inverse_atom a (in_brackets (is_joined a) (spelled a)) nests.0 depth nests.1 operand)
unary_atom op (Some by) a depth is below nests =
    call_atom by.0 a (Unary op a) (spelled a) (number_end_tokens by.1) nests.0 depth nests.1
    (below nests.0 nests.2).expr (unary_call by.0 by.1 op is)

more_spelled : (ms : List (Option Stamp)) → MoreMoments ms (more_tokens ms)
more_spelled [] = closed
more_spelled (m ∷ ms) = more m ms (more_tokens ms) (more_spelled ms)

low_spelled : (c : Bool) (m : Option Stamp) → IsLow (record { closed = c; stamp = m })
    (tokens.Word (low_word c) ∷ tokens.Moment m ∷ [])
low_spelled true m = from_start m
low_spelled false m = from_after m

high_spelled : (c : Bool) (m : Option Stamp) → IsHigh (record { closed = c; stamp = m })
    (tokens.Word (high_word c) ∷ tokens.Moment m ∷ [])
high_spelled true m = to_end m
high_spelled false m = to_before m

bounds_spelled : (a b : Option SpanBound) → Bounds a b (bounds_tokens a b)
bounds_spelled None None = no_bound
bounds_spelled (Some a) None = low_bound a (tokens.Word (low_word a.closed) ∷ tokens.Moment a.stamp
    ∷ []) (low_spelled a.closed a.stamp)
bounds_spelled None (Some b) = high_bound b (tokens.Word (high_word b.closed) ∷ tokens.Moment
    b.stamp ∷ []) (high_spelled b.closed b.stamp)
bounds_spelled (Some a) (Some b) =
    both_bounds a b (tokens.Word (low_word a.closed) ∷ tokens.Moment a.stamp ∷ [])
    (tokens.Word (high_word b.closed) ∷ tokens.Moment b.stamp ∷ []) (low_spelled a.closed a.stamp)
    (high_spelled b.closed b.stamp)

pub is_spelled : (t : Form) (depth : ℕ) → HasTokens t → NestsWithin t depth → IsSpelled t depth
unfolding spelled HasTokens NestsWithin
is_spelled Empty depth full nests =
    from_atom Empty depth
    (leaf_atom depth Empty (tokens.Word words.Empty ∷ tokens.Open ∷ tokens.Close ∷ []) empty)
is_spelled (Listed []) depth full nests = absurd full
is_spelled (Listed (m ∷ ms)) depth full nests =
    from_atom (Listed (m ∷ ms)) depth
    (leaf_atom depth (Listed (m ∷ ms)) (tokens.LeftBrace ∷ tokens.Moment m ∷ more_tokens ms)
    (listed m ms (more_tokens ms) (more_spelled ms)))
is_spelled (Span a b) depth full nests =
    from_atom (Span a b) depth
    (leaf_atom depth (Span a b) (tokens.Word words.Span ∷ tokens.Open ∷ bounds_tokens a b
    ++ tokens.Close ∷ []) (span a b (bounds_tokens a b) (bounds_spelled a b)))
is_spelled (Rule freq fields) depth full nests = from_atom (Rule freq fields) depth
    (leaf_atom depth (Rule freq fields) (rule_tokens freq fields) (rule freq fields full))
is_spelled (Rrule text start) depth full nests =
    from_atom (Rrule text start) depth (leaf_atom depth (Rrule text start) (rrule_tokens text start)
    (rrule text start))
is_spelled (Binary (Infix op) a b) depth full nests =
    let xs = in_brackets (is_joined a) (spelled a) in
    let ys = in_brackets (is_joined b) (spelled b) in
    let first : IsAtom depth a xs = operand_spelled a depth (λ d h. is_spelled a d full.0 h)
    nests.0 in
    let second : IsAtom depth b ys = operand_spelled b depth (λ d h. is_spelled b d full.1 h)
    nests.1 in
    record { expr = joined_expr (IsAtom depth) op a b xs ys first second; atom = λ e. absurd cc }
is_spelled (Binary Pairs a b) depth full nests =
    let end = pairs_call b (spelled b) (is_spelled b nests.0 full.1 nests.2.1).expr in
    from_atom (Binary Pairs a b) depth (call_atom words.Pairs a (Binary Pairs a b) (spelled a)
    (tokens.Comma ∷ spelled b ++ tokens.Close ∷ []) nests.0 depth nests.1
    (is_spelled a nests.0 full.0 nests.2.0).expr end)
is_spelled (Unary op a) depth full nests =
    let below = λ (d : ℕ) (h : NestsWithin a d). is_spelled a d full h in
    from_atom (Unary op a) depth (unary_atom op (call_of op) a depth (written_by op) below nests)

height_positive : (t : Form) → 0 < height t
unfolding height
height_positive Empty = omega arith
height_positive (Listed ms) = omega arith
height_positive (Span a b) = omega arith
height_positive (Rule freq fields) = omega arith
height_positive (Rrule text start) = omega arith
height_positive (Unary op a) = omega arith
height_positive (Binary op a b) = omega arith

-- an expression of a height nests one less deep, also as an operand
pub record IsShallow (t : Form) (depth : ℕ) : Type 0 where
  pub alone : NestsWithin t depth
  pub operand : AsOperand (is_joined t) (NestsWithin t) depth

shallow_one : (by : Option (Word × Option ℤ)) (t : Form) (depth : ℕ) → IsShallow t depth
    → TakenBy by (is_joined t) (NestsWithin t) depth
shallow_one None t depth h = h.operand
shallow_one (Some by) t depth h = h.alone

pub is_shallow : (t : Form) (depth : ℕ) → height t ≤ suc depth → IsShallow t depth
unfolding NestsWithin height
is_shallow Empty depth le = record { alone = tt; operand = tt }
is_shallow (Listed ms) depth le = record { alone = tt; operand = tt }
is_shallow (Span a b) depth le = record { alone = tt; operand = tt }
is_shallow (Rule freq fields) depth le = record { alone = tt; operand = tt }
is_shallow (Rrule text start) depth le = record { alone = tt; operand = tt }
is_shallow (Unary op t) zero le = absurd (omega (arith, height_positive t, le))
is_shallow (Unary op t) (suc depth) le =
    let below = shallow_one (call_of op) t depth (is_shallow t depth (omega (arith, le))) in
    let h : NestsWithin (Unary op t) (suc depth) = (depth, refl, below) in
    record { alone = h; operand = h }
is_shallow (Binary op a b) zero le = absurd (omega (arith, height_positive a, le))
is_shallow (Binary (Infix op) a b) (suc depth) le =
    let left : height a ≤ suc depth = omega (arith, le) in
    let right : height b ≤ suc depth = omega (arith, le) in
    record {
      alone = (
        (is_shallow a (suc depth) (omega (arith, left))).operand,
        (is_shallow b (suc depth) (omega (arith, right))).operand,
      );
      operand = (
        depth,
        refl,
        ((is_shallow a depth left).operand, (is_shallow b depth right).operand),
      );
    }
is_shallow (Binary Pairs a b) (suc depth) le =
    let left : height a ≤ suc depth = omega (arith, le) in
    let right : height b ≤ suc depth = omega (arith, le) in
    let h : NestsWithin (Binary Pairs a b) (suc depth) =
    (depth, refl, ((is_shallow a depth left).alone, (is_shallow b depth right).alone)) in
    record { alone = h; operand = h }

whole_spelled : (t : Form) → IsPrintableForm t → IsExpr (IsAtom nesting_limit) t (spelled t)
whole_spelled t h =
    (is_spelled t nesting_limit h.0 (is_shallow t nesting_limit (omega (arith, h.1))).alone).expr

both_spelled : (t : Form) (u : Option Form) → IsPrintableForm t → IsPrintableSecond u
    → Spells (record { first = t; second = u }) (spelled t ++ spelled_second u)
both_spelled t None h other = rw (append-nil (spelled t)) (one t (spelled t) (whole_spelled t h))
both_spelled t (Some u) h other = two t u (spelled t) (spelled u) (whole_spelled t h)
    (whole_spelled u other)

pub program_spelled : PrintedIsSpelled
program_spelled p h = both_spelled p.first p.second h.0 h.1
