-- What is spelled so is read, whatever follows that doesn't go on with it.
use Rattle.std.proofs.Common.{◌≡◌, ℕ, ℤ, zero, suc, ◌≤◌, true, false, List, [], ◌∷◌, ◌++◌, length, Option, Some, None, refl, sym, ap, ◌∙◌, append_assoc, arith, length-append}
use Rattle.std.proofs.lemmas.List.{append-nil}
use Rattle.moment_core.specs.declared.joining.Op.{Op}
use Rattle.moment_core.specs.declared.joining.Op.TheVariants as operators
use Rattle.moment_core.specs.declared.joining.UnaryOp.{UnaryOp}
use Rattle.expr_tokens.specs.declared.token.Word.{Word}
use Rattle.expr_tokens.specs.declared.token.Word.TheVariants as words
use Rattle.expr_tokens.specs.Plain.{Token}
use Rattle.expr_tokens.specs.Plain as tokens
use Rattle.moment_core.specs.declared.line.Stamp.{Stamp}
use Rattle.expr_grammar.specs.declared.syntax.BinaryOp.TheVariants.{Infix, Pairs}
use Rattle.expr_grammar.specs.declared.syntax.SpanBound.{SpanBound}
use Rattle.expr_grammar.specs.Form.{Form, Span, Unary, Binary, Forms}
use Rattle.expr_grammar.specs.Grammar.{Goes, ends, goes, Chain, MoreMoments, closed, more, IsLow, from_start, from_after, IsHigh, to_end, to_before, Bounds, no_bound, low_bound, high_bound, both_bounds, Leaf, empty, listed, span, rule, rrule, CallEnd, unary_call, pairs_call, Nested, leaf, brackets, inverse, call, IsExpr, IsAtom, Spells, one, two, nesting_limit}
use Rattle.expr_grammar.specs.Laws.{SpellOne}
use Rattle.rule_core.specs.declared.part.Freq.{Freq}
use Rattle.rule_core.specs.declared.part.Freq.TheVariants as freqs
use Rattle.expr_grammar.specs.Calls.{number_end_tokens, takes_expression, unary_named}
use Rattle.expr_grammar.specs.Fields.{freq_word}
use Rattle.moment_core.specs.Texts.{◌>>=◌}
use Rattle.expr_grammar.proofs.Parts.{found}
use Rattle.expr_grammar.proofs.Rules.{rule_complete}
use Rattle.expr_grammar.specs.Parsing.{list_at, Read, same, stands, chain_from, chain_at, expr_at, moments_at, close_at, high_end_at, low_end_at, span_at, rrule_at, rule_at, leaf_at, pairs_end_at, call_end_at, call_at, unary_end_at, nested_at, atom_at, second_at, program_end_at, program_at}

-- what is spelled so is read, where the rest doesn't go on with it
abbrev pub IsComplete : (Form → List Token → Type 0) → (List Token → Read) → (List Token → Type 0)
    → Type 0
IsComplete Spelled read Stops = (t : Form) (front rest : List Token) → Spelled t front → Stops rest
    → read (front ++ rest) ≡ Some (t, rest)

same-self : (op : Op) → same op op ≡ true
same-self operators.Union = refl
same-self operators.Minus = refl
same-self operators.Meet = refl

module _ (Operand : Form → List Token → Type 0) (operand : List Token → Read) (Stops : List Token
    → Type 0) (op : Op) (complete : IsComplete Operand operand Stops) (stops : (ts : List Token)
    → Stops (tokens.Operator op ∷ ts)) where
  goes_stops : (left t : Form) (ts rest : List Token) → Goes Operand op left t ts → Stops rest
      → Stops (ts ++ rest)
  goes_stops left t ts rest (ends _) h = h
  goes_stops left t ts rest (goes _ b _ xs ys o others) h = stops ((xs ++ ys) ++ rest)

  none_left : (n : ℕ) (left : Form) (rest : List Token) → stands op rest ≡ false
      → chain_from operand op n left rest ≡ Some (left, rest)
  unfolding chain_from
  none_left zero left rest h = refl
  none_left (suc n) left rest h = rw h refl

  one_more : (n : ℕ) (left b : Form) (xs after : List Token) → operand (xs ++ after)
      ≡ Some (b, after) → chain_from operand op (suc n) left (tokens.Operator op ∷ xs ++ after)
      ≡ chain_from operand op n (Binary (Infix op) left b) after
  unfolding chain_from
  one_more n left b xs after h = rw (same-self op, h) refl

  from_complete : (n : ℕ) (left t : Form) (ts rest : List Token) → Goes Operand op left t ts
      → length (ts ++ rest) ≤ n → Stops rest → stands op rest ≡ false → chain_from operand op n left
      (ts ++ rest) ≡ Some (t, rest)
  from_complete n left t ts rest (ends _) enough h next = none_left n left rest next
  from_complete zero left t ts rest (goes _ b _ xs ys o others) enough h next = absurd (omega arith)
  from_complete (suc n) left t ts rest (goes _ b _ xs ys o others) enough h next =
      let regrouped : (xs ++ ys) ++ rest ≡ xs ++ (ys ++ rest) = append_assoc xs ys rest in
      let fits : length (ys ++ rest) ≤ n =
      omega (arith, simp length-append at enough, length-append ys rest) in
      let read : operand (xs ++ (ys ++ rest)) ≡ Some (b, ys ++ rest) = complete b xs (ys ++ rest) o
      (goes_stops (Binary (Infix op) left b) t ys rest others h) in
      rw regrouped (one_more n left b xs (ys ++ rest) read
      ∙ from_complete n (Binary (Infix op) left b) t ys rest others fits h next)

  pub chain_complete : IsComplete (Chain Operand op) (chain_at operand op) (λ rest. Stops rest
      × (stands op rest ≡ false))
  unfolding chain_at
  chain_complete t front rest j h =
      let whole : front ++ rest ≡ j.front ++ (j.others ++ rest) = ap (λ (x : List Token). x ++ rest)
      j.whole ∙ append_assoc j.front j.others rest in
      let read : operand (j.front ++ (j.others ++ rest)) ≡ Some (j.first, j.others ++ rest) =
      complete j.first j.front (j.others ++ rest) j.begins
      (goes_stops j.first t j.others rest j.goes_on h.0) in
      rw (whole, read) (from_complete (length (j.others ++ rest)) j.first t j.others rest j.goes_on
      (omega arith) h.0 h.1)

-- no operator stands next
pub record StopsAll (rest : List Token) : Type 0 where
  pub union : stands operators.Union rest ≡ false
  pub minus : stands operators.Minus rest ≡ false
  pub meet : stands operators.Meet rest ≡ false

pub expr_complete : (Atom : Form → List Token → Type 0) (atom : List Token → Read)
    → IsComplete Atom atom (λ _. Unit {0}) → IsComplete (IsExpr Atom) (expr_at atom) StopsAll
expr_complete Atom atom complete t front rest spelled h =
    chain_complete (Chain (Chain Atom operators.Meet) operators.Minus)
    (chain_at (chain_at atom operators.Meet) operators.Minus)
    (λ r. (Unit {0} × (stands operators.Meet r ≡ false)) × (stands operators.Minus r ≡ false))
    operators.Union
    (chain_complete (Chain Atom operators.Meet) (chain_at atom operators.Meet)
    (λ r. Unit {0} × (stands operators.Meet r ≡ false)) operators.Minus
    (chain_complete Atom atom (λ _. Unit {0}) operators.Meet complete (λ _. tt))
    (λ _. (tt, refl)))
    (λ _. ((tt, refl), refl))
    t front rest spelled (((tt, h.meet), h.minus), h.union)

pub moments_complete : (ms : List (Option Stamp)) (front rest : List Token) → MoreMoments ms front
    → moments_at (front ++ rest) ≡ Some (ms, rest)
unfolding moments_at
moments_complete ms front rest closed = refl
moments_complete ms front rest (more m others ts spelled) =
    rw (moments_complete others ts rest spelled) refl

-- an upper bound and a bracket are read
high_complete : (a : Option SpanBound) (b : SpanBound) (ys rest : List Token) → IsHigh b ys
    → high_end_at a ((ys ++ tokens.Close ∷ []) ++ rest) ≡ Some (Span a (Some b), rest)
unfolding high_end_at close_at
high_complete a b ys rest (to_end m) = refl
high_complete a b ys rest (to_before m) = refl

-- no case of a span begins as an upper bound does
high_case : (b : SpanBound) (ys rest : List Token) → IsHigh b ys → span_at (ys ++ rest)
    ≡ high_end_at None (ys ++ rest)
unfolding span_at
high_case b ys rest (to_end m) = refl
high_case b ys rest (to_before m) = refl

low_complete : (a : SpanBound) (xs rest : List Token) → IsLow a xs → span_at (xs ++ rest)
    ≡ low_end_at a rest
unfolding span_at
low_complete a xs rest (from_start m) = refl
low_complete a xs rest (from_after m) = refl

bounds_complete : (a b : Option SpanBound) (ts rest : List Token) → Bounds a b ts
    → span_at ((ts ++ tokens.Close ∷ []) ++ rest) ≡ Some (Span a b, rest)
unfolding span_at low_end_at close_at
bounds_complete a b ts rest no_bound = refl
bounds_complete a b ts rest (low_bound x xs spelled) =
    ap span_at (append_assoc xs (tokens.Close ∷ []) rest) ∙ low_complete x xs (tokens.Close ∷ rest)
    spelled
bounds_complete a b ts rest (high_bound y ys spelled) =
    ap span_at (append_assoc ys (tokens.Close ∷ []) rest) ∙ high_case y ys (tokens.Close ∷ rest)
    spelled
    ∙ ap (high_end_at None) (sym (append_assoc ys (tokens.Close ∷ []) rest)) ∙ high_complete None y
    ys rest spelled
bounds_complete a b ts rest (both_bounds x y xs ys first second) =
    let e : ((xs ++ tokens.Comma ∷ ys) ++ tokens.Close ∷ []) ++ rest ≡ xs
    ++ (tokens.Comma ∷ ((ys ++ tokens.Close ∷ []) ++ rest)) = simp append_assoc in
    ap span_at e ∙ low_complete x xs (tokens.Comma ∷ ((ys ++ tokens.Close ∷ []) ++ rest)) first
    ∙ high_complete (Some x) y ys rest second

-- no other case of a leaf begins as a rule does
rule_case : (freq : Freq) (ts : List Token) → leaf_at (tokens.Word (freq_word freq) ∷ ts)
    ≡ rule_at (tokens.Word (freq_word freq) ∷ ts)
unfolding leaf_at
rule_case freqs.Yearly ts = refl
rule_case freqs.Monthly ts = refl
rule_case freqs.Weekly ts = refl
rule_case freqs.Daily ts = refl
rule_case freqs.Hourly ts = refl
rule_case freqs.Minutely ts = refl
rule_case freqs.Secondly ts = refl

pub leaf_complete : IsComplete Leaf leaf_at (λ _. Unit {0})
unfolding leaf_at list_at rrule_at
leaf_complete t front rest empty h = refl
leaf_complete t front rest (listed m ms ts spelled) h = rw (moments_complete ms ts rest spelled)
    refl
leaf_complete t front rest (span a b ts spelled) h = bounds_complete a b ts rest spelled
leaf_complete t front rest (rrule text start) h = refl
leaf_complete t front rest (rule freq fields are) h = rule_case freq _ ∙ rule_complete freq fields
    rest are

rule_takes_none : (freq : Freq) → takes_expression (freq_word freq) ≡ false
rule_takes_none freqs.Yearly = refl
rule_takes_none freqs.Monthly = refl
rule_takes_none freqs.Weekly = refl
rule_takes_none freqs.Daily = refl
rule_takes_none freqs.Hourly = refl
rule_takes_none freqs.Minutely = refl
rule_takes_none freqs.Secondly = refl

unary_takes : (name : Word) (number : Option ℤ) (op : UnaryOp)
    → unary_named name number ≡ Some op → takes_expression name ≡ true
unary_takes words.Span number op e = absurd cc
unary_takes name number op e = cc

module _ (Whole Atom : Form → List Token → Type 0) (whole_at atom : List Token → Read)
    (whole_complete : IsComplete Whole whole_at StopsAll) (atom_is_complete : IsComplete Atom atom
    (λ _. Unit {0})) where
  -- no other case of an atom begins as a leaf does
  leaf_case : (t : Form) (front rest : List Token) → Leaf t front → nested_at whole_at atom
      (front ++ rest) ≡ leaf_at (front ++ rest)
  unfolding nested_at
  leaf_case t front rest empty = refl
  leaf_case t front rest (listed m ms ts spelled) = refl
  leaf_case t front rest (span a b ts spelled) = refl
  leaf_case t front rest (rule freq fields are) = rw (rule_takes_none freq) refl
  leaf_case t front rest (rrule text start) = refl

  -- a bracket or a comma stands behind the first expression of a call
  record Ends (a t : Form) (name : Word) (us rest : List Token) : Type 0 where
    takes : takes_expression name ≡ true
    stops : StopsAll (us ++ rest)
    read : call_end_at whole_at name a (us ++ rest) ≡ Some (t, rest)

  pairs_complete : (a b : Form) (ts rest : List Token) → Whole b ts → pairs_end_at whole_at a
      ((tokens.Comma ∷ ts ++ tokens.Close ∷ []) ++ rest) ≡ Some (Binary Pairs a b, rest)
  unfolding pairs_end_at close_at
  pairs_complete a b ts rest spelled =
      rw (
        append_assoc ts (tokens.Close ∷ []) rest,
        whole_complete b ts (tokens.Close ∷ rest)
            spelled (record { union = refl; minus = refl; meet = refl }),
      ) refl

  number_stops : (number : Option ℤ) (rest : List Token)
      → StopsAll (number_end_tokens number ++ rest)
  number_stops None rest = record { union = refl; minus = refl; meet = refl }
  number_stops (Some n) rest = record { union = refl; minus = refl; meet = refl }

  op_complete : (name : Word) (number : Option ℤ) (op : UnaryOp) (rest : List Token)
      → unary_named name number ≡ Some op
      → unary_end_at name (number_end_tokens number ++ rest) ≡ found op rest
  unfolding unary_end_at
  op_complete name None op rest named = rw named refl
  op_complete name (Some n) op rest named = rw named refl

  unary_complete : (a : Form) (name : Word) (number : Option ℤ) (op : UnaryOp) (rest : List Token)
      → unary_named name number ≡ Some op
      → call_end_at whole_at name a (number_end_tokens number ++ rest) ≡ Some (Unary op a, rest)
  unfolding call_end_at
  unary_complete a words.Pairs number op rest named = absurd cc
  unary_complete a name number op rest named =
      ap (λ o. o >>= λ x. Some (Unary x.0 a, x.1)) (op_complete name number op rest named)

  end_complete : (a t : Form) (name : Word) (us rest : List Token) → CallEnd Whole a name t us
      → Ends a t name us rest
  unfolding call_end_at
  end_complete a t name us rest (unary_call _ number op named) = record {
    takes = unary_takes name number op named;
    stops = number_stops number rest;
    read = unary_complete a name number op rest named;
  }
  end_complete a t name us rest (pairs_call b ts spelled) =
      record {
        takes = refl;
        stops = record { union = refl; minus = refl; meet = refl };
        read =
            pairs_complete a b ts rest spelled;
      }

  call_complete : (a t : Form) (name : Word) (ts us rest : List Token) → Whole a ts
      → Ends a t name us rest → call_at whole_at name ((ts ++ us) ++ rest) ≡ Some (t, rest)
  unfolding call_at
  call_complete a t name ts us rest spelled end =
      rw (append_assoc ts us rest, whole_complete a ts (us ++ rest) spelled end.stops) end.read

  pub nested_complete : IsComplete (Nested Whole Atom) (nested_at whole_at atom) (λ _. Unit {0})
  unfolding nested_at close_at
  nested_complete t front rest (leaf _ _ spelled) h = leaf_case t front rest spelled
      ∙ leaf_complete t front rest spelled tt
  nested_complete t front rest (brackets _ ts spelled) h =
      let regrouped : (ts ++ tokens.Close ∷ []) ++ rest ≡ ts ++ (tokens.Close ∷ rest) =
      append_assoc ts (tokens.Close ∷ []) rest in
      rw (
        regrouped,
        whole_complete t ts (tokens.Close ∷ rest) spelled
            (record { union = refl; minus = refl; meet = refl }),
      ) refl
  nested_complete t front rest (inverse a ts spelled) h = rw (atom_is_complete a ts rest spelled tt)
      refl
  nested_complete t front rest (call name a _ ts us spelled end) h =
      let x = end_complete a t name us rest end in
      rw x.takes (call_complete a t name ts us rest spelled x)

pub atom_complete : (depth : ℕ) → IsComplete (IsAtom depth) (atom_at depth) (λ _. Unit {0})
unfolding IsAtom atom_at
atom_complete zero = leaf_complete
atom_complete (suc depth) =
    nested_complete (IsExpr (IsAtom depth)) (IsAtom depth) (expr_at (atom_at depth)) (atom_at depth)
    (expr_complete (IsAtom depth) (atom_at depth) (atom_complete depth)) (atom_complete depth)

pub whole_expr_complete : IsComplete (IsExpr (IsAtom nesting_limit))
    (expr_at (atom_at nesting_limit)) StopsAll
whole_expr_complete = expr_complete (IsAtom nesting_limit) (atom_at nesting_limit)
    (atom_complete nesting_limit)

pub program_complete : (p : Forms) (ts : List Token) → Spells p ts → program_at ts ≡ Some p
unfolding program_at program_end_at second_at
program_complete p ts (one t _ spelled) =
    let read : expr_at (atom_at nesting_limit) ts ≡ Some (t, []) =
    ap (expr_at (atom_at nesting_limit)) (sym (append-nil ts)) ∙ whole_expr_complete t ts [] spelled
    (record { union = refl; minus = refl; meet = refl }) in
    rw read refl
program_complete p ts (two t u xs ys first second) =
    let one_more : expr_at (atom_at nesting_limit) ys ≡ Some (u, []) =
    ap (expr_at (atom_at nesting_limit)) (sym (append-nil ys)) ∙ whole_expr_complete u ys [] second
    (record { union = refl; minus = refl; meet = refl }) in
    rw (
      whole_expr_complete t xs (tokens.Semicolon ∷ ys) first
          (record { union = refl; minus = refl; meet = refl }),
      one_more,
    ) refl

pub Spells-unique : SpellOne
Spells-unique p q ts first second = let e : Some p ≡ Some q = sym (program_complete p ts first)
    ∙ program_complete q ts second in cc
