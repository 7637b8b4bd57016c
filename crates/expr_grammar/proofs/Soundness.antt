-- What is read is spelled so.
use Rattle.std.proofs.Common.{◌≡◌, eqb, ℕ, ℤ, zero, suc, Bool, true, false, cond, List, [], ◌∷◌, ◌++◌, length, drop, Option, Some, None, refl, sym, ap, subst, ◌∙◌, append_assoc}
use Rattle.std.proofs.lemmas.Bool.{eqb-true}
use Rattle.std.proofs.lemmas.List.{append-nil, nil_from_length}
use Rattle.moment_core.specs.declared.joining.Op.{Op}
use Rattle.moment_core.specs.declared.joining.Op.TheVariants as operators
use Rattle.moment_core.specs.Texts.{◌>>=◌}
use Rattle.expr_tokens.specs.declared.token.Word.{Word}
use Rattle.expr_tokens.specs.declared.token.Word.TheVariants as words
use Rattle.expr_tokens.specs.Plain.{Token}
use Rattle.expr_tokens.specs.Plain as tokens
use Rattle.moment_core.specs.declared.line.Stamp.{Stamp}
use Rattle.expr_grammar.specs.declared.syntax.BinaryOp.TheVariants.{Infix, Pairs}
use Rattle.expr_grammar.specs.declared.syntax.SpanBound.{SpanBound}
use Rattle.moment_core.specs.declared.joining.UnaryOp.{UnaryOp}
use Rattle.moment_core.specs.declared.joining.UnaryOp.TheVariants.{Not}
use Rattle.expr_grammar.specs.Form.{Form, Empty, Listed, Span, Rrule, Unary, Binary, Forms}
use Rattle.expr_grammar.specs.Grammar.{Goes, ends, goes, Chain, MoreMoments, closed, more, IsLow, from_start, from_after, IsHigh, to_end, to_before, Bounds, no_bound, low_bound, high_bound, both_bounds, Leaf, empty, listed, span, rule, rrule, rrule_tokens, CallEnd, unary_call, pairs_call, Nested, leaf, brackets, inverse, call, IsExpr, IsAtom, Spells, one, two, nesting_limit}
use Rattle.expr_grammar.specs.Parsing.{Read, same, stands, chain_from, chain_at, expr_at, moments_at, list_at, close_at, high_at, high_end_at, low_end_at, span_at, rrule_at, leaf_at, number_end_at, name_at, unary_end_at, pairs_end_at, call_end_at, call_at, call_or_leaf, nested_at, atom_at, second_at, program_end_at, program_at}
use Rattle.expr_grammar.specs.Calls.{number_end_tokens, takes_expression, unary_named}
use Rattle.expr_grammar.specs.Fields.{rule_tokens}
use Rattle.expr_grammar.proofs.Rules.{TakesRule, rule_sound}
use Rattle.expr_grammar.proofs.Parts.{along, bind_some, found, read_is}
use Rattle.std.proofs.lemmas.Option.{cond_some, same_Some}

pub same_is : (p q : Op) → same p q ≡ true → p ≡ q
same_is operators.Union operators.Union e = refl
same_is operators.Minus operators.Minus e = refl
same_is operators.Meet operators.Meet e = refl
same_is operators.Union operators.Minus e = absurd cc
same_is operators.Union operators.Meet e = absurd cc
same_is operators.Minus operators.Union e = absurd cc
same_is operators.Minus operators.Meet e = absurd cc
same_is operators.Meet operators.Union e = absurd cc
same_is operators.Meet operators.Minus e = absurd cc

pub stands_is : (op : Op) (ts : List Token) → stands op ts ≡ true → ts ≡ tokens.Operator op ∷ drop 1
    ts
stands_is op (tokens.Operator next ∷ ts) e = ap (λ (o : Op). tokens.Operator o ∷ ts)
    (sym (same_is op next e))
stands_is op ts e = absurd cc

-- the tokens are a front that spells the tree, and then the rest
pub record Takes (Spelled : Form → List Token → Type 0) (ts : List Token) (t : Form)
    (rest : List Token) : Type 0 where
  pub front : List Token
  pub whole : ts ≡ front ++ rest
  pub spelled : Spelled t front

-- what the reader reads is spelled so
abbrev pub IsSound : (Form → List Token → Type 0) → (List Token → Read) → Type 0
IsSound Spelled read = (ts : List Token) (t : Form) (rest : List Token) → read ts ≡ Some (t, rest)
    → Takes Spelled ts t rest

module _ (Operand : Form → List Token → Type 0) (operand : List Token → Read) (op : Op)
    (sound : IsSound Operand operand) where
  nothing_more : (left : Form) (ts : List Token) (t : Form) (rest : List Token) → found left ts
      ≡ Some (t, rest) → Takes (Goes Operand op left) ts t rest
  nothing_more left ts t rest e =
      along (Takes (Goes Operand op left) ts) left t ts rest e
      (record { front = []; whole = refl; spelled = ends left })

  -- one more operand, from what is known of the rest
  goes_sound : (left : Form) (ts : List Token) (b : Form × List Token) (t : Form)
      (rest : List Token) → stands op ts ≡ true → operand (drop 1 ts) ≡ Some b
      → Takes (Goes Operand op (Binary (Infix op) left b.0)) b.1 t rest
      → Takes (Goes Operand op left) ts t rest
  goes_sound left ts b t rest next read others =
      let first = sound (drop 1 ts) b.0 b.1 read in
      record {
        front = tokens.Operator op ∷ first.front ++ others.front;
        whole = stands_is op ts next ∙ ap (λ (x : List Token). tokens.Operator op ∷ x)
            (first.whole ∙ ap (λ (x : List Token). first.front ++ x) others.whole
            ∙ sym (append_assoc first.front others.front rest));
        spelled = goes left b.0 t first.front others.front first.spelled others.spelled;
      }

  pub from_sound : (n : ℕ) (left : Form) (ts : List Token) (t : Form) (rest : List Token)
      → chain_from operand op n left ts ≡ Some (t, rest) → Takes (Goes Operand op left) ts t rest
  unfolding chain_from
  from_sound zero left ts t rest e = nothing_more left ts t rest e
  from_sound (suc n) left ts t rest e =
      let P : Bool → Type 0 =
      λ b. stands op ts ≡ b
      → cond b (operand (drop 1 ts) >>= (λ x. chain_from operand op n (Binary (Infix op) left x.0)
      x.1)) (Some (left, ts)) ≡ Some (t, rest) → Takes (Goes Operand op left) ts t rest in
      let go : (b : Bool) → P b = λ b. elim b as P [
        | true ↦ λ next h.
            let x = bind_some (operand (drop 1 ts))
            (λ y. chain_from operand op n (Binary (Infix op) left y.0) y.1) (t, rest) h in
            goes_sound left ts x.0 t rest next x.1 (from_sound n (Binary (Infix op) left x.0.0)
            x.0.1 t rest x.2)
        | false ↦ λ next h. nothing_more left ts t rest h
      ] in
      go (stands op ts) refl e

  pub chain_sound : IsSound (Chain Operand op) (chain_at operand op)
  unfolding chain_at
  chain_sound ts t rest e =
      let x = bind_some (operand ts) (λ a. chain_from operand op (length a.1) a.0 a.1) (t, rest)
      e in
      let first = sound ts x.0.0 x.0.1 x.1 in
      let others = from_sound (length x.0.1) x.0.0 x.0.1 t rest x.2 in
      record {
        front = first.front ++ others.front;
        whole = first.whole ∙ ap (λ (y : List Token). first.front ++ y) others.whole
            ∙ sym (append_assoc first.front others.front rest);
        spelled = record {
          first = x.0.0;
          front = first.front;
          others = others.front;
          whole = refl;
          begins = first.spelled;
          goes_on = others.spelled;
        };
      }

pub expr_sound : (Atom : Form → List Token → Type 0) (atom : List Token → Read) → IsSound Atom atom
    → IsSound (IsExpr Atom) (expr_at atom)
expr_sound Atom atom sound =
    chain_sound (Chain (Chain Atom operators.Meet) operators.Minus)
    (chain_at (chain_at atom operators.Meet) operators.Minus) operators.Union
    (chain_sound (Chain Atom operators.Meet) (chain_at atom operators.Meet) operators.Minus
    (chain_sound Atom atom operators.Meet sound))

-- moments, and the tokens behind them
pub record TakesMoments (ts : List Token) (ms : List (Option Stamp)) (rest : List Token) : Type 0
  where
    pub front : List Token
    pub whole : ts ≡ front ++ rest
    pub spelled : MoreMoments ms front

moments_sound : (ts : List Token) (x : List (Option Stamp) × List Token) → moments_at ts ≡ Some x
    → TakesMoments ts x.0 x.1
unfolding moments_at
moments_sound (tokens.RightBrace ∷ ts) x e =
    along (TakesMoments (tokens.RightBrace ∷ ts)) [] x.0 ts x.1 e
    (record { front = tokens.RightBrace ∷ []; whole = refl; spelled = closed })
moments_sound (tokens.Comma ∷ tokens.Moment m ∷ ts) x e =
    let y = bind_some (moments_at ts) (λ ms. Some (m ∷ ms.0, ms.1)) x e in
    let others = moments_sound ts y.0 y.1 in
    along (TakesMoments (tokens.Comma ∷ tokens.Moment m ∷ ts)) (m ∷ y.0.0) x.0 y.0.1 x.1 y.2
    (record {
      front = tokens.Comma ∷ tokens.Moment m ∷ others.front;
      whole =
          ap (λ (z : List Token). tokens.Comma ∷ tokens.Moment m ∷ z) others.whole;
      spelled =
          more m y.0.0 others.front others.spelled;
    })
moments_sound ts x e = absurd cc

list_sound : (ts : List Token) (x : List (Option Stamp) × List Token) → list_at ts ≡ Some x
    → Takes Leaf (tokens.LeftBrace ∷ ts) (Listed x.0) x.1
unfolding list_at
list_sound (tokens.Moment m ∷ ts) x e =
    let z = bind_some (moments_at ts) (λ ms. Some (m ∷ ms.0, ms.1)) x e in
    let others = moments_sound ts z.0 z.1 in
    along (λ ms r. Takes Leaf (tokens.LeftBrace ∷ tokens.Moment m ∷ ts) (Listed ms) r) (m ∷ z.0.0)
    x.0 z.0.1 x.1 z.2
    (record {
      front = tokens.LeftBrace ∷ tokens.Moment m ∷ others.front;
      whole =
          ap (λ (w : List Token). tokens.LeftBrace ∷ tokens.Moment m ∷ w) others.whole;
      spelled =
          listed m z.0.0 others.front others.spelled;
    })
list_sound ts x e = absurd cc

close_is : (a : Form) (ts : List Token) (t : Form) (rest : List Token) → close_at a ts
    ≡ Some (t, rest) → (a ≡ t) × (ts ≡ tokens.Close ∷ rest)
unfolding close_at
close_is a (tokens.Close ∷ ts) t rest e = let q = read_is a t ts rest e in
    (q.0, ap (λ (x : List Token). tokens.Close ∷ x) q.1)
close_is a ts t rest e = absurd cc

-- an upper bound, and the tokens behind it
record TakesHigh (ts : List Token) (b : SpanBound) (rest : List Token) : Type 0 where
  front : List Token
  whole : ts ≡ front ++ rest
  spelled : IsHigh b front

high_sound : (ts : List Token) (b : SpanBound) (rest : List Token) → high_at ts ≡ Some (b, rest)
    → TakesHigh ts b rest
high_sound (tokens.Word words.End ∷ tokens.Moment m ∷ ts) b rest e =
    along (TakesHigh (tokens.Word words.End ∷ tokens.Moment m ∷ ts))
    (record { closed = true; stamp = m }) b ts rest e
    (record {
      front = tokens.Word words.End ∷ tokens.Moment m ∷ [];
      whole = refl;
      spelled =
          to_end m;
    })
high_sound (tokens.Word words.Before ∷ tokens.Moment m ∷ ts) b rest e =
    along (TakesHigh (tokens.Word words.Before ∷ tokens.Moment m ∷ ts))
    (record { closed = false; stamp = m }) b ts rest e
    (record {
      front = tokens.Word words.Before ∷ tokens.Moment m ∷ [];
      whole = refl;
      spelled =
          to_before m;
    })
high_sound ts b rest e = absurd cc

-- the bounds of a span, up to its bracket
record TakesBounds (ts : List Token) (a b : Option SpanBound) (rest : List Token) : Type 0 where
  front : List Token
  whole : ts ≡ front ++ tokens.Close ∷ rest
  spelled : Bounds a b front

-- a span that was read
record TakesSpan (ts : List Token) (t : Form) (rest : List Token) : Type 0 where
  low : Option SpanBound
  high : Option SpanBound
  is : Span low high ≡ t
  taken : TakesBounds ts low high rest

-- an upper bound and a bracket were read
record EndsHigh (low : Option SpanBound) (ts : List Token) (t : Form) (rest : List Token) : Type 0
  where
    bound : SpanBound
    front : List Token
    is : Span low (Some bound) ≡ t
    whole : ts ≡ front ++ tokens.Close ∷ rest
    spelled : IsHigh bound front

high_end_sound : (low : Option SpanBound) (ts : List Token) (t : Form) (rest : List Token)
    → high_end_at low ts ≡ Some (t, rest) → EndsHigh low ts t rest
unfolding high_end_at
high_end_sound low ts t rest e =
    let x = bind_some (high_at ts) (λ b. close_at (Span low (Some b.0)) b.1) (t, rest) e in
    let h = high_sound ts x.0.0 x.0.1 x.1 in
    let c = close_is (Span low (Some x.0.0)) x.0.1 t rest x.2 in
    record {
      bound = x.0.0;
      front = h.front;
      is = c.0;
      whole = h.whole
          ∙ ap (λ (y : List Token). h.front ++ y) c.1;
      spelled = h.spelled;
    }

-- what stands behind a lower bound
low_end_sound : (a : SpanBound) (xs ts : List Token) (t : Form) (rest : List Token) → IsLow a xs
    → low_end_at a ts ≡ Some (t, rest) → TakesSpan (xs ++ ts) t rest
unfolding low_end_at
low_end_sound a xs (tokens.Comma ∷ ts) t rest spelled e =
    let h = high_end_sound (Some a) ts t rest e in
    record {
      low = Some a;
      high = Some h.bound;
      is = h.is;
      taken = record {
        front = xs ++ tokens.Comma ∷ h.front;
        whole = ap (λ (y : List Token). xs ++ tokens.Comma ∷ y) h.whole
            ∙ sym (append_assoc xs (tokens.Comma ∷ h.front) (tokens.Close ∷ rest));
        spelled = both_bounds a h.bound xs h.front spelled h.spelled;
      };
    }
low_end_sound a xs ts t rest spelled e =
    let c = close_is (Span (Some a) None) ts t rest e in
    record {
      low = Some a;
      high = None;
      is = c.0;
      taken =
          record {
            front = xs;
            whole = ap (λ (y : List Token). xs ++ y) c.1;
            spelled =
                low_bound a xs spelled;
          };
    }

high_only : (ts : List Token) (t : Form) (rest : List Token) → high_end_at None ts ≡ Some (t, rest)
    → TakesSpan ts t rest
high_only ts t rest e =
    let h = high_end_sound None ts t rest e in
    record {
      low = None;
      high = Some h.bound;
      is = h.is;
      taken =
          record {
            front = h.front;
            whole = h.whole;
            spelled = high_bound h.bound h.front h.spelled;
          };
    }

span_sound : (ts : List Token) (t : Form) (rest : List Token) → span_at ts ≡ Some (t, rest)
    → TakesSpan ts t rest
unfolding span_at
span_sound (tokens.Close ∷ ts) t rest e =
    let q = read_is (Span None None) t ts rest e in
    record {
      low = None;
      high = None;
      is = q.0;
      taken =
          record {
            front = [];
            whole = ap (λ (y : List Token). tokens.Close ∷ y) q.1;
            spelled = no_bound;
          };
    }
span_sound (tokens.Word words.Start ∷ tokens.Moment m ∷ ts) t rest e =
    low_end_sound (record { closed = true; stamp = m }) (tokens.Word words.Start ∷ tokens.Moment m ∷
    []) ts t rest (from_start m) e
span_sound (tokens.Word words.After ∷ tokens.Moment m ∷ ts) t rest e =
    low_end_sound (record { closed = false; stamp = m }) (tokens.Word words.After ∷ tokens.Moment m
    ∷ []) ts t rest (from_after m) e
span_sound ts t rest e = high_only ts t rest e

span_leaf : (ts : List Token) (t : Form) (rest : List Token) → TakesSpan ts t rest
    → Takes Leaf (tokens.Word words.Span ∷ tokens.Open ∷ ts) t rest
span_leaf ts t rest h =
    subst (λ (y : Form). Takes Leaf (tokens.Word words.Span ∷ tokens.Open ∷ ts) y rest) h.is
    (record {
      front = tokens.Word words.Span ∷ tokens.Open ∷ h.taken.front ++ tokens.Close ∷ [];
      whole = ap (λ (y : List Token). tokens.Word words.Span ∷ tokens.Open ∷ y)
          (h.taken.whole ∙ sym (append_assoc h.taken.front (tokens.Close ∷ []) rest));
      spelled = span h.low h.high h.taken.front h.taken.spelled;
    })

rule_leaf : (ts : List Token) (t : Form) (rest : List Token) → TakesRule ts t rest
    → Takes Leaf ts t rest
rule_leaf ts t rest h = record {
  front = rule_tokens h.freq h.fields;
  whole = h.whole;
  spelled =
      subst (λ (y : Form). Leaf y (rule_tokens h.freq h.fields)) h.is (rule h.freq h.fields h.are);
}

rrule_sound : (ts : List Token) (t : Form) (rest : List Token) → rrule_at ts ≡ Some (t, rest)
    → Takes Leaf (tokens.Word words.Rrule ∷ tokens.Open ∷ ts) t rest
unfolding rrule_at
rrule_sound (tokens.Text text ∷ tokens.Comma ∷ tokens.Moment start ∷ tokens.Close ∷ ts) t rest e =
    along (Takes Leaf (rrule_tokens text start ++ ts)) (Rrule text start) t ts rest e
    (record { front = rrule_tokens text start; whole = refl; spelled = rrule text start })
rrule_sound ts t rest e = absurd cc

pub leaf_sound : IsSound Leaf leaf_at
unfolding leaf_at
leaf_sound (tokens.Word words.Empty ∷ tokens.Open ∷ tokens.Close ∷ ts) t rest e =
    along (Takes Leaf (tokens.Word words.Empty ∷ tokens.Open ∷ tokens.Close ∷ ts)) Empty t ts rest e
    (record {
      front = tokens.Word words.Empty ∷ tokens.Open ∷ tokens.Close ∷ [];
      whole = refl;
      spelled = empty;
    })
leaf_sound (tokens.Word words.Span ∷ tokens.Open ∷ ts) t rest e =
    span_leaf ts t rest (span_sound ts t rest e)
leaf_sound (tokens.Word words.Rrule ∷ tokens.Open ∷ ts) t rest e = rrule_sound ts t rest e
leaf_sound (tokens.LeftBrace ∷ ts) t rest e =
    let y = bind_some (list_at ts) (λ ms. Some (Listed ms.0, ms.1)) (t, rest) e in
    let others = list_sound ts y.0 y.1 in
    along (Takes Leaf (tokens.LeftBrace ∷ ts)) (Listed y.0.0) t y.0.1 rest y.2 others
leaf_sound ts t rest e = rule_leaf ts t rest (rule_sound ts t rest e)

module _ (Whole Atom : Form → List Token → Type 0) (whole_at atom : List Token → Read)
    (whole_sound : IsSound Whole whole_at) (atom_is_sound : IsSound Atom atom) where
  leaf_case : (ts : List Token) (t : Form) (rest : List Token) → leaf_at ts ≡ Some (t, rest)
      → Takes (Nested Whole Atom) ts t rest
  leaf_case ts t rest e = let x = leaf_sound ts t rest e in
      record { front = x.front; whole = x.whole; spelled = leaf t x.front x.spelled }

  number_is : (ts : List Token) (number : Option ℤ) (rest : List Token)
      → number_end_at ts ≡ Some (number, rest) → ts ≡ number_end_tokens number ++ rest
  number_is (tokens.Close ∷ ts) number rest e =
      along (λ n r. tokens.Close ∷ ts ≡ number_end_tokens n ++ r) None number ts rest e refl
  number_is (tokens.Comma ∷ tokens.Number n ∷ tokens.Close ∷ ts) number rest e =
      along (λ m r. tokens.Comma ∷ tokens.Number n ∷ tokens.Close ∷ ts ≡ number_end_tokens m ++ r)
      (Some n) number ts rest e refl
  number_is ts number rest e = absurd cc

  unary_end_sound : (a : Form) (name : Word) (ts : List Token) (op : UnaryOp) (rest : List Token)
      → unary_end_at name ts ≡ Some (op, rest) → Takes (CallEnd Whole a name) ts (Unary op a) rest
  unfolding unary_end_at
  unary_end_sound a name ts op rest e =
      let made = λ (y : Option ℤ × List Token). unary_named name y.0 >>= λ o. Some (o, y.1) in
      let x = bind_some (number_end_at ts) made (op, rest) e in
      let y = bind_some (unary_named name x.0.0) (λ o. Some (o, x.0.1)) (op, rest) x.2 in
      along (λ o r. Takes (CallEnd Whole a name) ts (Unary o a) r) y.0 op x.0.1 rest y.2
      (record {
        front = number_end_tokens x.0.0;
        whole = number_is ts x.0.0 x.0.1 x.1;
        spelled = unary_call name x.0.0 y.0 y.1;
      })

  pairs_end_sound : (a : Form) (ts : List Token) (t : Form) (rest : List Token)
      → pairs_end_at whole_at a ts ≡ Some (t, rest) → Takes (CallEnd Whole a words.Pairs) ts t rest
  unfolding pairs_end_at
  pairs_end_sound a (tokens.Comma ∷ ts) t rest e =
      let x = bind_some (whole_at ts) (λ b. close_at (Binary Pairs a b.0) b.1) (t, rest) e in
      let end = close_is (Binary Pairs a x.0.0) x.0.1 t rest x.2 in
      let inner = whole_sound ts x.0.0 x.0.1 x.1 in
      record {
        front = tokens.Comma ∷ inner.front ++ tokens.Close ∷ [];
        whole = ap (λ (y : List Token). tokens.Comma ∷ y)
            (inner.whole ∙ ap (λ (y : List Token). inner.front ++ y) end.1
            ∙ sym (append_assoc inner.front (tokens.Close ∷ []) rest));
        spelled = subst (λ (y : Form). CallEnd Whole a words.Pairs y (tokens.Comma ∷ inner.front
            ++ tokens.Close ∷ [])) end.0 (pairs_call x.0.0 inner.front inner.spelled);
      }
  pairs_end_sound a ts t rest e = absurd cc

  call_end_sound : (a : Form) (name : Word) (ts : List Token) (t : Form) (rest : List Token)
      → call_end_at whole_at name a ts ≡ Some (t, rest) → Takes (CallEnd Whole a name) ts t rest
  unfolding call_end_at
  call_end_sound a words.Pairs ts t rest e = pairs_end_sound a ts t rest e
  call_end_sound a name ts t rest e =
      let x = bind_some (unary_end_at name ts) (λ y. Some (Unary y.0 a, y.1)) (t, rest) e in
      along (Takes (CallEnd Whole a name) ts) (Unary x.0.0 a) t x.0.1 rest x.2
      (unary_end_sound a name ts x.0.0 x.0.1 x.1)

  call_sound : (name : Word) (ts : List Token) (t : Form) (rest : List Token)
      → call_at whole_at name ts ≡ Some (t, rest) → Takes (Nested Whole Atom)
      (tokens.Word name ∷ tokens.Open ∷ ts) t rest
  unfolding call_at
  call_sound name ts t rest e =
      let x = bind_some (whole_at ts) (λ a. call_end_at whole_at name a.0 a.1) (t, rest) e in
      let first = whole_sound ts x.0.0 x.0.1 x.1 in
      let end = call_end_sound x.0.0 name x.0.1 t rest x.2 in
      record {
        front = tokens.Word name ∷ tokens.Open ∷ first.front ++ end.front;
        whole = ap (λ (y : List Token). tokens.Word name ∷ tokens.Open ∷ y)
            (first.whole ∙ ap (λ (y : List Token). first.front ++ y) end.whole
            ∙ sym (append_assoc first.front end.front rest));
        spelled = call name x.0.0 t first.front end.front first.spelled end.spelled;
      }

  name_is : (ts : List Token) (name : Word) (inner : List Token) → name_at ts ≡ Some (name, inner)
      → ts ≡ tokens.Word name ∷ tokens.Open ∷ inner
  name_is (tokens.Word w ∷ tokens.Open ∷ ts) name inner e =
      let x : Word × List Token = (w, ts) in
      let y : Word × List Token = (name, inner) in
      let same : x ≡ y = (cond_some (takes_expression w) x y e).1 in
      ap (λ (z : Word × List Token). tokens.Word z.0 ∷ tokens.Open ∷ z.1) same
  name_is ts name inner e = absurd cc

  call_or_leaf_sound : (o : Option (Word × List Token)) (ts : List Token) (t : Form)
      (rest : List Token) → name_at ts ≡ o → call_or_leaf whole_at o ts ≡ Some (t, rest)
      → Takes (Nested Whole Atom) ts t rest
  call_or_leaf_sound (Some x) ts t rest named e =
      subst (λ (y : List Token). Takes (Nested Whole Atom) y t rest)
      (sym (name_is ts x.0 x.1 named)) (call_sound x.0 x.1 t rest e)
  call_or_leaf_sound None ts t rest named e = leaf_case ts t rest e

  pub nested_sound : IsSound (Nested Whole Atom) (nested_at whole_at atom)
  unfolding nested_at
  nested_sound (tokens.Open ∷ ts) t rest e =
      let x = bind_some (whole_at ts) (λ a. close_at a.0 a.1) (t, rest) e in
      let end = close_is x.0.0 x.0.1 t rest x.2 in
      let inner = whole_sound ts x.0.0 x.0.1 x.1 in
      record {
        front = tokens.Open ∷ inner.front ++ tokens.Close ∷ [];
        whole = ap (λ (y : List Token). tokens.Open ∷ y)
            (inner.whole ∙ ap (λ (y : List Token). inner.front ++ y) end.1
            ∙ sym (append_assoc inner.front (tokens.Close ∷ []) rest));
        spelled = brackets t inner.front (subst (λ (y : Form). Whole y inner.front) end.0
            inner.spelled);
      }
  nested_sound (tokens.Exclamation ∷ ts) t rest e =
      let x = bind_some (atom ts) (λ a. Some (Unary Not a.0, a.1)) (t, rest) e in
      let inner = atom_is_sound ts x.0.0 x.0.1 x.1 in
      along (Takes (Nested Whole Atom) (tokens.Exclamation ∷ ts)) (Unary Not x.0.0) t x.0.1 rest x.2
      (record {
        front = tokens.Exclamation ∷ inner.front;
        whole =
            ap (λ (y : List Token). tokens.Exclamation ∷ y) inner.whole;
        spelled =
            inverse x.0.0 inner.front inner.spelled;
      })
  nested_sound ts t rest e = call_or_leaf_sound (name_at ts) ts t rest refl e

pub atom_sound : (depth : ℕ) → IsSound (IsAtom depth) (atom_at depth)
unfolding IsAtom atom_at
atom_sound zero = leaf_sound
atom_sound (suc depth) =
    nested_sound (IsExpr (IsAtom depth)) (IsAtom depth) (expr_at (atom_at depth)) (atom_at depth)
    (expr_sound (IsAtom depth) (atom_at depth) (atom_sound depth)) (atom_sound depth)

pub whole_expr_sound : IsSound (IsExpr (IsAtom nesting_limit)) (expr_at (atom_at nesting_limit))
whole_expr_sound = expr_sound (IsAtom nesting_limit) (atom_at nesting_limit)
    (atom_sound nesting_limit)

second_sound : (t : Form) (front ts : List Token) (p : Forms) → IsExpr (IsAtom nesting_limit) t
    front → second_at t ts ≡ Some p → Spells p (front ++ tokens.Semicolon ∷ ts)
unfolding second_at
second_sound t front ts p spelled e =
    let x = bind_some (expr_at (atom_at nesting_limit) ts)
    (λ u. cond (eqb (length u.1) 0) (Some (record { first = t; second = Some u.0 })) None) p e in
    let made : Forms = record { first = t; second = Some x.0.0 } in
    let g = cond_some (eqb (length x.0.1) 0) made p x.2 in
    let other = whole_expr_sound ts x.0.0 x.0.1 x.1 in
    let nothing : x.0.1 ≡ [] = nil_from_length x.0.1 (eqb-true _ _ g.0) in
    let whole : ts ≡ other.front = other.whole ∙ ap (λ (r : List Token). other.front ++ r) nothing
    ∙ append-nil other.front in
    subst (λ (q : Forms). Spells q (front ++ tokens.Semicolon ∷ ts)) g.1
    (subst (λ (w : List Token). Spells made (front ++ tokens.Semicolon ∷ w)) (sym whole)
    (two t x.0.0 front other.front spelled other.spelled))

end_sound : (t : Form) (front ts : List Token) (p : Forms) → IsExpr (IsAtom nesting_limit) t front
    → program_end_at t ts ≡ Some p → Spells p (front ++ ts)
unfolding program_end_at
end_sound t front [] p spelled e =
    let made : Forms = record { first = t; second = None } in
    subst (λ (q : Forms). Spells q (front ++ [])) (same_Some made p e)
    (rw (append-nil front) (one t front spelled))
end_sound t front (tokens.Semicolon ∷ ts) p spelled e = second_sound t front ts p spelled e
end_sound t front ts p spelled e = absurd cc

pub program_sound : (ts : List Token) (p : Forms) → program_at ts ≡ Some p → Spells p ts
unfolding program_at
program_sound ts p e =
    let x = bind_some (expr_at (atom_at nesting_limit) ts) (λ t. program_end_at t.0 t.1) p e in
    let first = whole_expr_sound ts x.0.0 x.0.1 x.1 in
    subst (λ (w : List Token). Spells p w) (sym first.whole)
    (end_sound x.0.0 first.front x.0.1 p first.spelled x.2)
