-- As many names `span` stand among the tokens as there are spans in what they spell.
use Rattle.std.proofs.Common.{◌≡◌, ℕ, zero, suc, ◌+◌, ℤ, List, [], ◌∷◌, ◌++◌, Option, Some, None, refl, ap, ◌∙◌, arith}
use Rattle.moment_core.specs.declared.line.Stamp.{Stamp}
use Rattle.moment_core.specs.declared.joining.Op.{Op}
use Rattle.moment_core.specs.declared.joining.Op.TheVariants as operators
use Rattle.moment_core.specs.declared.joining.UnaryOp.{UnaryOp}
use Rattle.expr_tokens.specs.declared.token.Word.{Word}
use Rattle.expr_tokens.specs.declared.token.Word.TheVariants as words
use Rattle.expr_tokens.specs.Plain.{Token}
use Rattle.expr_tokens.specs.Plain as tokens
use Rattle.expr_grammar.specs.declared.syntax.BinaryOp.TheVariants.{Infix}
use Rattle.expr_grammar.specs.declared.syntax.SpanBound.{SpanBound}
use Rattle.rule_core.specs.declared.part.Freq.{Freq}
use Rattle.rule_core.specs.declared.part.Freq.TheVariants as freqs
use Rattle.expr_grammar.specs.declared.syntax.Key.{Key}
use Rattle.expr_grammar.specs.declared.syntax.Key.TheVariants as keys
use Rattle.expr_grammar.specs.Calls.{unary_named}
use Rattle.expr_grammar.specs.Fields.{field_tokens, fields_tokens, freq_word, key_word, more_numbers}
use Rattle.expr_grammar.specs.Form.{FieldForm, Values, Start, Form, Binary}
use Rattle.expr_grammar.specs.Laws.{SpansAreNamed}
use Rattle.expr_grammar.specs.Spans.{all_names, names, spans_in}
use Rattle.expr_grammar.specs.Grammar.{Goes, ends, goes, Chain, MoreMoments, closed, more, IsLow, from_start, from_after, IsHigh, to_end, to_before, Bounds, no_bound, low_bound, high_bound, both_bounds, Leaf, empty, listed, span, rule, rrule, CallEnd, unary_call, pairs_call, Nested, leaf, brackets, inverse, call, IsExpr, IsAtom, one, two, nesting_limit}

names_append : (xs ys : List Token) → all_names (xs ++ ys) ≡ all_names xs + all_names ys
names_append [] ys = omega arith
names_append (x ∷ xs) ys = omega (arith, names_append xs ys)

abbrev Counts : (Form → List Token → Type 0) → Type 0
Counts Spelled = (t : Form) (ts : List Token) → Spelled t ts → all_names ts ≡ spans_in t

more_names : (ms : List (Option Stamp)) (ts : List Token) → MoreMoments ms ts → all_names ts ≡ 0
more_names ms ts closed = refl
more_names ms ts (more m others rest spelled) = omega (arith, more_names others rest spelled)

low_names : (b : SpanBound) (ts : List Token) → IsLow b ts → all_names ts ≡ 0
low_names b ts (from_start m) = refl
low_names b ts (from_after m) = refl

high_names : (b : SpanBound) (ts : List Token) → IsHigh b ts → all_names ts ≡ 0
high_names b ts (to_end m) = refl
high_names b ts (to_before m) = refl

bounds_names : (a b : Option SpanBound) (ts : List Token) → Bounds a b ts → all_names ts ≡ 0
bounds_names a b ts no_bound = refl
bounds_names a b ts (low_bound x xs first) = low_names x xs first
bounds_names a b ts (high_bound y ys second) = high_names y ys second
bounds_names a b ts (both_bounds x y xs ys first second) =
    omega (arith, names_append xs (tokens.Comma ∷ ys), low_names x xs first, high_names y ys second)

freq_unspanned : (freq : Freq) → names (tokens.Word (freq_word freq)) ≡ 0
freq_unspanned freqs.Yearly = refl
freq_unspanned freqs.Monthly = refl
freq_unspanned freqs.Weekly = refl
freq_unspanned freqs.Daily = refl
freq_unspanned freqs.Hourly = refl
freq_unspanned freqs.Minutely = refl
freq_unspanned freqs.Secondly = refl

key_unspanned : (key : Key) → names (tokens.Word (key_word key)) ≡ 0
key_unspanned keys.Months = refl
key_unspanned keys.Weeks = refl
key_unspanned keys.Days = refl
key_unspanned keys.Hours = refl
key_unspanned keys.Minutes = refl
key_unspanned keys.Seconds = refl
key_unspanned keys.Interval = refl
key_unspanned keys.WeekStart = refl

numbers_unspanned : (ns : List ℤ) → all_names (more_numbers ns) ≡ 0
numbers_unspanned [] = refl
numbers_unspanned (n ∷ ns) = omega (arith, numbers_unspanned ns)

field_names : (f : FieldForm) → all_names (field_tokens f) ≡ 0
field_names (Start m) = refl
field_names (Values key []) = omega (arith, key_unspanned key)
field_names (Values key (n ∷ ns)) = omega (arith, key_unspanned key, numbers_unspanned ns)

fields_names : (fields : List FieldForm) → all_names (fields_tokens fields) ≡ 0
fields_names [] = refl
fields_names (f ∷ fields) = omega (
  arith,
  names_append (field_tokens f) (fields_tokens fields),
  field_names f,
  fields_names fields,
)

leaf_names : Counts Leaf
leaf_names t ts empty = refl
leaf_names t ts (listed m ms rest spelled) = omega (arith, more_names ms rest spelled)
leaf_names t ts (rule freq fields are) =
    omega (
      arith,
      freq_unspanned freq,
      names_append (fields_tokens fields) (tokens.Close ∷ []),
      fields_names fields,
    )
leaf_names t ts (rrule text start) = refl
leaf_names t ts (span a b inner spelled) =
    omega (arith, names_append inner (tokens.Close ∷ []), bounds_names a b inner spelled)

goes_names : (Operand : Form → List Token → Type 0) (op : Op) → Counts Operand
    → (left t : Form) (ts : List Token) → Goes Operand op left t ts → spans_in left + all_names ts
    ≡ spans_in t
goes_names Operand op counts left t ts (ends _) = omega arith
goes_names Operand op counts left t ts (goes _ b _ xs ys o others) =
    omega (
      arith,
      goes_names Operand op counts (Binary (Infix op) left b) t ys others,
      counts b xs
          o,
      names_append xs ys,
    )

chain_names : (Operand : Form → List Token → Type 0) (op : Op) → Counts Operand
    → Counts (Chain Operand op)
chain_names Operand op counts t ts j =
    ap all_names j.whole ∙ omega (
      arith,
      names_append j.front j.others,
      counts j.first j.front
          j.begins,
      goes_names Operand op counts j.first t j.others j.goes_on,
    )

expr_names : (Atom : Form → List Token → Type 0) → Counts Atom → Counts (IsExpr Atom)
expr_names Atom counts =
    chain_names (Chain (Chain Atom operators.Meet) operators.Minus) operators.Union
    (chain_names (Chain Atom operators.Meet) operators.Minus
    (chain_names Atom operators.Meet counts))

-- a call's own name is no `span`
unary_unspanned : (name : Word) (number : Option ℤ) (op : UnaryOp)
    → unary_named name number ≡ Some op → names (tokens.Word name) ≡ 0
unary_unspanned words.Span number op e = absurd cc
unary_unspanned name number op e = refl

end_names : (Whole : Form → List Token → Type 0) → Counts Whole → (a t : Form) (name : Word)
    (ts : List Token) → CallEnd Whole a name t ts
    → names (tokens.Word name) + (spans_in a + all_names ts) ≡ spans_in t
end_names Whole whole a t name ts (unary_call _ None op named) =
    omega (arith, unary_unspanned name None op named)
end_names Whole whole a t name ts (unary_call _ (Some n) op named) =
    omega (arith, unary_unspanned name (Some n) op named)
end_names Whole whole a t name ts (pairs_call b inner spelled) =
    omega (arith, names_append inner (tokens.Close ∷ []), whole b inner spelled)

nested_names : (Whole Atom : Form → List Token → Type 0) → Counts Whole → Counts Atom
    → Counts (Nested Whole Atom)
nested_names Whole Atom whole atom t ts (leaf _ _ spelled) = leaf_names t ts spelled
nested_names Whole Atom whole atom t ts (brackets _ inner spelled) =
    omega (arith, names_append inner (tokens.Close ∷ []), whole t inner spelled)
nested_names Whole Atom whole atom t ts (inverse a inner spelled) =
    omega (arith, atom a inner spelled)
nested_names Whole Atom whole atom t ts (call name a _ inner others spelled end) =
    omega (
      arith,
      names_append inner others,
      whole a inner spelled,
      end_names Whole whole a t name
          others end,
    )

atom_names : (depth : ℕ) → Counts (IsAtom depth)
unfolding IsAtom
atom_names zero = leaf_names
atom_names (suc depth) = nested_names (IsExpr (IsAtom depth)) (IsAtom depth)
    (expr_names (IsAtom depth) (atom_names depth)) (atom_names depth)

whole_names : Counts (IsExpr (IsAtom nesting_limit))
whole_names = expr_names (IsAtom nesting_limit) (atom_names nesting_limit)

pub program_names : SpansAreNamed
program_names p ts (one t _ spelled) = omega (arith, whole_names t ts spelled)
program_names p ts (two t u xs ys first second) =
    omega (
      arith,
      names_append xs (tokens.Semicolon ∷ ys),
      whole_names t xs first,
      whole_names u ys
          second,
    )
