-- Spelled expressions are made of the moments of their tokens.
use Rattle.std.proofs.Common.{ℕ, zero, suc, List, [], ◌∷◌, ◌++◌, Option, subst}
use Rattle.std.specs.List.{AllByRecursion}
use Rattle.moment_core.specs.declared.line.Stamp.{Stamp}
use Rattle.moment_core.specs.declared.joining.Op.{Op}
use Rattle.moment_core.specs.declared.joining.Op.TheVariants as operators
use Rattle.expr_tokens.specs.declared.token.Word.{Word}
use Rattle.expr_tokens.specs.Plain.{Token}
use Rattle.expr_tokens.specs.Plain as tokens
use Rattle.expr_grammar.specs.declared.syntax.BinaryOp.TheVariants.{Infix}
use Rattle.expr_grammar.specs.declared.syntax.SpanBound.{SpanBound}
use Rattle.expr_grammar.specs.Fields.{fields_tokens, field_tokens}
use Rattle.expr_grammar.specs.Form.{FieldForm, Values, Start, Form, Binary, Forms}
use Rattle.expr_grammar.specs.Grammar.{Goes, ends, goes, Chain, MoreMoments, closed, more, IsLow, from_start, from_after, IsHigh, to_end, to_before, Bounds, no_bound, low_bound, high_bound, both_bounds, Leaf, empty, listed, span, rule, rrule, CallEnd, unary_call, pairs_call, Nested, leaf, brackets, inverse, call, IsExpr, IsAtom, Spells, one, two, nesting_limit}
use Rattle.expr_grammar.specs.Made.{HasMoment, BoundHas, FieldHas, IsMade, AreMade}
use Rattle.moment_core.proofs.Lists.{all_front, all_behind}

module _ (P : Option Stamp → Type 0) where
  abbrev Dates : List Token → Type 0
  Dates ts = AllByRecursion (HasMoment P) ts

  abbrev Keeps : (Form → List Token → Type 0) → Type 0
  Keeps Spelled = (t : Form) (ts : List Token) → Spelled t ts → Dates ts → IsMade P t

  more_made : (ms : List (Option Stamp)) (ts : List Token) → MoreMoments ms ts → Dates ts
      → AllByRecursion P ms
  more_made ms ts closed h = tt
  more_made ms ts (more m others rest spelled) h = (h.1.0, more_made others rest spelled h.1.1)

  low_made : (b : SpanBound) (ts : List Token) → IsLow b ts → Dates ts → P b.stamp
  low_made b ts (from_start m) h = h.1.0
  low_made b ts (from_after m) h = h.1.0

  high_made : (b : SpanBound) (ts : List Token) → IsHigh b ts → Dates ts → P b.stamp
  high_made b ts (to_end m) h = h.1.0
  high_made b ts (to_before m) h = h.1.0

  bounds_made : (a b : Option SpanBound) (ts : List Token) → Bounds a b ts → Dates ts → BoundHas P a
      × BoundHas P b
  bounds_made a b ts no_bound h = (tt, tt)
  bounds_made a b ts (low_bound x xs first) h = (low_made x xs first h, tt)
  bounds_made a b ts (high_bound y ys second) h = (tt, high_made y ys second h)
  bounds_made a b ts (both_bounds x y xs ys first second) h = (
    low_made x xs first (all_front (HasMoment P) xs (tokens.Comma ∷ ys) h),
    high_made y ys second
        (all_behind (HasMoment P) xs (tokens.Comma ∷ ys) h).1,
  )

  field_made : (f : FieldForm) → Dates (field_tokens f) → FieldHas P f
  field_made (Values key ns) h = tt
  field_made (Start m) h = h.1.1.0

  fields_made : (fields : List FieldForm) → Dates (fields_tokens fields)
      → AllByRecursion (FieldHas P) fields
  fields_made [] h = tt
  fields_made (f ∷ fields) h = (
    field_made f (all_front (HasMoment P) (field_tokens f) (fields_tokens fields) h),
    fields_made
        fields (all_behind (HasMoment P) (field_tokens f) (fields_tokens fields) h),
  )

  leaf_made : Keeps Leaf
  leaf_made t ts empty h = tt
  leaf_made t ts (listed m ms rest spelled) h = (h.1.0, more_made ms rest spelled h.1.1)
  leaf_made t ts (rule freq fields are) h = (
    fields_made fields (all_front (HasMoment P) (fields_tokens fields) (tokens.Close ∷ [])
        h.1.1),
    are,
  )
  leaf_made t ts (rrule text start) h = h.1.1.1.1.0
  leaf_made t ts (span a b inner spelled) h = bounds_made a b inner spelled
      (all_front (HasMoment P) inner (tokens.Close ∷ []) h.1.1)

  goes_made : (Operand : Form → List Token → Type 0) (op : Op) → Keeps Operand
      → (left t : Form) (ts : List Token) → Goes Operand op left t ts → IsMade P left → Dates ts
      → IsMade P t
  goes_made Operand op keeps left t ts (ends _) made h = made
  goes_made Operand op keeps left t ts (goes _ b _ xs ys o others) made h =
      goes_made Operand op keeps (Binary (Infix op) left b) t ys others
      (made, keeps b xs o (all_front (HasMoment P) xs ys h.1)) (all_behind (HasMoment P) xs ys h.1)

  chain_made : (Operand : Form → List Token → Type 0) (op : Op) → Keeps Operand
      → Keeps (Chain Operand op)
  chain_made Operand op keeps t ts j h =
      let parts : Dates (j.front ++ j.others) = subst Dates j.whole h in
      goes_made Operand op keeps j.first t j.others j.goes_on
      (keeps j.first j.front j.begins (all_front (HasMoment P) j.front j.others parts))
      (all_behind (HasMoment P) j.front j.others parts)

  expr_made : (Atom : Form → List Token → Type 0) → Keeps Atom → Keeps (IsExpr Atom)
  expr_made Atom keeps =
      chain_made (Chain (Chain Atom operators.Meet) operators.Minus) operators.Union
      (chain_made (Chain Atom operators.Meet) operators.Minus
      (chain_made Atom operators.Meet keeps))

  end_made : (Whole : Form → List Token → Type 0) → Keeps Whole → (a t : Form) (name : Word)
      (ts : List Token) → CallEnd Whole a name t ts → IsMade P a → Dates ts → IsMade P t
  end_made Whole whole a t name ts (unary_call _ number op named) made h = made
  end_made Whole whole a t name ts (pairs_call b inner spelled) made h =
      (made, whole b inner spelled (all_front (HasMoment P) inner (tokens.Close ∷ []) h.1))

  nested_made : (Whole Atom : Form → List Token → Type 0) → Keeps Whole → Keeps Atom
      → Keeps (Nested Whole Atom)
  nested_made Whole Atom whole atom t ts (leaf _ _ spelled) h = leaf_made t ts spelled h
  nested_made Whole Atom whole atom t ts (brackets _ inner spelled) h =
      whole t inner spelled (all_front (HasMoment P) inner (tokens.Close ∷ []) h.1)
  nested_made Whole Atom whole atom t ts (inverse a inner spelled) h = atom a inner spelled h.1
  nested_made Whole Atom whole atom t ts (call name a _ inner others spelled end) h =
      end_made Whole whole a t name others end
      (whole a inner spelled (all_front (HasMoment P) inner others h.1.1))
      (all_behind (HasMoment P) inner others h.1.1)

  atom_made : (depth : ℕ) → Keeps (IsAtom depth)
  unfolding IsAtom
  atom_made zero = leaf_made
  atom_made (suc depth) = nested_made (IsExpr (IsAtom depth)) (IsAtom depth)
      (expr_made (IsAtom depth) (atom_made depth)) (atom_made depth)

  whole_made : Keeps (IsExpr (IsAtom nesting_limit))
  whole_made = expr_made (IsAtom nesting_limit) (atom_made nesting_limit)

  pub program_made : (p : Forms) (ts : List Token) → Spells p ts → Dates ts → AreMade P p
  program_made p ts (one t _ spelled) h = (whole_made t ts spelled h, tt)
  program_made p ts (two t u xs ys first second) h = (
    whole_made t xs first (all_front (HasMoment P) xs (tokens.Semicolon ∷ ys) h),
    whole_made u ys
        second (all_behind (HasMoment P) xs (tokens.Semicolon ∷ ys) h).1,
  )
