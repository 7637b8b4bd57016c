-- Which tokens spell an expression, by the cases of the grammar.
use Rattle.std.specs.Prelude.{◌≡◌, ℕ, zero, suc, ℤ, true, false, List, [], ◌∷◌, ◌++◌, Option, Some, None}
use Rattle.moment_core.specs.declared.line.Stamp.{Stamp}
use Rattle.moment_core.specs.declared.joining.Op.{Op}
use Rattle.moment_core.specs.declared.joining.Op.TheVariants as operators
use Rattle.rule_core.specs.declared.part.Freq.{Freq}
use Rattle.expr_tokens.specs.declared.token.Word.{Word}
use Rattle.expr_tokens.specs.declared.token.Word.TheVariants as words
use Rattle.expr_tokens.specs.Plain.{Token}
use Rattle.expr_tokens.specs.Plain as tokens
use Rattle.expr_grammar.specs.declared.syntax.BinaryOp.TheVariants.{Infix, Pairs}
use Rattle.expr_grammar.specs.declared.syntax.SpanBound.{SpanBound}
use Rattle.moment_core.specs.declared.joining.UnaryOp.{UnaryOp}
use Rattle.moment_core.specs.declared.joining.UnaryOp.TheVariants.{Not}
use Rattle.expr_grammar.specs.Calls.{number_end_tokens, unary_named}
use Rattle.expr_grammar.specs.Form.{FieldForm, Form, Empty, Listed, Span, Rule, Rrule, Unary, Binary, Forms}
use Rattle.expr_grammar.specs.Fields.{AreFields, rule_tokens}

-- { op operand }, each joined to what stands to its left
pub data Goes (Operand : Form → List Token → Type 0) (op : Op) : Form → Form → List Token
    → Type 0 where
  ends : (t : Form) → Goes Operand op t t []
  goes : (left b t : Form) (xs ys : List Token) → Operand b xs
      → Goes Operand op (Binary (Infix op) left b) t ys
      → Goes Operand op left t (tokens.Operator op ∷ xs ++ ys)

-- operand { op operand }
pub record Chain (Operand : Form → List Token → Type 0) (op : Op) (t : Form)
    (ts : List Token) : Type 0 where
  pub first : Form
  pub front : List Token
  pub others : List Token
  pub whole : ts ≡ front ++ others
  pub begins : Operand first front
  pub goes_on : Goes Operand op first t others

-- an expression of these atoms: of all the operators & binds tightest, then -, then |
abbrev pub IsExpr : (Form → List Token → Type 0) → Form → List Token → Type 0
IsExpr Atom = Chain (Chain (Chain Atom operators.Meet) operators.Minus) operators.Union

-- { "," moment } "}"
pub data MoreMoments : List (Option Stamp) → List Token → Type 0 where
  closed : MoreMoments [] (tokens.RightBrace ∷ [])
  more : (m : Option Stamp) (ms : List (Option Stamp)) (ts : List Token) → MoreMoments ms ts
      → MoreMoments (m ∷ ms) (tokens.Comma ∷ tokens.Moment m ∷ ts)

-- ( "start" | "after" ) moment
pub data IsLow : SpanBound → List Token → Type 0 where
  from_start : (m : Option Stamp)
      → IsLow (record { closed = true; stamp = m }) (tokens.Word words.Start ∷ tokens.Moment m ∷ [])
  from_after : (m : Option Stamp)
      → IsLow (record { closed = false; stamp = m })
      (tokens.Word words.After ∷ tokens.Moment m ∷ [])

-- ( "end" | "before" ) moment
pub data IsHigh : SpanBound → List Token → Type 0 where
  to_end : (m : Option Stamp)
      → IsHigh (record { closed = true; stamp = m }) (tokens.Word words.End ∷ tokens.Moment m ∷ [])
  to_before : (m : Option Stamp)
      → IsHigh (record { closed = false; stamp = m })
      (tokens.Word words.Before ∷ tokens.Moment m ∷ [])

-- [ low [ "," high ] | high ]
pub data Bounds : Option SpanBound → Option SpanBound → List Token → Type 0 where
  no_bound : Bounds None None []
  low_bound : (a : SpanBound) (xs : List Token) → IsLow a xs → Bounds (Some a) None xs
  high_bound : (b : SpanBound) (ys : List Token) → IsHigh b ys → Bounds None (Some b) ys
  both_bounds : (a b : SpanBound) (xs ys : List Token) → IsLow a xs → IsHigh b ys
      → Bounds (Some a) (Some b) (xs ++ tokens.Comma ∷ ys)

-- "rrule" "(" text "," moment ")"
abbrev pub rrule_tokens : List ℕ → Option Stamp → List Token
rrule_tokens text start =
    tokens.Word words.Rrule ∷ tokens.Open ∷ tokens.Text text ∷ tokens.Comma ∷ tokens.Moment start
    ∷ tokens.Close ∷ []

-- an atom without an expression in it
pub data Leaf : Form → List Token → Type 0 where
  empty : Leaf Empty (tokens.Word words.Empty ∷ tokens.Open ∷ tokens.Close ∷ [])
  listed : (m : Option Stamp) (ms : List (Option Stamp)) (ts : List Token) → MoreMoments ms ts
      → Leaf (Listed (m ∷ ms)) (tokens.LeftBrace ∷ tokens.Moment m ∷ ts)
  span : (a b : Option SpanBound) (ts : List Token) → Bounds a b ts
      → Leaf (Span a b) (tokens.Word words.Span ∷ tokens.Open ∷ ts ++ tokens.Close ∷ [])
  rule : (freq : Freq) (fields : List FieldForm) → AreFields fields
      → Leaf (Rule freq fields) (rule_tokens freq fields)
  rrule : (text : List ℕ) (start : Option Stamp) → Leaf (Rrule text start) (rrule_tokens text start)

-- The end of a call, behind its first expression: by the call's name what it makes of that
-- expression, and the tokens up to its bracket.
pub data CallEnd (Whole : Form → List Token → Type 0) (a : Form) : Word → Form → List Token
    → Type 0 where
  unary_call : (name : Word) (number : Option ℤ) (op : UnaryOp) → unary_named name number ≡ Some op
      → CallEnd Whole a name (Unary op a) (number_end_tokens number)
  pairs_call : (b : Form) (ts : List Token) → Whole b ts
      → CallEnd Whole a words.Pairs (Binary Pairs a b) (tokens.Comma ∷ ts ++ tokens.Close ∷ [])

-- An atom. Whole says what stands within one more pair of brackets, those of a call among them, and
-- Atom what stands behind one more sign.
pub data Nested (Whole Atom : Form → List Token → Type 0) : Form → List Token → Type 0 where
  leaf : (t : Form) (ts : List Token) → Leaf t ts → Nested Whole Atom t ts
  brackets : (t : Form) (ts : List Token) → Whole t ts
      → Nested Whole Atom t (tokens.Open ∷ ts ++ tokens.Close ∷ [])
  inverse : (t : Form) (ts : List Token) → Atom t ts
      → Nested Whole Atom (Unary Not t) (tokens.Exclamation ∷ ts)
  call : (name : Word) (a t : Form) (ts us : List Token) → Whole a ts → CallEnd Whole a name t us
      → Nested Whole Atom t (tokens.Word name ∷ tokens.Open ∷ ts ++ us)

-- an atom whose round brackets and signs nest at most so deep
unfoldable pub IsAtom : ℕ → Form → List Token → Type 0
IsAtom zero = Leaf
IsAtom (suc depth) = Nested (IsExpr (IsAtom depth)) (IsAtom depth)

-- how deep round brackets and signs may nest, with the brackets of calls that take an expression
abbrev pub nesting_limit : ℕ
nesting_limit = 128

-- expr [ ";" expr ], with round brackets and signs at most so deep
pub data Spells : Forms → List Token → Type 0 where
  one : (t : Form) (ts : List Token) → IsExpr (IsAtom nesting_limit) t ts
      → Spells (record { first = t; second = None }) ts
  two : (t u : Form) (ts us : List Token) → IsExpr (IsAtom nesting_limit) t ts
      → IsExpr (IsAtom nesting_limit) u us
      → Spells (record { first = t; second = Some u }) (ts ++ tokens.Semicolon ∷ us)

abbrev pub SpellNothing : List Token → Type 0
SpellNothing ts = (p : Forms) → Spells p ts → ⊥
