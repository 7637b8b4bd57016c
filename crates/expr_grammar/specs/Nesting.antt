-- Printed expressions: which operands stand in brackets, how deep brackets and signs nest, and the
-- tokens.
use Rattle.std.specs.Prelude.{◌≡◌, ◌≤◌, ℕ, suc, max, ℤ, Bool, true, false, List, [], ◌∷◌, ◌++◌, Option, Some, None}
use Rattle.moment_core.specs.declared.line.Stamp.{Stamp}
use Rattle.expr_tokens.specs.declared.token.Word.{Word}
use Rattle.expr_tokens.specs.declared.token.Word.TheVariants as words
use Rattle.expr_tokens.specs.Plain.{Token}
use Rattle.expr_tokens.specs.Plain as tokens
use Rattle.expr_grammar.specs.declared.syntax.BinaryOp.TheVariants.{Infix, Pairs}
use Rattle.expr_grammar.specs.declared.syntax.SpanBound.{SpanBound}
use Rattle.expr_grammar.specs.Calls.{call_of, number_end_tokens}
use Rattle.expr_grammar.specs.Fields.{AreFields, rule_tokens}
use Rattle.expr_grammar.specs.Form.{Form, Empty, Listed, Span, Rule, Rrule, Unary, Binary, Forms}
use Rattle.expr_grammar.specs.Grammar.{nesting_limit, rrule_tokens}

-- An operand that is itself joined by an operator stands in brackets.
abbrev pub is_joined : Form → Bool
is_joined (Binary (Infix op) a b) = true
is_joined t = false

-- within one more pair of brackets, or behind one more sign
abbrev pub OneDeeper : (ℕ → Type 0) → ℕ → Type 0
OneDeeper Nests depth = (inner : ℕ) × (depth ≡ suc inner) × Nests inner

abbrev pub AsOperand : Bool → (ℕ → Type 0) → ℕ → Type 0
AsOperand true Nests depth = OneDeeper Nests depth
AsOperand false Nests depth = Nests depth

-- a sign takes an operand; what a call takes stands in the call's brackets
abbrev pub TakenBy : Option (Word × Option ℤ) → Bool → (ℕ → Type 0) → ℕ → Type 0
TakenBy None joined Nests = AsOperand joined Nests
TakenBy (Some call) joined Nests = Nests

-- the brackets and signs of the printed form nest at most so deep, with those of each call that
-- takes an expression
unfoldable pub NestsWithin : Form → ℕ → Type 0
NestsWithin Empty depth = Unit {0}
NestsWithin (Listed ms) depth = Unit {0}
NestsWithin (Span low high) depth = Unit {0}
NestsWithin (Rule freq fields) depth = Unit {0}
NestsWithin (Rrule text start) depth = Unit {0}
NestsWithin (Unary op a) depth =
    OneDeeper (TakenBy (call_of op) (is_joined a) (NestsWithin a)) depth
NestsWithin (Binary (Infix op) a b) depth =
    AsOperand (is_joined a) (NestsWithin a) depth × AsOperand (is_joined b) (NestsWithin b) depth
NestsWithin (Binary Pairs a b) depth =
    OneDeeper (λ inner. NestsWithin a inner × NestsWithin b inner) depth

-- how many expressions stand in one another
unfoldable pub height : Form → ℕ
height Empty = 1
height (Listed ms) = 1
height (Span low high) = 1
height (Rule freq fields) = 1
height (Rrule text start) = 1
height (Unary op a) = suc (height a)
height (Binary op a b) = suc (max (height a) (height b))

-- no list is empty, and each rule has its numbers and each key once
unfoldable pub HasTokens : Form → Type 0
HasTokens Empty = Unit {0}
HasTokens (Listed []) = ⊥
HasTokens (Listed (m ∷ ms)) = Unit {0}
HasTokens (Span low high) = Unit {0}
HasTokens (Rule freq fields) = AreFields fields
HasTokens (Rrule text start) = Unit {0}
HasTokens (Unary op a) = HasTokens a
HasTokens (Binary op a b) = HasTokens a × HasTokens b

abbrev pub in_brackets : Bool → List Token → List Token
in_brackets true ts = tokens.Open ∷ ts ++ tokens.Close ∷ []
in_brackets false ts = ts

abbrev pub more_tokens : List (Option Stamp) → List Token
more_tokens [] = tokens.RightBrace ∷ []
more_tokens (m ∷ ms) = tokens.Comma ∷ tokens.Moment m ∷ more_tokens ms

abbrev pub list_tokens : List (Option Stamp) → List Token
list_tokens [] = tokens.RightBrace ∷ []
list_tokens (m ∷ ms) = tokens.Moment m ∷ more_tokens ms

abbrev pub low_word : Bool → Word
low_word true = words.Start
low_word false = words.After

abbrev pub high_word : Bool → Word
high_word true = words.End
high_word false = words.Before

abbrev pub bounds_tokens : Option SpanBound → Option SpanBound → List Token
bounds_tokens None None = []
bounds_tokens (Some a) None = tokens.Word (low_word a.closed) ∷ tokens.Moment a.stamp ∷ []
bounds_tokens None (Some b) = tokens.Word (high_word b.closed) ∷ tokens.Moment b.stamp ∷ []
bounds_tokens (Some a) (Some b) =
    tokens.Word (low_word a.closed) ∷ tokens.Moment a.stamp ∷ tokens.Comma
    ∷ tokens.Word (high_word b.closed) ∷ tokens.Moment b.stamp ∷ []

-- a sign and its operand, or a call
abbrev pub unary_tokens : Option (Word × Option ℤ) → Bool → List Token → List Token
unary_tokens None joined ts = tokens.Exclamation ∷ in_brackets joined ts
unary_tokens (Some call) joined ts =
    tokens.Word call.0 ∷ tokens.Open ∷ ts ++ number_end_tokens call.1

-- the tokens of the printed form
unfoldable pub spelled : Form → List Token
spelled Empty = tokens.Word words.Empty ∷ tokens.Open ∷ tokens.Close ∷ []
spelled (Listed ms) = tokens.LeftBrace ∷ list_tokens ms
spelled (Rule freq fields) = rule_tokens freq fields
spelled (Rrule text start) = rrule_tokens text start
spelled (Span low high) =
    tokens.Word words.Span ∷ tokens.Open ∷ bounds_tokens low high ++ tokens.Close ∷ []
spelled (Unary op a) = unary_tokens (call_of op) (is_joined a) (spelled a)
spelled (Binary (Infix op) a b) =
    in_brackets (is_joined a) (spelled a) ++ tokens.Operator op ∷ in_brackets (is_joined b)
    (spelled b)
spelled (Binary Pairs a b) =
    tokens.Word words.Pairs ∷ tokens.Open ∷ spelled a
    ++ (tokens.Comma ∷ spelled b ++ tokens.Close ∷ [])

abbrev pub spelled_second : Option Form → List Token
spelled_second None = []
spelled_second (Some t) = tokens.Semicolon ∷ spelled t

abbrev pub spelled_program : Forms → List Token
spelled_program p = spelled p.first ++ spelled_second p.second

abbrev pub IsPrintableForm : Form → Type 0
IsPrintableForm t = HasTokens t × (height t ≤ nesting_limit)

abbrev pub IsPrintableSecond : Option Form → Type 0
IsPrintableSecond None = Unit {0}
IsPrintableSecond (Some t) = IsPrintableForm t

-- no list is empty, rules have each key once and its numbers, and no expression is higher than
-- round brackets and signs may nest
abbrev pub IsPrintable : Forms → Type 0
IsPrintable p = IsPrintableForm p.first × IsPrintableSecond p.second
