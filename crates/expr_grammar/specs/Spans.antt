-- How many spans an expression has, and how many names `span` stand among tokens.
use Rattle.std.specs.Prelude.{ℕ, ◌+◌, List, [], ◌∷◌, Option, Some, None}
use Rattle.expr_tokens.specs.declared.token.Word.TheVariants as words
use Rattle.expr_tokens.specs.Plain.{Token}
use Rattle.expr_tokens.specs.Plain as tokens
use Rattle.expr_grammar.specs.Form.{Form, Empty, Listed, Span, Rule, Rrule, Unary, Binary, Forms}

abbrev pub names : Token → ℕ
names (tokens.Word words.Span) = 1
names t = 0

abbrev pub all_names : List Token → ℕ
all_names [] = 0
all_names (t ∷ ts) = names t + all_names ts

abbrev pub spans_in : Form → ℕ
spans_in Empty = 0
spans_in (Listed ms) = 0
spans_in (Span low high) = 1
spans_in (Rule freq fields) = 0
spans_in (Rrule text start) = 0
spans_in (Unary op a) = spans_in a
spans_in (Binary op a b) = spans_in a + spans_in b

abbrev pub second_in : Option Form → ℕ
second_in None = 0
second_in (Some t) = spans_in t

abbrev pub all_spans_in : Forms → ℕ
all_spans_in p = spans_in p.first + second_in p.second
