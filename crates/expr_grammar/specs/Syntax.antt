-- Syntax trees without where they lie in memory, and the places that they keep.
use Rattle.std.specs.Prelude.{◌≡◌, ℕ, Bool, List, [], ◌∷◌, ◌++◌, map, Option, Some, None}
use denote.Ref.{Bor}
use Rattle.expr_tokens.specs.declared.token.Token.{Token as Placed}
use Rattle.expr_tokens.specs.declared.token.Token.TheVariants as placed
use Rattle.expr_tokens.specs.declared.token.Word.{Word}
use Rattle.expr_tokens.specs.declared.token.Word.TheVariants as words
use Rattle.expr_grammar.specs.declared.syntax.Field.{Field}
use Rattle.expr_grammar.specs.declared.syntax.Field.TheVariants as fields
use Rattle.expr_grammar.specs.declared.syntax.SyntaxTree.{SyntaxTree}
use Rattle.expr_grammar.specs.declared.syntax.SyntaxTree.TheVariants as trees
use Rattle.expr_grammar.specs.declared.syntax.SyntaxTrees.{SyntaxTrees}
use Rattle.expr_grammar.specs.Fields.{same_key}
use Rattle.expr_grammar.specs.Form.{FieldForm, Values, Start, Form, Empty, Listed, Span, Rule, Rrule, Unary, Binary, Forms}

abbrev pub field_form : Field → FieldForm
field_form (fields.Values key v) = Values key v.items
field_form (fields.Start stamp) = Start stamp

abbrev pub form_of : SyntaxTree → Form
form_of trees.Empty = Empty
form_of (trees.List v) = Listed v.items
form_of (trees.Span place low high) = Span low high
form_of (trees.Rule freq v) = Rule freq (map field_form v.items)
form_of (trees.Rrule v start) = Rrule v.items start
form_of (trees.Unary' op x a) = Unary op (form_of a)
form_of (trees.Binary' op x a y b) = Binary op (form_of a) (form_of b)

abbrev pub second_form : Option SyntaxTree → Option Form
second_form None = None
second_form (Some t) = Some (form_of t)

abbrev pub forms_of : SyntaxTrees → Forms
forms_of p = record { first = form_of p.first; second = second_form p.second }

-- the places of the spans, from left to right
abbrev pub places_of : SyntaxTree → List ℕ
places_of trees.Empty = []
places_of (trees.List v) = []
places_of (trees.Span place low high) = place ∷ []
places_of (trees.Rule freq v) = []
places_of (trees.Rrule v start) = []
places_of (trees.Unary' op x a) = places_of a
places_of (trees.Binary' op x a y b) = places_of a ++ places_of b

abbrev pub second_places : Option SyntaxTree → List ℕ
second_places None = []
second_places (Some t) = places_of t

abbrev pub all_places_of : SyntaxTrees → List ℕ
all_places_of p = places_of p.first ++ second_places p.second

-- the places of the name `span`, from left to right
abbrev pub span_places : List Placed → List ℕ
span_places [] = []
span_places (placed.Word words.Span place ∷ ts) = place ∷ span_places ts
span_places (t ∷ ts) = span_places ts

-- the places that were there are those of the tree, and then those of the tokens behind it
abbrev pub KeepsPlaces : List ℕ → SyntaxTree × Bor (List Placed) → Type 0
KeepsPlaces places x = places ≡ places_of x.0 ++ span_places x.1.now

abbrev pub HasPlaces : List ℕ → SyntaxTrees → Type 0
HasPlaces places p = places ≡ all_places_of p

abbrev pub shares_key : Field → Field → Bool
shares_key f other = same_key (field_form other) (field_form f)

-- the word isn't the name of a span, whose place would be kept
abbrev pub NamesNoSpan : Word → Type 0
NamesNoSpan w =
    (place : ℕ) (ts : List Placed) → span_places (placed.Word w place ∷ ts) ≡ span_places ts
