-- Moments that are none, spans without a position, and trees without a sort.
use Rattle.std.specs.Prelude.{◌≡◌, ℕ, ℤ, Bool, true, false, List, [], ◌∷◌, ◌++◌, map, Option, Some, None, Result, Ok, Err, option_map, if◌then◌else◌}
use Rattle.moment_core.specs.Clocks.{one_clock}
use Rattle.moment_core.specs.declared.line.Clock.{Clock}
use Rattle.span_core.specs.Bounds.{lies_between}
use Rattle.span_core.specs.declared.bounds.Bound.{Bound}
use Rattle.expr_tokens.specs.declared.token.Word.TheVariants as words
use Rattle.expr_tokens.specs.Plain.{Token}
use Rattle.expr_tokens.specs.Plain as tokens
use Rattle.expr_grammar.specs.Form.{Form, Forms}
use Rattle.expr_grammar.specs.Form as forms
use Rattle.expr_tree.specs.Sorts.{sort_of_tree}
use Rattle.expr_tree.specs.Tree.{Trees}
use Rattle.expr_tree.specs.declared.sorting.Sort.{Sort}
use Rattle.expr_tree.specs.declared.sorting.SortFault.{SortFault}
use Rattle.expr_tree.specs.declared.sorting.SortFault.TheVariants as faults
use Rattle.rule_core.specs.declared.part.RuleFault.{RuleFault}
use Rattle.rrule_text.specs.Fault.{Fault as RruleFault}
use Rattle.std.specs.Option.{option_or}
use Rattle.expr_text.specs.Rules.{fault_where_rule, rule_from}
use Rattle.expr_text.specs.Rrules.{fault_of_text}
use Rattle.expr_text.specs.Trees.{bound_of}

-- tokens, each with the byte at which it begins
abbrev pub Tokens : Type 0
Tokens = List (Token × ℕ)

abbrev pub kinds_of : Tokens → List Token
kinds_of ts = map (λ (x : Token × ℕ). x.0) ts

abbrev pub is_nameless : Token → Bool
is_nameless (tokens.Moment None) = true
is_nameless t = false

-- the place of the first literal that names no moment
abbrev pub first_nameless : Tokens → Option ℕ
first_nameless [] = None
first_nameless (x ∷ ts) = if is_nameless x.0 then Some x.1 else first_nameless ts

abbrev pub is_span_name : Token → Bool
is_span_name (tokens.Word words.Span) = true
is_span_name t = false

-- the places of the name `span`, from left to right
abbrev pub span_places : Tokens → List ℕ
span_places [] = []
span_places (x ∷ ts) = if is_span_name x.0 then x.1 ∷ span_places ts else span_places ts

-- the bounds of the spans, from left to right
abbrev pub spans_of : Form → List (Bound × Bound)
spans_of forms.Empty = []
spans_of (forms.Listed literals) = []
spans_of (forms.Span low high) = (bound_of low, bound_of high) ∷ []
spans_of (forms.Rule freq fields) = []
spans_of (forms.Rrule text start) = []
spans_of (forms.Unary op a) = spans_of a
spans_of (forms.Binary op a b) = spans_of a ++ spans_of b

abbrev pub second_spans : Option Form → List (Bound × Bound)
second_spans None = []
second_spans (Some t) = spans_of t

abbrev pub all_spans_of : Forms → List (Bound × Bound)
all_spans_of p = spans_of p.first ++ second_spans p.second

abbrev pub HasPosition : Bound × Bound → Type 0
HasPosition bounds = (p : ℤ) × (lies_between bounds.0 bounds.1 p ≡ true)

abbrev pub IsVacant : Bound × Bound → Type 0
IsVacant bounds = (p : ℤ) → lies_between bounds.0 bounds.1 p ≡ false

-- the place of the first span between whose bounds no position lies
pub data FirstVacant : List (Bound × Bound) → List ℕ → ℕ → Type 0 where
  here : (s : Bound × Bound) (ss : List (Bound × Bound)) (place : ℕ) (places : List ℕ) → IsVacant s
      → FirstVacant (s ∷ ss) (place ∷ places) place
  later : (s : Bound × Bound) (ss : List (Bound × Bound)) (place : ℕ) (places : List ℕ) (byte : ℕ)
      → HasPosition s
      → FirstVacant ss places byte → FirstVacant (s ∷ ss) (place ∷ places) byte

-- the fault of the first rule by fields that has one
abbrev pub rule_fault : Form → Option RuleFault
rule_fault forms.Empty = None
rule_fault (forms.Listed literals) = None
rule_fault (forms.Span low high) = None
rule_fault (forms.Rule freq fields) = fault_where_rule (rule_from freq fields)
rule_fault (forms.Rrule text start) = None
rule_fault (forms.Unary op a) = rule_fault a
rule_fault (forms.Binary op a b) = option_or (rule_fault a) (rule_fault b)

abbrev pub second_rule_fault : Option Form → Option RuleFault
second_rule_fault None = None
second_rule_fault (Some t) = rule_fault t

abbrev pub first_rule_fault : Forms → Option RuleFault
first_rule_fault p = option_or (rule_fault p.first) (second_rule_fault p.second)

-- the fault of the first text of a rule of RFC 5545 that has one
abbrev pub rrule_fault : Form → Option RruleFault
rrule_fault forms.Empty = None
rrule_fault (forms.Listed literals) = None
rrule_fault (forms.Span low high) = None
rrule_fault (forms.Rule freq fields) = None
rrule_fault (forms.Rrule text start) = fault_of_text text start
rrule_fault (forms.Unary op a) = rrule_fault a
rrule_fault (forms.Binary op a b) = option_or (rrule_fault a) (rrule_fault b)

abbrev pub second_rrule_fault : Option Form → Option RruleFault
second_rrule_fault None = None
second_rrule_fault (Some t) = rrule_fault t

abbrev pub first_rrule_fault : Forms → Option RruleFault
first_rrule_fault p = option_or (rrule_fault p.first) (second_rrule_fault p.second)

-- two clocks that are decided and differ
abbrev pub clocks_fault : Option Clock → Option SortFault
clocks_fault (Some clock) = None
clocks_fault None = Some faults.Clock

-- the first expression's fault, then the second's, then that of their two clocks
abbrev pub fault_of : Result Sort SortFault → Option (Result Sort SortFault) → Option SortFault
fault_of (Err fault) second = Some fault
fault_of (Ok a) None = None
fault_of (Ok a) (Some (Err fault)) = Some fault
fault_of (Ok a) (Some (Ok b)) = clocks_fault (one_clock a.clock b.clock)

abbrev pub sort_fault : Trees → Option SortFault
sort_fault p = fault_of (sort_of_tree p.first) (option_map sort_of_tree p.second)
