-- What the reader's functions answer, phase by phase.
use Rattle.std.specs.Prelude.{◌≡◌, ℕ, List, [], ◌∷◌, Option, Some, None, Result, Ok, Err, IfSome, option_map}
use Rattle.std.specs.List.{AllZip}
use Rattle.moment_core.specs.Line.{IsCalendarMoment}
use Rattle.span_core.specs.Bounds.{IsSpan}
use Rattle.expr_tokens.specs.declared.token.Token.{Token as Placed}
use Rattle.expr_tokens.specs.declared.token.Token.TheVariants as placed
use Rattle.expr_tokens.specs.Plain.{Token, plain}
use Rattle.expr_tokens.specs.Plain as tokens
use Rattle.expr_grammar.specs.Form.{Form, Forms}
use Rattle.expr_grammar.specs.Form as forms
use Rattle.expr_tree.specs.Tree.{Trees}
use Rattle.expr_text.specs.declared.fault.TextFault.{TextFault}
use Rattle.expr_text.specs.Fault.{Fault, fault_in}
use Rattle.expr_text.specs.Trees.{bound_of}
use Rattle.expr_text.specs.Faults.{Tokens}

-- what a reader returned: none where memory ran out
abbrev pub told : {X : Type 0} → (X → Trees) → Result X TextFault → Option (Result Trees Fault)
told view (Ok x) = Some (Ok (view x))
told view (Err fault) = option_map (λ f. Err f) (fault_in fault)

-- it is such an answer, unless memory ran out
abbrev pub Tells : {X : Type 0} → (X → Trees) → (Result Trees Fault → Type 0) → Result X TextFault
    → Type 0
Tells view Is r = IfSome (told view r) Is

-- where the token carries a place, it is this one
abbrev pub StandsAt : ℕ → Placed → Type 0
StandsAt byte (placed.Word w place) = place ≡ byte
StandsAt byte (placed.Moment stamp place) = place ≡ byte
StandsAt byte t = Unit {0}

-- the token is this one
pub record IsToken (t : Placed) (x : Token × ℕ) : Type 0 where
  pub same : plain t ≡ x.0
  pub place : StandsAt x.1 t

-- the tokens are these
abbrev pub AreTokens : List Placed → Tokens → Type 0
AreTokens ts us = AllZip IsToken ts us

-- the place of the first literal that names no moment
abbrev pub first_nameless : List Placed → Option ℕ
first_nameless [] = None
first_nameless (placed.Moment None place ∷ ts) = Some place
first_nameless (t ∷ ts) = first_nameless ts

-- a moment that the token names is of the calendar range
abbrev pub IsInRange : Token → Type 0
IsInRange (tokens.Moment (Some s)) = IsCalendarMoment s.moment.0
IsInRange t = Unit {0}

-- each span has a position, between bounds of the calendar range
abbrev pub HasSpans : Form → Type 0
HasSpans forms.Empty = Unit {0}
HasSpans (forms.Listed literals) = Unit {0}
HasSpans (forms.Span low high) = IsSpan (bound_of low) (bound_of high)
HasSpans (forms.Rule freq fields) = Unit {0}
HasSpans (forms.Rrule text start) = Unit {0}
HasSpans (forms.Unary op a) = HasSpans a
HasSpans (forms.Binary op a b) = HasSpans a × HasSpans b

abbrev pub IsSecond : (Form → Type 0) → Option Form → Type 0
IsSecond Is None = Unit {0}
IsSecond Is (Some t) = Is t

abbrev pub AreBoth : (Form → Type 0) → Forms → Type 0
AreBoth Is p = Is p.first × IsSecond Is p.second
