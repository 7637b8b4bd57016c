-- The sets of expressions as they are made, from the leftmost part of an expression outwards.
use Rattle.std.specs.Prelude.{◌≡◌, ℕ, List, [], ◌∷◌, ◌++◌, length, Some, None, Result, Ok, Err, IfSome, IsSomeAnd}
use Rattle.std.specs.List.{AllByRecursion}
use Rattle.std.specs.Global.{Vec}
use Rattle.expr_grammar.specs.Form.{Form, Forms}
use Rattle.expr_grammar.specs.Form as forms
use Rattle.expr_grammar.specs.Syntax.{form_of, places_of}
use Rattle.expr_tree.specs.Tree.{tree_of, trees_of}
use Rattle.expr_tree.specs.declared.tree.Expr.{Expr}
use Rattle.expr_tree.specs.declared.tree.Program.{Program}
use Rattle.rrule_text.specs.Fault.{fault_in as fault_in_rrule}
use Rattle.std.specs.Option.{option_or}
use Rattle.expr_text.specs.declared.building.Step.{Step}
use Rattle.expr_text.specs.declared.building.Step.TheVariants as steps
use Rattle.expr_text.specs.declared.building.Unmade.{Unmade}
use Rattle.expr_text.specs.declared.building.Unmade.TheVariants as unmade
use Rattle.expr_text.specs.declared.fault.TextFault.{TextFault}
use Rattle.expr_text.specs.declared.fault.TextFault.TheVariants as texts
use Rattle.expr_text.specs.Fault.{Fault, fault_in}
use Rattle.expr_text.specs.Fault as faults
use Rattle.expr_text.specs.Faults.{FirstVacant, HasPosition, all_spans_of, first_rrule_fault, first_rule_fault, rrule_fault, rule_fault, spans_of}
use Rattle.expr_text.specs.Trees.{tree_from, trees_from}

-- the set of an expression; or the fault of its first rule by fields that has one, and otherwise
-- that of its first text of a rule that has one
abbrev pub IsMadeOf : Form → Result Expr Unmade → Type 0
IsMadeOf t (Ok e) =
    (rule_fault t ≡ None) × (rrule_fault t ≡ None) × (tree_from t ≡ Some (tree_of e))
IsMadeOf t (Err (unmade.Rule fault)) = rule_fault t ≡ Some fault
IsMadeOf t (Err (unmade.Rrule fault)) =
    (rule_fault t ≡ None) × IsSomeAnd (fault_in_rrule fault) (λ f. rrule_fault t ≡ Some f)

-- the sets of two expressions, or the fault that decides
abbrev pub AreBothMade : Form → Form → Result (Expr × Expr) Unmade → Type 0
AreBothMade t u (Ok x) = IsMadeOf t (Ok x.0) × IsMadeOf u (Ok x.1)
AreBothMade t u (Err (unmade.Rule fault)) = option_or (rule_fault t) (rule_fault u) ≡ Some fault
AreBothMade t u (Err (unmade.Rrule fault)) =
    (option_or (rule_fault t) (rule_fault u) ≡ None)
    × IsSomeAnd (fault_in_rrule fault) (λ f. option_or (rrule_fault t) (rrule_fault u) ≡ Some f)

-- the expression's first span that has no position stands at the place
abbrev pub IsVacantAt : Form → List ℕ → Fault → Type 0
IsVacantAt t places (faults.Moment byte) = FirstVacant (spans_of t) places byte
IsVacantAt t places fault = ⊥

-- the set or the fault of its rules, where each span has a position; otherwise the first that has
-- none
abbrev pub Makes : Form → List ℕ → Result (Result Expr Unmade) TextFault → Type 0
Makes t places (Ok made) = AllByRecursion HasPosition (spans_of t) × IsMadeOf t made
Makes t places (Err fault) = IfSome (fault_in fault) (IsVacantAt t places)

-- the expression that the steps lead out of, from the first step on, and the places of its spans
abbrev pub form_around : List Step → Form → Form
form_around [] t = t
form_around (steps.Inner op ∷ others) t = forms.Unary op (form_around others t)
form_around (steps.First op second ∷ others) t =
    forms.Binary op (form_around others t) (form_of second.now)

abbrev pub places_around : List Step → List ℕ → List ℕ
places_around [] places = places
places_around (steps.Inner op ∷ others) places = places_around others places
places_around (steps.First op second ∷ others) places =
    places_around others places ++ places_of second.now

-- the steps lead to some part of the expression, and what was made is made of it
pub record Reaches (t : Form) (places : List ℕ) (made : Result Expr Unmade)
    (path : List Step) : Type 0 where
  pub part : Form
  pub part_places : List ℕ
  pub whole : form_around path part ≡ t
  pub whole_places : places_around path part_places ≡ places
  pub placed : length part_places ≡ length (spans_of part)
  pub held : AllByRecursion HasPosition (spans_of part)
  pub made_of : IsMadeOf part made

abbrev pub Begins : Form → List ℕ → Result (Result Expr Unmade × Vec Step) TextFault → Type 0
Begins t places (Ok x) = Reaches t places x.0 x.1.items
Begins t places (Err fault) = IfSome (fault_in fault) (IsVacantAt t places)

-- the fault of the text where an expression has this one
abbrev pub text_fault : Unmade → TextFault
text_fault (unmade.Rule fault) = texts.Rule fault
text_fault (unmade.Rrule fault) = texts.Rrule fault

-- the fault of a span, of a rule by fields, or of the text of a rule
abbrev pub HasPartFault : Forms → List ℕ → Fault → Type 0
HasPartFault p places (faults.Moment byte) = FirstVacant (all_spans_of p) places byte
HasPartFault p places (faults.Rule fault) =
    AllByRecursion HasPosition (all_spans_of p) × (first_rule_fault p ≡ Some fault)
HasPartFault p places (faults.Rrule fault) =
    AllByRecursion HasPosition (all_spans_of p) × (first_rule_fault p ≡ None)
    × (first_rrule_fault p ≡ Some fault)
HasPartFault p places fault = ⊥

-- what all expressions stand for
pub record AreMadeOf (p : Forms) (sets : Program) : Type 0 where
  pub held : AllByRecursion HasPosition (all_spans_of p)
  pub ruled : first_rule_fault p ≡ None
  pub written : first_rrule_fault p ≡ None
  pub trees : trees_from p ≡ Some (trees_of sets)

abbrev pub MakesAll : Forms → List ℕ → Result Program TextFault → Type 0
MakesAll p places (Ok sets) = AreMadeOf p sets
MakesAll p places (Err fault) = IfSome (fault_in fault) (HasPartFault p places)
