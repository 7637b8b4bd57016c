-- Sets made from the leftmost part of an expression outwards.
use Rattle.std.proofs.Common.{◌≡◌, ℕ, ◌+◌, ◌<◌, ◌≤◌, List, [], ◌∷◌, ◌++◌, Option, Some, None, Result, Ok, Err, refl, ap, sym, subst, ◌∙◌, arith, length-append}
use Rattle.std.specs.Prelude.{IfSome, IsSomeAnd, option_map}
use Rattle.std.specs.Option.{option_or}
use denote.Ref.{Bor}
use Rattle.std.specs.List.{AllByRecursion}
use Rattle.moment_core.proofs.Lists.{all_both}
use Rattle.expr_grammar.specs.Form.{Form}
use Rattle.expr_grammar.specs.Form as forms
use Rattle.expr_grammar.specs.Made.{IsDated, IsMade}
use Rattle.expr_grammar.specs.Syntax.{all_places_of, form_of, forms_of, places_of, second_form, second_places}
use Rattle.expr_grammar.specs.declared.syntax.BinaryOp.{BinaryOp}
use Rattle.expr_grammar.specs.declared.syntax.SyntaxTree.{SyntaxTree}
use Rattle.expr_grammar.specs.declared.syntax.SyntaxTrees.{SyntaxTrees}
use Rattle.moment_core.specs.declared.joining.UnaryOp.{UnaryOp}
use Rattle.expr_tree.specs.declared.tree.Expr.{Expr}
use Rattle.rrule_text.specs.Fault.{Fault as RruleFault, fault_in as fault_in_rrule}
use Rattle.rrule_text.specs.declared.fault.RruleFault.TheVariants as rrules
use Rattle.expr_text.specs.declared.building.Unmade.{Unmade}
use Rattle.expr_text.specs.declared.building.Unmade.TheVariants as unmade
use Rattle.expr_text.specs.declared.building.Step.{Step}
use Rattle.expr_text.specs.declared.building.Step.TheVariants as steps
use Rattle.expr_text.specs.Fault.{Fault, HasNoInnerMemory}
use Rattle.expr_text.specs.Fault as faults
use Rattle.expr_text.specs.Faults.{FirstVacant, HasPosition, all_spans_of, rrule_fault, rule_fault, second_spans, spans_of}
use Rattle.expr_text.specs.Making.{AreBothMade, AreMadeOf, HasPartFault, IsMadeOf, IsVacantAt, Makes, MakesAll, Reaches, form_around, places_around, text_fault}
use Rattle.expr_text.proofs.Spans.{placed_spans, vacant_behind, vacant_front}

-- how many expressions stand in one
abbrev pub size_of : Form → ℕ
size_of forms.Empty = 1
size_of (forms.Listed literals) = 1
size_of (forms.Span low high) = 1
size_of (forms.Rule freq fields) = 1
size_of (forms.Rrule text start) = 1
size_of (forms.Unary op a) = 1 + size_of a
size_of (forms.Binary op a b) = 1 + size_of a + size_of b

-- one step more
pub form_pushed : (path : List Step) (step : Step) (t : Form) → form_around (path ++ step ∷ []) t
    ≡ form_around path (form_around (step ∷ []) t)
form_pushed [] step t = refl
form_pushed (steps.Inner op ∷ path) step t = ap (λ (u : Form). forms.Unary op u)
    (form_pushed path step t)
form_pushed (steps.First op second ∷ path) step t =
    ap (λ (u : Form). forms.Binary op u (form_of second.now)) (form_pushed path step t)

pub places_pushed : (path : List Step) (step : Step) (ps : List ℕ)
    → places_around (path ++ step ∷ []) ps ≡ places_around path (places_around (step ∷ []) ps)
places_pushed [] step ps = refl
places_pushed (steps.Inner op ∷ path) step ps = places_pushed path step ps
places_pushed (steps.First op second ∷ path) step ps =
    ap (λ (qs : List ℕ). qs ++ places_of second.now) (places_pushed path step ps)

-- a part and what stands around it
part_made : (path : List Step) (t : Form) → IsMade IsDated (form_around path t) → IsMade IsDated t
part_made [] t h = h
part_made (steps.Inner op ∷ path) t h = part_made path t h
part_made (steps.First op second ∷ path) t h = part_made path t h.0

in_sum : (n m k : ℕ) → n ≤ m → n ≤ 1 + m + k
in_sum n m k h = omega arith

in_next : (n m : ℕ) → n ≤ m → n ≤ 1 + m
in_next n m h = omega arith

below_sum : (n k s : ℕ) → 1 + n + k ≤ s → k < s
below_sum n k s h = omega arith

part_within : (path : List Step) (t : Form) → size_of t ≤ size_of (form_around path t)
part_within [] t = omega arith
part_within (steps.Inner op ∷ path) t = in_next (size_of t) (size_of (form_around path t))
    (part_within path t)
part_within (steps.First op second ∷ path) t = in_sum (size_of t) (size_of (form_around path t))
    (size_of (form_of second.now)) (part_within path t)

vacant_around : (path : List Step) (t : Form) (ps : List ℕ) (byte : ℕ) → FirstVacant (spans_of t) ps
    byte → FirstVacant (spans_of (form_around path t)) (places_around path ps) byte
vacant_around [] t ps byte h = h
vacant_around (steps.Inner op ∷ path) t ps byte h = vacant_around path t ps byte h
vacant_around (steps.First op second ∷ path) t ps byte h =
    vacant_front (spans_of (form_around path t)) (spans_of (form_of second.now))
    (places_around path ps) (places_of second.now) byte (vacant_around path t ps byte h)

-- a span without a position in a part is one of the whole
pub vacant_part : (path : List Step) (t : Form) (ps : List ℕ) (o : Option Fault)
    → IfSome o (IsVacantAt t ps)
    → IfSome o (IsVacantAt (form_around path t) (places_around path ps))
vacant_part path t ps None h = tt
vacant_part path t ps (Some (faults.Moment byte)) h = vacant_around path t ps byte h
vacant_part path t ps (Some fault) h = absurd h

pub vacant_within : (path : List Step) (t u : Form) (ps qs : List ℕ) (o : Option Fault)
    → form_around path t ≡ u → places_around path ps ≡ qs → IfSome o (IsVacantAt t ps)
    → IfSome o (IsVacantAt u qs)
vacant_within path t u ps qs o e d h = subst (λ (v : Form). IfSome o (IsVacantAt v qs)) e
    (subst (λ (rs : List ℕ). IfSome o (IsVacantAt (form_around path t) rs)) d
    (vacant_part path t ps o h))

-- the leftmost part
pub reaches_left : (tree : SyntaxTree) (t : Form) (ps : List ℕ) (made : Result Expr Unmade)
    (path : List Step) → form_around path (form_of tree) ≡ t → places_around path (places_of tree)
    ≡ ps
    → AllByRecursion HasPosition (spans_of (form_of tree)) → IsMadeOf (form_of tree) made
    → Reaches t ps made path
reaches_left tree t ps made path e d held is = record {
  part = form_of tree;
  part_places = places_of tree;
  whole = e;
  whole_places = d;
  placed = placed_spans tree;
  held = held;
  made_of = is;
}

-- back to what is made of a part, alone or with a second one
module _ (t : Form) (ps : List ℕ) (made : Result Expr Unmade) (path : List Step)
    (h : Reaches t ps made path) where
  module _ (front : List Step) (op : BinaryOp) (second : Bor SyntaxTree) (e : path ≡ front
      ++ steps.First op second ∷ []) where
    binary_whole : form_around front (forms.Binary op h.part (form_of second.now)) ≡ t
    binary_whole = sym (form_pushed front (steps.First op second) h.part)
        ∙ ap (λ (p : List Step). form_around p h.part) (sym e) ∙ h.whole

    binary_places : places_around front (h.part_places ++ places_of second.now) ≡ ps
    binary_places = sym (places_pushed front (steps.First op second) h.part_places)
        ∙ ap (λ (p : List Step). places_around p h.part_places) (sym e) ∙ h.whole_places

    pub second_is_made : IsMade IsDated t → IsMade IsDated (form_of second.now)
    second_is_made made_whole = (part_made front (forms.Binary op h.part (form_of second.now))
        (rw (← binary_whole) at made_whole)).1

    pub second_within : size_of (form_of second.now) < size_of t
    second_within =
        below_sum (size_of h.part) (size_of (form_of second.now)) (size_of t)
        (rw binary_whole at (part_within front (forms.Binary op h.part (form_of second.now))))

    vacant_second : (o : Option Fault)
        → IfSome o (IsVacantAt (form_of second.now) (places_of second.now))
        → IfSome o (IsVacantAt (forms.Binary op h.part (form_of second.now))
        (h.part_places ++ places_of second.now))
    vacant_second None k = tt
    vacant_second (Some (faults.Moment byte)) k =
        vacant_behind (spans_of h.part) (spans_of (form_of second.now)) h.part_places
        (places_of second.now) byte h.placed h.held k
    vacant_second (Some fault) k = absurd k

    pub second_vacant_in : (o : Option Fault)
        → IfSome o (IsVacantAt (form_of second.now) (places_of second.now))
        → IfSome o (IsVacantAt t ps)
    second_vacant_in o k =
        vacant_within front (forms.Binary op h.part (form_of second.now)) t
        (h.part_places ++ places_of second.now) ps o binary_whole binary_places (vacant_second o k)

    pub reaches_binary : (r both : Result Expr Unmade) → Makes (form_of second.now)
        (places_of second.now) (Ok r)
        → ((u v : Form) → IsMadeOf u made → IsMadeOf v r → IsMadeOf (forms.Binary op u v) both)
        → Reaches t ps both front
    reaches_binary r both k is = record {
      part = forms.Binary op h.part (form_of second.now);
      part_places = h.part_places ++ places_of second.now;
      whole = binary_whole;
      whole_places = binary_places;
      placed = omega (
        arith,
        h.placed,
        placed_spans second.now,
        length-append h.part_places
            (places_of second.now),
        length-append (spans_of h.part) (spans_of (form_of second.now)),
      );
      held = all_both HasPosition (spans_of h.part) (spans_of (form_of second.now)) h.held k.0;
      made_of = is h.part (form_of second.now) h.made_of k.1;
    }

  pub reaches_unary : (front : List Step) (op : UnaryOp) → path ≡ front ++ steps.Inner op ∷ []
      → (whole : Result Expr Unmade)
      → ((u : Form) → IsMadeOf u made → IsMadeOf (forms.Unary op u) whole)
      → Reaches t ps whole front
  reaches_unary front op e whole is = record {
    part = forms.Unary op h.part;
    part_places = h.part_places;
    whole = sym (form_pushed front (steps.Inner op) h.part)
        ∙ ap (λ (p : List Step). form_around p h.part) (sym e) ∙ h.whole;
    whole_places = sym (places_pushed front (steps.Inner op) h.part_places)
        ∙ ap (λ (p : List Step). places_around p h.part_places) (sym e) ∙ h.whole_places;
    placed = h.placed;
    held = h.held;
    made_of = is h.part h.made_of;
  }

-- the whole expression
pub made_whole : (t : Form) (ps : List ℕ) (made : Result Expr Unmade) (path : List Step)
    → Reaches t ps made path → path ≡ [] → Makes t ps (Ok made)
made_whole t ps made path h e =
    let same : h.part ≡ t = ap (λ (p : List Step). form_around p h.part) (sym e) ∙ h.whole in
    subst (λ (u : Form). Makes u ps (Ok made)) same (h.held, h.made_of)

-- of one or two expressions
module _ (p : SyntaxTrees) where
  pub first_vacant : (o : Option Fault)
      → IfSome o (IsVacantAt (form_of p.first) (places_of p.first))
      → IfSome o (HasPartFault (forms_of p) (all_places_of p))
  first_vacant None h = tt
  first_vacant (Some (faults.Moment byte)) h =
      vacant_front (spans_of (form_of p.first)) (second_spans (second_form p.second))
      (places_of p.first) (second_places p.second) byte h
  first_vacant (Some fault) h = absurd h

  pub second_vacant : (second : SyntaxTree) (o : Option Fault) → p.second ≡ Some second
      → AllByRecursion HasPosition (spans_of (form_of p.first))
      → IfSome o (IsVacantAt (form_of second) (places_of second))
      → IfSome o (HasPartFault (forms_of p) (all_places_of p))
  second_vacant second None e held h = tt
  second_vacant second (Some (faults.Moment byte)) e held h =
      rw e (vacant_behind (spans_of (form_of p.first)) (spans_of (form_of second))
      (places_of p.first) (places_of second) byte (placed_spans p.first) held h)
  second_vacant second (Some fault) e held h = absurd h

  module _ (second : SyntaxTree) (e : p.second ≡ Some second)
      (held : AllByRecursion HasPosition (spans_of (form_of p.first)))
      (also : AllByRecursion HasPosition (spans_of (form_of second))) where
    both_held : AllByRecursion HasPosition (all_spans_of (forms_of p))
    both_held = rw e (all_both HasPosition (spans_of (form_of p.first)) (spans_of (form_of second))
        held also)

    text_faulty : (o : Option RruleFault) → option_or (rule_fault (form_of p.first))
        (rule_fault (form_of second)) ≡ None
        → IsSomeAnd o (λ f. option_or (rrule_fault (form_of p.first)) (rrule_fault (form_of second))
        ≡ Some f)
        → IfSome (option_map (λ (f : RruleFault). faults.Rrule f) o)
        (HasPartFault (forms_of p) (all_places_of p))
    text_faulty None none some = absurd some
    text_faulty (Some fault) none some = (both_held, rw e none, rw e some)

    pub both_faulty : (u : Unmade) → AreBothMade (form_of p.first) (form_of second) (Err u)
        → MakesAll (forms_of p) (all_places_of p) (Err (text_fault u))
    both_faulty (unmade.Rule fault) h = (both_held, rw e h)
    both_faulty (unmade.Rrule fault) h = text_faulty (fault_in_rrule fault) h.0 h.1

    pub both_made : (x y : Expr) → IsMadeOf (form_of p.first) (Ok x) → IsMadeOf (form_of second)
        (Ok y) → AreMadeOf (forms_of p) (record { first = x; second = Some y })
    both_made x y h k = record {
      held = both_held;
      ruled = rw (e, h.0, k.0) refl;
      written = rw (e, h.1, k.1) refl;
      trees = rw (e, h.2, k.2) refl;
    }

-- the fault of two expressions is not want of memory within another fault
pub both_without_memory : (t u : Form) (x : Unmade) → AreBothMade t u (Err x)
    → HasNoInnerMemory (text_fault x)
both_without_memory t u (unmade.Rule fault) h = tt
both_without_memory t u (unmade.Rrule rrules.Memory) h = absurd h.1
both_without_memory t u (unmade.Rrule fault) h = tt
