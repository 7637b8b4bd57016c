-- The phases behind that of the literals, from what is made of the expressions.
use Rattle.std.proofs.Common.{◌≡◌, ℕ, List, Option, Some, None, Result, Ok, Err, subst, ap, ◌∙◌, sym}
use Rattle.std.specs.Prelude.{IfSome, option_map}
use Rattle.phases.specs.Phases.{Then, fails, goes_on}
use Rattle.expr_tree.specs.Tree.{Trees, trees_of}
use Rattle.expr_tree.specs.declared.sorting.SortFault.{SortFault}
use Rattle.expr_tree.specs.declared.tree.Program.{Program}
use Rattle.expr_text.specs.Accepted.{AreRules, HasPositions, IsSorted, Spelling, held, or_rrule_fault, or_rule_fault, sorted, unsorted, vacant}
use Rattle.expr_text.specs.Fault.{Fault}
use Rattle.expr_text.specs.Fault as faults
use Rattle.expr_text.specs.Faults.{FirstVacant, all_spans_of, sort_fault, span_places}
use Rattle.expr_text.specs.Making.{AreMadeOf, HasPartFault}

abbrev AreParts : Spelling → Result Trees Fault → Type 0
AreParts = Then HasPositions AreRules

module _ (s : Spelling) where
  -- a span without a position, or a fault of a rule or of its text
  pub part_fault : (ps : List ℕ) (o : Option Fault) → ps ≡ span_places s.tokens
      → IfSome o (HasPartFault s.forms ps)
      → IfSome (option_map (λ (f : Fault). Err f) o) (AreParts s)
  part_fault ps None e h = tt
  part_fault ps (Some (faults.Moment byte)) e h =
      fails (faults.Moment byte)
      (vacant byte (subst (λ (qs : List ℕ). FirstVacant (all_spans_of s.forms) qs byte) e h))
  part_fault ps (Some (faults.Rule fault)) e h =
      goes_on s.forms _ (held h.0)
      (fails (faults.Rule fault) (ap (or_rule_fault s.forms) (sym h.1)))
  part_fault ps (Some (faults.Rrule fault)) e h =
      goes_on s.forms _ (held h.0) (goes_on s.forms _ (ap (or_rule_fault s.forms) (sym h.1))
      (fails (faults.Rrule fault) (ap (or_rrule_fault s.forms) (sym h.2))))
  part_fault ps (Some fault) e h = absurd h

  module _ (sets : Program) (made : AreMadeOf s.forms sets) where
    past_parts : (r : Result Trees Fault) → IsSorted s.forms r → AreParts s r
    past_parts r h =
        goes_on s.forms r (held made.held)
        (goes_on s.forms r (ap (or_rule_fault s.forms) (sym made.ruled))
        (goes_on s.forms r (ap (or_rrule_fault s.forms) (sym made.written)) h))

    -- the sets have sorts, or a fault
    pub parts_sorted : (trees : Trees) → trees ≡ trees_of sets → sort_fault (trees_of sets) ≡ None
        → AreParts s (Ok trees)
    parts_sorted trees e none =
        past_parts (Ok trees) (sorted trees (made.trees ∙ ap (λ (x : Trees). Some x) (sym e))
        (ap sort_fault e ∙ none))

    pub parts_unsorted : (fault : SortFault) → sort_fault (trees_of sets) ≡ Some fault
        → AreParts s (Err (faults.Sort fault))
    parts_unsorted fault e = past_parts (Err (faults.Sort fault))
        (unsorted (trees_of sets) fault made.trees e)
