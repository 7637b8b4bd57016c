-- The rule that dated fields stand for.
use Rattle.std.proofs.Common.{◌≡◌, pos, List, [], ◌∷◌, Option, Some, None, Result, Ok, Err, refl, arith}
use Rattle.std.specs.List.{AllByRecursion}
use Rattle.std.proofs.lemmas.Int.{ints}
use Rattle.moment_core.specs.Line.{IsCalendarMoment}
use Rattle.moment_core.specs.declared.line.Stamp.{Stamp}
use Rattle.rule_core.specs.FieldMembers.{start_of}
use Rattle.rule_core.specs.declared.part.RuleFault.{RuleFault}
use Rattle.expr_grammar.specs.Form.{FieldForm, Values, Start}
use Rattle.expr_grammar.specs.Made.{FieldHas, IsDated}
use Rattle.expr_text.specs.Rules.{fault_in_check, literal_in, start_from}

-- the start of dated fields
pub record Started (fields : List FieldForm) : Type 0 where
  pub start : Option Stamp
  pub found : start_from (literal_in fields) ≡ Some start
  pub in_range : IsCalendarMoment (start_of start)

zero_in_range : IsCalendarMoment (pos 0)
zero_in_range = grind (arith, ints)

pub started : (fields : List FieldForm) → AllByRecursion (FieldHas IsDated) fields → Started fields
started [] h = record { start = None; found = refl; in_range = zero_in_range }
started (Values key values ∷ fields) h = let x = started fields h.1 in
    record { start = x.start; found = x.found; in_range = x.in_range }
started (Start None ∷ fields) h = absurd h.0
started (Start (Some s) ∷ fields) h = record { start = Some s; found = refl; in_range = h.0 }

pub checked : (r : Result (Unit {0}) RuleFault) → fault_in_check r ≡ None → r ≡ Ok tt
checked (Ok done) e = refl
checked (Err fault) e = absurd cc

-- a literal that names a start is that start
pub same_start : (literal start : Option Stamp) → start_from (Some literal) ≡ Some start
    → start_from (Some literal) ≡ Some literal
same_start None start e = absurd cc
same_start (Some s) start e = refl
