-- Which texts are accepted, and what reading one answers.
use Rattle.std.specs.Prelude.{◌≡◌, ℕ, ◌-◌, nat_lt, List, length, map, Option, Some, None, Result, Ok, Err, if◌then◌else◌}
use Rattle.std.specs.List.{AllByRecursion}
use Rattle.expr_tokens.specs.Plain.{Token}
use Rattle.expr_tokens.specs.Reading.{Found, reading_of}
use Rattle.expr_grammar.specs.Form.{Forms}
use Rattle.expr_grammar.specs.Grammar.{Spells}
use Rattle.expr_tree.specs.Tree.{Trees}
use Rattle.rule_core.specs.declared.part.RuleFault.{RuleFault}
use Rattle.rrule_text.specs.Fault.{Fault as RruleFault}
use Rattle.expr_tree.specs.declared.sorting.SortFault.{SortFault}
use Rattle.expr_text.specs.Fault.{Fault}
use Rattle.expr_text.specs.Fault as faults
use Rattle.expr_text.specs.declared.fault.TheConstants.{LONGEST}
use Rattle.expr_text.specs.Calls.{calls_unbuilt}
use Rattle.phases.specs.Phases.{By, Then}
use Rattle.expr_text.specs.Trees.{trees_from}
use Rattle.expr_text.specs.Faults.{Tokens, kinds_of, all_spans_of, first_nameless, span_places, HasPosition, FirstVacant, first_rule_fault, first_rrule_fault, sort_fault}

-- the text, where it isn't too long
abbrev pub unless_long : List ℕ → Result (List ℕ) Fault
unless_long text = if nat_lt LONGEST (length text) then Err faults.Long else Ok text

-- the tokens, where one begins at each byte that isn't within one and no space
abbrev pub with_places : ℕ → Found → Result Tokens Fault
with_places size (Ok found) = Ok (map (λ (x : Token × ℕ). (x.0, size - x.1)) found)
with_places size (Err left) = Err (faults.Token (size - left))

abbrev pub tokens_in : List ℕ → Result Tokens Fault
tokens_in text = with_places (length text) (reading_of text)

-- the tokens, where each call is built
abbrev pub unless_unbuilt : Tokens → Result Tokens Fault
unless_unbuilt ts = if calls_unbuilt (kinds_of ts) then Err faults.Unbuilt else Ok ts

-- tokens, and what they spell
pub record Spelling : Type 0 where
  pub tokens : Tokens
  pub forms : Forms

abbrev pub spelling : Tokens → Forms → Spelling
spelling ts p = record { tokens = ts; forms = p }

pub data IsSpelled (ts : Tokens) : Result Spelling Fault → Type 0 where
  spelled : (p : Forms) → Spells p (kinds_of ts)
      → IsSpelled ts (Ok (record { tokens = ts; forms = p }))
  unspelled : ((p : Forms) → Spells p (kinds_of ts) → ⊥) → IsSpelled ts (Err faults.Syntax)

-- the spelling, where each literal names a moment
abbrev pub or_nameless : Spelling → Option ℕ → Result Spelling Fault
or_nameless s None = Ok s
or_nameless s (Some byte) = Err (faults.Moment byte)

abbrev pub unless_nameless : Spelling → Result Spelling Fault
unless_nameless s = or_nameless s (first_nameless s.tokens)

-- the expressions, where each span has a position
pub data HasPositions (s : Spelling) : Result Forms Fault → Type 0 where
  held : AllByRecursion HasPosition (all_spans_of s.forms) → HasPositions s (Ok s.forms)
  vacant : (byte : ℕ) → FirstVacant (all_spans_of s.forms) (span_places s.tokens) byte
      → HasPositions s (Err (faults.Moment byte))

-- the expressions, where each rule by fields is one
abbrev pub or_rule_fault : Forms → Option RuleFault → Result Forms Fault
or_rule_fault p None = Ok p
or_rule_fault p (Some fault) = Err (faults.Rule fault)

abbrev pub unless_rule_fault : Forms → Result Forms Fault
unless_rule_fault p = or_rule_fault p (first_rule_fault p)

-- the expressions, where each text of a rule of RFC 5545 is that of one
abbrev pub or_rrule_fault : Forms → Option RruleFault → Result Forms Fault
or_rrule_fault p None = Ok p
or_rrule_fault p (Some fault) = Err (faults.Rrule fault)

abbrev pub unless_rrule_fault : Forms → Result Forms Fault
unless_rrule_fault p = or_rrule_fault p (first_rrule_fault p)

-- the trees, where they have a sort
pub data IsSorted (p : Forms) : Result Trees Fault → Type 0 where
  sorted : (trees : Trees) → trees_from p ≡ Some trees → sort_fault trees ≡ None
      → IsSorted p (Ok trees)
  unsorted : (trees : Trees) (fault : SortFault) → trees_from p ≡ Some trees
      → sort_fault trees ≡ Some fault
      → IsSorted p (Err (faults.Sort fault))

-- the trees of rules without a fault
abbrev pub AreRules : Forms → Result Trees Fault → Type 0
AreRules = Then (By unless_rule_fault) (Then (By unless_rrule_fault) IsSorted)

-- What a text is read as, or its fault: all phases in their order, each over the whole text.
abbrev pub IsMeant : Spelling → Result Trees Fault → Type 0
IsMeant = Then (By unless_nameless) (Then HasPositions AreRules)

abbrev pub AreRead : Tokens → Result Trees Fault → Type 0
AreRead = Then (By unless_unbuilt) (Then IsSpelled IsMeant)

abbrev pub IsRead : List ℕ → Result Trees Fault → Type 0
IsRead = Then (By unless_long) (Then (By tokens_in) AreRead)
