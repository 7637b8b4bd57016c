-- Why a text isn't read.
use Rattle.std.specs.Prelude.{ℕ, Option, Some, None, option_map}
use Rattle.expr_text.specs.declared.fault.TextFault.{TextFault}
use Rattle.expr_text.specs.declared.fault.TextFault.TheVariants as texts
use Rattle.rule_core.specs.declared.part.RuleFault.{RuleFault}
use Rattle.rrule_text.specs.Fault.{Fault as RruleFault, fault_in as fault_in_rrule}
use Rattle.rrule_text.specs.declared.fault.RruleFault.TheVariants as rrules
use Rattle.expr_tree.specs.declared.sorting.SortFault.{SortFault}

-- the faults of a text, in the order in which they decide
pub data Fault : Type 0 where
  Long : Fault
  Token : (byte : ℕ) → Fault
  Unbuilt : Fault
  Syntax : Fault
  Moment : (byte : ℕ) → Fault
  Rule : (fault : RuleFault) → Fault
  Rrule : (fault : RruleFault) → Fault
  Sort : (fault : SortFault) → Fault

-- the fault of the text, unless memory ran out
abbrev pub fault_in : TextFault → Option Fault
fault_in texts.Long = Some Long
fault_in (texts.Token byte) = Some (Token byte)
fault_in texts.Unbuilt = Some Unbuilt
fault_in texts.Syntax = Some Syntax
fault_in (texts.Moment byte) = Some (Moment byte)
fault_in (texts.Rule fault) = Some (Rule fault)
fault_in (texts.Rrule fault) = option_map Rrule (fault_in_rrule fault)
fault_in (texts.Sort fault) = Some (Sort fault)
fault_in texts.Memory = None

-- want of memory is a fault of its own, and stands in no other one
abbrev pub HasNoInnerMemory : TextFault → Type 0
HasNoInnerMemory (texts.Rrule rrules.Memory) = ⊥
HasNoInnerMemory fault = Unit {0}
