-- Why a text isn't read.
use Rattle.std.specs.Prelude.{◌≡◌, IfSome, Option, Some, None, Result, Ok, Err}
use Rattle.rule_core.specs.declared.part.Part.{Part}
use Rattle.rule_core.specs.declared.part.RuleFault.{RuleFault}
use Rattle.rrule_text.specs.declared.fault.RruleFault.{RruleFault}
use Rattle.rrule_text.specs.declared.fault.RruleFault.TheVariants as texts

-- the faults of a text, in the order in which they decide
pub data Fault : Type 0 where
  Syntax : Fault
  Repeated : (part : Part) → Fault
  Rule : (fault : RuleFault) → Fault

-- the fault of the text, unless memory ran out
abbrev pub fault_in : RruleFault → Option Fault
fault_in texts.Syntax = Some Syntax
fault_in (texts.Repeated part) = Some (Repeated part)
fault_in (texts.Rule fault) = Some (Rule fault)
fault_in texts.Memory = None

-- what a reader answers is what was wanted, unless memory ran out
abbrev pub Tells : {X : Type 0} → Result X Fault → Result X RruleFault → Type 0
Tells wanted (Ok x) = wanted ≡ Ok x
Tells wanted (Err fault) = IfSome (fault_in fault) (λ f. wanted ≡ Err f)
