-- The first fault of several.
use Rattle.std.specs.Prelude.{Bool, List, Option, Some, None, option_map, Result, Ok, Err, if◌then◌else◌}
use Rattle.std.specs.List.{find}
use Rattle.rule_core.specs.declared.part.RuleFault.{RuleFault}

-- the fault whose test is the first to be met
unfoldable pub first_fault : List (Bool × RuleFault) → Option RuleFault
first_fault tests =
    option_map (λ (x : Bool × RuleFault). x.1) (find (λ (x : Bool × RuleFault). x.0) tests)

abbrev pub judged : Option RuleFault → Result (Unit {0}) RuleFault
judged None = Ok tt
judged (Some fault) = Err fault

abbrev pub fault_where : Bool → RuleFault → Option RuleFault
fault_where test fault = if test then Some fault else None
