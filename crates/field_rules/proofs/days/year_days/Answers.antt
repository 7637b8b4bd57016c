use Rattle.std.proofs.Common.{List, ℤ, refl, sym, subst}
use Rattle.std.specs.Prelude.{All}
use Rattle.rule_core.specs.FieldChecks.{counted}
use Rattle.sieve_tables.specs.Lowered.{IsEntry}
use Rattle.field_rules.proofs.Checks.{year_days_are}
use Rattle.field_rules.proofs.days.year_days.Goals as goal

pub fill-requires-clause-entries : goal.fill-requires-clause-entries
fill-requires-clause-entries c =
    let P : List ℤ → Type 0 = λ values. All (IsEntry 384) values in
    subst P (sym c.year_days_of.ensures) (year_days_are (counted c.args.rule.now) c.args.rule.now
    c.rule_laws.ensures.field_values c.requires refl)
