use Rattle.std.proofs.Common.{List, ℤ, arith, ap, sym, subst, ◌∙◌}
use Rattle.std.specs.Prelude.{All}
use Rattle.rule_core.specs.FieldChecks.{counted}
use Rattle.rule_core.specs.IcalMembers.{meets_part}
use Rattle.sieve_tables.specs.Masks.{IsValue}
use Rattle.field_rules.proofs.Checks.{months_are}
use Rattle.field_rules.proofs.TestLemmas.{mask_part}
use Rattle.field_rules.proofs.days.months.Goals as goal

pub mask_of-requires-clause-values : goal.mask_of-requires-clause-values
mask_of-requires-clause-values c =
    let P : List ℤ → Type 0 = λ values. All (IsValue 13) values in
    subst P (sym c.months_of.ensures) (months_are (counted c.args.rule.now) c.args.rule.now
    c.rule_laws.ensures.field_values c.requires)

pub returns : goal.returns
returns c = λ k within.
    mask_part c.mask_of.result 13 k c.months_of.result.now c.mask_of.ensures.none
    (c.mask_of.ensures.bits k (omega (arith, within.1)))
    ∙ ap (λ values. meets_part values 13 k) c.months_of.ensures
