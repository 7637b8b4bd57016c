use Rattle.std.proofs.Common.{List, ℤ, arith, ap, refl, sym, subst, ◌∙◌}
use Rattle.std.specs.Prelude.{All}
use Rattle.rule_core.specs.FieldChecks.{counted}
use Rattle.rule_core.specs.IcalMembers.{meets_part}
use Rattle.sieve_tables.specs.Masks.{IsValue}
use Rattle.field_rules.proofs.Checks.{week_days_are}
use Rattle.field_rules.proofs.TestLemmas.{first_listed, mask_part}
use Rattle.field_rules.proofs.days.week_days.Goals as goal

pub mask_of-requires-clause-values : goal.mask_of-requires-clause-values
mask_of-requires-clause-values c =
    let P : List ℤ → Type 0 = λ values. All (IsValue 8) values in
    subst P (sym (c.week_days_of.ensures ∙ first_listed (counted c.args.rule.now) c.args.rule.now
    c.number.result (c.number.ensures.value ∙ c.first_weekday.ensures) c.number.ensures.within.1))
    (week_days_are (counted c.args.rule.now) c.args.rule.now
    (c.rule_laws.ensures.week_start c.args.rule.now c.requires) c.rule_laws.ensures.field_values
    c.requires refl)

pub returns : goal.returns
returns c = λ k within.
    mask_part c.mask_of.result 8 k c.week_days_of.result.now c.mask_of.ensures.none
    (c.mask_of.ensures.bits k (omega (arith, within.1)))
    ∙ ap (λ values. meets_part values 8 k) (c.week_days_of.ensures
    ∙ first_listed (counted c.args.rule.now) c.args.rule.now c.number.result (c.number.ensures.value
    ∙ c.first_weekday.ensures) c.number.ensures.within.1)
