use Rattle.std.proofs.Common.{sym, subst}
use Rattle.sieve_core.specs.declared.tables.Sieve.{Sieve}
use Rattle.field_rules.specs.Leaves.{IsWholeSieve}
use Rattle.field_rules.specs.Lowered.{IsSieveOfRule}
use Rattle.field_rules.proofs.FieldMeanings.{means_same}
use Rattle.field_rules.proofs.lowering.lower_field.Goals as goal

pub returns : goal.returns
returns c =
    let P : Sieve → Type 0 = λ s. IsSieveOfRule c.args.rule.now s in
    let Q : Sieve → Type 0 = λ s. IsWholeSieve s in
    means_same c.args.rule.now c.guarded.result
    (subst P (sym c.guarded.ensures) c.sieve_of.ensures.rule)
    (subst Q (sym c.guarded.ensures) c.sieve_of.ensures.whole)
