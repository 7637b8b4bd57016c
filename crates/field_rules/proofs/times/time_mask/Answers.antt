use Rattle.std.proofs.Common.{◌<◌, not, ◌||◌, arith, ap, sym, ◌∙◌}
use Rattle.rule_core.specs.FieldMembers.{meets}
use Rattle.rule_core.specs.Values.{is_listed}
use Rattle.field_rules.proofs.TestLemmas.{meets_listed}
use Rattle.field_rules.proofs.times.time_mask.Goals as goal

pub returns-then-is_tested-clause-bits : goal.returns-then-is_tested-clause-bits
returns-then-is_tested-clause-bits c = λ k below.
    let small : k < 64 = omega arith in
    c.mask_of.ensures.bits k small ∙ ap (λ values. is_listed values c.args.len k) c.or_first.ensures
    ∙ sym (meets_listed c.args.values.now c.args.len 0 k)
    ∙ ap (λ b. not b || meets c.args.values.now c.args.len 0 k) (sym c.if-is_tested.true)
