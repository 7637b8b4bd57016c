use Rattle.std.proofs.Common.{arith}
use Rattle.std.proofs.lemmas.Int.{ints}
use Rattle.field_rules.proofs.Checks.{start_within}
use Rattle.field_rules.proofs.days.first_weekday.Goals as goal

pub overflow_cast-n : goal.overflow_cast-n
overflow_cast-n c =
    let within = start_within c.args.rule.now c.rule_laws.ensures.field_values c.requires
    c.in-Some.n c.in-Some.is in
    (omega (arith, ints, within.0, within.1), omega (arith, ints, within.0, within.1))

pub unwrap-requires : goal.unwrap-requires
unwrap-requires c =
    let within = start_within c.args.rule.now c.rule_laws.ensures.field_values c.requires
    c.in-Some.n c.in-Some.is in
    c.new.ensures.some.1 (
      omega (arith, ints, within.0, within.1),
      omega
          (arith, ints, within.0, within.1),
    )
