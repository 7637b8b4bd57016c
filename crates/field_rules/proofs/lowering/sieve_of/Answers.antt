use Rattle.std.proofs.Common.{◌≡◌, arith, refl, to_z, of_z, w64, ◌∙◌}
use Rattle.std.proofs.lemmas.Int.{ints}
use Rattle.field_rules.proofs.TestLemmas.{times_same}
use Rattle.field_rules.proofs.lowering.sieve_of.Goals as goal

pub returns-clause-rule : goal.returns-clause-rule
returns-clause-rule c =
    let within = c.phase_of.ensures.within in
    let phase : to_z w64 (of_z w64 c.phase_of.result) ≡ c.phase_of.result =
    omega (arith, ints, within.0, within.1) in
    record {
      unit = c.unit_of.ensures;
      interval = c.interval_of.ensures.value;
      phase = phase ∙ c.phase_of.ensures.number;
      days = c.day_test.ensures;
      times = times_same c.args.rule.now _ c.hours.ensures c.minutes.ensures c.seconds.ensures;
      rank = refl;
    }
