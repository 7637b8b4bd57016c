use Rattle.std.proofs.Common.{◌≡◌, sym, arith, w64, to_z, of_z}
use Rattle.moment_core.proofs.FloorLemmas.{floor_arith}
use Rattle.moment_core.proofs.LineLaws.{ahead-zero}
use Rattle.moment_core.specs.TimeOfDay.{day_of}
use Rattle.sieve_core.proofs.SeekLemmas.{working_day-of}
use Rattle.sieve_core.proofs.tables.Sieve.next_day.Goals as goal

pub next_day_from-requires-clause-day : goal.next_day_from-requires-clause-day
next_day_from-requires-clause-day c =
    let day : to_z w64 (of_z w64 c.div_euclid-day.result) ≡ day_of c.args.t.0 = omega (
      arith,
      floor_arith,
      c.div_euclid-day.ensures,
      c.requires.moment,
    ) in
    rw day (working_day-of c.args.t.0 c.requires.moment)

pub returns-then-seeks_all-clause-some : goal.returns-then-seeks_all-clause-some
returns-then-seeks_all-clause-some c =
    let day : to_z w64 (of_z w64 c.div_euclid-day.result) ≡ day_of c.args.t.0 = omega (
      arith,
      floor_arith,
      c.div_euclid-day.ensures,
      c.requires.moment,
    ) in
    rw day (record {
      steps = 0;
      place = sym (ahead-zero c.args.dir (day_of c.args.t.0));
      meets = c.seeks_all.ensures c.if-seeks_all.true (day_of c.args.t.0)
          (working_day-of c.args.t.0 c.requires.moment);
      none_before = λ k below. absurd (omega (arith, below));
    })
