use Rattle.std.proofs.Common.{arith}
use Rattle.moment_core.proofs.FloorLemmas.{floor_arith}
use Rattle.sieve_core.proofs.SeekLemmas.{working_day-parts}
use Rattle.sieve_core.proofs.seek.second_of.Goals as goal

pub overflow_mul-result : goal.overflow_mul-result
overflow_mul-result c =
    let w = working_day-parts c.args.day c.requires.day in
    omega (arith, floor_arith, w)

pub overflow_add-result : goal.overflow_add-result
overflow_add-result c =
    let w = working_day-parts c.args.day c.requires.day in
    omega (arith, floor_arith, w, c.requires.second)

pub returns-clause-working : goal.returns-clause-working
returns-clause-working c =
    let w = working_day-parts c.args.day c.requires.day in (
      omega (arith, floor_arith, w, c.requires.second),
      omega
          (arith, floor_arith, w, c.requires.second),
    )

pub returns-clause-day : goal.returns-clause-day
returns-clause-day c =
    let w = working_day-parts c.args.day c.requires.day in
    omega (arith, floor_arith, w, c.requires.second)

pub returns-clause-second : goal.returns-clause-second
returns-clause-second c =
    let w = working_day-parts c.args.day c.requires.day in
    omega (arith, floor_arith, w, c.requires.second)
