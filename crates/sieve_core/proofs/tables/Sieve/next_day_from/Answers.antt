use Rattle.std.proofs.Common.{◌∙◌, sym, ap, arith, w64, to_z, of_z, unsigned_abs, ◌≡◌, ◌-ℤ◌, true}
use Rattle.moment_core.proofs.FloorLemmas.{floor_arith, one_part}
use Rattle.sieve_core.specs.Seek.{day_at, is_working_day}
use Rattle.sieve_core.specs.Times.{turn}
use Rattle.sieve_core.proofs.SeekLemmas.{days-fewer, near-month, reached-end, reached-first, reached-found, reached-next, working_day-parts, working_day-fits}
use Rattle.sieve_core.proofs.tables.Sieve.next_day_from.Goals as goal

pub first_in-requires-clause-near : goal.first_in-requires-clause-near
first_in-requires-clause-near c =
    let at = c.loop-dir.invariant in
    let m = c.loop-dir.month in
    let day : to_z w64 (of_z w64 c.day_in.result) ≡ day_at m c.args.dir c.loop-dir.from = omega (
      arith,
      floor_arith,
      c.day_in.ensures.value,
      c.day_in.ensures.low,
      c.day_in.ensures.high,
    ) in
    near-month m c.args.dir c.loop-dir.from at.month at.within
    (sym (rw day at c.is_working_day.ensures) ∙ c.loop-dir-test.true)

pub next_month-month-requires-clause-near : goal.next_month-month-requires-clause-near
next_month-month-requires-clause-near c =
    let at = c.loop-dir.invariant in
    let m = c.loop-dir.month in
    let day : to_z w64 (of_z w64 c.day_in.result) ≡ day_at m c.args.dir c.loop-dir.from = omega (
      arith,
      floor_arith,
      c.day_in.ensures.value,
      c.day_in.ensures.low,
      c.day_in.ensures.high,
    ) in
    near-month m c.args.dir c.loop-dir.from at.month at.within
    (sym (rw day at c.is_working_day.ensures) ∙ c.loop-dir-test.true)

pub returns-clause-none : goal.returns-clause-none
returns-clause-none c =
    let m = c.loop-dir.month in
    let at = c.loop-dir.invariant in
    let day : to_z w64 (of_z w64 c.day_in.result) ≡ day_at m c.args.dir c.loop-dir.from = omega (
      arith,
      floor_arith,
      c.day_in.ensures.value,
      c.day_in.ensures.low,
      c.day_in.ensures.high,
    ) in
    let start : to_z w64 (of_z w64 c.args.day) ≡ c.args.day =
    working_day-fits c.args.day c.requires.day in
    reached-end c.args.self.now c.args.dir c.args.day m c.loop-dir.from (rw start at at)
    (sym (rw day at c.is_working_day.ensures) ∙ c.loop-dir-test.false)

pub returns-in-Some-clause-some : goal.returns-in-Some-clause-some
returns-in-Some-clause-some c =
    let m = c.loop-dir.month in
    let at = c.loop-dir.invariant in
    let day : to_z w64 (of_z w64 c.day_in-in-Some.result) ≡ day_at m c.args.dir c.in-Some.i = omega (
      arith,
      floor_arith,
      c.day_in-in-Some.ensures.value,
      c.day_in-in-Some.ensures.low,
      c.day_in-in-Some.ensures.high,
    ) in
    let start : to_z w64 (of_z w64 c.args.day) ≡ c.args.day =
    working_day-fits c.args.day c.requires.day in
    reached-found c.args.self.now c.args.dir c.args.day _ m c.loop-dir.from c.in-Some.i
    (rw start at at) c.in-Some.ensures day

pub loop-dir-preserved : goal.loop-dir-preserved
loop-dir-preserved c =
    let m = c.loop-dir.month in
    let at = c.loop-dir.invariant in
    let day : to_z w64 (of_z w64 c.day_in.result) ≡ day_at m c.args.dir c.loop-dir.from = omega (
      arith,
      floor_arith,
      c.day_in.ensures.value,
      c.day_in.ensures.low,
      c.day_in.ensures.high,
    ) in
    let working : is_working_day (day_at m c.args.dir c.loop-dir.from) ≡ true =
    sym (rw day at c.is_working_day.ensures) ∙ c.loop-dir-test.true in
    reached-next c.args.self.now c.args.dir _ m c.next_month-month.result c.loop-dir.from at
    c.in-None.ensures c.next_month-month.ensures.month c.next_month-month.ensures.place
    (near-month m c.args.dir c.loop-dir.from at.month at.within working)

pub loop-dir-smaller : goal.loop-dir-smaller
loop-dir-smaller c =
    let m = c.loop-dir.month in
    let at = c.loop-dir.invariant in
    let day : to_z w64 (of_z w64 c.day_in.result) ≡ day_at m c.args.dir c.loop-dir.from = omega (
      arith,
      floor_arith,
      c.day_in.ensures.value,
      c.day_in.ensures.low,
      c.day_in.ensures.high,
    ) in
    let working : is_working_day (day_at m c.args.dir c.loop-dir.from) ≡ true =
    sym (rw day at c.is_working_day.ensures) ∙ c.loop-dir-test.true in
    days-fewer m c.next_month-month.result c.args.dir c.loop-dir.from at.within at.month working
    c.next_month-month.ensures.place

pub loop-dir-init : goal.loop-dir-init
loop-dir-init c =
    let m = c.args.month in
    let start : to_z w64 (of_z w64 c.args.day) ≡ c.args.day =
    working_day-fits c.args.day c.requires.day in
    let index : unsigned_abs (to_z w64 (of_z w64 (to_z w64 (of_z w64 c.args.day) -ℤ to_z w64
    (of_z w64 m.first)))) ≡ unsigned_abs (c.args.day -ℤ m.first) = omega (
      arith,
      floor_arith,
      working_day-parts c.args.day c.requires.day,
      c.requires.low,
      c.requires.high,
      c.requires.month.lens,
    ) in
    rw start (reached-first c.args.self.now c.args.dir c.args.day m
    (unsigned_abs (c.args.day -ℤ m.first)) _ c.requires.day c.requires.month
    (omega (arith, floor_arith, one_part (c.args.day -ℤ m.first), c.requires.low))
    (omega (arith, floor_arith, one_part (c.args.day -ℤ m.first), c.requires.low, c.requires.high))
    (c.turn-from.ensures ∙ ap (turn c.args.dir m.len) index))
