use Rattle.std.proofs.Common.{◌≡◌, ◌-◌, arith, w64, to_z, of_z, pos, ◌+ℤ◌, ◌*ℤ◌}
use Rattle.moment_core.proofs.FloorLemmas.{floor_arith}
use Rattle.sieve_core.proofs.tables.Sieve.is_month_in_turn.Goals as goal

pub returns-in-Month : goal.returns-in-Month
returns-in-Month c =
    let m = c.args.month.now in
    let number : to_z w64 (of_z w64 c.number.result) ≡ m.year *ℤ pos 12 +ℤ pos
    (m.month - 1) = omega (
      arith,
      floor_arith,
      c.number.ensures.value,
      c.number.ensures.low,
      c.number.ensures.high,
    ) in
    let phase : to_z w64 (of_z w64 c.args.self.now.phase) ≡ c.args.self.now.phase = omega (
      arith,
      floor_arith,
      c.requires.sieve.phase_low,
      c.requires.sieve.phase_high,
    ) in
    rw c.in-Month.is (rw (number, phase) at c.is_in_turn-in-Month.ensures)
