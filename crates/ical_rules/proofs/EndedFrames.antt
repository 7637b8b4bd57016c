-- The frame of a rule that ends.
use Rattle.std.proofs.Common.{◌≡◌, ℤ, pos, ◌+ℤ◌, ◌-ℤ◌, ◌*ℤ◌, Option, Some, refl, arith, to_z, of_z, w64}
use Rattle.std.proofs.lemmas.Int.{ints}
use Rattle.frame_core.specs.declared.frames.Frame.{Frame}
use Rattle.moment_core.specs.Line.{IsCalendarMoment, position_of}
use Rattle.ical_rules.specs.Starts.{IsLastMoment}

abbrev ended : ℤ → ℤ → Option Frame
ended lo hi = Some (record { lo = record { 0 = lo }; hi = record { 0 = hi }; period = 1 })

-- nothing wraps
pub frame_is : (start last : ℤ) → IsCalendarMoment start → IsLastMoment last
    → ended (to_z w64
    (of_z w64 (to_z w64 (of_z w64 (pos 2 *ℤ to_z w64 (of_z w64 start))) -ℤ pos 1)))
    (to_z w64 (of_z w64 (to_z w64 (of_z w64 (pos 2 *ℤ to_z w64 (of_z w64 last))) +ℤ pos 1)))
    ≡ ended (position_of start -ℤ pos 1) (position_of last +ℤ pos 1)
frame_is start last here until =
    let low : to_z w64
    (of_z w64 (to_z w64 (of_z w64 (pos 2 *ℤ to_z w64 (of_z w64 start))) -ℤ pos 1))
    ≡ position_of start -ℤ pos 1 = omega (arith, ints, here.0, here.1) in
    let high : to_z w64
    (of_z w64 (to_z w64 (of_z w64 (pos 2 *ℤ to_z w64 (of_z w64 last))) +ℤ pos 1))
    ≡ position_of last +ℤ pos 1 = omega (arith, ints, until.0, until.1) in
    rw (low, high) refl
