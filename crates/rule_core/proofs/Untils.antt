-- The first and the last moment that UNTIL may name.
use Rattle.std.proofs.Common.{◌≡◌, refl, arith, ℤ, pos, neg_ℤ, ◌≤ℤ◌, int_le, true, ◌&&◌}
use Rattle.std.proofs.lemmas.Int.{ints}
use Rattle.rule_core.specs.IcalChecks.{is_until}
use Rattle.rule_core.specs.Laws.{UntilsAreOfYears}
use Rattle.moment_core.specs.Calendar.{days_of_months, days_of_years, day_number, first_day, is_leap}
use Rattle.moment_core.specs.TimeOfDay.{seconds_of}

pub first_until : seconds_of (pos 0) 1 1 0 0 0 ≡ neg_ℤ (pos 62_167_219_200)
unfolding first_day day_number days_of_years days_of_months is_leap
first_until = refl

pub last_until : seconds_of (pos 9999) 12 31 23 59 59 ≡ pos 253_402_300_799
unfolding first_day day_number days_of_years days_of_months is_leap
last_until = refl

within : (low high z : ℤ) → (int_le low z && int_le z high) ≡ true → (low ≤ℤ z) × (z ≤ℤ high)
within low high z e = (grind (arith, ints), grind (arith, ints))

pub untils_are_of_years : UntilsAreOfYears
unfolding is_until
untils_are_of_years m e = within (neg_ℤ (pos 62_167_219_200)) (pos 253_402_300_799) m.0
    (rw (first_until, last_until) at e)
