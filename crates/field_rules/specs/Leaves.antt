-- A rule made ready to be searched.
use Rattle.std.specs.Prelude.{◌≡◌, ℕ, ◌+ℤ◌, ◌-ℤ◌, Option, Some, None}
use Rattle.std.specs.Int.{IsInRange}
use Rattle.frame_core.specs.Periods.{in_width, period_of_rule}
use Rattle.frame_core.specs.declared.frames.Frame.{Frame}
use Rattle.moment_core.specs.Line.{position_of}
use Rattle.moment_core.specs.declared.line.TheConstants.{LOW, HIGH, REACH}
use Rattle.sieve_core.specs.Sieves.{IsSieve}
use Rattle.moment_core.specs.Units.{units_of}
use Rattle.sieve_core.specs.declared.tables.Sieve.{Sieve}

-- a sieve of the whole working range
pub record IsWholeSieve (s : Sieve) : Type 0 where
  pub sieve : IsSieve s
  pub first : s.first.0 ≡ LOW -ℤ REACH
  pub last : s.last.0 ≡ HIGH +ℤ REACH
  pub weekday : IsInRange 1 7 s.days.first

-- it repeats everywhere
abbrev pub framed_everywhere : Option ℕ → Option Frame
framed_everywhere None = None
framed_everywhere (Some period) = Some (record {
  lo = record { 0 = position_of (HIGH +ℤ REACH) };
  hi = record { 0 = position_of (LOW -ℤ REACH) };
  period = period;
})

abbrev pub frame_of_rule : Sieve → Option Frame
frame_of_rule s = framed_everywhere (in_width (period_of_rule (units_of s.unit) s.interval))
