-- What every call of a sieve asks of it.
use Rattle.std.specs.Prelude.{◌≤◌, ◌≤ℤ◌}
use Rattle.moment_core.specs.declared.line.TheConstants.{LOW, HIGH}
use Rattle.sieve_core.specs.declared.tables.Sieve.{Sieve}

-- units come round, and the phase is in the calendar range
pub record IsSieve (s : Sieve) : Type 0 where
  pub interval : 1 ≤ s.interval
  pub phase_low : LOW ≤ℤ s.phase
  pub phase_high : s.phase ≤ℤ HIGH
