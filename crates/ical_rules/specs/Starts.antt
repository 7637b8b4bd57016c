-- Where a rule begins and where it ends.
use Rattle.std.specs.Prelude.{◌≡◌, ◌<◌, ℤ, pos, neg_ℤ, ◌+ℤ◌, ◌≤ℤ◌, Bool, ◌&&◌, int_le, Option, Some, None}
use Rattle.std.specs.Int.{IsInRange}
use Rattle.civil_core.specs.declared.parts.CivilParts.{CivilParts}
use Rattle.moment_core.specs.Calendar.{day_of_month, month_of, weekday_of}
use Rattle.moment_core.specs.TimeOfDay.{day_of, hour_of, minute_of, second_of}
use Rattle.moment_core.specs.declared.line.Moment.{Moment}
use Rattle.moment_core.specs.declared.line.TheConstants.{HIGH, REACH}
use Rattle.rule_core.specs.IcalMembers.{is_by}
use Rattle.rule_core.specs.declared.ical.IcalRule.{IcalRule}
use Rattle.ical_rules.specs.Rules.{start_of}
use Rattle.ical_rules.specs.declared.outcome.Settled.{Settled}
use Rattle.ical_rules.specs.declared.outcome.Settled.TheVariants.{Last, Open}

-- the last member, where it is known
abbrev pub last_in : Settled → Option Moment
last_in (Last t) = Some t
last_in Open = None

-- a sieve ends with the working range, with UNTIL and with the last member, whichever comes first
abbrev pub ends_by : Option Moment → Option Moment → ℤ → Bool
ends_by until last t = int_le t (HIGH +ℤ REACH) && is_by until t && is_by last t

-- the last moment of a rule: one of the years 0 to 9999, or of the working range
abbrev pub IsLastMoment : ℤ → Type 0
IsLastMoment t = (neg_ℤ (pos 500_000_000_000) ≤ℤ t) × (t ≤ℤ pos 500_000_000_000)

-- the values that DTSTART gives
pub record IsStartOf (r : IcalRule) (p : CivilParts) : Type 0 where
  pub month : p.month ≡ month_of (day_of (start_of r))
  pub month_day : p.day ≡ day_of_month (day_of (start_of r))
  pub weekday : p.weekday ≡ weekday_of (day_of (start_of r))
  pub hour : p.hour ≡ hour_of (start_of r)
  pub minute : p.minute ≡ minute_of (start_of r)
  pub second : p.second ≡ second_of (start_of r)
  pub months : IsInRange 1 12 p.month
  pub month_days : IsInRange 1 31 p.day
  pub hours : p.hour < 24
  pub minutes : p.minute < 60
  pub seconds : p.second < 60
