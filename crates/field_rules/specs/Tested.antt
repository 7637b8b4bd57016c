-- The values that a field rule tests, with first values put in for the fields that it may give and
-- doesn't.
use Rattle.std.specs.Prelude.{ℤ, pos, List, [], ◌∷◌, if◌then◌else◌}
use Rattle.rule_core.specs.FieldChecks.{is_yearly}
use Rattle.rule_core.specs.Values.{is_given}
use Rattle.rule_core.specs.declared.field.Counted.{Counted}
use Rattle.rule_core.specs.declared.field.Counted.TheVariants.{OfYear, OfMonth, OfWeek}
use Rattle.rule_core.specs.declared.field.FieldRule.{FieldRule}

-- the values, or where there are none the first one
abbrev pub or_first : List ℤ → List ℤ → List ℤ
or_first values first = if is_given values then values else first

-- what the rule tests, by what its days count: months and days of the month, days of the year, or
-- weeks and weekdays
abbrev pub yearly_months : FieldRule → List ℤ
yearly_months r = if is_yearly r.freq then or_first r.months (pos 1 ∷ []) else []

abbrev pub months_by : Counted → FieldRule → List ℤ
months_by OfMonth r = yearly_months r
months_by c r = []

abbrev pub month_days_by : Counted → FieldRule → List ℤ
month_days_by OfMonth r = or_first r.days (pos 1 ∷ [])
month_days_by c r = []

abbrev pub year_days_by : Counted → FieldRule → List ℤ
year_days_by OfYear r = or_first r.days (pos 1 ∷ [])
year_days_by c r = []

abbrev pub weeks_by : Counted → FieldRule → List ℤ
weeks_by OfWeek r = r.weeks
weeks_by c r = []

abbrev pub week_days_by : Counted → FieldRule → List ℤ → List ℤ
week_days_by OfWeek r first = or_first r.days first
week_days_by c r first = []
