-- A week begins on a weekday.
use Rattle.std.proofs.Common.{◌≡◌, ℤ, pos, true, Option, Some, None, refl, arith}
use Rattle.std.specs.Prelude.{unsigned_abs}
use Rattle.std.specs.Int.{IsInRange}
use Rattle.std.proofs.lemmas.Int.{ints}
use Rattle.rule_core.specs.declared.part.Part.TheVariants.{WeekStart}
use Rattle.rule_core.specs.FieldMembers.{first_weekday}
use Rattle.rule_core.specs.Laws.{WeekStartFits}
use Rattle.rule_core.specs.Values.{is_within}
use Rattle.rule_core.proofs.Checked.{field_values_fit}

weekday_within : (n : ℤ) → is_within (pos 1) (pos 7) n ≡ true → IsInRange 1 7 (unsigned_abs n)
weekday_within n e = (grind (arith, ints), grind (arith, ints))

given_within : (first : Option ℤ) → ((n : ℤ) → first ≡ Some n → is_within (pos 1) (pos 7) n ≡ true)
    → IsInRange 1 7 (first_weekday first)
given_within None h = (omega arith, omega arith)
given_within (Some n) h = weekday_within n (h n refl)

pub week_start_fits : WeekStartFits
week_start_fits r e =
    given_within r.week_start
    (λ n is. let fit = rw is at (field_values_fit r WeekStart e) in fit 0 n (omega arith))
