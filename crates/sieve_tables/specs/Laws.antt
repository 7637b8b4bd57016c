-- What filled tables test.
use Rattle.std.specs.Prelude.{◌≡◌, ℕ, ◌+◌, ℤ, Bool, true, ◌||◌, ◌==◌, List, [], ◌∷◌}
use Rattle.std.specs.Int.{IsInRange}
use Rattle.std.specs.List.{list_all}
use Rattle.moment_core.specs.Calendar.{weekday_of}
use Rattle.rule_core.specs.IcalMembers.{meets_part}
use Rattle.sieve_core.specs.Bits.{has_bit, is_zero, meets_signed}
use Rattle.sieve_core.specs.Days.{meets_weekdays}
use Rattle.sieve_tables.specs.Lowered.{IsTableOf}

-- a signed table of a list tests v of 1 to n as the list does, in which a value below 0 counts back
-- from n + 1
abbrev pub TablesTestLists : Type 0
TablesTestLists =
    (words : List ℕ) (half n v : ℕ) (values : List ℤ) → IsTableOf words half values
    → IsInRange 1 n v
    → meets_signed words n v ≡ meets_part values (n + 1) v

-- without ordinals the weekday alone is tested
abbrev pub WeekdaysByThemselves : Type 0
WeekdaysByThemselves =
    (week_days : ℕ) (nth : List (List ℕ)) (in_month : Bool) (day : ℤ) → list_all is_zero nth ≡ true
    → meets_weekdays week_days nth in_month day
    ≡ ((week_days == 0) || has_bit (week_days ∷ []) (weekday_of day))
