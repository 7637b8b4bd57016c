-- The way of a search from a moment, step by step.
use Rattle.std.specs.Prelude.{◌≡◌, ◌<◌, ◌≤◌, ℕ, ◌+◌, ◌-◌, Bool, true, false, ℤ, ◌≤ℤ◌, Option, Some, None}
use Rattle.moment_core.specs.declared.line.Dir.{Dir}
use Rattle.moment_core.specs.declared.line.Dir.TheVariants.{Fore, Back}
use Rattle.moment_core.specs.declared.line.Moment.{Moment}
use Rattle.moment_core.specs.Sets.{ahead, seen}
use Rattle.moment_core.specs.TimeOfDay.{second_of_day}
use Rattle.sieve_core.specs.declared.tables.Sieve.{Sieve}
use Rattle.sieve_core.specs.Members.{is_between, is_mark, meets_tests}

-- not before the end of the sieve at which a search comes in
abbrev pub IsPastNearEnd : Sieve → Dir → ℤ → Type 0
IsPastNearEnd s Fore u = s.first.0 ≤ℤ u
IsPastNearEnd s Back u = u ≤ℤ s.last.0

-- from the first moment past t that isn't before the sieve's near end
pub record IsStart (s : Sieve) (dir : Dir) (t u : ℤ) : Type 0 where
  pub gap : ℕ
  pub place : u ≡ ahead dir t (gap + 1)
  pub none_before : (k : ℕ) → 0 < k → k ≤ gap → seen (is_between s) dir t k ≡ false
  pub near : IsPastNearEnd s dir u

-- u is the nearest moment at or past t that passes the test
pub record IsNearest (test : ℤ → Bool) (dir : Dir) (t u : ℤ) : Type 0 where
  pub steps : ℕ
  pub place : u ≡ ahead dir t steps
  pub meets : test u ≡ true
  pub none_before : (k : ℕ) → k < steps → seen test dir t k ≡ false

-- how many steps to the next midnight
abbrev pub steps_to_midnight : Dir → ℤ → ℕ
steps_to_midnight Fore t = 86_400 - second_of_day t
steps_to_midnight Back t = second_of_day t

-- the moment of an answer
abbrev pub moment_in : Option Moment → Option ℤ
moment_in (Some u) = Some u.0
moment_in None = None

-- the nearest mark before that midnight, if there is one, meets the tests
abbrev pub IsNearestOfDay : Sieve → Dir → ℤ → Option ℤ → Type 0
IsNearestOfDay s dir t (Some u) = IsNearest (is_mark s) dir t u × (meets_tests s u ≡ true)
IsNearestOfDay s dir t None =
    (k : ℕ) → k < steps_to_midnight dir t → seen (is_mark s) dir t k ≡ false
