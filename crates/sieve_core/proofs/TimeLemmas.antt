-- The moments of one day, seen in a direction.
use Rattle.std.proofs.Common.{◌≡◌, ℕ, ◌+◌, ◌-◌, ◌/◌, ◌%◌, ◌<◌, ◌≤◌, true, false, ◌&&◌, refl, ap, ◌∙◌, arith, ℤ, pos, ◌+ℤ◌, ◌-ℤ◌, ◌*ℤ◌}
use Rattle.std.proofs.lemmas.Bool.{or_right, or_from, and_left, and_right}
use Rattle.std.proofs.lemmas.Bool.Decides.{nat_tests}
use Rattle.moment_core.proofs.FloorLemmas.{floor_arith}
use Rattle.moment_core.specs.declared.line.Dir.{Dir}
use Rattle.moment_core.specs.declared.line.Dir.TheVariants.{Fore, Back}
use Rattle.moment_core.specs.Sets.{ahead, seen}
use Rattle.moment_core.specs.TimeOfDay.{day_of, second_of_day}
use Rattle.sieve_core.specs.declared.tables.Sieve.{Sieve}
use Rattle.sieve_core.specs.Days.{meets_days}
use Rattle.sieve_core.specs.Members.{is_midnight, is_mark, meets_masks, meets_tests}
use Rattle.sieve_core.specs.Nearest.{IsNearest, steps_to_midnight}
use Rattle.sieve_core.specs.Times.{IsLeast, both, meets_minute, meets_second, meets_time, turn}

-- where a step leads within the day
pub ahead-in_day : (dir : Dir) (t : ℤ) (k : ℕ) → turn dir 86_400 (second_of_day t) + k < 86_400
    → (day_of (ahead dir t k) ≡ day_of t)
    × (second_of_day (ahead dir t k) ≡ turn dir 86_400 (turn dir 86_400 (second_of_day t) + k))
ahead-in_day Fore t k below = (omega (arith, floor_arith), omega (arith, floor_arith))
ahead-in_day Back t k below = (omega (arith, floor_arith), omega (arith, floor_arith))

-- the second of the day in a direction
pub meets_second-is : (s : Sieve) (dir : Dir) (n : ℕ) → n < 86_400 → meets_second s dir n
    ≡ meets_time s (turn dir 86_400 n)
unfolding meets_second meets_minute meets_time meets_masks both
meets_second-is s Fore n below =
    let hour : n / 60 / 60 ≡ n / 3600 = omega arith in
    rw hour refl
meets_second-is s Back n below =
    let hour : 24 - (n / 60 / 60 + 1) ≡ (86_400 - (n + 1)) / 3600 = omega arith in
    let minute : 60 - (n / 60 % 60 + 1) ≡ (86_400 - (n + 1)) / 60 % 60 = omega arith in
    let second : 60 - (n % 60 + 1) ≡ (86_400 - (n + 1)) % 60 = omega arith in
    rw (hour, minute, second) refl

pub meets_tests-is : (s : Sieve) (t : ℤ) → meets_tests s t
    ≡ (meets_days s.days (day_of t) && meets_time s (second_of_day t))
unfolding meets_tests meets_time
meets_tests-is s t = refl

-- the tests at a step within the day
pub tests-in_day : (s : Sieve) (dir : Dir) (t : ℤ) (k : ℕ) → turn dir 86_400 (second_of_day t) + k <
    86_400 → seen (meets_tests s) dir t k
    ≡ (meets_days s.days (day_of t) && meets_second s dir (turn dir 86_400 (second_of_day t) + k))
tests-in_day s dir t k below =
    let place = ahead-in_day dir t k below in
    meets_tests-is s (ahead dir t k)
    ∙ rw (place.0, place.1, meets_second-is s dir (turn dir 86_400 (second_of_day t) + k) below)
    refl

-- no midnight lies on the way to the next one
pub no_midnight : (dir : Dir) (t : ℤ) (k : ℕ) → 0 < second_of_day t → k < steps_to_midnight dir t
    → is_midnight (ahead dir t k) ≡ false
no_midnight Fore t k some below =
    let e : second_of_day (t +ℤ pos k) ≡ second_of_day t + k = omega (arith, floor_arith) in
    rw e (grind (arith, nat_tests))
no_midnight Back t k some below =
    let e : second_of_day (t -ℤ pos k) ≡ second_of_day t - k = omega (arith, floor_arith) in
    rw e (grind (arith, nat_tests))

pub turned_below : (dir : Dir) (t : ℤ) (k : ℕ) → k < steps_to_midnight dir t
    → turn dir 86_400 (second_of_day t) + k < 86_400
turned_below Fore t k below = omega (arith, floor_arith)
turned_below Back t k below = omega (arith, floor_arith)

-- the steps of one day end with the next midnight
pub turned_end : (dir : Dir) (t : ℤ) (k : ℕ) → turn dir 86_400 (second_of_day t) + k < 86_400
    → k ≤ steps_to_midnight dir t
turned_end Fore t k below = omega (arith, floor_arith)
turned_end Back t k below = omega (arith, floor_arith)

clear-at : (s : Sieve) (dir : Dir) (t : ℤ) (k : ℕ) → 0 < second_of_day t → k < steps_to_midnight dir
    t → (meets_days s.days (day_of t) && meets_second s dir (turn dir 86_400 (second_of_day t) + k))
    ≡ false → seen (is_mark s) dir t k ≡ false
unfolding is_mark
clear-at s dir t k some below e =
    or_from _ _ (no_midnight dir t k some below)
    (tests-in_day s dir t k (turned_below dir t k below) ∙ e)

-- on a day that isn't met, or at which no time is left, there is nothing up to midnight
pub clear-unmet_day : (s : Sieve) (dir : Dir) (t : ℤ) → 0 < second_of_day t
    → meets_days s.days (day_of t) ≡ false → (k : ℕ) → k < steps_to_midnight dir t
    → seen (is_mark s) dir t k ≡ false
clear-unmet_day s dir t some e k below = clear-at s dir t k some below (and_left _ _ e)

pub clear-no_time : (s : Sieve) (dir : Dir) (t : ℤ) → 0 < second_of_day t
    → ((k : ℕ) → turn dir 86_400 (second_of_day t) ≤ k → k < 86_400 → meets_second s dir k ≡ false)
    → (k : ℕ) → k < steps_to_midnight dir t → seen (is_mark s) dir t k ≡ false
clear-no_time s dir t some none k below = clear-at s dir t k some below
    (and_right _ _ (none (turn dir 86_400 (second_of_day t) + k) (omega arith)
    (turned_below dir t k below)))

-- nor is there where the first time that is met is midnight itself
up-to-midnight : (dir : Dir) (t : ℤ) (n k : ℕ) → turn dir 86_400 (second_of_day t) ≤ n
    → 0 < second_of_day t → turn dir 86_400 n ≡ 0 → n < 86_400 → k < steps_to_midnight dir t
    → turn dir 86_400 (second_of_day t) + k < n
up-to-midnight Fore t n k low some e high below = absurd (omega arith)
up-to-midnight Back t n k low some e high below = omega (arith, floor_arith)

pub clear-midnight : (s : Sieve) (dir : Dir) (t : ℤ) (n : ℕ) → 0 < second_of_day t
    → IsLeast (meets_second s dir) (turn dir 86_400 (second_of_day t)) 86_400 n → turn dir 86_400 n
    ≡ 0 → (k : ℕ) → k < steps_to_midnight dir t → seen (is_mark s) dir t k ≡ false
clear-midnight s dir t n some least e k below =
    clear-at s dir t k some below
    (and_right _ _ (least.none_before (turn dir 86_400 (second_of_day t) + k) (omega arith)
    (up-to-midnight dir t n k least.low some e least.high below)))

-- the first time that is met, on a day that is
place-in_day : (dir : Dir) (t u : ℤ) (n : ℕ) → n < 86_400 → turn dir 86_400 (second_of_day t) ≤ n
    → u ≡ day_of t *ℤ pos 86_400 +ℤ pos (turn dir 86_400 n) → u
    ≡ ahead dir t (n - turn dir 86_400 (second_of_day t))
place-in_day Fore t u n below low e = omega (arith, floor_arith)
place-in_day Back t u n below low e = omega (arith, floor_arith)

pub nearest-in_day : (s : Sieve) (dir : Dir) (t u : ℤ) (n : ℕ) → 0 < second_of_day t
    → IsLeast (meets_second s dir) (turn dir 86_400 (second_of_day t)) 86_400 n
    → meets_days s.days (day_of t) ≡ true → u ≡ day_of t *ℤ pos 86_400 +ℤ pos (turn dir 86_400 n)
    → IsNearest (is_mark s) dir t u × (meets_tests s u ≡ true)
unfolding is_mark
nearest-in_day s dir t u n some least day e =
    let from = turn dir 86_400 (second_of_day t) in
    let low = least.low in
    let high = least.high in
    let place = place-in_day dir t u n high low e in
    let whole : from + (n - from) ≡ n = omega arith in
    let end = turned_end dir t (n - from) (omega arith) in
    let there : seen (meets_tests s) dir t (n - from) ≡ true = tests-in_day s dir t (n - from)
    (omega arith) ∙ rw (whole, day, least.meets) refl in
    let tests : meets_tests s u ≡ true = ap (meets_tests s) place ∙ there in (
      record {
        steps = n - from;
        place = place;
        meets = or_right (is_midnight u) (meets_tests s u) tests;
        none_before =
            λ k below. clear-at s dir t k some (omega arith)
            (and_right _ _ (least.none_before (from + k) (omega arith) (omega arith)));
      },
      tests,
    )

-- and otherwise midnight
pub nearest-midnight : (s : Sieve) (dir : Dir) (t u : ℤ) → u ≡ ahead dir t (steps_to_midnight dir t)
    → is_midnight u ≡ true → ((k : ℕ) → k < steps_to_midnight dir t → seen (is_mark s) dir t k
    ≡ false) → IsNearest (is_mark s) dir t u
unfolding is_mark
nearest-midnight s dir t u place at none = record {
  steps = steps_to_midnight dir t;
  place = place;
  meets = rw at refl;
  none_before = none;
}

-- a midnight is where it is
pub nearest-here : (s : Sieve) (dir : Dir) (t : ℤ) → second_of_day t ≡ 0 → IsNearest (is_mark s) dir
    t t
unfolding is_mark
nearest-here s dir t e = record {
  steps = 0;
  place = here dir;
  meets = rw e refl;
  none_before =
      λ k below. absurd (omega arith);
}
  where
    here : (dir : Dir) → t ≡ ahead dir t 0
    here Fore = omega (arith, floor_arith)
    here Back = omega (arith, floor_arith)
