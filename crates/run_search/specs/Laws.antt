-- What runs and budgets owe, both ways.
use Rattle.std.specs.Prelude.{◌≡◌, ◌⊎◌, ℕ, ℤ, pos, ◌≤ℤ◌, Bool, true}
use Rattle.moment_core.specs.Line.{IsCalendarPosition}
use Rattle.moment_core.specs.Sets.{seen, IsUpTo}
use Rattle.moment_core.specs.declared.line.Dir.{Dir}
use Rattle.moment_core.specs.declared.line.TheConstants.{REACH}
use Rattle.moment_core.specs.declared.line.Window.{Window}
use Rattle.span_core.specs.Answers.{IsFound}
use Rattle.span_core.specs.Bounds.{IsCalendarRun}
use Rattle.span_core.specs.declared.answers.Answer.TheVariants as answers
use Rattle.stored_pair.specs.Meanings.{Meaning}
use Rattle.expr_tree.specs.Members.{is_member}
use Rattle.expr_tree.specs.Sorts.{reach_of}
use Rattle.expr_tree.specs.Tree.{Tree}
use Rattle.search_core.specs.Ample.{IsAboveSearch, IsAmple}
use Rattle.search_core.specs.Due.{IsDue}
use Rattle.search_core.specs.Lawful.{AreLawful}
use Rattle.plan_core.specs.Plans.{window_of}
use Rattle.run_search.specs.Endless.{HoldsForEver}
use Rattle.run_search.specs.Places.{IsAmpleAt, PlacesWithin}
use Rattle.run_search.specs.Runs.{HasNoMember, IsFirstRun, item_between}

-- from a position of the range up to another there is a first run or no member, and no second first
-- run
abbrev pub RunsExist : Type 0
RunsExist =
    (set : ℤ → Bool) (dir : Dir) (p end : ℤ) → IsCalendarPosition p → IsCalendarPosition end
    → IsUpTo dir end p
    → ((near : ℤ) × (far : ℤ) × IsFirstRun set dir p end near far) ⊎ HasNoMember set dir p end

abbrev pub RunsAreUnique : Type 0
RunsAreUnique =
    (set : ℤ → Bool) (dir : Dir) (p end near far first last : ℤ) → IsFirstRun set dir p end near far
    → IsFirstRun set dir p end first last → (near ≡ first) × (far ≡ last)

-- where a search of a tree of lawful rules answers none, nothing ever differs
abbrev pub NoneIsForEver : Type 0
NoneIsForEver =
    (tree : Tree Meaning) (dir : Dir) (p : ℤ) (w : Window) → AreLawful tree → IsCalendarPosition p
    → IsFound (is_member tree) (window_of tree dir p) dir p (answers.None w) → (k : ℕ)
    → seen (is_member tree) dir p k ≡ is_member tree p

-- members of such a tree from a position of the range to another are a run without a bound only
-- where it never ends
abbrev pub ItemsHoldForEver : Type 0
ItemsHoldForEver =
    (tree : Tree Meaning) (low high : ℤ) → AreLawful tree → IsCalendarPosition low
    → IsCalendarPosition high → low ≤ℤ high
    → ((q : ℤ) → low ≤ℤ q → q ≤ℤ high → is_member tree q ≡ true)
    → HoldsForEver (is_member tree) low high (item_between (window_of tree) low high)

-- the moments of such a run's bounds are of the calendar range
abbrev pub ItemsAreInRange : Type 0
ItemsAreInRange =
    (tree : Tree Meaning) (low high : ℤ) → IsCalendarPosition low → IsCalendarPosition high
    → IsCalendarRun (item_between (window_of tree) low high)

-- for a tree that looks no farther than `REACH`, no stop is due from p, nor from the nearest
-- changes past it, for an ample budget
abbrev pub AmpleFindsAll : Type 0
AmpleFindsAll =
    (tree : Tree Meaning) (dir : Dir) (n : ℕ) (p : ℤ) (budget : ℕ) → pos (reach_of tree) ≤ℤ REACH
    → IsCalendarPosition p
    → IsAmple tree budget → IsAmpleAt (PlacesWithin (is_member tree) dir n p) (IsDue tree) budget

-- nor for a budget that is above the candidates of the search from each of them
abbrev pub EnoughFindsAll : Type 0
EnoughFindsAll =
    (tree : Tree Meaning) (dir : Dir) (n : ℕ) (p : ℤ) (budget : ℕ) → IsCalendarPosition p
    → ((d : Dir) (place : ℤ) → PlacesWithin (is_member tree) dir n p d place
    → IsAboveSearch tree d place budget)
    → IsAmpleAt (PlacesWithin (is_member tree) dir n p) (IsDue tree) budget
