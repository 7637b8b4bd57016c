-- What neighbours and budgets owe.
use Rattle.std.specs.Prelude.{◌≡◌, ℕ, ℤ, pos, ◌≤ℤ◌, Bool, Option}
use Rattle.moment_core.specs.Line.{IsCalendarMoment, position_of}
use Rattle.moment_core.specs.declared.line.Dir.{Dir}
use Rattle.moment_core.specs.declared.line.TheConstants.{REACH}
use Rattle.moment_core.specs.declared.line.Window.{Window}
use Rattle.span_core.specs.Answers.{IsCalendarNear}
use Rattle.span_core.specs.declared.answers.Near.{Near}
use Rattle.stored_pair.specs.Meanings.{Meaning}
use Rattle.expr_tree.specs.Members.{is_member}
use Rattle.expr_tree.specs.Sorts.{reach_of}
use Rattle.expr_tree.specs.Tree.{Tree}
use Rattle.search_core.specs.Ample.{IsAboveSearch, IsAmple}
use Rattle.search_core.specs.Due.{IsDue}
use Rattle.search_core.specs.Lawful.{AreLawful}
use Rattle.plan_core.specs.Plans.{window_of}
use Rattle.run_search.specs.Places.{IsAmpleAt}
use Rattle.query_core.specs.Answering.{PlacesOfClosest, PlacesOfCurrent, PlacesOfNext}
use Rattle.query_core.specs.Endless.{IsForEver, IsForEverClosest, IsForEverCurrent}
use Rattle.query_core.specs.Neighbours.{IsClosestRun, IsCurrentRun, IsNextRun}

-- each query over any set has an answer at each moment of the calendar range
pub record NeighboursExist : Type 0 where
  pub next : (set : ℤ → Bool) (window : Dir → ℤ → Option Window) (dir : Dir) (at : ℤ)
      → IsCalendarMoment at
      → (near : Near) × IsNextRun set window dir at near
  pub current : (set : ℤ → Bool) (window : Dir → ℤ → Option Window) (at : ℤ) → IsCalendarMoment at
      → (near : Near) × IsCurrentRun set window at near
  pub closest : (set : ℤ → Bool) (window : Dir → ℤ → Option Window) (at : ℤ) → IsCalendarMoment at
      → (near : Near) × IsClosestRun set window at near

-- and no second one
pub record NeighboursAreUnique : Type 0 where
  pub next : (set : ℤ → Bool) (window : Dir → ℤ → Option Window) (dir : Dir) (at : ℤ) (a b : Near)
      → IsNextRun set window dir at a → IsNextRun set window dir at b → a ≡ b
  pub current : (set : ℤ → Bool) (window : Dir → ℤ → Option Window) (at : ℤ) (a b : Near)
      → IsCurrentRun set window at a → IsCurrentRun set window at b → a ≡ b
  pub closest : (set : ℤ → Bool) (window : Dir → ℤ → Option Window) (at : ℤ) (a b : Near)
      → IsClosestRun set window at a → IsClosestRun set window at b → a ≡ b

-- the answers for a tree of lawful rules hold on all whole numbers
pub record NeighboursHoldForEver : Type 0 where
  pub next : (tree : Tree Meaning) (dir : Dir) (at : ℤ) (near : Near) → AreLawful tree
      → IsCalendarMoment at
      → IsNextRun (is_member tree) (window_of tree) dir at near
      → IsForEver (is_member tree) dir (position_of at) near
  pub current : (tree : Tree Meaning) (at : ℤ) (near : Near) → AreLawful tree → IsCalendarMoment at
      → IsCurrentRun (is_member tree) (window_of tree) at near
      → IsForEverCurrent (is_member tree) at near
  pub closest : (tree : Tree Meaning) (at : ℤ) (near : Near) → AreLawful tree → IsCalendarMoment at
      → IsClosestRun (is_member tree) (window_of tree) at near
      → IsForEverClosest (is_member tree) at near

-- the moments of the answers for a tree are of the calendar range
pub record NeighboursAreInRange : Type 0 where
  pub next : (tree : Tree Meaning) (dir : Dir) (at : ℤ) (near : Near) → IsCalendarMoment at
      → IsNextRun (is_member tree) (window_of tree) dir at near → IsCalendarNear near
  pub current : (tree : Tree Meaning) (at : ℤ) (near : Near) → IsCalendarMoment at
      → IsCurrentRun (is_member tree) (window_of tree) at near → IsCalendarNear near
  pub closest : (tree : Tree Meaning) (at : ℤ) (near : Near) → IsCalendarMoment at
      → IsClosestRun (is_member tree) (window_of tree) at near → IsCalendarNear near

-- for a tree that looks no farther than `REACH`, no stop is due in a query for an ample budget
pub record AmpleFindsNeighbours : Type 0 where
  pub next : (tree : Tree Meaning) (dir : Dir) (budget : ℕ) (at : ℤ) → pos (reach_of tree) ≤ℤ REACH
      → IsCalendarMoment at
      → IsAmple tree budget → IsAmpleAt (PlacesOfNext (is_member tree) dir at) (IsDue tree) budget
  pub current : (tree : Tree Meaning) (budget : ℕ) (at : ℤ) → pos (reach_of tree) ≤ℤ REACH
      → IsCalendarMoment at
      → IsAmple tree budget → IsAmpleAt (PlacesOfCurrent (is_member tree) at) (IsDue tree) budget
  pub closest : (tree : Tree Meaning) (budget : ℕ) (at : ℤ) → pos (reach_of tree) ≤ℤ REACH
      → IsCalendarMoment at
      → IsAmple tree budget → IsAmpleAt (PlacesOfClosest (is_member tree) at) (IsDue tree) budget

-- nor for a budget that is above the candidates of the search from each of its places
pub record EnoughFindsNeighbours : Type 0 where
  pub next : (tree : Tree Meaning) (dir : Dir) (budget : ℕ) (at : ℤ) → IsCalendarMoment at
      → ((d : Dir) (place : ℤ) → PlacesOfNext (is_member tree) dir at d place
      → IsAboveSearch tree d place budget)
      → IsAmpleAt (PlacesOfNext (is_member tree) dir at) (IsDue tree) budget
  pub current : (tree : Tree Meaning) (budget : ℕ) (at : ℤ) → IsCalendarMoment at
      → ((d : Dir) (place : ℤ) → PlacesOfCurrent (is_member tree) at d place
      → IsAboveSearch tree d place budget)
      → IsAmpleAt (PlacesOfCurrent (is_member tree) at) (IsDue tree) budget
  pub closest : (tree : Tree Meaning) (budget : ℕ) (at : ℤ) → IsCalendarMoment at
      → ((d : Dir) (place : ℤ) → PlacesOfClosest (is_member tree) at d place
      → IsAboveSearch tree d place budget)
      → IsAmpleAt (PlacesOfClosest (is_member tree) at) (IsDue tree) budget
