-- What lists of items and ample budgets owe.
use Rattle.std.specs.Prelude.{◌≡◌, ◌↔◌, ℕ, ℤ, pos, ◌≤ℤ◌, Bool, List, [], ◌∷◌, reverse, Option}
use Rattle.moment_core.specs.Line.{IsCalendarPosition}
use Rattle.moment_core.specs.declared.line.Dir.{Dir}
use Rattle.moment_core.specs.declared.line.Dir.TheVariants.{Fore, Back}
use Rattle.moment_core.specs.declared.line.TheConstants.{REACH}
use Rattle.moment_core.specs.declared.line.Window.{Window}
use Rattle.span_core.specs.Tokens.{IsFit}
use Rattle.span_core.specs.declared.answers.Item.{Item}
use Rattle.span_core.specs.declared.answers.Token.{Token}
use Rattle.span_core.specs.declared.answers.Why.{Why}
use Rattle.span_core.specs.declared.bounds.Run.{Run}
use Rattle.stored_pair.specs.Meanings.{Meaning}
use Rattle.expr_tree.specs.Members.{is_member}
use Rattle.expr_tree.specs.Sorts.{reach_of}
use Rattle.expr_tree.specs.Tree.{Tree}
use Rattle.search_core.specs.Ample.{IsAboveSearch, IsAmple}
use Rattle.search_core.specs.Lawful.{AreLawful}
use Rattle.walk_core.specs.Endless.{IsItemForEver}
use Rattle.walk_core.specs.Items.{AreItemsIn, AreLeft, IsHonest}
use Rattle.walk_core.specs.Steps.{IsAtEnd, IsFirstItem, PlacesOfStep}
use Rattle.walk_core.specs.Tokens.{window_token}
use Rattle.walk_core.specs.Walks.{IsAmpleForStep, StepsOf}

-- from each token that fits a list of items is left, and no second one
abbrev pub ItemsAreLeft : Type 0
ItemsAreLeft =
    (set : ℤ → Bool) (window : Dir → ℤ → Option Window) (t : Token) → IsFit t
    → (runs : List Run) × AreLeft set window t runs

abbrev pub LeftIsOneList : Type 0
LeftIsOneList =
    (set : ℤ → Bool) (window : Dir → ℤ → Option Window) (t : Token) (xs ys : List Run)
    → AreLeft set window t xs
    → AreLeft set window t ys → xs ≡ ys

-- the first item that is left leads to a token from which the others are left
abbrev pub FirstItemsLead : Type 0
FirstItemsLead =
    (set : ℤ → Bool) (window : Dir → ℤ → Option Window) (t : Token) (run : Run) (runs : List Run)
    → IsFit t
    → AreLeft set window t (run ∷ runs)
    → (next : Token) × IsFirstItem set window t run next × IsFit next × AreLeft set window next runs

-- and before what is left from there it stands first
abbrev pub ItemsFollow : Type 0
ItemsFollow =
    (set : ℤ → Bool) (window : Dir → ℤ → Option Window) (t : Token) (run : Run) (next : Token)
    → IsFit t
    → IsFirstItem set window t run next
    → IsFit next
    × ((runs : List Run) → AreLeft set window next runs → AreLeft set window t (run ∷ runs))

-- where nothing is left there is a reason
abbrev pub EndsHaveReasons : Type 0
EndsHaveReasons =
    (set : ℤ → Bool) (window : Dir → ℤ → Option Window) (t : Token) → IsFit t
    → AreLeft set window t []
    → (why : Why) × IsAtEnd set window t why

-- each window of the calendar range has one list of items too; backwards its items are the same in
-- reverse
abbrev pub WindowsHaveItems : Type 0
WindowsHaveItems =
    (set : ℤ → Bool) (window : Dir → ℤ → Option Window) (w : Window) (dir : Dir)
    → IsCalendarPosition w.lo.0
    → IsCalendarPosition w.hi.0 → (runs : List Run) × AreItemsIn set window w dir runs

abbrev pub ItemsAreOneList : Type 0
ItemsAreOneList =
    (set : ℤ → Bool) (window : Dir → ℤ → Option Window) (w : Window) (dir : Dir) (xs ys : List Run)
    → AreItemsIn set window w dir xs
    → AreItemsIn set window w dir ys → xs ≡ ys

abbrev pub ItemsReverse : Type 0
ItemsReverse =
    (set : ℤ → Bool) (window : Dir → ℤ → Option Window) (w : Window) (runs : List Run)
    → AreItemsIn set window w Back runs
    → AreItemsIn set window w Fore (reverse runs)

-- for a tree that looks no farther than `REACH`, no stop is due in a step from a token that fits
-- for an ample budget
abbrev pub AmpleSteps : Type 0
AmpleSteps =
    (tree : Tree Meaning) (t : Token) (budget : ℕ) → pos (reach_of tree) ≤ℤ REACH → IsFit t
    → IsAmple tree budget
    → IsAmpleForStep tree t budget

-- nor for a budget that is above the candidates of the search from each of its places
abbrev pub EnoughSteps : Type 0
EnoughSteps =
    (tree : Tree Meaning) (t : Token) (budget : ℕ) → IsFit t
    → ((dir : Dir) (place : ℤ) → PlacesOfStep (is_member tree) t dir place
    → IsAboveSearch tree dir place budget)
    → IsAmpleForStep tree t budget

-- the token of a window of the calendar range fits, no run is open there, and the window's items
-- are left from it
abbrev pub WindowsBegin : Type 0
WindowsBegin =
    (set : ℤ → Bool) (window : Dir → ℤ → Option Window) (w : Window) (dir : Dir)
    → IsCalendarPosition w.lo.0 → IsCalendarPosition w.hi.0
    → IsFit (window_token w dir) × IsHonest set (window_token w dir)
    × ((runs : List Run)
    → AreLeft set window (window_token w dir) runs ↔ AreItemsIn set window w dir runs)

-- what a step says of a tree of lawful rules holds for ever
abbrev pub StepsHoldForEver : Type 0
StepsHoldForEver =
    (tree : Tree Meaning) (budget : ℕ) (t next : Token) (item : Item) → AreLawful tree → IsFit t
    → IsHonest (is_member tree) t → StepsOf tree budget t item next
    → IsItemForEver (is_member tree) t item
