-- What walks stand for.
use Rattle.std.specs.Prelude.{ℕ, ℤ, Bool, List}
use Rattle.moment_core.specs.declared.line.Dir.{Dir}
use Rattle.moment_core.specs.declared.line.Window.{Window}
use Rattle.span_core.specs.declared.answers.Item.{Item}
use Rattle.span_core.specs.declared.answers.Item.TheVariants as items
use Rattle.span_core.specs.declared.answers.Token.{Token}
use Rattle.span_core.specs.declared.bounds.Run.{Run}
use Rattle.stored_pair.specs.Meanings.{Meaning}
use Rattle.expr_tree.specs.Members.{is_member}
use Rattle.expr_tree.specs.Tree.{Tree}
use Rattle.search_core.specs.Due.{IsDue}
use Rattle.plan_core.specs.Plans.{meant_of_plan, window_of}
use Rattle.run_search.specs.Places.{IsAmpleAt}
use Rattle.walk_core.specs.Items.{AreItemsIn, AreLeft}
use Rattle.walk_core.specs.Steps.{PlacesOfStep, WalksTo}
use Rattle.walk_core.specs.declared.walk.Walk.{Walk}

-- what the tree of a walk means, its positions, and the token of its place
abbrev pub meant_of_walk : Walk → Tree Meaning
meant_of_walk walk = meant_of_plan walk.plan.now

abbrev pub members_of_walk : Walk → ℤ → Bool
members_of_walk walk = is_member (meant_of_walk walk)

abbrev pub token_of_walk : Walk → Token
token_of_walk walk = walk.at

-- the runs are what is left of a tree from a token on
abbrev pub AreLeftOf : Tree Meaning → Token → List Run → Type 0
AreLeftOf tree token runs = AreLeft (is_member tree) (window_of tree) token runs

-- the runs are the items of a tree in a window
abbrev pub AreItemsOf : Tree Meaning → Window → Dir → List Run → Type 0
AreItemsOf tree w dir runs = AreItemsIn (is_member tree) (window_of tree) w dir runs

-- what a step of a walk over a tree answers
abbrev pub StepsOf : Tree Meaning → ℕ → Token → Item → Token → Type 0
StepsOf tree budget t item next =
    WalksTo (is_member tree) (IsDue tree) (window_of tree) budget t item next

-- no stop is due for the budget in a step of a walk over a tree
abbrev pub IsAmpleForStep : Tree Meaning → Token → ℕ → Type 0
IsAmpleForStep tree t budget = IsAmpleAt (PlacesOfStep (is_member tree) t) (IsDue tree) budget

-- the item is no stop
abbrev pub IsNoStop : Item → Type 0
IsNoStop (items.Run run) = Unit {0}
IsNoStop (items.Done why) = Unit {0}
IsNoStop (items.Budget token) = ⊥
