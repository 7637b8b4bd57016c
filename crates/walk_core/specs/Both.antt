-- Items of a window taken from both ends.
use Rattle.std.specs.Prelude.{◌≡◌, ◌⊎◌, ℕ, ◌+◌, pos, ◌+ℤ◌, true, false, cond, List, [], ◌∷◌, ◌++◌, reverse, Option, Some, None, Result, Ok, Err}
use Rattle.std.specs.Int.{int_gap}
use Rattle.moment_core.specs.declared.line.Dir.{Dir}
use Rattle.moment_core.specs.declared.line.Dir.TheVariants.{Fore, Back}
use Rattle.moment_core.specs.declared.line.Window.{Window}
use Rattle.span_core.specs.declared.answers.Stop.{Stop}
use Rattle.span_core.specs.declared.bounds.Run.{Run}
use Rattle.stored_pair.specs.Meanings.{Meaning}
use Rattle.expr_tree.specs.Members.{is_member}
use Rattle.expr_tree.specs.Tree.{Tree}
use Rattle.search_core.specs.Due.{IsDue}
use Rattle.plan_core.specs.Plans.{meant_of_plan}
use Rattle.walk_core.specs.Steps.{IsStopOfStep}
use Rattle.walk_core.specs.Tokens.{window_token}
use Rattle.walk_core.specs.Walks.{AreItemsOf}
use Rattle.walk_core.specs.declared.both.Items.{Items}

-- what the tree of the items means
abbrev pub meant_of_items : {L : Type 0} → Items L → Tree Meaning
meant_of_items items = meant_of_plan items.plan.now

-- what is left, in ascending order
abbrev pub AreLeftIn : {L : Type 0} → Items L → List Run → Type 0
AreLeftIn items runs = AreItemsOf (meant_of_items items) items.left Fore runs

-- a run put back at the end from which it was taken
abbrev pub put_back : Dir → Run → List Run → List Run
put_back Fore run runs = run ∷ runs
put_back Back run runs = runs ++ run ∷ []

-- a call at one end: the run there is taken away from what is left; or nothing is left, or a search
-- stopped before; or a search stops now, which is due, and what is left stays
abbrev pub TakesAt : {L : Type 0} → Dir → Items L → Option (Result Run Stop) → Items L → Type 0
TakesAt dir s None t =
    (t.left ≡ s.left) × (t.stopped ≡ s.stopped) × ((s.stopped ≡ true) ⊎ AreLeftIn s [])
TakesAt dir s (Some (Ok run)) t =
    (s.stopped ≡ false) × (t.stopped ≡ false)
    × ((runs : List Run) → AreLeftIn t runs → AreLeftIn s (put_back dir run runs))
TakesAt dir s (Some (Err stop)) t =
    (s.stopped ≡ false) × (t.stopped ≡ true) × (t.left ≡ s.left)
    × IsStopOfStep (is_member (meant_of_items s)) (IsDue (meant_of_items s))
    (window_token s.left dir) s.budget stop

-- and the set and the budget stay
abbrev pub Takes : {L : Type 0} → Dir → Items L → Option (Result Run Stop) → Items L → Type 0
Takes dir s r t = (meant_of_items t ≡ meant_of_items s) × (t.budget ≡ s.budget) × TakesAt dir s r t

-- one call: at which end, what it gave, and what it left behind
pub record Call (L : Type 0) : Type 0 where
  pub end : Dir
  pub gave : Option (Result Run Stop)
  pub left : Items L

-- calls one after another, from what was there at first to what is there at last
abbrev pub AreCalls : {L : Type 0} → Items L → List (Call L) → Items L → Type 0
AreCalls s [] t = s ≡ t
AreCalls s (call ∷ calls) t = Takes call.end s call.gave call.left × AreCalls call.left calls t

-- the run of a call, if it gave one at that end
abbrev pub given_at : Dir → Dir → Option (Result Run Stop) → List Run
given_at Fore Fore (Some (Ok run)) = run ∷ []
given_at Back Back (Some (Ok run)) = run ∷ []
given_at end dir gave = []

-- the runs that calls gave at an end, in the order of the calls
abbrev pub given_by : {L : Type 0} → Dir → List (Call L) → List Run
given_by end [] = []
given_by end (call ∷ calls) = given_at end call.end call.gave ++ given_by end calls

-- what the front gave, then what is left, then what the back gave in reverse is what was left at
-- first
abbrev pub CallsShare : {L : Type 0} → Items L → List (Call L) → Items L → Type 0
CallsShare s calls t =
    (runs : List Run) → AreLeftIn t runs
    → AreLeftIn s (given_by Fore calls ++ runs ++ reverse (given_by Back calls))

-- how many items may come: no more than positions are left, and one stop
abbrev pub positions_left : Window → ℕ
positions_left w = int_gap w.lo.0 (w.hi.0 +ℤ pos 1)

abbrev pub items_left : {L : Type 0} → Items L → ℕ
items_left items = cond items.stopped 0 (positions_left items.left + 1)
