-- What a walk writes: the lines of its first items, and a last line.
use Rattle.std.specs.Prelude.{◌≡◌, ◌<◌, ◌≤◌, ◌⊎◌, ℕ, ℤ, List, [], ◌∷◌, ◌++◌, length, flat_map, take}
use Rattle.outside_core.specs.Outside.{Puts, Rose}
use Rattle.outside_core.specs.declared.writes.Sink.{Ghosts as Sink}
use Rattle.moment_core.specs.declared.line.Clock.{Clock}
use Rattle.moment_core.specs.declared.line.Dir.{Dir}
use Rattle.span_core.specs.declared.answers.Item.{Item}
use Rattle.span_core.specs.declared.answers.Item.TheVariants as items
use Rattle.span_core.specs.declared.answers.Stop.{Stop}
use Rattle.span_core.specs.declared.answers.Token.{Token}
use Rattle.span_core.specs.declared.answers.Why.{Why}
use Rattle.span_core.specs.declared.bounds.Run.{Run}
use Rattle.stored_pair.specs.Meanings.{Meaning}
use Rattle.expr_tree.specs.Members.{is_member}
use Rattle.expr_tree.specs.Tree.{Tree}
use Rattle.expr_tree.specs.declared.tree.Kind.{Kind}
use Rattle.search_core.specs.Ample.{IsAboveSearch}
use Rattle.search_core.specs.Due.{IsDue}
use Rattle.plan_core.specs.Plans.{window_of}
use Rattle.walk_core.specs.Endless.{IsItemForEver}
use Rattle.walk_core.specs.Items.{IsHonest}
use Rattle.walk_core.specs.Steps.{IsAtEnd, IsFirstItem, IsStopped, PlacesOfStep}
use Rattle.walk_core.specs.Walks.{IsAmpleForStep}
use Rattle.report_text.specs.Items.{item_line, more_line}

-- what an item says holds for ever, where the positions of the token's open run are members
abbrev pub HoldsFrom : Tree Meaning → Token → Item → Type 0
HoldsFrom tree t item = IsHonest (is_member tree) t → IsItemForEver (is_member tree) t item

-- the first item that is left of the tree from a token, with the token right past it
abbrev pub ComesFirst : Tree Meaning → Token → Run → Token → Type 0
ComesFirst tree t run next =
    IsFirstItem (is_member tree) (window_of tree) t run next × HoldsFrom tree t (items.Run run)

-- why nothing is left
abbrev pub Ends : Tree Meaning → Token → Why → Type 0
Ends tree t why =
    IsAtEnd (is_member tree) (window_of tree) t why × HoldsFrom tree t (items.Done why)

-- a stop that is due, for a budget that isn't ample, with a token from which the same is left
abbrev pub Stops : Tree Meaning → ℕ → Token → Stop → Token → Type 0
Stops tree budget t s next =
    IsStopped (is_member tree) (IsDue tree) (window_of tree) budget t s next
    × ¬ (IsAmpleForStep tree t budget)

-- the runs are the first items that are left from the token, and the next token stands right past
-- them
abbrev pub AreFirstItems : Tree Meaning → Token → List Run → Token → Type 0
AreFirstItems tree t [] next = next ≡ t
AreFirstItems tree t (run ∷ runs) next =
    (mid : Token) × ComesFirst tree t run mid × AreFirstItems tree mid runs next

-- the budget is above the candidates of the search from each place of the walk's steps
abbrev pub IsAboveWalk : Tree Meaning → ℕ → Token → ℕ → Type 0
IsAboveWalk tree limit t budget =
    (runs : List Run) (at : Token) → length runs < limit → AreFirstItems tree t runs at
    → (dir : Dir) (place : ℤ) → PlacesOfStep (is_member tree) at dir place
    → IsAboveSearch tree dir place budget

-- what is walked over and how it is told: a tree, the kind and the clock of its lines, and the
-- budget of each search
pub record Telling : Type 0 where
  pub tree : Tree Meaning
  pub kind : Kind
  pub clock : Clock
  pub budget : ℕ

abbrev pub run_line : Telling → Run → List ℕ
run_line telling run = item_line (items.Run run) telling.kind telling.clock

abbrev pub lines_of : Telling → List Run → List ℕ
lines_of telling runs = flat_map (run_line telling) runs

-- the status and the last line of a walk that gave the runs and stands at the token: `more` where
-- they are as many as the limit says; else why no item is left; or a stop that is due, with a token
-- from which the same is left
pub data IsLast (telling : Telling) (limit : ℕ) (runs : List Run) (t : Token) : ℕ → List ℕ
    → Type 0 where
  more : length runs ≡ limit → IsLast telling limit runs t 0 (more_line t)
  done : (why : Why) → length runs < limit → Ends telling.tree t why
      → IsLast telling limit runs t 0 (item_line (items.Done why) telling.kind telling.clock)
  stopped : (next : Token) (s : Stop) → length runs < limit
      → Stops telling.tree telling.budget t s next
      → IsLast telling limit runs t 3 (item_line (items.Budget next) telling.kind telling.clock)

-- the status and the bytes of a whole walk from the token with so many items at most
pub record IsReport (telling : Telling) (limit : ℕ) (t : Token) (status : ℕ)
    (bytes : List ℕ) : Type 0 where
  pub runs : List Run
  pub next : Token
  pub first : AreFirstItems telling.tree t runs next
  pub line : List ℕ
  pub last : IsLast telling limit runs next status line
  pub whole : bytes ≡ lines_of telling runs ++ line

-- what a walk left of the sink, by its status: all bytes of a report with that status, or 5 and the
-- first bytes of one
pub record IsWalked {K : Type 0} (sink : Sink K) (old new : K) (telling : Telling) (limit : ℕ)
    (t : Token) (status : ℕ) : Type 0 where
  pub meant : ℕ
  pub bytes : List ℕ
  pub report : IsReport telling limit t meant bytes
  pub counted : sink.faults old ≤ sink.faults new
  pub either : (status ≡ meant) ⊎ (status ≡ 5)
  pub whole : status ≡ meant → Puts (sink.taken old) (sink.taken new) bytes
  pub part : status ≡ 5 → (n : ℕ) × Puts (sink.taken old) (sink.taken new) (take n bytes)
  pub failed : status ≡ 5 → Rose (sink.faults old) (sink.faults new)
