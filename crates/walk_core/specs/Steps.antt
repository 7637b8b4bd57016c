-- What a step of a walk answers, over any set of positions. `window` gives for each direction and
-- position the window after which the set repeats from there, if there is one, and `due` says which
-- stops are due in a search in a direction, from a position, for a budget.
use Rattle.std.specs.Prelude.{◌≡◌, ℕ, ℤ, Bool, List, [], Option, None}
use Rattle.moment_core.specs.Sets.{ahead, IsUpTo}
use Rattle.moment_core.specs.declared.line.Dir.{Dir}
use Rattle.moment_core.specs.declared.line.Pos.{Pos}
use Rattle.moment_core.specs.declared.line.Window.{Window}
use Rattle.span_core.specs.declared.answers.Item.{Item}
use Rattle.span_core.specs.declared.answers.Item.TheVariants as items
use Rattle.span_core.specs.declared.answers.Stop.{Stop}
use Rattle.span_core.specs.declared.answers.Token.{Token}
use Rattle.span_core.specs.declared.answers.Why.{Why}
use Rattle.span_core.specs.declared.bounds.Run.{Run}
use Rattle.run_search.specs.Finding.{IsWhy}
use Rattle.run_search.specs.Places.{IsDueBefore, IsPlaceWithin, IsStopAt}
use Rattle.run_search.specs.Runs.{IsFirstRun, item_from}
use Rattle.walk_core.specs.Items.{AreLeft, begin_at, set_with}
use Rattle.walk_core.specs.Tokens.{token_at, token_past}

-- the places of a step from the token: its place and the nearest change past it, not past the end
abbrev pub PlacesOfStep : (ℤ → Bool) → Token → Dir → ℤ → Type 0
PlacesOfStep set t dir place =
    (dir ≡ t.dir) × IsUpTo t.dir t.end.0 place × IsPlaceWithin set t.dir 1 t.place.0 place

-- a stop that is due from one of them
abbrev pub IsStopOfStep : (ℤ → Bool) → (Dir → ℤ → ℕ → Stop → Type 0) → Token → ℕ → Stop → Type 0
IsStopOfStep set due t budget s = IsStopAt (PlacesOfStep set t) (IsDueBefore t.end.0 due) budget s

-- the run is the first that is left from the token, and the next token stands right past it
abbrev pub IsFirstItem : (ℤ → Bool) → (Dir → ℤ → Option Window) → Token → Run → Token → Type 0
IsFirstItem set window t run next =
    (near : ℤ) × (far : ℤ)
    × IsFirstRun (set_with set t.dir t.place.0 t.begun) t.dir (begin_at t.place.0 t.begun) t.end.0
    near far
    × (run ≡ item_from window t.dir near far)
    × (next ≡ token_at t.dir (ahead t.dir far 1) None t.end)

-- nothing is left from the token, and why
abbrev pub IsAtEnd : (ℤ → Bool) → (Dir → ℤ → Option Window) → Token → Why → Type 0
IsAtEnd set window t why = AreLeft set window t [] × IsWhy set window t.dir t.place.0 t.end.0 why

-- a stop that is due in a step from the token, and the next token, from which the same is left: it
-- stands at the stop, if the search itself stopped, and else stays
abbrev pub IsStopped : (ℤ → Bool) → (Dir → ℤ → ℕ → Stop → Type 0) → (Dir → ℤ → Option Window) → ℕ
    → Token → Stop → Token → Type 0
IsStopped set due window budget t s next =
    ((begun : Option Pos) × (next ≡ token_past t s begun))
    × ((runs : List Run) → AreLeft set window next runs → AreLeft set window t runs)
    × IsStopOfStep set due t budget s

-- the first item that is left, and the token right past it; or why nothing is left; or that a stop
-- is due, and a token from which the same is left
abbrev pub WalksTo : (ℤ → Bool) → (Dir → ℤ → ℕ → Stop → Type 0) → (Dir → ℤ → Option Window) → ℕ
    → Token → Item → Token → Type 0
WalksTo set due window budget t (items.Run run) next = IsFirstItem set window t run next
WalksTo set due window budget t (items.Done why) next = IsAtEnd set window t why × (next ≡ t)
WalksTo set due window budget t (items.Budget token) next =
    (token ≡ next) × ((s : Stop) × IsStopped set due window budget t s next)
