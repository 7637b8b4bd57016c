-- From where searches are made, which stops are due there, and which budgets are ample for them.
-- `due` says which stops are due in a search in a direction, from a position, for a budget.
use Rattle.std.specs.Prelude.{◌≡◌, ◌⊎◌, ℕ, zero, suc, ℤ, Bool}
use Rattle.moment_core.specs.Line.{IsCalendarPosition}
use Rattle.moment_core.specs.Sets.{ahead, IsNextChange, IsUpTo, range_end}
use Rattle.moment_core.specs.declared.line.Dir.{Dir}
use Rattle.span_core.specs.declared.answers.Stop.{Stop}
use Rattle.run_search.specs.Runs.{IsSameUpTo}

-- p, and the n nearest changes past it in the range, each change for the position that differs and
-- the one right before it
abbrev pub IsPlaceWithin : (ℤ → Bool) → Dir → ℕ → ℤ → ℤ → Type 0
IsPlaceWithin set dir zero p place = place ≡ p
IsPlaceWithin set dir (suc n) p place =
    (place ≡ p)
    ⊎ ((x : ℤ) × IsNextChange set dir p x × IsCalendarPosition x
    × ((ahead dir place 1 ≡ x) ⊎ IsPlaceWithin set dir n x place))

-- the same as the places of a call that searches in one direction
abbrev pub PlacesWithin : (ℤ → Bool) → Dir → ℕ → ℤ → Dir → ℤ → Type 0
PlacesWithin set dir n p d place = (d ≡ dir) × IsPlaceWithin set dir n p place

-- a stop that is due for the budget in a search from one of the places
abbrev pub IsStopAt : (Dir → ℤ → Type 0) → (Dir → ℤ → ℕ → Stop → Type 0) → ℕ → Stop → Type 0
IsStopAt places due budget s = (dir : Dir) × (place : ℤ) × places dir place × due dir place budget s

-- no stop is due for the budget in a search from any of the places
abbrev pub IsAmpleAt : (Dir → ℤ → Type 0) → (Dir → ℤ → ℕ → Stop → Type 0) → ℕ → Type 0
IsAmpleAt places due budget =
    (dir : Dir) (place : ℤ) → places dir place → (s : Stop) → due dir place budget s → ⊥

-- a stop of a test at p: of a node that looks back from there, so that it is due in searches from p
-- both ways
abbrev pub IsTestStop : (Dir → ℤ → ℕ → Stop → Type 0) → ℤ → ℕ → Stop → Type 0
IsTestStop due p budget s = (s.node ≡ 0 → ⊥) × ((dir : Dir) → due dir p budget s)

-- a stop that is due where searches are cut at an end: where that isn't the range's own, a search
-- itself stops before it
abbrev pub IsDueBefore : ℤ → (Dir → ℤ → ℕ → Stop → Type 0) → Dir → ℤ → ℕ → Stop → Type 0
IsDueBefore end due dir p budget s =
    due dir p budget s × (s.node ≡ 0 → (end ≡ range_end dir) ⊎ IsUpTo dir end (ahead dir s.at.0 1))

-- such a stop in a search from p: where the search itself stopped, it did past p and not past the
-- end, and nothing differs up to there
abbrev pub IsStopFrom : (ℤ → Bool) → (Dir → ℤ → ℕ → Stop → Type 0) → Dir → ℤ → ℤ → ℕ → Stop → Type 0
IsStopFrom set due dir p end budget s =
    IsDueBefore end due dir p budget s
    × (s.node ≡ 0
    → IsUpTo dir s.at.0 (ahead dir p 1) × IsUpTo dir end s.at.0 × IsSameUpTo set dir p s.at.0)
