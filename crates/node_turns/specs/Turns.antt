-- The nearest place at which a set may change.
use Rattle.std.specs.Prelude.{◌≡◌, ◌+◌, ◌<◌, ◌≤◌, ℕ, ℤ, pos, ◌+ℤ◌, ◌-ℤ◌, Bool, true, false, ◌&&◌, ◌||◌, int_lt, Option, Some, None, if◌then◌else◌}
use Rattle.std.specs.Ordering.{int_eq}
use Rattle.moment_core.specs.Line.{IsWorkingMoment, is_moment, moment_of, position_of}
use Rattle.moment_core.specs.Sets.{ahead, seen, IsUpTo}
use Rattle.moment_core.specs.declared.line.Dir.{Dir}
use Rattle.moment_core.specs.declared.line.Dir.TheVariants.{Fore, Back}
use Rattle.moment_core.specs.declared.line.Pos.{Pos}
use Rattle.moment_core.specs.declared.line.Step.{Step}
use Rattle.moment_core.specs.declared.line.Step.TheVariants.{Hit, Pass, End}
use Rattle.span_core.specs.Answers.{counted_to}
use Rattle.search_core.specs.Candidates.{count_between}
use Rattle.node_turns.specs.declared.turns.Turn.{Turn}

-- q lies past p in the direction
abbrev pub is_past : Dir → ℤ → ℤ → Bool
is_past Fore q p = int_lt p q
is_past Back q p = int_lt q p

-- of a position and the one before it in the direction, the one that is a moment
abbrev pub candidate_at : Dir → ℤ → ℤ
candidate_at Fore q = position_of (moment_of q)
candidate_at Back q = position_of (moment_of (q +ℤ pos 1))

-- where one comes to on crossing the lower end of the positions from `first` on
abbrev pub crossed : ℤ → Dir → ℤ
crossed first Fore = first
crossed first Back = first -ℤ pos 1

-- the nearer of two turns, which counts at one place where either does
abbrev pub nearer_turn : Dir → Turn → Turn → Turn
nearer_turn dir a b =
    if is_past dir a.place.0 b.place.0 then b
    else if is_past dir b.place.0 a.place.0 then a
    else record { place = a.place; counts = a.counts || b.counts }

-- one more for a turn that counts, where its candidate lies past the place, or where the search
-- begins there
abbrev pub passed_by : ℕ → Dir → ℤ → ℤ → Turn → ℕ
passed_by passed dir p place turn =
    if turn.counts && (int_eq place p || is_past dir (candidate_at dir turn.place.0) place)
    then passed + 1 else passed

-- nothing changes for n steps, and the turn is at the step after them, which is not past the end
pub record TurnsAfter (set : ℤ → Bool) (dir : Dir) (p end : ℤ) (turn : Turn) (n : ℕ) : Type 0 where
  pub place : turn.place.0 ≡ ahead dir p (n + 1)
  pub within : IsUpTo dir end turn.place.0
  pub stays : (k : ℕ) → k ≤ n → seen set dir p k ≡ set p

-- the next place up to the end at which the set may change, or none where nothing changes up to
-- there
abbrev pub IsTurn : (ℤ → Bool) → Dir → ℤ → ℤ → Option Turn → Type 0
IsTurn set dir p end (Some turn) = (n : ℕ) × TurnsAfter set dir p end turn n
IsTurn set dir p end None = (k : ℕ) → IsUpTo dir end (ahead dir p k) → seen set dir p k ≡ set p

-- a candidate stands at the turn, where it counts as one
abbrev pub StandsIfCounted : (ℤ → Bool) → Dir → Option Turn → Type 0
StandsIfCounted candidate dir (Some turn) =
    turn.counts ≡ true → candidate (candidate_at dir turn.place.0) ≡ true
StandsIfCounted candidate dir None = Unit {0}

-- On the way from p no more were passed than there are candidates: up to a turn, where that is so
-- up to a place before it, and none was passed where that place is p.
abbrev pub StaysCounted : ℕ → Dir → (p place : ℤ) → Turn → ℕ → Type 0
StaysCounted passed dir p place turn more =
    (candidate : ℤ → Bool) (n far : ℕ) → place ≡ ahead dir p n → turn.place.0 ≡ ahead dir p far
    → n < far → passed ≤ counted_to (count_between candidate) dir p n → (n ≡ 0 → passed ≡ 0)
    → StandsIfCounted candidate dir (Some turn)
    → more ≤ counted_to (count_between candidate) dir p far

-- a turn that counts, where it isn't past the end
abbrev pub turn_up_to : Dir → Pos → Pos → Option Turn
turn_up_to dir place end =
    if is_past dir place.0 end.0 then None else Some (record { place = place; counts = true })

-- the set keeps its value for so many steps as both of the others do
abbrev pub Follows : (f g h : ℤ → Bool) → Dir → ℤ → Type 0
Follows f g h dir p =
    (n : ℕ) → ((k : ℕ) → k ≤ n → seen f dir p k ≡ f p)
    → ((k : ℕ) → k ≤ n → seen g dir p k ≡ g p) → seen h dir p n ≡ h p

-- the set has moments alone, and none round which the other one stays the same
pub record IsEdge (f h : ℤ → Bool) : Type 0 where
  pub at_open : (p : ℤ) → is_moment p ≡ false → h p ≡ false
  pub round : (p : ℤ) → f (p -ℤ pos 1) ≡ f p → f (p +ℤ pos 1) ≡ f p → h p ≡ false

-- the open second at p, or the one next to it that lies before it in the direction
abbrev pub open_before : Dir → ℤ → ℤ
open_before Fore p = if is_moment p then p -ℤ pos 1 else p
open_before Back p = if is_moment p then p +ℤ pos 1 else p

-- the moment of a turn at q, or where that is p itself the position next to it
abbrev pub edge_at : Dir → ℤ → ℤ → ℤ
edge_at dir p q = if int_eq (candidate_at dir q) p then ahead dir p 1 else candidate_at dir q

-- the turn there, where it isn't past the end
abbrev pub edge_up_to : Dir → Turn → Pos → Pos → Option Turn
edge_up_to dir turn place end =
    if is_past dir place.0 end.0 then None
    else Some (record { place = place; counts = turn.counts })

-- the candidate of a step lies in the working range, and its turn
abbrev pub IsWorkingStep : Step → Type 0
IsWorkingStep (Hit u) = IsWorkingMoment u.0
IsWorkingStep (Pass u) = IsWorkingMoment u.0
IsWorkingStep End = Unit {0}

abbrev pub turn_of_step : Dir → Pos → Step → Option Turn
turn_of_step dir end (Hit u) = turn_up_to dir (record { 0 = position_of u.0 }) end
turn_of_step dir end (Pass u) = turn_up_to dir (record { 0 = position_of u.0 }) end
turn_of_step dir end End = None
