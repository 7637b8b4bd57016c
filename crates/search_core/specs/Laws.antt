-- What the frame, the candidates and the ample budgets of a tree owe.
use Rattle.std.specs.Prelude.{◌≡◌, ◌↔◌, ◌+◌, ◌<◌, ◌≤◌, ℕ, ℤ, pos, ◌+ℤ◌, ◌-ℤ◌, ◌≤ℤ◌, ◌<ℤ◌, Bool, true, false, unsigned_abs}
use Rattle.moment_core.specs.Line.{IsCalendarPosition, position_of}
use Rattle.moment_core.specs.declared.joining.UnaryOp.{UnaryOp}
use Rattle.moment_core.specs.declared.line.Dir.{Dir}
use Rattle.moment_core.specs.declared.line.TheConstants.{LOW, REACH}
use Rattle.span_core.specs.declared.answers.Stop.{Stop}
use Rattle.frame_core.specs.Frames.{HasPeriod, RepeatsIfFramed}
use Rattle.expr_tree.specs.Members.{is_member}
use Rattle.expr_tree.specs.Sorts.{looks_past, reach_of}
use Rattle.expr_tree.specs.Tree.{Tree}
use Rattle.stored_pair.specs.Meanings.{Meaning}
use Rattle.search_core.specs.Ample.{IsAboveSearch, IsAmple, LooksAhead}
use Rattle.search_core.specs.Candidates.{candidates, count_between, is_candidate}
use Rattle.search_core.specs.Due.{IsDue, IsDueAt, IsDueInTest}
use Rattle.search_core.specs.Lawful.{AreLawful}
use Rattle.search_core.specs.LookingBack.{during_from, either, pairs_from}
use Rattle.search_core.specs.Stretches.{IsDueIn}
use Rattle.search_core.specs.TreeFrames.{frame_of_tree}
use Rattle.search_core.specs.Unary.{hi_moves, lo_moves}

-- a tree of lawful rules repeats by its frame
abbrev pub FramesHavePeriods : Type 0
FramesHavePeriods = (t : Tree Meaning) → AreLawful t → HasPeriod (frame_of_tree t)

abbrev pub TreesRepeat : Type 0
TreesRepeat = (t : Tree Meaning) → AreLawful t → RepeatsIfFramed (is_member t) (frame_of_tree t)

-- what is made of a set moves neither end of the set's frame farther than it looks
abbrev pub FramesMoveWithinReach : Type 0
FramesMoveWithinReach =
    (op : UnaryOp)
    → (unsigned_abs (lo_moves op) ≤ looks_past op) × (unsigned_abs (hi_moves op) ≤ looks_past op)

-- the positions of a stretch that pass a test: one that passes, those of two parts that follow each
-- other, and those of a stretch round it
abbrev pub OnePasses : Type 0
OnePasses = (test : ℤ → Bool) (p : ℤ) → test p ≡ true → 1 ≤ count_between test p p

abbrev pub PartsAdd : Type 0
PartsAdd =
    (test : ℤ → Bool) (a m b : ℤ) → a ≤ℤ (m +ℤ pos 1) → m ≤ℤ b
    → count_between test a b ≡ count_between test a m + count_between test (m +ℤ pos 1) b

abbrev pub WiderCountsMore : Type 0
WiderCountsMore =
    (test : ℤ → Bool) (a b low high : ℤ) → low ≤ℤ a → b ≤ℤ high
    → count_between test a b ≤ count_between test low high

-- a stretch has no more candidates than its two parts together
abbrev pub PartsHaveAll : Type 0
PartsHaveAll =
    (t : Tree Meaning) (a m b : ℤ)
    → candidates t a b ≤ candidates t a m + candidates t (m +ℤ pos 1) b

-- one that ends before it begins has none
abbrev pub NoneBackwards : Type 0
NoneBackwards = (t : Tree Meaning) (a b : ℤ) → b <ℤ a → candidates t a b ≡ 0

-- one has no more than another round it
abbrev pub WiderHasMore : Type 0
WiderHasMore =
    (t : Tree Meaning) (a b low high : ℤ) → low ≤ℤ a → b ≤ℤ high
    → candidates t a b ≤ candidates t low high

-- the positions at which a candidate stands are no more than the candidates
abbrev pub PlacesAreFewer : Type 0
PlacesAreFewer =
    (t : Tree Meaning) (a b : ℤ) → count_between (is_candidate t) a b ≤ candidates t a b

-- for a tree that looks no farther than `REACH`, an ample budget is above the candidates of every
-- stretch of the calendar range
abbrev pub AmpleIsAbove : Type 0
AmpleIsAbove =
    (tree : Tree Meaning) (budget : ℕ) (a b : ℤ) → pos (reach_of tree) ≤ℤ REACH
    → IsCalendarPosition a → IsCalendarPosition b → IsAmple tree budget
    → candidates tree a b < budget

-- so that no stop is due for it; nor is one for a budget above the candidates of the search alone
abbrev pub AmpleNeverStops : Type 0
AmpleNeverStops =
    (tree : Tree Meaning) (dir : Dir) (p : ℤ) (budget : ℕ) → pos (reach_of tree) ≤ℤ REACH
    → IsCalendarPosition p → IsAmple tree budget → (s : Stop) → IsDue tree dir p budget s → ⊥

abbrev pub EnoughNeverStops : Type 0
EnoughNeverStops =
    (tree : Tree Meaning) (dir : Dir) (p : ℤ) (budget : ℕ) → IsCalendarPosition p
    → IsAboveSearch tree dir p budget → (s : Stop) → IsDue tree dir p budget s → ⊥

-- a stop is due in looking back over a stretch just where it is due at a position of it
abbrev pub StretchesAreTheirPositions : Type 0
StretchesAreTheirPositions =
    (t : Tree Meaning) (n budget : ℕ) (s : Stop) (a b : ℤ) → a ≤ℤ b
    → IsDueIn t n budget s a b ↔ ((q : ℤ) × (a ≤ℤ q) × (q ≤ℤ b) × IsDueAt t n budget s q)

-- durations and pairs look back at least to a place up to which they have met no member
abbrev pub DurationsLookBack : Type 0
DurationsLookBack =
    (set : ℤ → Bool) (seconds p place : ℤ) → place ≤ℤ p → (p -ℤ position_of seconds) ≤ℤ place
    → ((z : ℤ) → place <ℤ z → z ≤ℤ p → set z ≡ false) → during_from set seconds p ≤ℤ place

abbrev pub PairsLookBack : Type 0
PairsLookBack =
    (f g : ℤ → Bool) (p place : ℤ) → place ≤ℤ p → position_of LOW ≤ℤ place
    → ((z : ℤ) → place <ℤ z → z ≤ℤ p → either f g z ≡ false) → pairs_from f g p ≤ℤ place

-- a stop of a test has the number of a node, and is due in searches from there both ways
abbrev pub StopsOfTestsAreNumbered : Type 0
StopsOfTestsAreNumbered =
    (t : Tree Meaning) (n budget : ℕ) (s : Stop) (q : ℤ) → IsDueAt t n budget s q → n ≤ s.node

abbrev pub StopsOfTestsAreDue : Type 0
StopsOfTestsAreDue =
    (tree : Tree Meaning) (dir : Dir) (p : ℤ) (budget : ℕ) (s : Stop) → IsCalendarPosition p
    → IsDueInTest tree p budget s → IsDue tree dir p budget s

-- no test stops in a tree that doesn't look back
abbrev pub AheadNeverStopsTests : Type 0
AheadNeverStopsTests =
    (tree : Tree Meaning) (p : ℤ) (budget : ℕ) → LooksAhead tree → (s : Stop)
    → IsDueInTest tree p budget s → ⊥

-- nor does one for an ample budget
abbrev pub AmpleNeverStopsTests : Type 0
AmpleNeverStopsTests =
    (tree : Tree Meaning) (p : ℤ) (budget : ℕ) → pos (reach_of tree) ≤ℤ REACH
    → IsCalendarPosition p → IsAmple tree budget → (s : Stop) → IsDueInTest tree p budget s → ⊥
