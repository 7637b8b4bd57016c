-- Which budgets are ample for searches of a tree, wherever in the calendar range they begin and
-- end. A tree may look as far as `REACH` from there, so it has as many days to look at as the
-- working range.
use Rattle.std.specs.Prelude.{◌≡◌, ◌⊎◌, ℕ, ◌+◌, ◌*◌, ◌<◌, ◌≤◌, ℤ, pos, ◌+ℤ◌, ◌-ℤ◌, ◌*ℤ◌, false}
use Rattle.moment_core.specs.Line.{position_of}
use Rattle.moment_core.specs.declared.line.Dir.{Dir}
use Rattle.moment_core.specs.declared.line.Dir.TheVariants.{Fore, Back}
use Rattle.span_core.specs.Answers.{IsFound, end_of}
use Rattle.span_core.specs.declared.answers.Answer.{Answer}
use Rattle.frame_core.specs.Frames.{window_if_framed}
use Rattle.expr_tree.specs.Members.{is_member}
use Rattle.expr_tree.specs.Sound.{looks_back}
use Rattle.search_core.specs.TreeFrames.{frame_of_tree}
use Rattle.stored_pair.specs.Meanings.{Meaning}
use Rattle.expr_tree.specs.Tree.{Tree, Empty, Spanned, Ruled, Joined, Pairs, Unary}
use Rattle.search_core.specs.Candidates.{candidates}
use Rattle.search_core.specs.Unary.{copies}

-- how often the most of one leaf is counted: once for each leaf, and more where a set's candidates
-- are counted more than once
abbrev pub copies_of : Tree Meaning → ℕ
copies_of Empty = 1
copies_of (Spanned bounds low high) = 1
copies_of (Ruled rule) = 1
copies_of (Joined op a b) = copies_of a + copies_of b
copies_of (Pairs a b) = copies_of a + copies_of b
copies_of (Unary op a) = copies op * copies_of a

-- the tree is a leaf of the other
abbrev pub IsLeafOf : Tree Meaning → Tree Meaning → Type 0
IsLeafOf leaf Empty = leaf ≡ Empty
IsLeafOf leaf (Spanned bounds low high) = leaf ≡ Spanned bounds low high
IsLeafOf leaf (Ruled rule) = leaf ≡ Ruled rule
IsLeafOf leaf (Joined op a b) = IsLeafOf leaf a ⊎ IsLeafOf leaf b
IsLeafOf leaf (Pairs a b) = IsLeafOf leaf a ⊎ IsLeafOf leaf b
IsLeafOf leaf (Unary op a) = IsLeafOf leaf a

-- nothing in the tree looks back, as durations and pairs do
abbrev pub LooksAhead : Tree Meaning → Type 0
LooksAhead Empty = Unit {0}
LooksAhead (Spanned bounds low high) = Unit {0}
LooksAhead (Ruled rule) = Unit {0}
LooksAhead (Joined op a b) = LooksAhead a × LooksAhead b
LooksAhead (Pairs a b) = ⊥
LooksAhead (Unary op a) = (looks_back op ≡ false) × LooksAhead a

-- the first position of a day, by its number from 1970-01-01
abbrev pub first_of_day : ℤ → ℤ
first_of_day day = position_of (day *ℤ pos 86_400)

-- the candidates of a tree on a day
abbrev pub candidates_on : Tree Meaning → ℤ → ℕ
candidates_on tree day = candidates tree (first_of_day day) (first_of_day (day +ℤ pos 1) -ℤ pos 1)

-- no leaf of the tree has more candidates than that on any day
abbrev pub IsMost : Tree Meaning → ℕ → Type 0
IsMost tree m =
    (leaf : Tree Meaning) → IsLeafOf leaf tree → (day : ℤ) → candidates_on leaf day ≤ m

-- the days of the working range: 7,232,166 from -9900-01-01 to 9900-12-31, and 32,850 more at
-- either end, which are `REACH` seconds
unfoldable pub days_of_working_range : ℕ
days_of_working_range = 7_297_866

-- the budget is above what the leaves have together if each had m candidates, at least 1, on each
-- day, and none has more
abbrev pub IsAmple : Tree Meaning → ℕ → Type 0
IsAmple tree budget =
    (m : ℕ) × (1 ≤ m) × IsMost tree m × (copies_of tree * m * days_of_working_range < budget)

-- what is counted from one position to another that lies past it
abbrev pub counted_up_to : (ℤ → ℤ → ℕ) → Dir → ℤ → ℤ → ℕ
counted_up_to count Fore p end = count p end
counted_up_to count Back p end = count end p

-- a tree that doesn't look back needs no more than the candidates from p to the end of the search
abbrev pub IsAboveSearch : Tree Meaning → Dir → ℤ → ℕ → Type 0
IsAboveSearch tree dir p budget =
    LooksAhead tree
    × ((a : Answer)
    → IsFound (is_member tree) (window_if_framed (frame_of_tree tree) dir p) dir p a
    → counted_up_to (candidates tree) dir p (end_of dir a) < budget)
