-- Which stops are due in a search of a tree, and in a test.
use Rattle.std.specs.Prelude.{◌≡◌, ◌⊎◌, ℕ, ◌+◌, ◌≤◌, ℤ, ◌≤ℤ◌, Bool, true, false}
use Rattle.moment_core.specs.Sets.{ahead, IsUpTo}
use Rattle.moment_core.specs.declared.line.Dir.{Dir}
use Rattle.span_core.specs.Answers.{IsFound, StopsAt, end_of}
use Rattle.span_core.specs.declared.answers.Answer.{Answer}
use Rattle.span_core.specs.declared.answers.Stop.{Stop}
use Rattle.span_core.specs.declared.answers.Test.{Test}
use Rattle.span_core.specs.declared.answers.Test.TheVariants as tests
use Rattle.frame_core.specs.Frames.{window_if_framed}
use Rattle.stored_pair.specs.Meanings.{Meaning}
use Rattle.expr_tree.specs.Members.{is_member}
use Rattle.expr_tree.specs.Sorts.{nodes_of}
use Rattle.expr_tree.specs.Sound.{looks_back}
use Rattle.expr_tree.specs.Tree.{Tree, Empty, Spanned, Ruled, Joined, Pairs, Unary}
use Rattle.search_core.specs.Candidates.{candidates}
use Rattle.search_core.specs.LookingBack.{either, pairs_from}
use Rattle.search_core.specs.TreeFrames.{frame_of_tree}
use Rattle.search_core.specs.Unary.{looks_from, looks_to}

-- Looking back from q may stop, where it leads to the position `from`: not before there, where no
-- event lies from the stop to q, and the candidates between them are at least the budget.
pub record StopsBack (event : ℤ → Bool) (count : ℤ → ℤ → ℕ) (from q : ℤ) (budget : ℕ) (at : ℤ)
    : Type 0 where
  pub before : at ≤ℤ q
  pub within : from ≤ℤ at
  pub no_event : (z : ℤ) → at ≤ℤ z → z ≤ℤ q → event z ≡ false
  pub used : budget ≤ count at q

-- A stop is due where the tree, whose root has the number n, is asked at q: in a node that looks
-- back from there, or in a child where the tree asks it. A node's number goes before those of its
-- children, left before right.
abbrev pub IsDueAt : Tree Meaning → ℕ → ℕ → Stop → ℤ → Type 0
IsDueAt Empty n budget s q = ⊥
IsDueAt (Spanned bounds low high) n budget s q = ⊥
IsDueAt (Ruled rule) n budget s q = ⊥
IsDueAt (Joined op x y) n budget s q =
    IsDueAt x (n + 1) budget s q ⊎ IsDueAt y (n + 1 + nodes_of x) budget s q
IsDueAt (Pairs x y) n budget s q =
    ((s.node ≡ n)
    × StopsBack (either (is_member x) (is_member y)) (candidates (Pairs x y))
    (pairs_from (is_member x) (is_member y) q) q budget s.at.0)
    ⊎ ((r : ℤ) × (pairs_from (is_member x) (is_member y) q ≤ℤ r) × (r ≤ℤ q)
    × (IsDueAt x (n + 1) budget s r ⊎ IsDueAt y (n + 1 + nodes_of x) budget s r))
IsDueAt (Unary op x) n budget s q =
    ((looks_back op ≡ true) × (s.node ≡ n)
    × StopsBack (is_member x) (candidates (Unary op x)) (looks_from op (is_member x) q) q budget
    s.at.0)
    ⊎ ((r : ℤ) × (looks_from op (is_member x) q ≤ℤ r) × (r ≤ℤ looks_to op q)
    × IsDueAt x (n + 1) budget s r)

-- The root has the number 1. A test at p may stop where a stop is due there.
abbrev pub IsDueInTest : Tree Meaning → ℤ → ℕ → Stop → Type 0
IsDueInTest tree p budget s = IsDueAt tree 1 budget s p

-- a search from p asks the tree n steps on, which isn't past the search's end, and a stop is due
-- there
pub record StopsOnTheWay (tree : Tree Meaning) (dir : Dir) (p : ℤ) (budget : ℕ) (s : Stop) (n : ℕ)
    : Type 0 where
  pub within : (a : Answer)
      → IsFound (is_member tree) (window_if_framed (frame_of_tree tree) dir p) dir p a
      → IsUpTo dir (end_of dir a) (ahead dir p n)
  pub due : IsDueInTest tree (ahead dir p n) budget s

-- in a direction, from a place, for a budget: the search itself stops, or it looks back on its way
-- and that stops
abbrev pub IsDue : Tree Meaning → Dir → ℤ → ℕ → Stop → Type 0
IsDue tree dir p budget s =
    ((n : ℕ)
    × StopsAt (is_member tree) (candidates tree)
    (window_if_framed (frame_of_tree tree) dir p) dir p budget s n)
    ⊎ ((n : ℕ) × StopsOnTheWay tree dir p budget s n)

-- whether the position is a member, or a stop that is due where it is asked
abbrev pub IsTestOf : Tree Meaning → ℤ → ℕ → Test → Type 0
IsTestOf tree p budget tests.In = is_member tree p ≡ true
IsTestOf tree p budget tests.Out = is_member tree p ≡ false
IsTestOf tree p budget (tests.Budget s) = IsDueInTest tree p budget s
