-- What the sort of a tree owes, and what looking back says in plain words.
use Rattle.std.specs.Prelude.{◌≡◌, ◌↔◌, ◌≤◌, true, false, Bool, Ok, ℤ, pos, ◌+ℤ◌, ◌≤ℤ◌, ◌<ℤ◌}
use Rattle.moment_core.specs.Line.{position_of}
use Rattle.moment_core.specs.declared.line.TheConstants.{LOW, REACH}
use Rattle.stored_pair.specs.Meanings.{Entries}
use Rattle.expr_tree.specs.Members.{is_between, is_member, lasts_at}
use Rattle.expr_tree.specs.Sorts.{node_limit, nodes_of, reach_of, sort_of_tree}
use Rattle.expr_tree.specs.Sound.{HasMomentsAlone, IsSound}
use Rattle.expr_tree.specs.Tree.{Rule, Tree, meant_of}
use Rattle.expr_tree.specs.declared.sorting.Sort.{Sort}
use Rattle.expr_tree.specs.declared.tree.Kind.TheVariants.{Moments}

-- a set whose kind is moments has no open second
abbrev pub MomentsAreAlone : Type 0
MomentsAreAlone =
    (entries : Entries) (t : Tree Rule) (sort : Sort) → sort_of_tree t ≡ Ok sort
    → sort.kind ≡ Moments → HasMomentsAlone (is_member (meant_of entries t))

-- no set with a sort looks farther than `REACH`
abbrev pub SortedStayInReach : Type 0
SortedStayInReach =
    (entries : Entries) (t : Tree Rule) (sort : Sort) → sort_of_tree t ≡ Ok sort
    → pos (reach_of (meant_of entries t)) ≤ℤ REACH

-- its spans are made of moments
abbrev pub SortedAreSound : Type 0
SortedAreSound =
    (entries : Entries) (t : Tree Rule) (sort : Sort) → sort_of_tree t ≡ Ok sort
    → IsSound (meant_of entries t)

-- it has no more nodes than it may
abbrev pub SortedAreSmall : Type 0
SortedAreSmall =
    (entries : Entries) (t : Tree Rule) (sort : Sort) → sort_of_tree t ≡ Ok sort
    → nodes_of (meant_of entries t) ≤ node_limit

-- a set lasts at a position for so many seconds: some moment t of it has 2t <= p < 2(t + seconds)
abbrev pub IsLasting : (ℤ → Bool) → ℤ → ℤ → Type 0
IsLasting set seconds p =
    (t : ℤ) × (set (position_of t) ≡ true) × (position_of t ≤ℤ p)
    × (p <ℤ position_of (t +ℤ seconds))

abbrev pub LastsFromMoment : Type 0
LastsFromMoment =
    (set : ℤ → Bool) (seconds p : ℤ)
    → (lasts_at set seconds p ≡ true) ↔ IsLasting set seconds p

-- a position is between two sets: some moment t of the first, not below the calendar range, is not
-- past it, and no later moment of the second is
abbrev pub IsBetween : (opens closes : ℤ → Bool) → ℤ → Type 0
IsBetween opens closes p =
    (t : ℤ) × (LOW ≤ℤ t) × (opens (position_of t) ≡ true) × (position_of t ≤ℤ p)
    × ((u : ℤ) → t <ℤ u → position_of u ≤ℤ p → closes (position_of u) ≡ false)

abbrev pub IsBetweenMoments : Type 0
IsBetweenMoments =
    (opens closes : ℤ → Bool) (p : ℤ)
    → (is_between opens closes p ≡ true) ↔ IsBetween opens closes p
