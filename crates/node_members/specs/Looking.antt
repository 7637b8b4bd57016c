-- Looking back from a position, place by place, and looking on either side of it.
use Rattle.std.specs.Prelude.{◌≡◌, ℕ, ◌≤◌, ℤ, pos, ◌+ℤ◌, ◌-ℤ◌, ◌≤ℤ◌, ◌<ℤ◌, Bool, false, not, ◌&&◌, ◌||◌, Result, Ok, Err}
use Rattle.moment_core.specs.Line.{is_moment}
use Rattle.moment_core.specs.declared.line.Dir.TheVariants.{Back}
use Rattle.span_core.specs.Answers.{counted_to}
use Rattle.span_core.specs.declared.answers.Stop.{Stop}
use Rattle.stored_pair.specs.Meanings.{Meaning}
use Rattle.expr_tree.specs.Members.{is_member}
use Rattle.expr_tree.specs.Tree.{Tree}
use Rattle.search_core.specs.Candidates.{count_between, is_candidate}
use Rattle.search_core.specs.Due.{IsDueAt}
use Rattle.search_core.specs.LookingBack.{either}
use Rattle.node_members.specs.declared.looks.Look.{Look}
use Rattle.node_members.specs.declared.looks.Looked.{Looked}
use Rattle.node_members.specs.declared.looks.Looked.TheVariants.{Told, Next}

-- no event lies from p back to the place n positions before it, which may hold one, and no more
-- were passed than there are candidates on the way
pub record LooksAfter (event candidate : ℤ → Bool) (p : ℤ) (look : Look) (n : ℕ) : Type 0 where
  pub place : look.place.0 ≡ p -ℤ pos n
  pub none : (z : ℤ) → look.place.0 <ℤ z → z ≤ℤ p → event z ≡ false
  pub counted : look.passed ≤ counted_to (count_between candidate) Back p n
  pub begun : n ≡ 0 → look.passed ≡ 0

abbrev pub IsLook : (event candidate : ℤ → Bool) → ℤ → Look → Type 0
IsLook event candidate p look = (n : ℕ) × LooksAfter event candidate p look n

-- and the place is not before the end
abbrev pub IsLookFrom : (event candidate : ℤ → Bool) → (p end : ℤ) → Look → Type 0
IsLookFrom event candidate p end look = IsLook event candidate p look × (end ≤ℤ look.place.0)

-- an answer to whether the position is a member of the tree, whose root has the number n: whether
-- it is, or a stop that is due
abbrev pub IsAskedAt : Tree Meaning → ℕ → ℕ → ℤ → Result Bool Stop → Type 0
IsAskedAt t n budget p (Ok v) = v ≡ is_member t p
IsAskedAt t n budget p (Err s) = IsDueAt t n budget s p

-- such an answer, or the next place that is looked at, before the last one and not before the end
abbrev pub TellsOrLooks : (Result Bool Stop → Type 0) → (event candidate : ℤ → Bool)
    → (p place end : ℤ) → Looked → Type 0
TellsOrLooks answer event candidate p place end (Told told) = answer told
TellsOrLooks answer event candidate p place end (Next look) =
    IsLookFrom event candidate p end look × (look.place.0 <ℤ place)

-- a position is a member, or a place with a candidate, of one of two sets
abbrev pub in_either : Tree Meaning → Tree Meaning → ℤ → Bool
in_either a b = either (is_member a) (is_member b)

abbrev pub candidate_of_either : Tree Meaning → Tree Meaning → ℤ → Bool
candidate_of_either a b = either (is_candidate a) (is_candidate b)

-- a position is another one or next to it
abbrev pub IsBeside : ℤ → ℤ → Type 0
IsBeside p q = ((p -ℤ pos 1) ≤ℤ q) × (q ≤ℤ (p +ℤ pos 1))

-- a run begins or ends at a moment: of the positions beside it one lies without, the other within
abbrev pub has_edge : (ℤ → Bool) → (p without within : ℤ) → Bool
has_edge set p without within =
    is_moment p && ((set p && not (set without)) || (set within && not (set p)))

-- an answer to whether a run begins or ends at the position, or a stop that is due beside it
abbrev pub IsAskedRound : Tree Meaning → ℕ → ℕ → (p without within : ℤ) → Result Bool Stop → Type 0
IsAskedRound t n budget p without within (Ok v) = v ≡ has_edge (is_member t) p without within
IsAskedRound t n budget p without within (Err s) =
    (r : ℤ) × IsBeside p r × IsDueAt t n budget s r
