-- Which stops are due in looking back over a stretch: from one position to another, and for what is
-- looked back at from where that leads to the first of them as well.
use Rattle.std.specs.Prelude.{◌≡◌, ◌⊎◌, ℕ, ◌+◌, ℤ, ◌≤ℤ◌, true}
use Rattle.span_core.specs.declared.answers.Stop.{Stop}
use Rattle.stored_pair.specs.Meanings.{Meaning}
use Rattle.expr_tree.specs.Members.{is_member}
use Rattle.expr_tree.specs.Sorts.{nodes_of}
use Rattle.expr_tree.specs.Sound.{looks_back}
use Rattle.expr_tree.specs.Tree.{Tree, Empty, Spanned, Ruled, Joined, Pairs, Unary}
use Rattle.search_core.specs.Candidates.{candidates}
use Rattle.search_core.specs.Due.{StopsBack}
use Rattle.search_core.specs.LookingBack.{either, pairs_from}
use Rattle.search_core.specs.Unary.{looks_from, looks_to}

abbrev pub IsDueIn : Tree Meaning → ℕ → ℕ → Stop → ℤ → ℤ → Type 0
IsDueIn Empty n budget s a b = ⊥
IsDueIn (Spanned bounds low high) n budget s a b = ⊥
IsDueIn (Ruled rule) n budget s a b = ⊥
IsDueIn (Joined op x y) n budget s a b =
    IsDueIn x (n + 1) budget s a b ⊎ IsDueIn y (n + 1 + nodes_of x) budget s a b
IsDueIn (Pairs x y) n budget s a b =
    ((s.node ≡ n) × (q : ℤ) × (a ≤ℤ q) × (q ≤ℤ b)
    × StopsBack (either (is_member x) (is_member y)) (candidates (Pairs x y))
    (pairs_from (is_member x) (is_member y) q) q budget s.at.0)
    ⊎ (IsDueIn x (n + 1) budget s (pairs_from (is_member x) (is_member y) a) b
    ⊎ IsDueIn y (n + 1 + nodes_of x) budget s (pairs_from (is_member x) (is_member y) a) b)
IsDueIn (Unary op x) n budget s a b =
    ((looks_back op ≡ true) × (s.node ≡ n) × (q : ℤ) × (a ≤ℤ q) × (q ≤ℤ b)
    × StopsBack (is_member x) (candidates (Unary op x)) (looks_from op (is_member x) q) q budget
    s.at.0)
    ⊎ IsDueIn x (n + 1) budget s (looks_from op (is_member x) a) (looks_to op b)
