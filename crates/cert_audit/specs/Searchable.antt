-- Trees that may be searched.
use Rattle.std.specs.Prelude.{◌≤◌, ◌≤ℤ◌, ◌^◌, pos}
use Rattle.std.proofs.Props.{props}
use mathlib.Core.HLevel.{×_prop}
use Rattle.moment_core.specs.declared.line.TheConstants.{REACH}
use Rattle.stored_pair.specs.Meanings.{Meaning}
use Rattle.expr_tree.specs.Sorts.{nodes_of, reach_of}
use Rattle.expr_tree.specs.Sound.{IsSound}
use Rattle.expr_tree.specs.Tree.{Tree, Empty, Spanned, Ruled, Joined, Pairs, Unary}
use Rattle.search_core.specs.Lawful.{AreLawful, AreLawful-prop}

-- a tree that may be searched: its rules are lawful, its spans are made of moments alone, it looks
-- no farther than `REACH`, and it isn't too large
pub record IsSearchable (t : Tree Meaning) : Type 0 where
  pub lawful : AreLawful t
  pub sound : IsSound t
  pub reach : pos (reach_of t) ≤ℤ REACH
  pub small : nodes_of t ≤ 2 ^ 12

-- it may in one way at most, so that a tree made ready can hold that it may
IsSound-prop : (t : Tree Meaning) → IsProp (IsSound t)
IsSound-prop Empty = hlevel props
IsSound-prop (Spanned bounds low high) = hlevel props
IsSound-prop (Ruled rule) = hlevel props
IsSound-prop (Joined op a b) = ×_prop (IsSound-prop a) (IsSound-prop b)
IsSound-prop (Pairs a b) =
    ×_prop (×_prop (IsSound-prop a) (IsSound-prop b)) (×_prop (hlevel props) (hlevel props))
IsSound-prop (Unary op a) = ×_prop (IsSound-prop a) (hlevel props)

pub IsSearchable-prop : (t : Tree Meaning) → IsProp (IsSearchable t)
IsSearchable-prop t x y =
    let near : IsProp (pos (reach_of t) ≤ℤ REACH) = hlevel props in
    let few : IsProp (nodes_of t ≤ 2 ^ 12) = hlevel props in
    λ i. record {
      lawful = AreLawful-prop t x.lawful y.lawful i;
      sound = IsSound-prop t x.sound y.sound i;
      reach = near x.reach y.reach i;
      small = few x.small y.small i;
    }
