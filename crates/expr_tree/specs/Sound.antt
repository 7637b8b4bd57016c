-- Trees whose spans are made of moments alone.
use Rattle.std.specs.Prelude.{◌≡◌, ℤ, pos, ◌+ℤ◌, Bool, true, false}
use Rattle.moment_core.specs.Line.{position_of}
use Rattle.moment_core.specs.declared.joining.UnaryOp.{UnaryOp}
use Rattle.moment_core.specs.declared.joining.UnaryOp.TheVariants.{During}
use Rattle.stored_pair.specs.Meanings.{Meaning}
use Rattle.expr_tree.specs.Members.{is_member}
use Rattle.expr_tree.specs.Tree.{Tree, Empty, Spanned, Ruled, Joined, Pairs, Unary}

-- the set has no open second
abbrev pub HasMomentsAlone : (ℤ → Bool) → Type 0
HasMomentsAlone set = (moment : ℤ) → set (position_of moment +ℤ pos 1) ≡ false

-- what is made of the set looks back from a place to the moments of the set
abbrev pub looks_back : UnaryOp → Bool
looks_back (During seconds) = true
looks_back op = false

-- each set that is looked back at has moments alone
abbrev pub IsSound : Tree Meaning → Type 0
IsSound Empty = Unit {0}
IsSound (Spanned bounds low high) = Unit {0}
IsSound (Ruled rule) = Unit {0}
IsSound (Joined op a b) = IsSound a × IsSound b
IsSound (Pairs a b) =
    (IsSound a × IsSound b) × (HasMomentsAlone (is_member a) × HasMomentsAlone (is_member b))
IsSound (Unary op a) = IsSound a × (looks_back op ≡ true → HasMomentsAlone (is_member a))
