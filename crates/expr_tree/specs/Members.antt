-- Which positions a tree has, for every whole number.
use Rattle.std.specs.Prelude.{ℤ, pos, ◌+ℤ◌, ◌-ℤ◌, Bool, false, not, ◌&&◌, ◌||◌}
use Rattle.std.specs.Int.{int_gap}
use Rattle.moment_core.specs.Line.{is_moment, moment_of, position_of}
use Rattle.moment_core.specs.Sets.{moments_in}
use Rattle.moment_core.specs.declared.line.TheConstants.{LOW}
use Rattle.stored_pair.specs.Meanings.{Meaning}
use Rattle.span_core.specs.Bounds.{lies_between}
use Rattle.moment_core.specs.Joining.{joined}
use Rattle.moment_core.specs.declared.joining.UnaryOp.{UnaryOp}
use Rattle.moment_core.specs.declared.joining.UnaryOp.TheVariants.{Not, During, Starts, Ends, Shift}
use Rattle.expr_tree.specs.Backs.{is_open, some_back}
use Rattle.expr_tree.specs.Tree.{Tree, Empty, Spanned, Ruled, Joined, Pairs, Unary}

-- the moments of a set of positions
abbrev pub moments_of : (ℤ → Bool) → ℤ → Bool
moments_of set t = set (position_of t)

-- a run begins at the position, or right after it
abbrev pub begins_at : (ℤ → Bool) → ℤ → Bool
begins_at set p = (set p && not (set (p -ℤ pos 1))) || (set (p +ℤ pos 1) && not (set p))

-- a run ends at the position, or right before it
abbrev pub ends_at : (ℤ → Bool) → ℤ → Bool
ends_at set p = (set p && not (set (p +ℤ pos 1))) || (set (p -ℤ pos 1) && not (set p))

-- a moment of the set lies within the seconds before the position
abbrev pub lasts_at : (ℤ → Bool) → ℤ → ℤ → Bool
lasts_at set seconds p = some_back (moments_of set) (moment_of p) (int_gap (pos 0) seconds)

-- a moment of the first set, not below the calendar range, lies at or before the position, and none
-- of the second follows it up to there
abbrev pub is_between : (ℤ → Bool) → (ℤ → Bool) → ℤ → Bool
is_between opens closes p =
    is_open (moments_of opens) (moments_of closes) (moment_of p)
    (int_gap LOW (moment_of p +ℤ pos 1))

-- the positions of what is made of one set
abbrev pub unary_at : UnaryOp → (ℤ → Bool) → ℤ → Bool
unary_at Not set p = not (set p)
unary_at (During seconds) set p = lasts_at set seconds p
unary_at Starts set p = is_moment p && begins_at set p
unary_at Ends set p = is_moment p && ends_at set p
unary_at (Shift seconds) set p = set (p -ℤ position_of seconds)

abbrev pub is_member : Tree Meaning → ℤ → Bool
is_member Empty p = false
is_member (Spanned bounds low high) p = lies_between bounds.0 bounds.1 p
is_member (Ruled rule) p = moments_in rule.member p
is_member (Joined op a b) p = joined op (is_member a p) (is_member b p)
is_member (Pairs a b) p = is_between (is_member a) (is_member b) p
is_member (Unary op a) p = unary_at op (is_member a) p
