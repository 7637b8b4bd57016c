-- The moments at which a leaf of a tree may change, and how many of them lie between two positions.
use Rattle.std.specs.Prelude.{ℕ, zero, suc, ◌+◌, ℤ, pos, ◌+ℤ◌, Bool, false, ◌||◌, if◌then◌else◌}
use Rattle.std.specs.Int.{int_gap}
use Rattle.std.specs.Ordering.{int_eq}
use Rattle.moment_core.specs.Line.{position_of}
use Rattle.moment_core.specs.Sets.{moments_in}
use Rattle.span_core.specs.declared.bounds.Bound.{Bound}
use Rattle.span_core.specs.declared.bounds.Bound.TheVariants.{Closed, Open, Inf, Edge}
use Rattle.stored_pair.specs.Meanings.{Meaning}
use Rattle.expr_tree.specs.Tree.{Tree, Empty, Spanned, Ruled, Joined, Pairs, Unary}
use Rattle.search_core.specs.Unary.{unary_candidate, unary_candidates}

-- how many of the n positions from p on pass the test
unfoldable pub count_from : (ℤ → Bool) → ℤ → ℕ → ℕ
count_from test p zero = 0
count_from test p (suc n) = (if test p then 1 else 0) + count_from test (p +ℤ pos 1) n

-- how many positions from a to b, both included, pass the test
unfoldable pub count_between : (ℤ → Bool) → ℤ → ℤ → ℕ
count_between test a b = count_from test a (int_gap a (b +ℤ pos 1))

-- the bound is at the moment of the position
abbrev pub is_bound_at : Bound → ℤ → Bool
is_bound_at (Closed t) p = int_eq (position_of t.0) p
is_bound_at (Open t) p = int_eq (position_of t.0) p
is_bound_at Inf p = false
is_bound_at Edge p = false

abbrev pub bounds_at : Bound × Bound → ℤ → Bool
bounds_at bounds p = is_bound_at bounds.0 p || is_bound_at bounds.1 p

-- a candidate of a rule or the bound of a span stands at the position, in some leaf
abbrev pub is_candidate : Tree Meaning → ℤ → Bool
is_candidate Empty p = false
is_candidate (Spanned bounds low high) p = bounds_at bounds p
is_candidate (Ruled rule) p = moments_in rule.candidate p
is_candidate (Joined op a b) p = is_candidate a p || is_candidate b p
is_candidate (Pairs a b) p = is_candidate a p || is_candidate b p
is_candidate (Unary op a) p = unary_candidate op (is_candidate a) p

-- the candidates from position a to position b: those of rules, bounds of spans, the sum over two
-- children, and what is made of one child's
abbrev pub candidates : Tree Meaning → ℤ → ℤ → ℕ
candidates Empty a b = 0
candidates (Spanned bounds low high) a b = count_between (bounds_at bounds) a b
candidates (Ruled rule) a b = count_between (moments_in rule.candidate) a b
candidates (Joined op x y) a b = candidates x a b + candidates y a b
candidates (Pairs x y) a b = candidates x a b + candidates y a b
candidates (Unary op x) a b = unary_candidates op (candidates x) a b
