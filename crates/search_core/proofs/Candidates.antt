-- Candidates of stretches that lie apart.
use Rattle.std.proofs.Common.{◌≡◌, refl, arith, ◌+◌, ◌≤◌, ℤ, pos, ◌+ℤ◌, ◌≤ℤ◌, ◌<ℤ◌}
use Rattle.moment_core.specs.Sets.{moments_in}
use Rattle.stored_pair.specs.Meanings.{Meaning}
use Rattle.expr_tree.specs.Tree.{Tree, Empty, Spanned, Ruled, Joined, Pairs, Unary}
use Rattle.search_core.specs.Candidates.{bounds_at, candidates, count_between, is_candidate}
use Rattle.search_core.proofs.Counting.{both_covered, both_parts, count_between-never, count_between-none, count_between-parts, count_between-within}
use Rattle.search_core.proofs.Unary.{unary-cover, unary-none, unary-parts, unary-within}

-- a stretch has no more candidates than one round it, no more than its two parts together, and none
-- where it ends before it begins
pub candidates-within : (t : Tree Meaning) (a b low high : ℤ) → low ≤ℤ a → b ≤ℤ high
    → candidates t a b ≤ candidates t low high
candidates-within Empty a b low high la bh = omega arith
candidates-within (Spanned bounds x y) a b low high la bh =
    count_between-within (bounds_at bounds) a b low high la bh
candidates-within (Ruled rule) a b low high la bh =
    count_between-within (moments_in rule.candidate) a b low high la bh
candidates-within (Joined op x y) a b low high la bh =
    let one = candidates-within x a b low high la bh in
    let other = candidates-within y a b low high la bh in
    omega arith
candidates-within (Pairs x y) a b low high la bh =
    let one = candidates-within x a b low high la bh in
    let other = candidates-within y a b low high la bh in
    omega arith
candidates-within (Unary op x) a b low high la bh =
    unary-within op (candidates x) (candidates-within x) a b low high la bh

pub candidates-split : (t : Tree Meaning) (a m b : ℤ)
    → candidates t a b ≤ candidates t a m + candidates t (m +ℤ pos 1) b
candidates-split Empty a m b = omega arith
candidates-split (Spanned bounds low high) a m b = count_between-parts (bounds_at bounds) a m b
candidates-split (Ruled rule) a m b = count_between-parts (moments_in rule.candidate) a m b
candidates-split (Joined op x y) a m b =
    both_parts (candidates x) (candidates y) a m b (candidates-split x a m b)
    (candidates-split y a m b)
candidates-split (Pairs x y) a m b =
    both_parts (candidates x) (candidates y) a m b (candidates-split x a m b)
    (candidates-split y a m b)
candidates-split (Unary op x) a m b =
    unary-parts op (candidates x) (candidates-within x) (candidates-split x) a m b

pub candidates-none : (t : Tree Meaning) (a b : ℤ) → b <ℤ a → candidates t a b ≡ 0
candidates-none Empty a b h = refl
candidates-none (Spanned bounds low high) a b h = count_between-none (bounds_at bounds) a b h
candidates-none (Ruled rule) a b h = count_between-none (moments_in rule.candidate) a b h
candidates-none (Joined op x y) a b h =
    let one = candidates-none x a b h in
    let other = candidates-none y a b h in
    omega arith
candidates-none (Pairs x y) a b h =
    let one = candidates-none x a b h in
    let other = candidates-none y a b h in
    omega arith
candidates-none (Unary op x) a b h = unary-none op (candidates x) (candidates-none x) a b h

-- the positions at which a candidate stands are no more than the candidates
pub candidates-cover : (t : Tree Meaning) (a b : ℤ)
    → count_between (is_candidate t) a b ≤ candidates t a b
candidates-cover Empty a b =
    let none = count_between-never a b in
    omega arith
candidates-cover (Spanned bounds low high) a b = omega arith
candidates-cover (Ruled rule) a b = omega arith
candidates-cover (Joined op x y) a b =
    both_covered (is_candidate x) (is_candidate y) (candidates x a b) (candidates y a b) a b
    (candidates-cover x a b) (candidates-cover y a b)
candidates-cover (Pairs x y) a b =
    both_covered (is_candidate x) (is_candidate y) (candidates x a b) (candidates y a b) a b
    (candidates-cover x a b) (candidates-cover y a b)
candidates-cover (Unary op x) a b =
    unary-cover op (is_candidate x) (candidates x) (candidates-within x) (candidates-cover x) a b
