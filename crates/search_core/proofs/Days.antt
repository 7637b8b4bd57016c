-- The candidates of a stretch, day by day and leaf by leaf.
use Rattle.std.proofs.Common.{◌≡◌, refl, ap, ◌∙◌, sym, inl, inr, arith, ℕ, zero, suc, ◌+◌, ◌*◌, ◌<◌, ◌≤◌, ℤ, pos, ◌+ℤ◌, ◌-ℤ◌, ◌≤ℤ◌, max, mul_assoc, suc-mul, add-mul, mul_comm}
use Rattle.std.proofs.Math.Nat.{le-max_left, le-max_right}
use Rattle.std.proofs.lemmas.Int.{ints}
use Rattle.std.specs.Int.{int_div_euclid}
use Rattle.moment_core.proofs.FloorLemmas.{floor_arith}
use Rattle.moment_core.specs.Line.{IsCalendarPosition, position_of}
use Rattle.moment_core.specs.declared.line.TheConstants.{LOW, HIGH, REACH}
use Rattle.expr_tree.specs.Sorts.{reach_of}
use Rattle.stored_pair.specs.Meanings.{Meaning}
use Rattle.expr_tree.specs.Tree.{Tree, Empty, Spanned, Ruled, Joined, Pairs, Unary}
use Rattle.search_core.specs.Candidates.{candidates}
use Rattle.search_core.specs.Laws.{AmpleIsAbove}
use Rattle.search_core.specs.Unary.{copies}
use Rattle.search_core.proofs.Candidates.{candidates-none, candidates-split, candidates-within}
use Rattle.search_core.proofs.Unary.{IsShort, unary-most}
use Rattle.search_core.specs.Ample.{IsMost, candidates_on, copies_of, days_of_working_range, first_of_day}

pub whole_days : HIGH +ℤ REACH +ℤ pos 1 ≡ LOW -ℤ REACH +ℤ pos (86_400 * days_of_working_range)
unfolding days_of_working_range
whole_days = omega (arith, ints)

-- how long a stretch is that the days of the working range hold wherever it begins: one day less
unfoldable pub longest : ℕ
longest = 1_261_071_072_000

longest-days : longest + 172_800 ≡ 172_800 * days_of_working_range
unfolding longest days_of_working_range
longest-days = omega arith

pub longest-working : pos longest ≡ position_of (HIGH +ℤ REACH) -ℤ position_of (LOW -ℤ REACH) +ℤ pos
    2 -ℤ pos 172_800
unfolding longest
longest-working = omega (arith, ints)

-- the most candidates of a leaf on so many days
abbrev pub on_all_days : ℕ → ℕ
on_all_days m = days_of_working_range * m

-- so many days together have so often the most of one day
by_days : (t : Tree Meaning) (m : ℕ) → ((day : ℤ) → candidates_on t day ≤ m) → (n : ℕ) (day : ℤ)
    → candidates t (first_of_day day) (first_of_day (day +ℤ pos n) -ℤ pos 1) ≤ n * m
by_days t m most zero day =
    let nothing =
    candidates-none t (first_of_day day) (first_of_day (day +ℤ pos 0) -ℤ pos 1)
    (omega (arith, ints)) in
    omega arith
by_days t m most (suc n) day =
    let before = first_of_day (day +ℤ pos n) -ℤ pos 1 in
    let last = first_of_day (day +ℤ pos (suc n)) -ℤ pos 1 in
    let cut = candidates-split t (first_of_day day) before last in
    let rest = by_days t m most n day in
    let one : candidates_on t (day +ℤ pos n) ≤ m = most (day +ℤ pos n) in
    let place : before +ℤ pos 1 ≡ first_of_day (day +ℤ pos n) = omega (arith, ints) in
    let end : last ≡ first_of_day (day +ℤ pos n +ℤ pos 1) -ℤ pos 1 = omega (arith, ints) in
    let there : candidates t (before +ℤ pos 1) last ≡ candidates_on t (day +ℤ pos n) =
    ap (λ p. candidates t p last) place ∙ ap (candidates t (first_of_day (day +ℤ pos n))) end in
    let more = suc-mul n m in
    omega arith

-- the day of a position
abbrev day_of : ℤ → ℤ
day_of p = int_div_euclid p (pos 172_800)

day_of-is : (p : ℤ) → (first_of_day (day_of p) ≤ℤ p)
    × (p ≤ℤ (first_of_day (day_of p) +ℤ pos 172_799))
day_of-is p = (omega (arith, floor_arith), omega (arith, floor_arith))

leaf_below : (leaf : Tree Meaning) (m : ℕ) → ((day : ℤ) → candidates_on leaf day ≤ m) → (a b : ℤ)
    → b ≤ℤ (a +ℤ pos longest) → candidates leaf a b ≤ on_all_days m
leaf_below leaf m most a b short =
    let first = day_of a in
    let near = day_of-is a in
    let end = first_of_day (first +ℤ pos days_of_working_range) -ℤ pos 1 in
    let length = longest-days in
    let inside =
    candidates-within leaf a b (first_of_day first) end near.0 (omega (arith, ints, near.1, length))
    in
    let all = by_days leaf m most days_of_working_range first in
    omega arith

joined_below : (x y : Tree Meaning) (m : ℕ) (a b : ℤ) → candidates x a b ≤ copies_of x * on_all_days
    m → candidates y a b ≤ copies_of y * on_all_days m → candidates x a b + candidates y a
    b ≤ (copies_of x + copies_of y) * on_all_days m
joined_below x y m a b h k =
    let both = add-mul (copies_of x) (copies_of y) (on_all_days m) in
    omega arith

less_short : (m n : ℕ) (a b : ℤ) → m ≤ n → IsShort longest n a b → IsShort longest m a b
less_short m n a b h short = omega (arith, ints)

-- a tree has at most the candidates of one leaf on all days, as often as it has copies, where what
-- it looks at isn't longer than
-- they are
pub most_candidates : (tree : Tree Meaning) (m : ℕ) → IsMost tree m → (a b : ℤ)
    → IsShort longest (reach_of tree) a b → candidates tree a b ≤ copies_of tree * on_all_days m
most_candidates Empty m most a b short = let one =
    leaf_below Empty m (most Empty refl) a b (omega (arith, ints)) in omega arith
most_candidates (Spanned bounds low high) m most a b short =
    let one =
    leaf_below (Spanned bounds low high) m (most (Spanned bounds low high) refl) a b
    (omega (arith, ints)) in
    omega arith
most_candidates (Ruled rule) m most a b short =
    let one = leaf_below (Ruled rule) m (most (Ruled rule) refl) a b (omega (arith, ints)) in
    omega arith
most_candidates (Joined op x y) m most a b short =
    let r = reach_of x in
    let s = reach_of y in
    joined_below x y m a b
    (most_candidates x m (λ leaf k. most leaf (inl k)) a b (less_short r (max r s) a b
    (le-max_left r s) short))
    (most_candidates y m (λ leaf k. most leaf (inr k)) a b (less_short s (max r s) a b
    (le-max_right r s) short))
most_candidates (Pairs x y) m most a b short =
    let r = reach_of x in
    let s = reach_of y in
    joined_below x y m a b
    (most_candidates x m (λ leaf k. most leaf (inl k)) a b (less_short r (max r s) a b
    (le-max_left r s) short))
    (most_candidates y m (λ leaf k. most leaf (inr k)) a b (less_short s (max r s) a b
    (le-max_right r s) short))
most_candidates (Unary op x) m most a b short =
    let one =
    unary-most op (candidates x) longest (reach_of x) (copies_of x * on_all_days m)
    (most_candidates x m most) a b short in
    let turned = mul_assoc (copies op) (copies_of x) (on_all_days m) in
    omega arith

-- what an ample budget is above
pub above_all : (tree : Tree Meaning) (m budget : ℕ)
    → copies_of tree * m * days_of_working_range < budget → copies_of tree * on_all_days m < budget
above_all tree m budget above =
    let days = days_of_working_range in
    let turned : copies_of tree * (days * m) ≡ copies_of tree * m * days =
    ap (λ z. copies_of tree * z) (mul_comm days m) ∙ sym (mul_assoc (copies_of tree) m days) in
    omega arith

-- from the calendar range a tree looks no farther than the working range
calendar_is_short : (reach : ℕ) (a b : ℤ) → pos reach ≤ℤ REACH → IsCalendarPosition a
    → IsCalendarPosition b → IsShort longest reach a b
calendar_is_short reach a b near here there =
    let length = longest-working in
    omega (arith, ints, here.0, there.1)

pub below_ample : AmpleIsAbove
below_ample tree budget a b reach here there ample =
    let m : ℕ = ample.0 in
    let most : IsMost tree m = ample.2 in
    let all =
    most_candidates tree m most a b (calendar_is_short (reach_of tree) a b reach here there) in
    let above = above_all tree m budget ample.3 in
    omega arith
