-- What is made of one set counts, looks and moves by the set's own.
use Rattle.std.proofs.Common.{◌≡◌, arith, ℕ, zero, suc, ◌+◌, ◌*◌, ◌≤◌, ℤ, pos, ◌+ℤ◌, ◌-ℤ◌, ◌≤ℤ◌, ◌<ℤ◌, Bool, add-mul}
use Rattle.std.proofs.lemmas.Int.{by_lt_z, ints}
use Rattle.moment_core.specs.Line.{position_of}
use Rattle.moment_core.specs.declared.joining.UnaryOp.{UnaryOp}
use Rattle.moment_core.specs.declared.joining.UnaryOp.TheVariants.{Not, During, Starts, Ends, Shift}
use Rattle.expr_tree.specs.Sorts.{looks_past}
use Rattle.search_core.specs.Candidates.{count_between}
use Rattle.search_core.specs.Laws.{FramesMoveWithinReach}
use Rattle.search_core.specs.LookingBack.{during_from}
use Rattle.search_core.specs.Unary.{copies, counted_earlier, counted_round, looks_from, looks_to, unary_candidate, unary_candidates}
use Rattle.search_core.proofs.Counting.{GrowsWider, HasParts, both_covered, both_parts, earlier_covered, earlier_parts, round-none, round-some, round_covered, round_parts, round_within}
use Rattle.search_core.proofs.Latest.{during-grows, during-most, during_from-least, meets_back}

pub unary-within : (op : UnaryOp) (count : ℤ → ℤ → ℕ) → GrowsWider count
    → GrowsWider (unary_candidates op count)
unary-within Not count grows a b low high la bh = grows a b low high la bh
unary-within (During seconds) count grows a b low high la bh =
    let s = position_of seconds in
    let one = grows a b low high la bh in
    let other =
    grows (a -ℤ s) (b -ℤ s) (low -ℤ s) (high -ℤ s) (omega (arith, ints)) (omega (arith, ints)) in
    omega arith
unary-within Starts count grows a b low high la bh = round_within count grows a b low high la bh
unary-within Ends count grows a b low high la bh = round_within count grows a b low high la bh
unary-within (Shift seconds) count grows a b low high la bh =
    let s = position_of seconds in
    grows (a -ℤ s) (b -ℤ s) (low -ℤ s) (high -ℤ s) (omega (arith, ints)) (omega (arith, ints))

pub unary-parts : (op : UnaryOp) (count : ℤ → ℤ → ℕ) → GrowsWider count → HasParts count
    → HasParts (unary_candidates op count)
unary-parts Not count grows parts a m b = parts a m b
unary-parts (During seconds) count grows parts a m b =
    both_parts count (counted_earlier count (position_of seconds)) a m b (parts a m b)
    (earlier_parts count (position_of seconds) a m b parts)
unary-parts Starts count grows parts a m b = round_parts count a m b grows parts
unary-parts Ends count grows parts a m b = round_parts count a m b grows parts
unary-parts (Shift seconds) count grows parts a m b =
    earlier_parts count (position_of seconds) a m b parts

pub unary-none : (op : UnaryOp) (count : ℤ → ℤ → ℕ) → ((a b : ℤ) → b <ℤ a → count a b ≡ 0)
    → (a b : ℤ) → b <ℤ a → unary_candidates op count a b ≡ 0
unary-none Not count none a b h = none a b h
unary-none (During seconds) count none a b h =
    let one = none a b h in
    let other = none (a -ℤ position_of seconds) (b -ℤ position_of seconds) (omega (arith, ints)) in
    omega arith
unary-none Starts count none a b h = round-none count a b h
unary-none Ends count none a b h = round-none count a b h
unary-none (Shift seconds) count none a b h =
    none (a -ℤ position_of seconds) (b -ℤ position_of seconds) (omega (arith, ints))

pub unary-cover : (op : UnaryOp) (candidate : ℤ → Bool) (count : ℤ → ℤ → ℕ) → GrowsWider count
    → ((a b : ℤ) → count_between candidate a b ≤ count a b) → (a b : ℤ)
    → count_between (unary_candidate op candidate) a b ≤ unary_candidates op count a b
unary-cover Not candidate count grows cover a b = cover a b
unary-cover (During seconds) candidate count grows cover a b =
    let s = position_of seconds in
    both_covered candidate (λ q. candidate (q -ℤ s)) (count a b) (counted_earlier count s a b) a b
    (cover a b) (earlier_covered candidate count s a b (cover (a -ℤ s) (b -ℤ s)))
unary-cover Starts candidate count grows cover a b =
    round_covered candidate count a b grows (cover a b)
unary-cover Ends candidate count grows cover a b =
    round_covered candidate count a b grows (cover a b)
unary-cover (Shift seconds) candidate count grows cover a b =
    let s = position_of seconds in
    earlier_covered candidate count s a b (cover (a -ℤ s) (b -ℤ s))

-- a stretch that, with what is looked at round it, is no longer than that
abbrev pub IsShort : ℕ → ℕ → ℤ → ℤ → Type 0
IsShort longest reach a b = (b +ℤ pos (2 * reach)) ≤ℤ (a +ℤ pos longest)

round_below : (count : ℤ → ℤ → ℕ) (longest reach n : ℕ) (a b : ℤ) → IsShort longest (1 + reach) a b
    → ((x y : ℤ) → IsShort longest reach x y → count x y ≤ n) → counted_round count a b ≤ n
round_below count longest reach n a b short below = by_lt_z b a
    (λ none. let nothing = round-none count a b none in omega arith)
    (λ some.
    let whole = round-some count a b some in
    let most = below (a -ℤ pos 1) (b +ℤ pos 1) (omega (arith, ints)) in
    omega arith)

-- it counts no more than the most of the set, as often as the set is counted
pub unary-most : (op : UnaryOp) (count : ℤ → ℤ → ℕ) (longest reach n : ℕ)
    → ((x y : ℤ) → IsShort longest reach x y → count x y ≤ n) → (a b : ℤ)
    → IsShort longest (looks_past op + reach) a b → unary_candidates op count a b ≤ copies op * n
unary-most Not count longest reach n most a b short =
    let one = most a b (omega (arith, ints)) in
    omega arith
unary-most (During seconds) count longest reach n most a b short =
    let s = position_of seconds in
    let one = most a b (omega (arith, ints)) in
    let other = most (a -ℤ s) (b -ℤ s) (omega (arith, ints)) in
    omega arith
unary-most Starts count longest reach n most a b short =
    let one = round_below count longest reach n a b short most in
    omega arith
unary-most Ends count longest reach n most a b short =
    let one = round_below count longest reach n a b short most in
    omega arith
unary-most (Shift seconds) count longest reach n most a b short =
    let s = position_of seconds in
    let one = most (a -ℤ s) (b -ℤ s) (omega (arith, ints)) in
    omega arith

copies-some : (op : UnaryOp) → 1 ≤ copies op
copies-some Not = omega arith
copies-some (During seconds) = omega arith
copies-some Starts = omega arith
copies-some Ends = omega arith
copies-some (Shift seconds) = omega arith

copied : (k c n budget : ℕ) → 1 ≤ k → budget ≤ c * n → budget ≤ (k * c) * n
copied zero c n budget some h = absurd (omega arith)
copied (suc k) c n budget some h =
    let parts = add-mul c (k * c) n in
    omega arith

pub unary-copied : (op : UnaryOp) (c n budget : ℕ) → budget ≤ c * n → budget ≤ (copies op * c) * n
unary-copied op c n budget h = copied (copies op) c n budget (copies-some op) h

-- where it looks
pub looks_from-grows : (op : UnaryOp) (set : ℤ → Bool) (a q : ℤ) → a ≤ℤ q
    → looks_from op set a ≤ℤ looks_from op set q
looks_from-grows Not set a q h = h
looks_from-grows (During seconds) set a q h = during-grows set seconds a q h
looks_from-grows Starts set a q h = omega (arith, ints)
looks_from-grows Ends set a q h = omega (arith, ints)
looks_from-grows (Shift seconds) set a q h = omega (arith, ints)

pub looks_to-grows : (op : UnaryOp) (q b : ℤ) → q ≤ℤ b → looks_to op q ≤ℤ looks_to op b
looks_to-grows Not q b h = h
looks_to-grows (During seconds) q b h = h
looks_to-grows Starts q b h = omega (arith, ints)
looks_to-grows Ends q b h = omega (arith, ints)
looks_to-grows (Shift seconds) q b h = omega (arith, ints)

pub looks-in_order : (op : UnaryOp) (set : ℤ → Bool) (a b : ℤ) → a ≤ℤ b
    → looks_from op set a ≤ℤ looks_to op b
looks-in_order Not set a b h = h
looks-in_order (During seconds) set a b h =
    let most = during-most set seconds a in
    omega (arith, ints)
looks-in_order Starts set a b h = omega (arith, ints)
looks-in_order Ends set a b h = omega (arith, ints)
looks-in_order (Shift seconds) set a b h = omega (arith, ints)

pub looks_from-least : (op : UnaryOp) (set : ℤ → Bool) (q : ℤ)
    → (q -ℤ pos (2 * looks_past op)) ≤ℤ looks_from op set q
looks_from-least Not set q = omega (arith, ints)
looks_from-least (During seconds) set q = during_from-least set seconds q
looks_from-least Starts set q = omega (arith, ints)
looks_from-least Ends set q = omega (arith, ints)
looks_from-least (Shift seconds) set q = omega (arith, ints)

pub looks_to-most : (op : UnaryOp) (q : ℤ) → looks_to op q ≤ℤ (q +ℤ pos (2 * looks_past op))
looks_to-most Not q = omega (arith, ints)
looks_to-most (During seconds) q = omega (arith, ints)
looks_to-most Starts q = omega (arith, ints)
looks_to-most Ends q = omega (arith, ints)
looks_to-most (Shift seconds) q = omega (arith, ints)

-- what is looked at for a stretch is looked at for a position of it
abbrev pub IsLookedAt : UnaryOp → (ℤ → Bool) → ℤ → ℤ → ℤ → Type 0
IsLookedAt op set a b r =
    (q : ℤ) × (a ≤ℤ q) × (q ≤ℤ b) × (looks_from op set q ≤ℤ r) × (r ≤ℤ looks_to op q)

looked_round : (a b r : ℤ) → a ≤ℤ b → (a -ℤ pos 1) ≤ℤ r → r ≤ℤ (b +ℤ pos 1)
    → (q : ℤ) × (a ≤ℤ q) × (q ≤ℤ b) × ((q -ℤ pos 1) ≤ℤ r) × (r ≤ℤ (q +ℤ pos 1))
looked_round a b r order low high = by_lt_z r a
    (λ below. (a, omega (arith, ints), order, low, omega (arith, ints)))
    (λ from. by_lt_z b r
    (λ above. (b, order, omega (arith, ints), omega (arith, ints), high))
    (λ within. (r, from, within, omega (arith, ints), omega (arith, ints))))

pub looks-meet : (op : UnaryOp) (set : ℤ → Bool) (a b r : ℤ) → a ≤ℤ b → looks_from op set a ≤ℤ r
    → r ≤ℤ looks_to op b → IsLookedAt op set a b r
looks-meet Not set a b r order low high =
    (r, low, high, omega (arith, ints), omega (arith, ints))
looks-meet (During seconds) set a b r order low high =
    meets_back (during_from set seconds) (during-most set seconds) a b r order low high
looks-meet Starts set a b r order low high = looked_round a b r order low high
looks-meet Ends set a b r order low high = looked_round a b r order low high
looks-meet (Shift seconds) set a b r order low high =
    let s = position_of seconds in
    (r +ℤ s, omega (arith, ints), omega (arith, ints), omega (arith, ints), omega (arith, ints))

-- and no frame moves farther than that
pub moves_within_reach : FramesMoveWithinReach
moves_within_reach Not = (omega (arith, ints), omega (arith, ints))
moves_within_reach (During seconds) = (omega (arith, ints), omega (arith, ints))
moves_within_reach Starts = (omega (arith, ints), omega (arith, ints))
moves_within_reach Ends = (omega (arith, ints), omega (arith, ints))
moves_within_reach (Shift seconds) = (omega (arith, ints), omega (arith, ints))
