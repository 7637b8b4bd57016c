-- Counting from a start on.
use Rattle.std.proofs.Common.{◌≡◌, ℕ, zero, suc, ◌+◌, ◌-◌, ◌<◌, ◌≤◌, ℤ, pos, ◌+ℤ◌, ◌-ℤ◌, ◌≤ℤ◌, ◌<ℤ◌, Bool, true, false, if◌then◌else◌, refl, sym, ap, ◌∙◌, arith, add-zero, add-suc}
use Rattle.std.specs.Prelude.{int_le, unsigned_abs}
use Rattle.std.proofs.lemmas.Int.{by_lt_z, ints}
use Rattle.moment_core.specs.Line.{IsWorkingMoment}
use Rattle.moment_core.specs.Ranks.{count_below, count_to}
use Rattle.moment_core.specs.Sets.{seen}
use Rattle.moment_core.specs.declared.line.Dir.TheVariants.{Fore}
use Rattle.moment_core.proofs.FloorLemmas.{floor_arith}
use Rattle.moment_core.proofs.Counting.{count-same}

-- nothing counts in a gap
count-gap : (f : ℕ → Bool) (k n : ℕ) → ((j : ℕ) → k ≤ j → j < k + n → f j ≡ false)
    → count_below f (k + n) ≡ count_below f k
unfolding count_below
count-gap f k zero none = rw add-zero refl
count-gap f k (suc n) none =
    rw (add-suc, none (k + n) (omega arith) (omega arith), add-zero)
    (count-gap f k n (λ j low high. none j low (omega arith)))

-- and then one more, where it is met
count-next : (f : ℕ → Bool) (k n : ℕ) → ((j : ℕ) → k ≤ j → j < k + n → f j ≡ false)
    → count_below f (k + suc n) ≡ count_below f k + (if f (k + n) then 1 else 0)
unfolding count_below
count-next f k n none = rw (add-suc, count-gap f k n none) refl

count_grows : (f : ℕ → Bool) (k n : ℕ) → count_below f k ≤ count_below f (k + n)
unfolding count_below
count_grows f k zero = rw add-zero (omega arith)
count_grows f k (suc n) = rw add-suc (omega (arith, count_grows f k n))

pub count_to-before : (set : ℤ → Bool) (start : ℤ) → count_to set start (start -ℤ pos 1) ≡ 0
unfolding count_to count_below
count_to-before set start = let e : unsigned_abs (start -ℤ pos 1 +ℤ pos 1 -ℤ start) ≡ 0 =
    omega (arith, floor_arith) in rw e refl

-- where none lies between, u may add one
pub count_to-next : (set : ℤ → Bool) (start at u : ℤ) (n : ℕ) → start ≤ℤ (at +ℤ pos 1) → 0 < n → u
    ≡ at +ℤ pos n
    → ((k : ℕ) → 0 < k → k < n → seen set Fore at k ≡ false) → count_to set start u
    ≡ count_to set start at + (if set u then 1 else 0)
unfolding count_to
count_to-next set start at u zero behind some place none = absurd (omega arith)
count_to-next set start at u (suc n) behind some place none =
    let k = unsigned_abs (at +ℤ pos 1 -ℤ start) in
    let whole : unsigned_abs (u +ℤ pos 1 -ℤ start) ≡ k + suc n = omega (arith, floor_arith) in
    let here : start +ℤ pos (k + n) ≡ u = omega (arith, floor_arith) in
    let gap : (j : ℕ) → k ≤ j → j < k + n → seen set Fore start j ≡ false = λ j low high.
    (let e : start +ℤ pos j ≡ at +ℤ pos (j + 1 - k) = omega (arith, floor_arith) in
    ap set e ∙ none (j + 1 - k) (omega arith) (omega arith)) in
    rw (whole, count-next (seen set Fore start) k n gap)
    (ap (λ z. count_below (seen set Fore start) k + (if set z then 1 else 0)) here)

-- the count never falls
pub count_to_grows : (set : ℤ → Bool) (start t u : ℤ) → start ≤ℤ (t +ℤ pos 1) → t ≤ℤ u
    → count_to set start t ≤ count_to set start u
unfolding count_to
count_to_grows set start t u behind le =
    let k = unsigned_abs (t +ℤ pos 1 -ℤ start) in
    let whole : unsigned_abs (u +ℤ pos 1 -ℤ start) ≡ k + unsigned_abs (u -ℤ t) =
    omega (arith, floor_arith) in
    rw whole (count_grows (seen set Fore start) k (unsigned_abs (u -ℤ t)))

-- it stays where none lies past `at` up to t
pub count_to_stays : (set : ℤ → Bool) (start at t : ℤ) → start ≤ℤ (at +ℤ pos 1) → at ≤ℤ t
    → ((k : ℕ) → 0 < k → (at +ℤ pos k) ≤ℤ t → seen set Fore at k ≡ false) → count_to set start t
    ≡ count_to set start at
unfolding count_to
count_to_stays set start at t behind le none =
    let k = unsigned_abs (at +ℤ pos 1 -ℤ start) in
    let n = unsigned_abs (t -ℤ at) in
    let whole : unsigned_abs (t +ℤ pos 1 -ℤ start) ≡ k + n = omega (arith, floor_arith) in
    let gap : (j : ℕ) → k ≤ j → j < k + n → seen set Fore start j ≡ false = λ j low high.
    (let e : start +ℤ pos j ≡ at +ℤ pos (j + 1 - k) = omega (arith, floor_arith) in
    ap set e ∙ none (j + 1 - k) (omega arith) (omega (arith, floor_arith))) in
    rw whole (count-gap (seen set Fore start) k n gap)

-- it rises at each member
pub count_to_rises : (set : ℤ → Bool) (start t u : ℤ) → start ≤ℤ (t +ℤ pos 1) → t <ℤ u → set u
    ≡ true → count_to set start t < count_to set start u
unfolding count_to count_below
count_to_rises set start t u behind lt met =
    let k = unsigned_abs (t +ℤ pos 1 -ℤ start) in
    let n = unsigned_abs (u -ℤ t -ℤ pos 1) in
    let whole : unsigned_abs (u +ℤ pos 1 -ℤ start) ≡ suc (k + n) = omega (arith, floor_arith) in
    let place : start +ℤ pos (k + n) ≡ u = omega (arith, floor_arith) in
    let is : seen set Fore start (k + n) ≡ true = ap set place ∙ met in
    rw (whole, is) (omega (arith, count_grows (seen set Fore start) k n))

-- a count lets in just the members up to its last one
pub within-count : (has : ℤ → Bool) (start t u : ℤ) (count : ℕ) → start ≤ℤ t → count_to has start t
    ≡ count → start ≤ℤ u → has u ≡ true → int_le (pos (count_to has start u)) (pos count)
    ≡ int_le u t
within-count has start t u count later number from member =
    by_lt_z t u
    (λ lt. (let more = count_to_rises has start t u (omega (arith, ints, later)) lt member in
    let no : int_le (pos (count_to has start u)) (pos count) ≡ false = grind (arith, ints) in
    let past : int_le u t ≡ false = grind (arith, ints) in no ∙ sym past))
    (λ ge. (let few = count_to_grows has start u t (omega (arith, ints, from)) ge in
    let yes : int_le (pos (count_to has start u)) (pos count) ≡ true = grind (arith, ints) in
    let upto : int_le u t ≡ true = grind (arith, ints) in yes ∙ sym upto))

-- sets that agree in the working range count alike there

pub count_to-same : (f g : ℤ → Bool) (start t : ℤ) → IsWorkingMoment start → IsWorkingMoment t
    → start ≤ℤ t → ((u : ℤ) → IsWorkingMoment u → f u ≡ g u) → count_to f start t
    ≡ count_to g start t
unfolding count_to
count_to-same f g start t here there later same =
    count-same (seen f Fore start) (seen g Fore start) (unsigned_abs (t +ℤ pos 1 -ℤ start))
    (λ k below. same (start +ℤ pos k)
    (omega (arith, ints, here.0), omega (arith, floor_arith, there.1, later, below)))
