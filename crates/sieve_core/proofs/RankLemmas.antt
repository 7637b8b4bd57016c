-- The rank by days.
use Rattle.std.proofs.Common.{inl, inr, ◌≡◌, ℕ, ◌+◌, ◌-◌, ◌*◌, ◌<◌, ◌≤◌, Bool, true, false, ◌&&◌, refl, sym, ap, ◌∙◌, arith, if◌then◌else◌, ℤ, pos, ◌+ℤ◌, ◌-ℤ◌, ◌||◌, nat_lt, List, length}
use Rattle.std.proofs.lemmas.Bool.{and_left, and_right, cases_lt, le-ltb}
use Rattle.std.proofs.lemmas.Int.{ints}
use Rattle.std.specs.Ordering.{int_eq}
use Rattle.moment_core.proofs.FloorLemmas.{floor_arith}
use Rattle.moment_core.proofs.UnitLaws.{days-of-unit, unit_of_mono}
use Rattle.moment_core.specs.Calendar.{month_number, week_number, week_year_of, year_of}
use Rattle.moment_core.specs.Line.{IsWorkingMoment}
use Rattle.moment_core.specs.TimeOfDay.{day_of, second_of_day}
use Rattle.moment_core.specs.Sets.{ahead}
use Rattle.moment_core.specs.declared.line.Dir.{Dir}
use Rattle.moment_core.specs.declared.line.Dir.TheVariants.{Fore, Back}
use Rattle.sieve_core.specs.declared.tables.Sieve.{Sieve}
use Rattle.moment_core.specs.declared.units.Unit.{Unit as TimeUnit}
use Rattle.moment_core.specs.declared.units.Unit.TheVariants.{Year, WeekYear, Month, Week, Day, Hour, Minute, Second}
use Rattle.sieve_core.specs.Bits.{has_bit, is_in_signed}
use Rattle.sieve_core.specs.Days.{meets_days}
use Rattle.moment_core.specs.Ranks.{count_below, rank_in}
use Rattle.sieve_core.specs.Members.{rank_of}
use Rattle.sieve_core.specs.Ranks.{IsCapped, IsCounted, IsDeepMoment, block_end, counted, is_of_days}
use Rattle.sieve_core.specs.Times.{meets_second, turn}
use Rattle.moment_core.specs.Units.{HasWeekday, unit_of}
use Rattle.moment_core.proofs.LineLaws.{ahead-ahead}
use Rattle.moment_core.proofs.Comparing.{int_eq-refl}
use Rattle.moment_core.proofs.Counting.{count-same}
use Rattle.sieve_core.proofs.CountLemmas.{count-zero, count-fixed, count-split, count-stays, count_le, count_mono}
use Rattle.sieve_core.proofs.TimeLemmas.{ahead-in_day, tests-in_day}

int_eq-not : (a b : ℤ) → (a ≡ b → ⊥) → int_eq a b ≡ false
int_eq-not a b other = grind (arith, ints)

-- the unit stays the same up to its end in the day
block_end-le : (u : TimeUnit) (n : ℕ) → n < 86_400 → (n < block_end u n) × (block_end u n ≤ 86_400)
block_end-le Hour n below = (omega arith, omega arith)
block_end-le Minute n below = (omega arith, omega arith)
block_end-le Second n below = (omega arith, omega arith)
block_end-le Day n below = (omega arith, omega arith)
block_end-le Year n below = (omega arith, omega arith)
block_end-le (WeekYear first) n below = (omega arith, omega arith)
block_end-le Month n below = (omega arith, omega arith)
block_end-le (Week first) n below = (omega arith, omega arith)

turned-is : (dir : Dir) (t : ℤ) → turn dir 86_400 (second_of_day t) < 86_400
turned-is Fore t = omega (arith, floor_arith)
turned-is Back t = omega (arith, floor_arith)

unit-in-block : (u : TimeUnit) (dir : Dir) (t : ℤ) (k : ℕ) → turn dir 86_400 (second_of_day t) + k <
    block_end u (turn dir 86_400 (second_of_day t)) → unit_of u (ahead dir t k) ≡ unit_of u t
unfolding unit_of
unit-in-block Year dir t k below = ap year_of (ahead-in_day dir t k below).0
unit-in-block (WeekYear first) dir t k below = ap (week_year_of first)
    (ahead-in_day dir t k below).0
unit-in-block Month dir t k below = ap month_number (ahead-in_day dir t k below).0
unit-in-block (Week first) dir t k below = ap (week_number first) (ahead-in_day dir t k below).0
unit-in-block Day dir t k below = (ahead-in_day dir t k below).0
unit-in-block Hour Fore t k below = omega (arith, floor_arith)
unit-in-block Hour Back t k below = omega (arith, floor_arith)
unit-in-block Minute Fore t k below = omega (arith, floor_arith)
unit-in-block Minute Back t k below = omega (arith, floor_arith)
unit-in-block Second Fore t k below = omega (arith, floor_arith)
unit-in-block Second Back t k below = omega (arith, floor_arith)

counted-in-block : (s : Sieve) (dir : Dir) (t : ℤ) (k : ℕ) → turn dir 86_400 (second_of_day t) + k <
    block_end s.unit (turn dir 86_400 (second_of_day t)) → counted s dir t k
    ≡ (meets_days s.days (day_of t) && meets_second s dir (turn dir 86_400 (second_of_day t) + k))
counted-in-block s dir t k below =
    let ends = block_end-le s.unit (turn dir 86_400 (second_of_day t)) (turned-is dir t) in
    let same : int_eq (unit_of s.unit (ahead dir t k)) (unit_of s.unit t) ≡ true =
    rw (unit-in-block s.unit dir t k below) (int_eq-refl (unit_of s.unit t)) in
    rw same (tests-in_day s dir t k (omega arith))

-- how many count in the rest of the unit's day
pub count-in-block : (s : Sieve) (dir : Dir) (t : ℤ) (from end : ℕ) → from
    ≡ turn dir 86_400 (second_of_day t) → end ≡ block_end s.unit from
    → count_below (counted s dir t) (end - from)
    ≡ (if meets_days s.days (day_of t) then count_below (meets_second s dir) end - count_below
    (meets_second s dir) from else 0)
count-in-block s dir t from end x y =
    let ends = block_end-le s.unit (turn dir 86_400 (second_of_day t)) (turned-is dir t) in
    let some : from < end = rw (y, x) ends.0 in
    let split = count-split (meets_second s dir) from (end - from) in
    let whole : from + (end - from) ≡ end = omega arith in
    let part : count_below (λ k. meets_second s dir (from + k)) (end - from)
    ≡ count_below (meets_second s dir) end - count_below (meets_second s dir) from = let total =
    ap (count_below (meets_second s dir)) whole in omega arith in
    count-same (counted s dir t) (λ k. meets_days s.days (day_of t)
    && meets_second s dir (from + k)) (end - from)
    (λ k below. rw x (counted-in-block s dir t k (rw (← x, ← y) (omega arith))))
    ∙ count-fixed (meets_days s.days (day_of t)) (λ k. meets_second s dir (from + k)) (end - from)
    ∙ ap (λ n. if meets_days s.days (day_of t) then n else 0) part

-- counting goes on from a moment of the same unit
counted-on : (s : Sieve) (dir : Dir) (t at : ℤ) (n k : ℕ) → at ≡ ahead dir t n → unit_of s.unit at
    ≡ unit_of s.unit t → counted s dir t (n + k) ≡ counted s dir at k
counted-on s dir t at n k place same =
    let there : ahead dir t (n + k) ≡ ahead dir at k = sym (rw place (ahead-ahead dir t n k)) in
    rw (there, same) refl

pub count-on : (s : Sieve) (dir : Dir) (t at : ℤ) (n m : ℕ) → at ≡ ahead dir t n → unit_of s.unit at
    ≡ unit_of s.unit t → count_below (counted s dir t) (n + m) ≡ count_below (counted s dir t) n +
    count_below (counted s dir at) m
count-on s dir t at n m place same =
    count-split (counted s dir t) n m ∙ ap (λ x. count_below (counted s dir t) n + x)
    (count-same (λ k. counted s dir t (n + k)) (counted s dir at) m
    (λ k below. counted-on s dir t at n k place same))

days-block : (u : TimeUnit) → is_of_days u ≡ true → 86_400 ≡ block_end u 0
days-block Year e = refl
days-block (WeekYear first) e = refl
days-block Month e = refl
days-block (Week first) e = refl
days-block Day e = refl
days-block Hour e = cc
days-block Minute e = cc
days-block Second e = cc

pub days-block_end : (u : TimeUnit) (n : ℕ) → is_of_days u ≡ true → block_end u n ≡ 86_400
days-block_end Year n e = refl
days-block_end (WeekYear first) n e = refl
days-block_end Month n e = refl
days-block_end (Week first) n e = refl
days-block_end Day n e = refl
days-block_end Hour n e = cc
days-block_end Minute n e = cc
days-block_end Second n e = cc

-- a whole day on
pub count-day : (s : Sieve) (dir : Dir) (t at : ℤ) (n : ℕ) → is_of_days s.unit ≡ true → at
    ≡ ahead dir t n → turn dir 86_400 (second_of_day at) ≡ 0 → unit_of s.unit at ≡ unit_of s.unit t
    → count_below (counted s dir t) (n + 86_400) ≡ count_below (counted s dir t) n +
    (if meets_days s.days (day_of at) then count_below (meets_second s dir) 86_400 else 0)
count-day s dir t at n days place first same =
    let none : count_below (meets_second s dir) 0 ≡ 0 = count-zero (meets_second s dir) in
    let whole : count_below (meets_second s dir) 86_400 - count_below (meets_second s dir) 0
    ≡ count_below (meets_second s dir) 86_400 = omega arith in
    count-on s dir t at n 86_400 place same
    ∙ ap (λ x. count_below (counted s dir t) n + x) (count-in-block s dir at 0 86_400 (sym first)
    (days-block s.unit days) ∙ ap (λ x. if meets_days s.days (day_of at) then x else 0) whole)

-- once the unit has changed it stays another
unit-stays-other : (u : TimeUnit) (dir : Dir) (t : ℤ) (n k : ℕ) → HasWeekday u → n ≤ k
    → unit_of u (ahead dir t k) ≡ unit_of u t → unit_of u (ahead dir t n) ≡ unit_of u t
unit-stays-other u Fore t n k weekday le same =
    let a = unit_of_mono u t (t +ℤ pos n) weekday (omega (arith, ints)) in
    let b = unit_of_mono u (t +ℤ pos n) (t +ℤ pos k) weekday (omega (arith, ints)) in
    omega (arith, ints, a, b, same)
unit-stays-other u Back t n k weekday le same =
    let a = unit_of_mono u (t -ℤ pos n) t weekday (omega (arith, ints)) in
    let b = unit_of_mono u (t -ℤ pos k) (t -ℤ pos n) weekday (omega (arith, ints)) in
    omega (arith, ints, a, b, same)

pub none-later : (s : Sieve) (dir : Dir) (t : ℤ) (n k : ℕ) → HasWeekday s.unit
    → (unit_of s.unit (ahead dir t n) ≡ unit_of s.unit t → ⊥) → n ≤ k → counted s dir t k ≡ false
none-later s dir t n k weekday other le =
    and_left _ _ (int_eq-not (unit_of s.unit (ahead dir t k)) (unit_of s.unit t)
    (λ same. other (unit-stays-other s.unit dir t n k weekday le same)))

-- a unit shorter than a day ends in it
unit-after-block : (u : TimeUnit) (dir : Dir) (t : ℤ) (k : ℕ) → is_of_days u ≡ false
    → turn dir 86_400 (second_of_day t) + k ≡ block_end u (turn dir 86_400 (second_of_day t))
    → unit_of u (ahead dir t k) ≡ unit_of u t → ⊥
unfolding unit_of
unit-after-block Year dir t k small e same = cc
unit-after-block (WeekYear first) dir t k small e same = cc
unit-after-block Month dir t k small e same = cc
unit-after-block (Week first) dir t k small e same = cc
unit-after-block Day Fore t k small e same = omega (arith, floor_arith)
unit-after-block Day Back t k small e same = omega (arith, floor_arith)
unit-after-block Hour Fore t k small e same = omega (arith, floor_arith)
unit-after-block Hour Back t k small e same = omega (arith, floor_arith)
unit-after-block Minute Fore t k small e same = omega (arith, floor_arith)
unit-after-block Minute Back t k small e same = omega (arith, floor_arith)
unit-after-block Second Fore t k small e same = omega (arith, floor_arith)
unit-after-block Second Back t k small e same = omega (arith, floor_arith)

-- and no unit has 372 days
pub unit-is-short : (u : TimeUnit) (dir : Dir) (t : ℤ) (k : ℕ) → HasWeekday u → 372 * 86_400 ≤ k
    → unit_of u (ahead dir t k) ≡ unit_of u t → ⊥
unit-is-short u Fore t k weekday long same = let h = days-of-unit u t (t +ℤ pos k) weekday
    (sym same) in omega (arith, floor_arith)
unit-is-short u Back t k weekday long same = let h = days-of-unit u (t -ℤ pos k) t weekday same in
    omega (arith, floor_arith)

-- what is counted is the rank, once nothing counts any more
pub capped-exact : (cap n r : ℕ) → r ≡ n → IsCapped cap n r
capped-exact cap n r e = record { below = λ below. e; above = λ above. omega arith }

pub rank-exact : (s : Sieve) (dir : Dir) (t : ℤ) (n : ℕ) → n ≤ 54 * 604_800
    → ((k : ℕ) → n ≤ k → counted s dir t k ≡ false) → rank_of s dir t
    ≡ count_below (counted s dir t) n
unfolding rank_in
rank-exact s dir t n le none = count-stays (counted s dir t) n (54 * 604_800) le none

-- or enough
pub capped-enough : (s : Sieve) (dir : Dir) (t : ℤ) (cap n r : ℕ) → n ≤ 54 * 604_800 → r
    ≡ count_below (counted s dir t) n → cap ≤ r → IsCapped cap (rank_of s dir t) r
unfolding rank_in
capped-enough s dir t cap n r le e enough =
    let more = count_mono (counted s dir t) n (54 * 604_800) le in
    record { below = λ below. absurd (omega arith); above = λ above. omega arith }

-- the rank in a unit shorter than days
pub rank-in-block : (s : Sieve) (dir : Dir) (t : ℤ) (from end : ℕ) → HasWeekday s.unit
    → is_of_days s.unit ≡ false → from ≡ turn dir 86_400 (second_of_day t) → end
    ≡ block_end s.unit from → rank_of s dir t ≡ count_below (counted s dir t) (end - from)
rank-in-block s dir t from end weekday small x y =
    let ends = block_end-le s.unit (turn dir 86_400 (second_of_day t)) (turned-is dir t) in
    let some : (from < end) × (end ≤ 86_400) = rw (y, x) ends in
    let last : turn dir 86_400 (second_of_day t) + (end - from)
    ≡ block_end s.unit (turn dir 86_400 (second_of_day t)) =
    rw (← x, ← y) (omega (arith, some.0)) in
    rank-exact s dir t (end - from) (omega (arith, some.1)) (λ k le. none-later s dir t (end - from)
    k weekday (unit-after-block s.unit dir t (end - from) small last) le)

pub rank-changed : (s : Sieve) (dir : Dir) (t at : ℤ) (n : ℕ) → HasWeekday s.unit → n ≤ 54 * 604_800
    → at ≡ ahead dir t n → (unit_of s.unit at ≡ unit_of s.unit t → ⊥) → rank_of s dir t
    ≡ count_below (counted s dir t) n
rank-changed s dir t at n weekday le place other =
    rank-exact s dir t n le (λ k more. none-later s dir t n k weekday
    (λ same. other (ap (unit_of s.unit) place ∙ same)) more)

pub rank-long : (s : Sieve) (dir : Dir) (t : ℤ) (n : ℕ) → HasWeekday s.unit → n ≤ 54 * 604_800
    → 372 * 86_400 ≤ n → rank_of s dir t ≡ count_below (counted s dir t) n
rank-long s dir t n weekday le long =
    rank-exact s dir t n le (λ k more. none-later s dir t n k weekday
    (unit-is-short s.unit dir t n weekday long) more)

-- the midnight to which a number of whole days leads
pub first-of-day : (dir : Dir) (t at : ℤ) (from day : ℕ) → from ≡ turn dir 86_400 (second_of_day t)
    → at ≡ ahead dir t (86_400 - from + 86_400 * day) → turn dir 86_400 (second_of_day at) ≡ 0
first-of-day Fore t at from day x e = omega (arith, floor_arith)
first-of-day Back t at from day x e = omega (arith, floor_arith)

pub working-on : (dir : Dir) (t at : ℤ) (n : ℕ) → IsDeepMoment t → n ≤ 34_560_000 → at
    ≡ ahead dir t n → IsWorkingMoment at
working-on Fore t at n deep le e = (omega (arith, ints), omega (arith, ints))
working-on Back t at n deep le e = (omega (arith, ints), omega (arith, ints))

-- the count begins with the rest of the first day
pub counted-first : (s : Sieve) (dir : Dir) (t at : ℤ) (from count : ℕ) → IsDeepMoment t
    → from < 86_400 → at ≡ ahead dir t (86_400 - from) → count ≡ count_below (counted s dir t)
    (86_400 - from) → count ≤ 86_400 → IsCounted s dir t from 0 at count
counted-first s dir t at from count deep below e counts most = record {
  place = e ∙ ap (ahead dir t) (none from);
  counts = counts ∙ ap (count_below (counted s dir t)) (none from);
  most = omega arith;
  working = working-on dir t at (86_400 - from) deep (omega arith) e;
  days = omega arith;
}
  where
    none : (from : ℕ) → 86_400 - from ≡ 86_400 - from + 86_400 * 0
    none from = omega arith

-- and goes on by a day
pub counted-more : (s : Sieve) (dir : Dir) (t at next : ℤ) (from day count more : ℕ)
    → IsDeepMoment t → is_of_days s.unit ≡ true → from ≡ turn dir 86_400 (second_of_day t)
    → from < 86_400 → day < 372 → IsCounted s dir t from day at count → unit_of s.unit at
    ≡ unit_of s.unit t → next ≡ ahead dir at 86_400 → more
    ≡ count + (if meets_days s.days (day_of at) then count_below (meets_second s dir) 86_400 else 0)
    → IsCounted s dir t from (day + 1) next more
counted-more s dir t at next from day count more deep days x below early is same e sum =
    let n = 86_400 - from + 86_400 * day in
    let whole : n + 86_400 ≡ 86_400 - from + 86_400 * (day + 1) = omega arith in
    let place : next ≡ ahead dir t (86_400 - from + 86_400 * (day + 1)) = e
    ∙ rw is.place (ahead-ahead dir t n 86_400 ∙ ap (ahead dir t) whole) in
    let added = count-day s dir t at n days is.place (first-of-day dir t at from day x is.place)
    same in
    let least = at-most (meets_days s.days (day_of at)) (count_below (meets_second s dir) 86_400)
    (count_le (meets_second s dir) 86_400) in
    let most = is.most in
    record {
      place = place;
      counts = sum ∙ rw is.counts (sym added) ∙ ap (count_below (counted s dir t)) whole;
      most = omega arith;
      working = working-on dir t next (86_400 - from + 86_400 * (day + 1)) deep (omega arith) place;
      days = omega arith;
    }
  where
    at-most : (b : Bool) (q : ℕ) → q ≤ 86_400 → (if b then q else 0) ≤ 86_400
    at-most true q le = le
    at-most false q le = omega arith

-- a table of ranks is read alike where a rank is told as far as matters
same-below : (cap n r : ℕ) (b : ℕ → Bool) → IsCapped cap n r
    → ((k : ℕ) → cap ≤ k → k < 384 → b k ≡ false) → (nat_lt r 384 && b r) ≡ (nat_lt n 384 && b n)
same-below cap n r b is clear = elim (cases_lt r cap) [
  | inl below ↦ (let e : r ≡ n = is.below below in ap (λ m. nat_lt m 384 && b m) e)
  | inr above ↦ nothing r above ∙ sym (nothing n (is.above above))
]
  where
    nothing : (m : ℕ) → cap ≤ m → (nat_lt m 384 && b m) ≡ false
    nothing m le = elim (cases_lt m 384) [
      | inl below ↦ and_right _ _ (clear m le below)
      | inr past ↦
          and_left _ _ (le-ltb m 384 past)
    ]

pub ranks-capped : (words : List ℕ) (a b n m v w : ℕ) → length words ≡ 12
    → ((k : ℕ) → a ≤ k → k < 384 → has_bit words (64 * 0 + k) ≡ false)
    → ((k : ℕ) → b ≤ k → k < 384 → has_bit words (64 * 6 + k) ≡ false) → IsCapped a n v
    → IsCapped b m w → is_in_signed words v w ≡ is_in_signed words n m
unfolding is_in_signed
ranks-capped words a b n m v w len clear_a clear_b x y =
    rw len (both-same (same-below a n v (has_bit words) x (λ k low high. let place : 64 * 0 + k
    ≡ k = omega arith in ap (has_bit words) (sym place) ∙ clear_a k low high))
    (same-below b m w (λ k. has_bit words (384 + k)) y clear_b))
  where
    both-same : {a b c d : Bool} → a ≡ b → c ≡ d → (a || c) ≡ (b || d)
    both-same x y = cc

pub capped-same : (cap n m r : ℕ) → n ≡ m → IsCapped cap n r → IsCapped cap m r
capped-same cap n m r e is =
    record {
      below =
          λ below. is.below below ∙ e;
      above = λ above. let most = is.above above in omega arith;
    }
