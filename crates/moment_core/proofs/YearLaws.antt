-- How days and years follow one another.
use Rattle.std.proofs.Common.{◌≡◌, ℕ, zero, suc, ◌+◌, ◌-◌, ◌%◌, ◌<◌, ◌≤◌, inl, inr, Bool, true, false, cond, refl, sym, ap, ◌∙◌, arith, ℤ, pos, ◌+ℤ◌, ◌-ℤ◌, ◌*ℤ◌, ◌<ℤ◌, ◌≤ℤ◌, nat_le}
use Rattle.std.proofs.lemmas.Bool.{cases_lt, le-leb, lt-leb}
use Rattle.std.proofs.lemmas.Int.{by_lt_z}
use Rattle.moment_core.proofs.FloorLemmas.{floor_arith}
use Rattle.moment_core.specs.Calendar.{floor_div, floor_mod, is_leap, year_len, days_of_years, first_day, last_begun, year_of}
use borrow.Author.Differences.{up, down}

-- a number is its quotient and what is left, and no other numbers do that
pub floor400-parts : (z : ℤ) → (z ≡ floor_div z 400 *ℤ pos 400 +ℤ pos (floor_mod z 400))
    × (floor_mod z 400 < 400)
floor400-parts z = (omega (arith, floor_arith), omega (arith, floor_arith))

pub floor400-unique : (z q : ℤ) (r : ℕ) → r < 400 → z ≡ q *ℤ pos 400 +ℤ pos r
    → (floor_div z 400 ≡ q) × (floor_mod z 400 ≡ r)
floor400-unique z q r h e = (omega (arith, floor_arith), omega (arith, floor_arith))

pub floor_cycle-parts : (z : ℤ)
    → (z ≡ floor_div z 146_097 *ℤ pos 146_097 +ℤ pos (floor_mod z 146_097))
    × (floor_mod z 146_097 < 146_097)
floor_cycle-parts z = (omega (arith, floor_arith), omega (arith, floor_arith))

pub floor_cycle-unique : (z q : ℤ) (r : ℕ) → r < 146_097 → z ≡ q *ℤ pos 146_097 +ℤ pos r
    → (floor_div z 146_097 ≡ q) × (floor_mod z 146_097 ≡ r)
floor_cycle-unique z q r h e = (omega (arith, floor_arith), omega (arith, floor_arith))

floor_mod-shift : (y c : ℤ) (r : ℕ) → y ≡ c *ℤ pos 400 +ℤ pos r → (floor_mod y 4 ≡ r % 4)
    × (floor_mod y 100 ≡ r % 100) × (floor_mod y 400 ≡ r % 400)
floor_mod-shift y c r e = (
  omega (arith, floor_arith),
  omega (arith, floor_arith),
  omega
      (arith, floor_arith),
)

pub is_leap-shift : (y c : ℤ) (r : ℕ) → y ≡ c *ℤ pos 400 +ℤ pos r → is_leap y ≡ is_leap (pos r)
unfolding is_leap
is_leap-shift y c r e = let s = floor_mod-shift y c r e in rw (s.0, s.1, s.2)

-- the calendar's rule begins anew each 400 years
pub is_leap-cycle : (y : ℤ) → is_leap (y +ℤ pos 400) ≡ is_leap y
is_leap-cycle y =
    let p = (floor400-parts y).0 in
    let q : y +ℤ pos 400 ≡ (floor_div y 400 +ℤ pos 1) *ℤ pos 400 +ℤ pos (floor_mod y 400) =
    omega (arith, floor_arith) in
    is_leap-shift (y +ℤ pos 400) (floor_div y 400 +ℤ pos 1) (floor_mod y 400) q
    ∙ sym (is_leap-shift y (floor_div y 400) (floor_mod y 400) p)

pub days_of_years-cycle : days_of_years 400 ≡ 146_097
unfolding days_of_years is_leap
days_of_years-cycle = refl

pub days_of_years-suc : (n : ℕ) → days_of_years (suc n) ≡ days_of_years n + year_len (pos n)
unfolding days_of_years
days_of_years-suc n = refl

pub year_len_bounds : (y : ℤ) → (365 ≤ year_len y) × (year_len y ≤ 366)
year_len_bounds y = grind arith

-- what grows at each step grows
pub mono_from_steps : (start : ℕ → ℕ) → ((n : ℕ) → start n ≤ start (suc n)) → (a k : ℕ)
    → start a ≤ start (k + a)
mono_from_steps start step a zero = let e : 0 + a ≡ a = omega arith in rw e (omega arith)
mono_from_steps start step a (suc k) =
    let e : suc k + a ≡ suc (k + a) = omega arith in
    rw e (omega (arith, mono_from_steps start step a k, step (k + a)))

pub mono : (start : ℕ → ℕ) → ((n : ℕ) → start n ≤ start (suc n)) → (a b : ℕ) → a ≤ b
    → start a ≤ start b
mono start step a b h =
    let e : b - a + a ≡ b = omega arith in
    rw e at (mono_from_steps start step a (b - a))

pub days_of_years-step : (n : ℕ) → days_of_years n ≤ days_of_years (suc n)
days_of_years-step n = omega (arith, days_of_years-suc n)

pub days_of_years_mono : (a b : ℕ) → a ≤ b → days_of_years a ≤ days_of_years b
days_of_years_mono = mono days_of_years days_of_years-step

pub first_day-at : (y c : ℤ) (r : ℕ) → r ≤ 400 → y ≡ c *ℤ pos 400 +ℤ pos r → first_day y
    ≡ c *ℤ pos 146_097 +ℤ pos (days_of_years r) -ℤ pos 719_528
unfolding first_day
first_day-at y c r h e =
    elim (cases_lt r 400) [
      | inl lt ↦ let s = floor400-unique y c r lt e in rw (s.0, s.1)
      | inr ge ↦
          let is : r ≡ 400 = omega arith in
          let next : y ≡ (c +ℤ pos 1) *ℤ pos 400 +ℤ pos 0 = omega (arith, floor_arith) in
          let s = floor400-unique y (c +ℤ pos 1) 0 (omega arith) next in
          let none : days_of_years 0 ≡ 0 = unfold days_of_years in refl in
          rw (s.0, s.1, is, days_of_years-cycle, none) (omega (arith, floor_arith))
    ]

-- each year begins after the days of the year before
pub first_day-next : (y : ℤ) → first_day (y +ℤ pos 1) ≡ first_day y +ℤ pos (year_len y)
first_day-next y =
    let c = floor_div y 400 in
    let r = floor_mod y 400 in
    let p = floor400-parts y in
    let here = first_day-at y c r (omega arith) p.0 in
    let there = first_day-at (y +ℤ pos 1) c (suc r) (omega arith) (omega (arith, floor_arith)) in
    let same : year_len y ≡ year_len (pos r) = ap (λ (b : Bool). cond b 366 365)
    (is_leap-shift y c r p.0) in
    omega (arith, floor_arith, days_of_years-suc r)

pub first_day-1970 : first_day (pos 1970) ≡ pos 0
unfolding first_day days_of_years is_leap
first_day-1970 = refl

-- the calendar begins anew each 400 years
pub first_day-cycle : (y : ℤ) → first_day (y +ℤ pos 400) ≡ first_day y +ℤ pos 146_097
first_day-cycle y =
    let c = floor_div y 400 in
    let r = floor_mod y 400 in
    let p = floor400-parts y in
    let here = first_day-at y c r (omega arith) p.0 in
    let there = first_day-at (y +ℤ pos 400) (c +ℤ pos 1) r (omega arith)
    (omega (arith, floor_arith)) in
    omega (arith, floor_arith)

pub first_day_mono : (y later : ℤ) → y ≤ℤ later → first_day y ≤ℤ first_day later
first_day_mono y later h =
    let c = floor_div y 400 in
    let r = floor_mod y 400 in
    let p = floor400-parts y in
    let c₂ = floor_div later 400 in
    let r₂ = floor_mod later 400 in
    let p₂ = floor400-parts later in
    let here = first_day-at y c r (omega arith) p.0 in
    let there = first_day-at later c₂ r₂ (omega arith) p₂.0 in
    let whole = days_of_years_mono r 400 (omega arith) in
    by_lt_z c c₂ (λ lt. omega (arith, floor_arith, days_of_years-cycle))
    (λ ge.
    let same : c ≡ c₂ = omega (arith, floor_arith) in
    let less = days_of_years_mono r r₂ (omega (arith, floor_arith)) in
    omega (arith, floor_arith))

-- the last that has begun has begun, and the next has not
pub last_begun-is : (start : ℕ → ℕ) (n r : ℕ) → start 0 ≡ 0 → r < start (suc n)
    → (start (last_begun start n r) ≤ r) × (r < start (suc (last_begun start n r)))
    × (last_begun start n r ≤ n)
unfolding last_begun
last_begun-is start zero r z h = (omega arith, h, omega arith)
last_begun-is start (suc n) r z h =
    elim (cases_lt r (start (suc n))) [
      | inl lt ↦
          let test : nat_le (start (suc n)) r ≡ false = lt-leb (start (suc n)) r lt in
          let before = last_begun-is start n r z lt in
          rw test (before.0, before.1, omega arith)
      | inr ge ↦
          let test : nat_le (start (suc n)) r ≡ true = le-leb (start (suc n)) r ge in
          rw test (ge, h, omega arith)
    ]

-- and no other does that
pub last_begun-unique : (start : ℕ → ℕ) → ((k : ℕ) → start k ≤ start (suc k)) → (n r k : ℕ) → k ≤ n
    → start k ≤ r → r < start (suc k) → last_begun start n r ≡ k
unfolding last_begun
last_begun-unique start step zero r k h low high = omega arith
last_begun-unique start step (suc n) r k h low high =
    elim (cases_lt r (start (suc n))) [
      | inl lt ↦
          let test : nat_le (start (suc n)) r ≡ false = lt-leb (start (suc n)) r lt in
          elim (cases_lt k (suc n)) [
            | inl below ↦ rw test (last_begun-unique start step n r k (omega arith) low high)
            | inr above ↦ absurd (let is : k ≡ suc n = omega arith in let low₂ = rw is at low in
                omega arith)
          ]
      | inr ge ↦
          let test : nat_le (start (suc n)) r ≡ true = le-leb (start (suc n)) r ge in
          elim (cases_lt k (suc n)) [
            | inl below ↦ absurd (omega (arith, mono start step (suc k) (suc n) below))
            | inr above ↦ rw test (omega arith)
          ]
    ]

-- the year of a day has begun, and the next has not
pub year_of-is : (day : ℤ) → (first_day (year_of day) ≤ℤ day)
    × (day <ℤ first_day (year_of day +ℤ pos 1))
unfolding year_of
year_of-is day =
    let z = day +ℤ pos 719_528 in
    let c = floor_div z 146_097 in
    let r = floor_mod z 146_097 in
    let p = floor_cycle-parts z in
    let none : days_of_years 0 ≡ 0 = unfold days_of_years in refl in
    let is = last_begun-is days_of_years 399 r none (omega (arith, days_of_years-cycle)) in
    let k = last_begun days_of_years 399 r in
    let here = first_day-at (c *ℤ pos 400 +ℤ pos k) c k (omega arith) refl in
    let there = first_day-at (c *ℤ pos 400 +ℤ pos k +ℤ pos 1) c (suc k) (omega arith)
    (omega (arith, floor_arith)) in
    (omega (arith, floor_arith), omega (arith, floor_arith))

-- and it is the only such year
pub year_of-unique : (day y : ℤ) → first_day y ≤ℤ day → day <ℤ first_day (y +ℤ pos 1) → year_of day
    ≡ y
unfolding year_of
year_of-unique day y low high =
    let c = floor_div y 400 in
    let r = floor_mod y 400 in
    let p = floor400-parts y in
    let here = first_day-at y c r (omega arith) p.0 in
    let there = first_day-at (y +ℤ pos 1) c (suc r) (omega arith) (omega (arith, floor_arith)) in
    let z = day +ℤ pos 719_528 in
    let k = up day + down (first_day y) - (down day + up (first_day y)) in
    let place : z ≡ c *ℤ pos 146_097 +ℤ pos (days_of_years r + k) = omega (arith, floor_arith) in
    let whole = days_of_years_mono (suc r) 400 (omega arith) in
    let within : days_of_years r + k < days_of_years (suc r) = omega (arith, floor_arith) in
    let s = floor_cycle-unique z c (days_of_years r + k) (omega (arith, days_of_years-cycle))
    place in
    let found = last_begun-unique days_of_years days_of_years-step 399 (days_of_years r + k) r
    (omega arith) (omega arith) within in
    rw (s.0, s.1, found) (sym p.0)

-- 146,097 days later the year is 400 years later
pub year_of-cycle : (day : ℤ) → year_of (day +ℤ pos 146_097) ≡ year_of day +ℤ pos 400
unfolding year_of
year_of-cycle day =
    let z = day +ℤ pos 719_528 in
    let p = floor_cycle-parts z in
    let s = floor_cycle-unique (day +ℤ pos 146_097 +ℤ pos 719_528) (floor_div z 146_097 +ℤ pos 1)
    (floor_mod z 146_097) p.1 (omega (arith, floor_arith)) in
    rw (s.0, s.1) (omega (arith, floor_arith))

-- a later day has no earlier year
pub year_of_mono : (day later : ℤ) → day ≤ℤ later → year_of day ≤ℤ year_of later
year_of_mono day later h =
    by_lt_z (year_of later) (year_of day)
    (λ lt. absurd (
    let mono = first_day_mono (year_of later +ℤ pos 1) (year_of day) (omega (arith, floor_arith)) in
    omega (arith, floor_arith, year_of-is day, year_of-is later)))
    (λ ge. ge)

pub last_begun_le : (start : ℕ → ℕ) (n r : ℕ) → last_begun start n r ≤ n
unfolding last_begun
last_begun_le start zero r = omega arith
last_begun_le start (suc n) r =
    elim (cases_lt r (start (suc n))) [
      | inl lt ↦ let test : nat_le (start (suc n)) r ≡ false = lt-leb (start (suc n)) r lt in
          rw test (omega (arith, last_begun_le start n r))
      | inr ge ↦ let test : nat_le (start (suc n)) r ≡ true = le-leb (start (suc n)) r ge in
          rw test (omega arith)
    ]

-- and a later day lies in no earlier part
pub last_begun_mono : (start : ℕ → ℕ) (n r later : ℕ) → r ≤ later → last_begun start n r ≤
    last_begun start n later
unfolding last_begun
last_begun_mono start zero r later h = omega arith
last_begun_mono start (suc n) r later h =
    let le = last_begun_le start n r in
    elim (cases_lt later (start (suc n))) [
      | inl lt ↦
          let test : nat_le (start (suc n)) later ≡ false = lt-leb (start (suc n)) later lt in
          let test₂ : nat_le (start (suc n)) r ≡ false = lt-leb (start (suc n)) r (omega arith) in
          rw (test, test₂) (last_begun_mono start n r later h)
      | inr ge ↦
          let test : nat_le (start (suc n)) later ≡ true = le-leb (start (suc n)) later ge in
          elim (cases_lt r (start (suc n))) [
            | inl below ↦ let test₂ : nat_le (start (suc n)) r ≡ false = lt-leb (start (suc n)) r
                below in rw (test, test₂) (omega arith)
            | inr above ↦ let test₂ : nat_le (start (suc n)) r ≡ true = le-leb (start (suc n)) r
                above in rw (test, test₂) (omega arith)
          ]
    ]
