-- Sets that repeat, and what one period says of the whole line.
use Rattle.std.proofs.Common.{◌≡◌, inl, inr, ap, refl, sym, ◌∙◌, arith, ℕ, zero, suc, ◌+◌, ◌-◌, ◌*◌, ◌/◌, ◌<◌, ◌≤◌, ℤ, pos, ◌+ℤ◌, ◌-ℤ◌, ◌≤ℤ◌, unsigned_abs, Bool, true, false, nat_le, Some, None, if◌then◌else◌}
use Rattle.std.proofs.Math.Nat.{mul-div_cancel', mul_assoc, mul_comm, suc-mul}
use Rattle.std.proofs.lemmas.Bool.{cases_lt, leb-true}
use Rattle.std.proofs.lemmas.Int.{clamps, ints}
use Rattle.std.specs.Int.{int_max, int_min, ◌∣◌}
use Rattle.moment_core.specs.Sets.{ahead, seen, IsUpTo}
use Rattle.moment_core.specs.declared.line.Dir.{Dir}
use Rattle.moment_core.specs.declared.line.Dir.TheVariants.{Fore, Back}
use Rattle.moment_core.specs.declared.line.TheConstants.{WIDTH}
use Rattle.frame_core.specs.Frames.{IsPeriod, Repeats, framed, join_of, repeats_by, repeats_from}
use Rattle.frame_core.specs.Periods.{in_width, least_common}
use Rattle.frame_core.specs.declared.frames.Frame.{Frame}
use Rattle.frame_core.proofs.Multiples.{least_common-IsLeastCommon}
use Rattle.moment_core.proofs.LineLaws.{ahead-ahead, seen-zero}
use Rattle.moment_core.proofs.Order.{steps_in_order}

-- p lies where a set with the frame repeats, in the direction
abbrev pub IsFrom : Frame → Dir → ℤ → Type 0
IsFrom frame Fore p = frame.hi.0 ≤ℤ p
IsFrom frame Back p = p ≤ℤ frame.lo.0

pub IsFrom-ahead : (frame : Frame) (dir : Dir) (p : ℤ) (k : ℕ) → IsFrom frame dir p
    → IsFrom frame dir (ahead dir p k)
IsFrom-ahead frame Fore p k h = omega (arith, ints)
IsFrom-ahead frame Back p k h = omega (arith, ints)

-- the record of both directions from one law, and back
pub Repeats-again : (set : ℤ → Bool) (frame : Frame) → Repeats set frame → (dir : Dir) (p : ℤ)
    → IsFrom frame dir p → set (ahead dir p (2 * frame.period)) ≡ set p
Repeats-again set frame r Fore p h = r.upwards p h
Repeats-again set frame r Back p h = r.downwards p h

pub Repeats-from : (set : ℤ → Bool) (frame : Frame) → ((dir : Dir) (p : ℤ) → IsFrom frame dir p
    → set (ahead dir p (2 * frame.period)) ≡ set p) → Repeats set frame
Repeats-from set frame again =
    record { upwards = λ p h. again Fore p h; downwards = λ p h. again Back p h }

-- what repeats after a period repeats after each multiple of it
pub Repeats-times : (set : ℤ → Bool) (frame : Frame) → Repeats set frame
    → (dir : Dir) (k : ℕ) (p : ℤ) → IsFrom frame dir p → set (ahead dir p (k * (2 * frame.period)))
    ≡ set p
Repeats-times set frame r dir zero p h =
    let none : 0 * (2 * frame.period) ≡ 0 = omega arith in
    ap (λ m. set (ahead dir p m)) none ∙ seen-zero set dir p
Repeats-times set frame r dir (suc k) p h =
    let n = 2 * frame.period in
    let e : suc k * n ≡ k * n + n = suc-mul k n in
    ap (λ m. set (ahead dir p m)) e
    ∙ ap set (sym (ahead-ahead dir p (k * n) n))
    ∙ Repeats-again set frame r dir (ahead dir p (k * n)) (IsFrom-ahead frame dir p (k * n) h)
    ∙ Repeats-times set frame r dir k p h

-- b begins to repeat no earlier than a, either way
pub record IsWithin (b a : Frame) : Type 0 where
  pub above : a.hi.0 ≤ℤ b.hi.0
  pub below : b.lo.0 ≤ℤ a.lo.0

IsFrom-within : (b a : Frame) → IsWithin b a → (dir : Dir) (p : ℤ) → IsFrom b dir p → IsFrom a dir p
IsFrom-within b a w Fore p h = omega (arith, ints)
IsFrom-within b a w Back p h = omega (arith, ints)

-- so the period may be a multiple, and the set may be said to repeat from farther on
pub Repeats-multiple : (set : ℤ → Bool) (a b : Frame) → IsWithin b a → a.period ∣ b.period
    → Repeats set a → Repeats set b
Repeats-multiple set a b within divides r = Repeats-from set b (λ dir p h.
    let k = b.period / a.period in
    let whole : a.period * k ≡ b.period = mul-div_cancel' a.period divides in
    let e : 2 * b.period ≡ k * (2 * a.period) =
    ap (λ x. 2 * x) (sym whole ∙ mul_comm a.period k) ∙ sym (mul_assoc 2 k a.period)
    ∙ ap (λ x. x * a.period) (mul_comm 2 k) ∙ mul_assoc k 2 a.period in
    ap (λ n. set (ahead dir p n)) e ∙ Repeats-times set a r dir k p
    (IsFrom-within b a within dir p h))

-- what is made of the membership in two sets, or in one
pub Repeats-op : (op : Bool → Bool → Bool) (f g : ℤ → Bool) (frame : Frame) → Repeats f frame
    → Repeats g frame → Repeats (λ p. op (f p) (g p)) frame
Repeats-op op f g frame r s = record {
  upwards = λ p h. rw (r.upwards p h, s.upwards p h) refl;
  downwards = λ p h. rw (r.downwards p h, s.downwards p h) refl;
}

pub Repeats-apart : (op : Bool → Bool) (f : ℤ → Bool) (frame : Frame) → Repeats f frame
    → Repeats (λ p. op (f p)) frame
Repeats-apart op f frame r = record {
  upwards = λ p h. ap op (r.upwards p h);
  downwards = λ p h. ap op (r.downwards p h);
}

-- a set that has one value from `hi` upwards and one from `lo` downwards
pub Repeats-constant : (set : ℤ → Bool) (frame : Frame) (v w : Bool)
    → ((p : ℤ) → frame.hi.0 ≤ℤ p → set p ≡ v) → ((p : ℤ) → p ≤ℤ frame.lo.0 → set p ≡ w)
    → Repeats set frame
Repeats-constant set frame v w above below = record {
  upwards = λ p h. above (p +ℤ pos (2 * frame.period)) (omega (arith, ints)) ∙ sym (above p h);
  downwards = λ p h. below (p -ℤ pos (2 * frame.period)) (omega (arith, ints)) ∙ sym (below p h);
}

abbrev frame_at : ℤ → ℤ → ℕ → Frame
frame_at lo hi period = record { lo = record { 0 = lo }; hi = record { 0 = hi }; period = period }

-- a frame that is there is the one with these ends and this period
pub framed-is : (lo hi : ℤ) (period : ℕ) (frame : Frame) → framed lo hi period ≡ Some frame
    → (frame.lo.0 ≡ lo) × (frame.hi.0 ≡ hi) × (frame.period ≡ period) × (period ≤ WIDTH)
framed-is lo hi period frame = elim (nat_le period WIDTH) as (λ b. nat_le period WIDTH ≡ b
    → (if b then Some (frame_at lo hi period) else None) ≡ Some frame → (frame.lo.0 ≡ lo)
    × (frame.hi.0 ≡ hi) × (frame.period ≡ period) × (period ≤ WIDTH)) [
      | true ↦ λ t e.
          let same : frame ≡ frame_at lo hi period = cc in (
            ap (λ (f : Frame). f.lo.0) same,
            ap (λ (f : Frame). f.hi.0) same,
            ap
                (λ (f : Frame). f.period) same,
            leb-true period WIDTH t,
          )
      | false ↦ λ t e. absurd cc
    ] refl

pub join_of-within : (a b joined : Frame) → join_of a b ≡ Some joined → IsWithin joined a
    × IsWithin joined b
join_of-within a b joined e =
    let is = framed-is (int_min a.lo.0 b.lo.0) (int_max a.hi.0 b.hi.0)
    (least_common a.period b.period) joined e in (
      record { above = omega (arith, ints, clamps); below = omega (arith, ints, clamps) },
      record { above = omega (arith, ints, clamps); below = omega (arith, ints, clamps) },
    )

pub Repeats-join : (op : Bool → Bool → Bool) (f g : ℤ → Bool) (a b joined : Frame)
    → IsPeriod a.period → IsPeriod b.period → join_of a b ≡ Some joined → Repeats f a → Repeats g b
    → Repeats (λ p. op (f p) (g p)) joined
Repeats-join op f g a b joined x y e r s =
    let is = framed-is (int_min a.lo.0 b.lo.0) (int_max a.hi.0 b.hi.0)
    (least_common a.period b.period) joined e in
    let within = join_of-within a b joined e in
    let common = least_common-IsLeastCommon a.period b.period x.0 y.0 in
    Repeats-op op f g joined
    (Repeats-multiple f a joined within.0 (rw is.2 common.of_left) r)
    (Repeats-multiple g b joined within.1 (rw is.2 common.of_right) s)

-- what repeats from step `from` on, and keeps its value up to a period from there, keeps it for
-- good
keeps_within : (f : ℕ → Bool) (from period : ℕ) → 0 < period
    → ((k : ℕ) → from ≤ k → f (k + period) ≡ f k) → ((k : ℕ) → k ≤ from + period → f k ≡ f 0)
    → (n k : ℕ) → k ≤ n → f k ≡ f 0
keeps_within f from period positive again near zero k h = near k (omega arith)
keeps_within f from period positive again near (suc n) k h = elim (cases_lt (from + period) k) [
  | inl far ↦
      let e : k ≡ k - period + period = omega arith in
      ap f e ∙ again (k - period) (omega arith) ∙ keeps_within f from period positive again near n
      (k - period) (omega arith)
  | inr within ↦ near k within
]

-- how many steps lead from p to where a set with the frame repeats
to_repeats : (frame : Frame) (dir : Dir) (p : ℤ) → (n : ℕ)
    × (repeats_from frame dir p ≡ ahead dir p n) × IsFrom frame dir (ahead dir p n)
to_repeats frame Fore p = (
  unsigned_abs (int_max p frame.hi.0 -ℤ p),
  omega (arith, ints, clamps),
  omega (arith, ints, clamps),
)
to_repeats frame Back p = (
  unsigned_abs (p -ℤ int_min p frame.lo.0),
  omega (arith, ints, clamps),
  omega (arith, ints, clamps),
)

IsFrom-later : (frame : Frame) (dir : Dir) (p : ℤ) (m k : ℕ) → m ≤ k
    → IsFrom frame dir (ahead dir p m) → IsFrom frame dir (ahead dir p k)
IsFrom-later frame Fore p m k h x = omega (arith, ints)
IsFrom-later frame Back p m k h x = omega (arith, ints)

pub keeps : (set : ℤ → Bool) (frame : Frame) (dir : Dir) (p : ℤ) → 0 < frame.period
    → Repeats set frame → ((k : ℕ) → IsUpTo dir (repeats_by frame dir p) (ahead dir p k)
    → seen set dir p k ≡ set p) → (k : ℕ) → seen set dir p k ≡ set p
keeps set frame dir p positive r near k =
    let n = 2 * frame.period in
    let way = to_repeats frame dir p in
    let from : ℕ = way.0 in
    let there : IsFrom frame dir (ahead dir p from) = way.2 in
    let begins : repeats_by frame dir p ≡ ahead dir p (from + n) =
    ap (λ q. ahead dir q n) way.1 ∙ ahead-ahead dir p from n in
    let start : seen set dir p 0 ≡ set p = seen-zero set dir p in
    let again = λ (j : ℕ) (h : from ≤ j).
    let past : IsFrom frame dir (ahead dir p j) = IsFrom-later frame dir p from j h there in
    ap set (sym (ahead-ahead dir p j n)) ∙ Repeats-again set frame r dir (ahead dir p j) past in
    let same = λ (j : ℕ) (h : j ≤ from + n). near j
    (rw begins (steps_in_order dir p j (from + n) h)) ∙ sym start in
    keeps_within (seen set dir p) from n (omega arith) again same k k (omega arith) ∙ start

-- the joined frame, part by part, where the period is no longer than the calendar range
pub join_of-is : (a b joined : Frame) → joined.lo.0 ≡ int_min a.lo.0 b.lo.0 → joined.hi.0
    ≡ int_max a.hi.0 b.hi.0 → in_width (least_common a.period b.period) ≡ Some joined.period
    → join_of a b ≡ Some joined
join_of-is a b joined low high e = elim (nat_le (least_common a.period b.period) WIDTH) as
    (λ t. (if t then Some (least_common a.period b.period) else None) ≡ Some joined.period
    → (if t then Some (frame_at (int_min a.lo.0 b.lo.0) (int_max a.hi.0 b.hi.0)
    (least_common a.period b.period)) else None) ≡ Some joined) [
      | true ↦ λ e.
          let same : least_common a.period b.period ≡ joined.period = cc in
          rw (sym low, sym high, same) refl
      | false ↦ λ e. absurd cc
    ] e

pub join_of-IsPeriod : (a b joined : Frame) → IsPeriod a.period → IsPeriod b.period → join_of a b
    ≡ Some joined → IsPeriod joined.period
join_of-IsPeriod a b joined x y e =
    let is = framed-is (int_min a.lo.0 b.lo.0) (int_max a.hi.0 b.hi.0)
    (least_common a.period b.period) joined e in
    let some = (least_common-IsLeastCommon a.period b.period x.0 y.0).positive in
    (omega arith, omega arith)
