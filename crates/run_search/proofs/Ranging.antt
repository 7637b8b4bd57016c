-- The moments of bounds, and the places of searches, lie in the calendar range.
use Rattle.std.proofs.Common.{◌≡◌, inl, inr, sym, subst, refl, arith, ℕ, zero, suc, ◌<◌, ℤ, pos, ◌+ℤ◌, ◌-ℤ◌, ◌≤ℤ◌, Bool, true, false, Option, Some, None, if◌then◌else◌}
use Rattle.std.specs.Ordering.{int_eq}
use Rattle.std.proofs.lemmas.Int.{ints}
use Rattle.moment_core.specs.Line.{IsCalendarMoment, IsCalendarPosition, is_moment, moment_of, position_of}
use Rattle.moment_core.specs.Sets.{ahead, IsNextChange}
use Rattle.moment_core.specs.declared.line.Dir.{Dir}
use Rattle.moment_core.specs.declared.line.Dir.TheVariants.{Fore, Back}
use Rattle.moment_core.specs.declared.line.TheConstants.{LOW, HIGH}
use Rattle.moment_core.specs.declared.line.Window.{Window}
use Rattle.moment_core.proofs.LineLaws.{halves, moment_in_range}
use Rattle.moment_core.proofs.Comparing.{less_if_other}
use Rattle.span_core.specs.Bounds.{IsCalendarBound, IsCalendarRun, high_bound, low_bound}
use Rattle.span_core.specs.declared.bounds.Bound.TheVariants as bounds
use Rattle.run_search.specs.Places.{IsPlaceWithin}
use Rattle.run_search.specs.Runs.{beyond, high_end, item_between, low_end}

-- the moment after an open second of the range

moment_after : (q : ℤ) → IsCalendarPosition q → is_moment q ≡ false
    → IsCalendarMoment (moment_of q +ℤ pos 1)
moment_after q here apart =
    let near = halves q in
    let past : (position_of (moment_of q) +ℤ pos 1) ≤ℤ q =
    less_if_other (position_of (moment_of q)) q apart near.0 in
    let high : q ≤ℤ (position_of (moment_of q) +ℤ pos 1) = near.1 in
    (omega (arith, ints), omega (arith, ints))

-- the bounds of a run in the range
low_in_range : (q : ℤ) → IsCalendarPosition q → IsCalendarBound (low_bound q)
low_in_range q here =
    elim (is_moment q) as (λ b. IsCalendarBound (if b then bounds.Closed
    (record { 0 = moment_of q }) else bounds.Open (record { 0 = moment_of q }))) [
      | true ↦ moment_in_range q here
      | false ↦ moment_in_range q here
    ]

high_in_range : (q : ℤ) → IsCalendarPosition q → IsCalendarBound (high_bound q)
high_in_range q here =
    elim (is_moment q) as (λ b. is_moment q ≡ b
    → IsCalendarBound (if b then bounds.Closed (record { 0 = moment_of q }) else bounds.Open
    (record { 0 = moment_of q +ℤ pos 1 }))) [
      | true ↦ λ e. moment_in_range q here
      | false ↦ λ e. moment_after q here e
    ] refl

beyond_in_range : (w : Option Window) → IsCalendarBound (beyond w)
beyond_in_range (Some w) = tt
beyond_in_range None = tt

low_end_in_range : (window : Dir → ℤ → Option Window) (low high : ℤ) → IsCalendarPosition low
    → IsCalendarBound (low_end window low high)
low_end_in_range window low high here =
    elim (int_eq low (position_of LOW)) as (λ b. IsCalendarBound (if b then beyond
    (window Back high) else low_bound low)) [
      | true ↦ beyond_in_range (window Back high)
      | false ↦ low_in_range low here
    ]

high_end_in_range : (window : Dir → ℤ → Option Window) (low high : ℤ) → IsCalendarPosition high
    → IsCalendarBound (high_end window low high)
high_end_in_range window low high here =
    elim (int_eq high (position_of HIGH)) as (λ b. IsCalendarBound (if b then beyond
    (window Fore low) else high_bound high)) [
      | true ↦ beyond_in_range (window Fore low)
      | false ↦ high_in_range high here
    ]

pub item_in_range : (window : Dir → ℤ → Option Window) (low high : ℤ) → IsCalendarPosition low
    → IsCalendarPosition high → IsCalendarRun (item_between window low high)
item_in_range window low high a b =
    (low_end_in_range window low high a, high_end_in_range window low high b)

-- the places of a search
right_before : (set : ℤ → Bool) (dir : Dir) (p x place : ℤ) → IsCalendarPosition p
    → IsNextChange set dir p x → IsCalendarPosition x → ahead dir place 1 ≡ x
    → IsCalendarPosition place
right_before set Fore p x place here c near e =
    let n : ℕ = c.0 in
    let at : x ≡ p +ℤ pos n = c.1 in
    let later : 0 < n = c.2.later in
    (omega (arith, ints), omega (arith, ints))
right_before set Back p x place here c near e =
    let n : ℕ = c.0 in
    let at : x ≡ p -ℤ pos n = c.1 in
    let later : 0 < n = c.2.later in
    (omega (arith, ints), omega (arith, ints))

pub place_in_range : (set : ℤ → Bool) (dir : Dir) (n : ℕ) (p place : ℤ) → IsCalendarPosition p
    → IsPlaceWithin set dir n p place → IsCalendarPosition place
place_in_range set dir zero p place here h =
    let P : ℤ → Type 0 = λ z. IsCalendarPosition z in
    subst P (sym h) here
place_in_range set dir (suc n) p place here (inl h) =
    let P : ℤ → Type 0 = λ z. IsCalendarPosition z in
    subst P (sym h) here
place_in_range set dir (suc n) p place here (inr (x, c, near, inl h)) =
    right_before set dir p x place here c near h
place_in_range set dir (suc n) p place here (inr (x, c, near, inr h)) =
    place_in_range set dir n x place near h
