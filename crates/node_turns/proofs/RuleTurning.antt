-- The nearest turn of a set of moments with candidates.
use Rattle.std.proofs.Common.{◌≡◌, inl, inr, refl, ap, sym, subst, ◌∙◌, arith, ℕ, ◌+◌, ◌<◌, ◌≤◌, ℤ, pos, ◌+ℤ◌, ◌-ℤ◌, ◌≤ℤ◌, ◌<ℤ◌, unsigned_abs, Bool, true, false, ◌&&◌, Some, None, if◌then◌else◌}
use Rattle.std.proofs.lemmas.Bool.{and_left, cases_lt}
use Rattle.std.proofs.lemmas.Int.{ints}
use Rattle.std.specs.Ordering.{int_eq}
use Rattle.moment_core.proofs.FloorLemmas.{floor_arith}
use Rattle.moment_core.specs.Line.{IsWorkingMoment, moment_of, position_of}
use Rattle.moment_core.specs.Sets.{ahead, moments_in, seen, IsUpTo}
use Rattle.moment_core.specs.Steps.{IsNextStep}
use Rattle.moment_core.specs.declared.line.Dir.{Dir}
use Rattle.moment_core.specs.declared.line.Dir.TheVariants.{Fore, Back}
use Rattle.moment_core.specs.declared.line.Pos.{Pos}
use Rattle.moment_core.specs.declared.line.Step.{Step}
use Rattle.moment_core.specs.declared.line.Step.TheVariants.{Hit, Pass, End}
use Rattle.moment_core.proofs.LineLaws.{halves, moment-of-position}
use Rattle.moment_core.proofs.Comparing.{int_eq-refl, int_eq-below}
use Rattle.stored_pair.specs.Recurrences.{AreCandidates, NoneUpTo, SkipsNone}
use Rattle.node_turns.specs.Room.{IsWorkingPosition}
use Rattle.node_turns.specs.Turns.{IsTurn, StandsIfCounted, candidate_at, is_past, turn_of_step, turn_up_to}
use Rattle.node_turns.proofs.Turning.{not_past}

-- at a moment's position, and at an open second
pub met-even : (f : ℤ → Bool) (p u : ℤ) → p ≡ position_of u → moments_in f p ≡ f u
met-even f p u e =
    let P : ℤ → Type 0 = λ z. moments_in f z ≡ f u in
    let at : moments_in f (position_of u) ≡ f u =
    ap (λ z. int_eq (position_of z) (position_of u) && f z) (moment-of-position u)
    ∙ ap (λ b. b && f u) (int_eq-refl (position_of u)) in
    subst P (sym e) at

pub met-odd : (f : ℤ → Bool) (p : ℤ) → position_of (moment_of p) <ℤ p → moments_in f p ≡ false
met-odd f p h =
    and_left (int_eq (position_of (moment_of p)) p) (f (moment_of p))
    (int_eq-below (position_of (moment_of p)) p h)

-- no member at a position whose moment is none
pub met-none : (f : ℤ → Bool) (p : ℤ) → f (moment_of p) ≡ false → moments_in f p ≡ false
met-none f p none = elim (cases_lt 0 (unsigned_abs (p -ℤ position_of (moment_of p)))) [
  | inl odd ↦ let near = halves p in met-odd f p (omega (arith, ints))
  | inr even ↦ let near = halves p in met-even f p (moment_of p) (omega (arith, ints)) ∙ none
]

-- the set stays the same for n steps, and the place after them is a turn where it isn't past the
-- end
pub steps_before : (dir : Dir) (p q end : ℤ) (n k : ℕ) → q ≡ ahead dir p (n + 1)
    → is_past dir q end ≡ true → IsUpTo dir end (ahead dir p k) → k ≤ n
steps_before Fore p q end n k e past near = let beyond : end <ℤ q =
    grind (arith, ints) in omega (arith, ints)
steps_before Back p q end n k e past near = let beyond : q <ℤ end =
    grind (arith, ints) in omega (arith, ints)

turns_at : (set : ℤ → Bool) (dir : Dir) (p : ℤ) (place end : Pos) (n : ℕ)
    → place.0 ≡ ahead dir p (n + 1) → ((k : ℕ) → k ≤ n → seen set dir p k ≡ set p)
    → IsTurn set dir p end.0 (turn_up_to dir place end)
turns_at set dir p place end n e stays = by_order (is_past dir place.0 end.0) refl
  where
    by_order : (b : Bool) → is_past dir place.0 end.0 ≡ b
        → IsTurn set dir p end.0 (if b then None else Some (record {
          place = place;
          counts = true;
        }))
    by_order true past = λ k near. stays k (steps_before dir p place.0 end.0 n k e past near)
    by_order false past =
        (n, record { place = e; within = not_past dir place.0 end.0 past; stays = stays })

counts_at : (cand : ℤ → Bool) (dir : Dir) (place end : Pos) → cand (candidate_at dir place.0) ≡ true
    → StandsIfCounted cand dir (turn_up_to dir place end)
counts_at cand dir place end h = by_order (is_past dir place.0 end.0)
  where
    by_order : (b : Bool) → StandsIfCounted cand dir (if b then None else Some
        (record { place = place; counts = true }))
    by_order true = tt
    by_order false = λ counts. h

-- the turn at a moment u, up to which no position is a member
turn_up : (has : ℤ → Bool) (p u : ℤ) (place end : Pos) → place.0 ≡ position_of u
    → p <ℤ position_of u → ((z : ℤ) → p ≤ℤ z → z <ℤ position_of u → moments_in has z ≡ false)
    → IsTurn (moments_in has) Fore p end.0 (turn_up_to Fore place end)
turn_up has p u place end e past none =
    let n = unsigned_abs (position_of u -ℤ p -ℤ pos 1) in
    let at : p +ℤ pos (n + 1) ≡ position_of u = omega (arith, ints) in
    turns_at (moments_in has) Fore p place end n (e ∙ sym at)
    (λ k b. none (p +ℤ pos k) (omega (arith, ints)) (omega (arith, ints))
    ∙ sym (none p (omega (arith, ints)) past))

turn_down : (has : ℤ → Bool) (p u : ℤ) (place end : Pos) → place.0 ≡ position_of u
    → position_of u <ℤ p → ((z : ℤ) → z ≤ℤ p → position_of u <ℤ z → moments_in has z ≡ false)
    → IsTurn (moments_in has) Back p end.0 (turn_up_to Back place end)
turn_down has p u place end e past none =
    let n = unsigned_abs (p -ℤ position_of u -ℤ pos 1) in
    let at : p -ℤ pos (n + 1) ≡ position_of u = omega (arith, ints) in
    turns_at (moments_in has) Back p place end n (e ∙ sym at)
    (λ k b. none (p -ℤ pos k) (omega (arith, ints)) (omega (arith, ints))
    ∙ sym (none p (omega (arith, ints)) past))

-- a candidate stands at its own position
stands : (cand : ℤ → Bool) (dir : Dir) (u : ℤ) → cand u ≡ true
    → moments_in cand (candidate_at dir (position_of u)) ≡ true
stands cand Fore u met =
    met-even cand (position_of (moment_of (position_of u))) u (ap position_of (moment-of-position
    u)) ∙ met
stands cand Back u met =
    let same : position_of (moment_of (position_of u +ℤ pos 1)) ≡ position_of u =
    omega (arith, floor_arith) in
    met-even cand (position_of (moment_of (position_of u +ℤ pos 1))) u same ∙ met

-- no member strictly between t and u, as positions
between_up : (has : ℤ → Bool) (t u : ℤ) → NoneUpTo has Fore t u → (z : ℤ)
    → (position_of t +ℤ pos 1) ≤ℤ z → z <ℤ position_of u → moments_in has z ≡ false
between_up has t u none z low high =
    let v = moment_of z in
    let near = halves z in
    elim (cases_lt 0 (unsigned_abs (v -ℤ t))) [
      | inl later ↦
          let k = unsigned_abs (v -ℤ t) in
          let n = unsigned_abs (u -ℤ t) in
          let at : t +ℤ pos k ≡ v = omega (arith, ints) in
          met-none has z (ap has (sym at) ∙ none n (omega (arith, ints)) k later
          (omega (arith, ints)))
      | inr same ↦ met-odd has z (omega (arith, ints))
    ]

between_down : (has : ℤ → Bool) (t u : ℤ) → NoneUpTo has Back t u → (z : ℤ) → z <ℤ position_of t
    → position_of u <ℤ z → moments_in has z ≡ false
between_down has t u none z high low =
    let v = moment_of z in
    let near = halves z in
    elim (cases_lt 0 (unsigned_abs (v -ℤ u))) [
      | inl later ↦
          let k = unsigned_abs (t -ℤ v) in
          let n = unsigned_abs (t -ℤ u) in
          let at : t -ℤ pos k ≡ v = omega (arith, ints) in
          met-none has z (ap has (sym at) ∙ none n (omega (arith, ints)) k (omega (arith, ints))
          (omega (arith, ints)))
      | inr same ↦ met-odd has z (omega (arith, ints))
    ]

later_up : (t u : ℤ) (n : ℕ) → u ≡ t +ℤ pos n → 0 < n → t <ℤ u
later_up t u n e h = omega (arith, ints)

later_down : (t u : ℤ) (n : ℕ) → u ≡ t -ℤ pos n → 0 < n → u <ℤ t
later_down t u n e h = omega (arith, ints)

-- nothing is a member at p: it is an open second, or no member's moment
abbrev pub IsOff : (ℤ → Bool) → ℤ → Type 0
IsOff has p = moments_in has p ≡ false

-- from p up to u
gap_up : (has : ℤ → Bool) (p t u : ℤ) → t ≡ moment_of p → IsOff has p → NoneUpTo has Fore t u
    → (z : ℤ) → p ≤ℤ z → z <ℤ position_of u → moments_in has z ≡ false
gap_up has p t u at off none z low high = elim (cases_lt 0 (unsigned_abs (z -ℤ p))) [
  | inl later ↦ let near = halves p in between_up has t u none z (omega (arith, ints)) high
  | inr same ↦
      let e : p ≡ z = omega (arith, ints) in
      ap (moments_in has) (sym e) ∙ off
]

gap_down : (has : ℤ → Bool) (p t u : ℤ) → t ≡ moment_of p → has t ≡ false → NoneUpTo has Back t u
    → (z : ℤ) → z ≤ℤ p → position_of u <ℤ z → moments_in has z ≡ false
gap_down has p t u at off none z high low =
    let near = halves p in
    let v = halves z in
    elim (cases_lt 0 (unsigned_abs (moment_of z -ℤ t))) [
      | inl later ↦ between_down has t u none z (omega (arith, ints)) low
      | inr same ↦
          let e : moment_of z ≡ t = omega (arith, ints) in
          met-none has z (ap has e ∙ off)
    ]

candidate_up : (has : ℤ → Bool) (p t u : ℤ) (place end : Pos) → t ≡ moment_of p → IsOff has p
    → place.0 ≡ position_of u → (n : ℕ) → u ≡ t +ℤ pos n → 0 < n → NoneUpTo has Fore t u
    → IsTurn (moments_in has) Fore p end.0 (turn_up_to Fore place end)
candidate_up has p t u place end at off is n e some none =
    let near = halves p in
    let later = later_up t u n e some in
    turn_up has p u place end is (omega (arith, ints)) (gap_up has p t u at off none)

candidate_down : (has : ℤ → Bool) (p t u : ℤ) (place end : Pos) → t ≡ moment_of p → has t ≡ false
    → place.0 ≡ position_of u → (n : ℕ) → u ≡ t -ℤ pos n → 0 < n → NoneUpTo has Back t u
    → IsTurn (moments_in has) Back p end.0 (turn_up_to Back place end)
candidate_down has p t u place end at off is n e some none =
    let near = halves p in
    let later = later_down t u n e some in
    turn_down has p u place end is (omega (arith, ints)) (gap_down has p t u at off none)

none_up : (has : ℤ → Bool) (p t end : ℤ) → IsWorkingPosition p → IsWorkingPosition end
    → t ≡ moment_of p → IsOff has p → ((k : ℕ) → 0 < k → IsWorkingMoment (t +ℤ pos k)
    → has (t +ℤ pos k) ≡ false) → (k : ℕ) → (p +ℤ pos k) ≤ℤ end
    → moments_in has (p +ℤ pos k) ≡ moments_in has p
none_up has p t end here last at off none k there =
    let z = p +ℤ pos k in
    let near = halves p in
    let v = halves z in
    elim (cases_lt 0 (unsigned_abs (moment_of z -ℤ t))) [
      | inl later ↦
          let j = unsigned_abs (moment_of z -ℤ t) in
          let e : t +ℤ pos j ≡ moment_of z = omega (arith, ints) in
          let working : IsWorkingMoment (t +ℤ pos j) = (omega (arith, ints), omega (arith, ints)) in
          met-none has z (ap has (sym e) ∙ none j later working) ∙ sym off
      | inr same ↦ elim (cases_lt 0 k) [
        | inl on ↦ met-odd has z (omega (arith, ints)) ∙ sym off
        | inr zero ↦ let e : p +ℤ pos k ≡ p = omega (arith, ints) in ap (moments_in has) e
      ]
    ]

none_down : (has : ℤ → Bool) (p t end : ℤ) → IsWorkingPosition p → IsWorkingPosition end
    → t ≡ moment_of p → has t ≡ false → ((k : ℕ) → 0 < k → IsWorkingMoment (t -ℤ pos k)
    → has (t -ℤ pos k) ≡ false) → (k : ℕ) → end ≤ℤ (p -ℤ pos k)
    → moments_in has (p -ℤ pos k) ≡ moments_in has p
none_down has p t end here last at off none k there =
    let z = p -ℤ pos k in
    let near = halves p in
    let v = halves z in
    let here_off : moments_in has p ≡ false = met-none has p (ap has (sym at) ∙ off) in
    elim (cases_lt 0 (unsigned_abs (moment_of z -ℤ t))) [
      | inl later ↦
          let j = unsigned_abs (moment_of z -ℤ t) in
          let e : t -ℤ pos j ≡ moment_of z = omega (arith, ints) in
          let working : IsWorkingMoment (t -ℤ pos j) = (omega (arith, ints), omega (arith, ints)) in
          met-none has z (ap has (sym e) ∙ none j later working) ∙ sym here_off
      | inr same ↦
          let e : moment_of z ≡ t = omega (arith, ints) in
          met-none has z (ap has e ∙ off) ∙ sym here_off
    ]

-- the step of a recurrence past p tells the turn
pub step_up : (has cand : ℤ → Bool) (p t : ℤ) (end : Pos) (step : Step) → IsWorkingPosition p
    → IsWorkingPosition end.0 → t ≡ moment_of p → IsOff has p → IsNextStep has cand Fore t step
    → SkipsNone has Fore t step → IsTurn (moments_in has) Fore p end.0 (turn_of_step Fore end step)
step_up has cand p t end (Hit u) here last at off (next, e) none =
    candidate_up has p t u.0 (record { 0 = position_of u.0 }) end at off refl next.1.0 next.1.1
    next.1.2.later none
step_up has cand p t end (Pass u) here last at off (next, e) none =
    candidate_up has p t u.0 (record { 0 = position_of u.0 }) end at off refl next.1.0 next.1.1
    next.1.2.later none
step_up has cand p t end End here last at off left none =
    none_up has p t end.0 here last at off none

pub step_down : (has cand : ℤ → Bool) (p t : ℤ) (end : Pos) (step : Step) → IsWorkingPosition p
    → IsWorkingPosition end.0 → t ≡ moment_of p → has t ≡ false → IsNextStep has cand Back t step
    → SkipsNone has Back t step → IsTurn (moments_in has) Back p end.0 (turn_of_step Back end step)
step_down has cand p t end (Hit u) here last at off (next, e) none =
    candidate_down has p t u.0 (record { 0 = position_of u.0 }) end at off refl next.1.0 next.1.1
    next.1.2.later none
step_down has cand p t end (Pass u) here last at off (next, e) none =
    candidate_down has p t u.0 (record { 0 = position_of u.0 }) end at off refl next.1.0 next.1.1
    next.1.2.later none
step_down has cand p t end End here last at off left none =
    none_down has p t end.0 here last at off none

-- and its candidate stands there
pub step_counts : (has cand : ℤ → Bool) (dir : Dir) (t : ℤ) (end : Pos) (step : Step)
    → IsNextStep has cand dir t step → StandsIfCounted (moments_in cand) dir (turn_of_step dir end
    step)
step_counts has cand dir t end (Hit u) (next, e) =
    counts_at (moments_in cand) dir (record { 0 = position_of u.0 }) end (stands cand dir u.0
    (ap cand next.1.1 ∙ next.1.2.meets))
step_counts has cand dir t end (Pass u) (next, e) =
    counts_at (moments_in cand) dir (record { 0 = position_of u.0 }) end (stands cand dir u.0
    (ap cand next.1.1 ∙ next.1.2.meets))
step_counts has cand dir t end End none = tt

working_here : (p t : ℤ) → IsWorkingPosition p → t ≡ moment_of p → IsWorkingMoment t
working_here p t here at = let near = halves p in (omega (arith, ints), omega (arith, ints))

-- a member at p turns right there
pub member_up : (has : ℤ → Bool) (p : ℤ) (place end : Pos) → place.0 ≡ p +ℤ pos 1
    → IsTurn (moments_in has) Fore p end.0 (turn_up_to Fore place end)
member_up has p place end e =
    turns_at (moments_in has) Fore p place end 0 e (λ k b. let e : p +ℤ pos k ≡ p =
    omega (arith, ints) in ap (moments_in has) e)

pub member_down : (has : ℤ → Bool) (p : ℤ) (place end : Pos) → place.0 ≡ p -ℤ pos 1
    → IsTurn (moments_in has) Back p end.0 (turn_up_to Back place end)
member_down has p place end e =
    turns_at (moments_in has) Back p place end 0 e (λ k b. let e : p -ℤ pos k ≡ p =
    omega (arith, ints) in ap (moments_in has) e)

pub member_counts_up : (has cand : ℤ → Bool) (p t : ℤ) (place end : Pos) → IsWorkingPosition p
    → t ≡ moment_of p → position_of t ≡ p → has t ≡ true → AreCandidates has cand
    → place.0 ≡ p +ℤ pos 1 → StandsIfCounted (moments_in cand) Fore (turn_up_to Fore place end)
member_counts_up has cand p t place end here at even met are e =
    let same : position_of (moment_of place.0) ≡ position_of t = omega (arith, floor_arith) in
    counts_at (moments_in cand) Fore place end (met-even cand (position_of (moment_of place.0)) t
    same ∙ are t (working_here p t here at) met)

pub member_counts_down : (has cand : ℤ → Bool) (p t : ℤ) (place end : Pos) → IsWorkingPosition p
    → t ≡ moment_of p → has t ≡ true → AreCandidates has cand → place.0 ≡ p -ℤ pos 1
    → StandsIfCounted (moments_in cand) Back (turn_up_to Back place end)
member_counts_down has cand p t place end here at met are e =
    let near = halves p in
    let same : position_of (moment_of (place.0 +ℤ pos 1)) ≡ position_of t =
    omega (arith, floor_arith) in
    counts_at (moments_in cand) Back place end
    (met-even cand (position_of (moment_of (place.0 +ℤ pos 1))) t same
    ∙ are t (working_here p t here at) met)

pub off_odd : (has : ℤ → Bool) (p t : ℤ) → t ≡ moment_of p → int_eq (position_of t) p ≡ false
    → IsOff has p
off_odd has p t at h =
    let near = halves p in
    let odd : position_of (moment_of p) <ℤ p = grind (arith, ints) in
    met-odd has p odd

pub off_even : (has : ℤ → Bool) (p t : ℤ) → t ≡ moment_of p → has t ≡ false → IsOff has p
off_even has p t at h = met-none has p (ap has (sym at) ∙ h)
