-- What follows from the nearest candidate.
use Rattle.std.proofs.Common.{inl, inr, ◌≡◌, ℕ, ◌<◌, Bool, true, false, sym, ap, ◌∙◌, arith, ℤ, ◌-ℤ◌, unsigned_abs, subst, ◌≤◌, Option, Some, None, IfSome, IfNone}
use Rattle.std.proofs.lemmas.Bool.{cases_order, false_from_ne_true, true≢false}
use Rattle.std.proofs.lemmas.Int.{ints}
use Rattle.moment_core.specs.Line.{IsWorkingMoment}
use Rattle.moment_core.specs.Sets.{ahead, seen}
use Rattle.moment_core.specs.Steps.{IsNext, IsNextCandidate, IsNextStep, IsPrevious, NoCandidateLeft}
use Rattle.moment_core.specs.declared.line.Dir.{Dir}
use Rattle.moment_core.specs.declared.line.Dir.TheVariants.{Fore, Back}
use Rattle.moment_core.specs.declared.line.Moment.{Moment}
use Rattle.moment_core.specs.declared.line.Step.{Step}
use Rattle.moment_core.specs.declared.line.Step.TheVariants.{Hit, Pass, End}
use Rattle.moment_core.proofs.LineLaws.{same-steps, working-between}
use Rattle.stored_pair.specs.Recurrences.{AreCandidates, AreNeighbours, IsNextMember, IsSearchStep, LeadsTo, NoneUpTo, SkipsNone}

-- a moment that is no candidate is no member
no_member : (has cand : ℤ → Bool) (t : ℤ) → AreCandidates has cand → IsWorkingMoment t → cand t
    ≡ false → has t ≡ false
no_member has cand t are working e = false_from_ne_true (has t)
    (λ member. true≢false (sym (are t working member) ∙ e))

skips-to : (has cand : ℤ → Bool) (dir : Dir) (t u : ℤ) → AreCandidates has cand → IsWorkingMoment t
    → IsNextCandidate cand dir t u → NoneUpTo has dir t u
skips-to has cand dir t u are working next = λ n e k some below.
    let same = same-steps dir t u n next.1.0 e next.1.1 in
    no_member has cand (ahead dir t k) are
    (working-between dir t k n working (subst (λ z. IsWorkingMoment z) e next.0) (omega arith))
    (next.1.2.none_before k some (omega arith))

-- no member is skipped
pub skips-none : (has cand : ℤ → Bool) (dir : Dir) (t : ℤ) (step : Step) → AreCandidates has cand
    → IsWorkingMoment t → IsNextStep has cand dir t step → SkipsNone has dir t step
skips-none has cand dir t (Hit u) are working (next, e) = skips-to has cand dir t u.0 are working
    next
skips-none has cand dir t (Pass u) are working (next, e) = skips-to has cand dir t u.0 are working
    next
skips-none has cand dir t End are working none =
    λ k some within. no_member has cand (ahead dir t k) are within (none k some within)

-- the nearest candidate is u, where u is one and none lies before it
same-candidate : (cand : ℤ → Bool) (dir : Dir) (t u v : ℤ) (n : ℕ) → cand u ≡ true → u
    ≡ ahead dir t n → 0 < n → ((k : ℕ) → 0 < k → k < n → seen cand dir t k ≡ false)
    → IsNextCandidate cand dir t v → v ≡ u
same-candidate cand dir t u v n met e some none next =
    let m = next.1.0 in
    let first = next.1.2 in
    elim (cases_order n m) [
      | inl same ↦ next.1.1 ∙ sym (ap (ahead dir t) same) ∙ sym e
      | inr other ↦ elim other [
        | inl early ↦
            absurd (true≢false (sym (ap cand (sym e) ∙ met) ∙ first.none_before n some early))
        | inr late ↦ absurd (true≢false (sym first.meets ∙ none m first.later late))
      ]
    ]

-- a member with no candidate on the way to it is found
neighbour-found : (has cand : ℤ → Bool) (dir : Dir) (t u : ℤ) (n : ℕ) (step : Step)
    → AreCandidates has cand → IsWorkingMoment u → has u ≡ true → u ≡ ahead dir t n → 0 < n
    → ((k : ℕ) → 0 < k → k < n → seen cand dir t k ≡ false) → IsNextStep has cand dir t step → step
    ≡ Hit (record { 0 = u })
neighbour-found has cand dir t u n (Hit v) are working member e some none (next, met) =
    ap (λ x. Hit (record { 0 = x })) (same-candidate cand dir t u v.0 n (are u working member) e
    some none next)
neighbour-found has cand dir t u n (Pass v) are working member e some none (next, unmet) =
    absurd (true≢false
    (sym (ap has (same-candidate cand dir t u v.0 n (are u working member) e some none next)
    ∙ member) ∙ unmet))
neighbour-found has cand dir t u n End are working member e some none left =
    absurd (true≢false (sym (ap cand (sym e) ∙ are u working member)
    ∙ left n some (rw e at working)))

pub neighbours-found : (has cand : ℤ → Bool) (t u : ℤ) (after before : Step)
    → AreCandidates has cand → AreNeighbours has cand t u → IsNext has cand t after
    → IsPrevious has cand u before → (after ≡ Hit (record { 0 = u }))
    × (before ≡ Hit (record { 0 = t }))
neighbours-found has cand t u after before are both next previous =
    let n = unsigned_abs (u -ℤ t) in
    let up : u ≡ ahead Fore t n = omega (arith, ints, both.ordered) in
    let down : t ≡ ahead Back u n = omega (arith, ints, both.ordered) in
    let some : 0 < n = omega (arith, ints, both.ordered) in
    let clear_up : (k : ℕ) → 0 < k → k < n → seen cand Fore t k ≡ false =
    λ k later below. both.none_between (ahead Fore t k) (omega (arith, ints))
    (omega (arith, ints)) in
    let clear_down : (k : ℕ) → 0 < k → k < n → seen cand Back u k ≡ false =
    λ k later below. both.none_between (ahead Back u k) (omega (arith, ints))
    (omega (arith, ints)) in (
      neighbour-found has cand Fore t u n after are both.greater_working both.greater up some
          clear_up next,
      neighbour-found has cand Back u t n before are both.lesser_working both.lesser down some
          clear_down previous,
    )

-- sets that are alike in the working range have the same nearest members
alike-first : (f g : ℤ → Bool) (dir : Dir) (t u : ℤ) → IsWorkingMoment t
    → ((v : ℤ) → IsWorkingMoment v → f v ≡ g v) → IsNextCandidate f dir t u
    → IsNextCandidate g dir t u
alike-first f g dir t u here alike next =
    let n = next.1.0 in
    let first = next.1.2 in
    let working : (k : ℕ) → k ≤ n → IsWorkingMoment (ahead dir t k) =
    λ k few. working-between dir t k n here (subst (λ z. IsWorkingMoment z) next.1.1 next.0) few in (
      next.0,
      (
        n,
        next.1.1,
        record {
          later = first.later;
          meets = sym (alike (ahead dir t n) (working n (omega arith))) ∙ first.meets;
          none_before = λ k some few. sym (alike (ahead dir t k) (working k (omega arith)))
              ∙ first.none_before k some few;
        },
      ),
    )

pub alike-member : (f g : ℤ → Bool) (dir : Dir) (t : ℤ) (next : Option Moment) → IsWorkingMoment t
    → ((v : ℤ) → IsWorkingMoment v → f v ≡ g v)
    → IfSome next (λ u. IsNextCandidate f dir t u.0) → IfNone next (NoCandidateLeft f dir t)
    → IsNextMember g dir t next
alike-member f g dir t (Some u) here alike found none = alike-first f g dir t u.0 here alike found
alike-member f g dir t None here alike found none =
    λ k some within. sym (alike (ahead dir t k) within) ∙ none k some within

-- the nearest member is a step of a search
pub member-step : (has cand : ℤ → Bool) (dir : Dir) (t : ℤ) (u : Moment) → AreCandidates has cand
    → IsNextCandidate has dir t u.0 → IsSearchStep has cand dir t (Hit u)
member-step has cand dir t u are next =
    let met : has u.0 ≡ true = ap has next.1.1 ∙ next.1.2.meets in (
      record {
        working = next.0;
        candidate = are u.0 next.0 met;
        later = (next.1.0, next.1.1, next.1.2.later);
        none = λ n e k some below.
            let same = same-steps dir t u.0 n next.1.0 e next.1.1 in
            next.1.2.none_before k some (omega arith);
      },
      met,
    )

-- and so is the nearest candidate
candidate-leads : (has cand : ℤ → Bool) (dir : Dir) (t u : ℤ) → IsNextCandidate cand dir t u
    → NoneUpTo has dir t u → LeadsTo has cand dir t u
candidate-leads has cand dir t u next none = record {
  working = next.0;
  candidate = ap cand next.1.1 ∙ next.1.2.meets;
  later = (next.1.0, next.1.1, next.1.2.later);
  none = none;
}

pub candidate-step : (has cand : ℤ → Bool) (dir : Dir) (t : ℤ) (step : Step)
    → IsNextStep has cand dir t step → SkipsNone has dir t step → IsSearchStep has cand dir t step
candidate-step has cand dir t (Hit u) (next, met) none =
    (candidate-leads has cand dir t u.0 next none, met)
candidate-step has cand dir t (Pass u) (next, unmet) none =
    (candidate-leads has cand dir t u.0 next none, unmet)
candidate-step has cand dir t End left none = none
