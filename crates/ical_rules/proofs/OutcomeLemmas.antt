-- The outcomes of a search for the last member that a count lets in: each search has just one.
use Rattle.std.proofs.Common.{inl, inr, ◌⊎◌, ◌≡◌, ℕ, zero, suc, ◌+◌, ◌<◌, ◌≤◌, ℤ, pos, ◌+ℤ◌, ◌-ℤ◌, ◌≤ℤ◌, ◌<ℤ◌, unsigned_abs, Bool, false, Result, Ok, Err, refl, sym, ap, ◌∙◌, arith}
use Rattle.std.proofs.lemmas.Bool.{cases_Bool, cases_eq, cases_lt}
use Rattle.std.proofs.lemmas.Int.{by_lt_z, ints}
use Rattle.moment_core.specs.Line.{IsCalendarMoment, IsWorkingMoment}
use Rattle.moment_core.specs.Ranks.{count_to}
use Rattle.moment_core.specs.Sets.{seen}
use Rattle.moment_core.specs.Steps.{IsNextCandidate, MeetsFirst, NoCandidateLeft}
use Rattle.moment_core.specs.declared.line.Dir.TheVariants.{Fore}
use Rattle.moment_core.specs.declared.line.Moment.{Moment}
use Rattle.moment_core.specs.declared.line.Step.TheVariants.{Hit, Pass, End}
use Rattle.moment_core.specs.declared.line.TheConstants.{HIGH, REACH}
use Rattle.moment_core.proofs.FloorLemmas.{floor_arith}
use Rattle.stored_pair.specs.Laws.{StepsSkipNone}
use Rattle.stored_pair.specs.Recurrences.{AreCandidates, NoneUpTo}
use Rattle.ical_rules.specs.Settling.{EndsBefore, IsLast, IsNth, IsOpen, IsOutcome, IsUnsettled}
use Rattle.ical_rules.specs.declared.outcome.Settled.{Settled}
use Rattle.ical_rules.specs.declared.outcome.Settled.TheVariants.{Last, Open}
use Rattle.ical_rules.specs.declared.outcome.Unsettled.{Unsettled}
use Rattle.ical_rules.proofs.Counting.{count_to-same, count_to_grows, count_to_rises}
use Rattle.ical_rules.proofs.SearchLemmas.{IsOnWay, cuts_off_at, ends, finds, hits, passes, starts}

-- where the count is less, an earlier moment is
earlier : (set : ℤ → Bool) (start t u : ℤ) → start ≤ℤ u → count_to set start t < count_to set start
    u → t <ℤ u
earlier set start t u later less =
    by_lt_z t u
    (λ lt. lt)
    (λ le. (let no_more = count_to_grows set start u t (omega (arith, ints, later)) le in
    absurd (omega arith)))

-- no set has two nth moments
one_nth : (set : ℤ → Bool) (start : ℤ) (n : ℕ) (t u : ℤ) → IsNth set start n t → IsNth set start n u
    → t ≡ u
one_nth set start n t u a b =
    by_lt_z t u
    (λ lt. (let less = count_to_rises set start t u (omega (arith, ints, a.later)) lt b.within in
    absurd (omega (arith, less, a.number, b.number))))
    (λ le. by_lt_z u t
    (λ lt. (let less = count_to_rises set start u t (omega (arith, ints, b.later)) lt a.within in
    absurd (omega (arith, less, a.number, b.number))))
    (λ ge. omega (arith, ints, le, ge)))

-- the three outcomes exclude each other
last_or_open : (has cand : ℤ → Bool) (start : ℤ) (count budget : ℕ) (t : ℤ) → IsLast has cand start
    count budget t → IsOpen has cand start count budget → ⊥
last_or_open has cand start count budget t last over =
    let less = over.members t last.member.working last.member.later in
    omega (arith, less, last.member.number)

-- a member past the last candidate of the budget is none of its first candidates
pub beyond : (has cand : ℤ → Bool) (start : ℤ) (count budget : ℕ) (t : ℤ) (u : Unsettled)
    → AreCandidates has cand
    → IsNth has start count t → IsUnsettled has cand start count budget u → budget < count_to cand
    start t
beyond has cand start count budget t u are nth unsettled =
    let past : u.at.0 <ℤ t = earlier has start u.at.0 t nth.later
    (omega (arith, unsettled.fewer, nth.number)) in
    let more = count_to_rises cand start u.at.0 t (omega (arith, ints, unsettled.candidate.later))
    past (are t nth.working nth.within) in
    omega (arith, more, unsettled.candidate.number)

last_or_unsettled : (has cand : ℤ → Bool) (start : ℤ) (count budget : ℕ) (t : ℤ) (u : Unsettled)
    → AreCandidates has cand
    → IsLast has cand start count budget t → IsUnsettled has cand start count budget u → ⊥
last_or_unsettled has cand start count budget t u are last unsettled =
    let more = beyond has cand start count budget t u are last.member unsettled in
    omega (arith, more, last.within)

open_or_unsettled : (has cand : ℤ → Bool) (start : ℤ) (count budget : ℕ) (u : Unsettled)
    → IsOpen has cand start count budget → IsUnsettled has cand start count budget u → ⊥
open_or_unsettled has cand start count budget u over unsettled =
    let further = unsettled.further.1 in
    let most = over.candidates unsettled.further.0 further.working further.later in
    omega (arith, most, further.number)

abbrev moment_at : ℤ → Moment
moment_at z = record { 0 = z }

abbrev unsettled_at : ℕ → ℤ → Unsettled
unsettled_at n z = record { passed = n; at = moment_at z }

one_unsettled : (has cand : ℤ → Bool) (start : ℤ) (count budget : ℕ) (u v : Unsettled)
    → IsUnsettled has cand start count budget u → IsUnsettled has cand start count budget v → u ≡ v
one_unsettled has cand start count budget u v a b =
    ap (λ n. unsettled_at n u.at.0) (a.passed ∙ sym b.passed) ∙ ap (λ z. unsettled_at v.passed z)
    (one_nth cand start budget u.at.0 v.at.0 a.candidate b.candidate)

pub one_outcome : (has cand : ℤ → Bool) (start : ℤ) (count budget : ℕ)
    (a b : Result Settled Unsettled) → AreCandidates has cand
    → IsOutcome has cand start count budget a → IsOutcome has cand start count budget b → a ≡ b
one_outcome has cand start count budget (Ok (Last t)) (Ok (Last u)) are x y =
    ap (λ z. Ok (Last (moment_at z))) (one_nth has start count t.0 u.0 x.member y.member)
one_outcome has cand start count budget (Ok (Last t)) (Ok Open) are x y =
    absurd (last_or_open has cand start count budget t.0 x y)
one_outcome has cand start count budget (Ok (Last t)) (Err u) are x y =
    absurd (last_or_unsettled has cand start count budget t.0 u are x y)
one_outcome has cand start count budget (Ok Open) (Ok (Last t)) are x y =
    absurd (last_or_open has cand start count budget t.0 y x)
one_outcome has cand start count budget (Ok Open) (Ok Open) are x y = refl
one_outcome has cand start count budget (Ok Open) (Err u) are x y =
    absurd (open_or_unsettled has cand start count budget u x y)
one_outcome has cand start count budget (Err u) (Ok (Last t)) are x y =
    absurd (last_or_unsettled has cand start count budget t.0 u are y x)
one_outcome has cand start count budget (Err u) (Ok Open) are x y =
    absurd (open_or_unsettled has cand start count budget u y x)
one_outcome has cand start count budget (Err u) (Err v) are x y =
    ap Err (one_unsettled has cand start count budget u v x y)

-- a test of the first n steps is met at a first one, or at none
first_step : (f : ℕ → Bool) (n : ℕ) → ((k : ℕ) × (k ≤ n) × MeetsFirst f k)
    ⊎ ((k : ℕ) → 0 < k → k ≤ n → f k ≡ false)
first_step f zero = inr (λ k some within. absurd (omega arith))
first_step f (suc n) = elim (first_step f n) [
  | inl found ↦ inl (found.0, omega (arith, found.1), found.2)
  | inr none ↦ elim (cases_Bool (f (suc n))) [
    | inl met ↦ inl (
      suc n,
      omega arith,
      record {
        later = omega arith;
        meets = met;
        none_before =
            λ k some below. none k some (omega arith);
      },
    )
    | inr unmet ↦ inr (λ k some within. elim (cases_lt k (suc n)) [
      | inl below ↦ none k some (omega arith)
      | inr last ↦ (let e : suc n ≡ k = omega arith in rw e at unmet)
    ])
  ]
]

-- a candidate comes next, or none is left
next_or_none : (cand : ℤ → Bool) (t : ℤ) → IsWorkingMoment t
    → ((u : ℤ) × IsNextCandidate cand Fore t u) ⊎ NoCandidateLeft cand Fore t
next_or_none cand t here =
    let n = unsigned_abs (HIGH +ℤ REACH -ℤ t) in
    elim (first_step (seen cand Fore t) n) [
      | inl found ↦
          (let k = found.0 in
          inl (
            t +ℤ pos k,
            (
              (omega (arith, ints, here.0), omega (arith, floor_arith, here.1, found.1)),
              (k, refl, found.2),
            ),
          ))
      | inr none ↦ inr (λ k some within. none k some (omega (arith, floor_arith, here.1, within.1)))
    ]

-- no member lies on the way to the next candidate
skipped : StepsSkipNone → (has cand : ℤ → Bool) (at u : ℤ) → AreCandidates has cand
    → IsWorkingMoment at → IsNextCandidate cand Fore at u → NoneUpTo has Fore at u
skipped skips has cand at u are here next = elim (cases_Bool (has u)) [
  | inl met ↦ skips has cand Fore at (Hit (moment_at u)) are here (next, met)
  | inr unmet ↦ skips has cand Fore at (Pass (moment_at u)) are here (next, unmet)
]

abbrev Found : (ℤ → Bool) → (ℤ → Bool) → ℤ → ℕ → ℕ → Type 0
Found has cand start count budget = (outcome : Result Settled Unsettled) × IsOutcome has cand start
    count budget outcome

-- where no candidate is left the outcome is open
none_left : StepsSkipNone → (has cand : ℤ → Bool) (start : ℤ) (count budget : ℕ) (at : ℤ)
    (passed members : ℕ) → AreCandidates has cand
    → passed ≤ budget → IsOnWay has cand start at passed members count → NoCandidateLeft cand
    Fore at → Found has cand start count budget
none_left skips has cand start count budget at passed members are within way none = (
  Ok Open,
  ends has cand start at passed members count budget way none
      (skips has cand Fore at End are way.working none) within,
)

-- at the next candidate the search ends or goes on
at_next : StepsSkipNone → (has cand : ℤ → Bool) (start : ℤ) (count budget : ℕ) (at u : ℤ)
    (passed members : ℕ) → AreCandidates has cand → passed < budget
    → IsOnWay has cand start at passed members count → IsNextCandidate cand Fore at u
    → ((m : ℕ) → IsOnWay has cand start u (passed + 1) m count → Found has cand start count budget)
    → Found has cand start count budget
at_next skips has cand start count budget at u passed members are within way next on =
    let none = skipped skips has cand at u are way.working next in
    elim (cases_Bool (has u)) [
      | inl met ↦ elim (cases_eq (members + 1) count) [
        | inl all ↦ (
          Ok (Last (moment_at u)),
          finds has cand start at u passed members count budget
              way next none met all within,
        )
        | inr more ↦ on (members + 1) (hits has cand start at u passed members count way next none
            met more)
      ]
      | inr unmet ↦ on members (passes has cand start at u passed members count way next none unmet)
    ]

-- and so each search has an outcome
goes_on : StepsSkipNone → (has cand : ℤ → Bool) (start : ℤ) (count budget : ℕ)
    → AreCandidates has cand → 0 < budget
    → (fuel : ℕ) (at : ℤ) (passed members : ℕ) → passed + fuel ≡ budget → IsOnWay has cand start at
    passed members count → Found has cand start count budget
goes_on skips has cand start count budget are some zero at passed members left way =
    elim (next_or_none cand at way.working) [
      | inl next ↦ (
        Err (unsettled_at budget at),
        cuts_off_at has cand start at next.0 passed members count budget way next.1
            (skipped skips has cand at next.0 are way.working next.1) (omega (arith, left)) some,
      )
      | inr none ↦ none_left skips has cand start count budget at passed members are
          (omega (arith, left)) way none
    ]
goes_on skips has cand start count budget are some (suc fuel) at passed members left way =
    elim (next_or_none cand at way.working) [
      | inl next ↦ at_next skips has cand start count budget at next.0 passed members are
          (omega (arith, left)) way next.1
          (λ m further. goes_on skips has cand start count budget are some fuel next.0
          (passed + 1) m (omega (arith, left)) further)
      | inr none ↦ none_left skips has cand start count budget at passed members are
          (omega (arith, left)) way none
    ]

pub some_outcome : StepsSkipNone → (has cand : ℤ → Bool) (start : ℤ) (count budget : ℕ)
    → AreCandidates has cand → IsCalendarMoment start → 0 < count → 0 < budget
    → (outcome : Result Settled Unsettled) × IsOutcome has cand start count budget outcome
some_outcome skips has cand start count budget are here some positive =
    goes_on skips has cand start count budget are positive budget (start -ℤ pos 1) 0 0 (omega arith)
    (starts has cand start count here some)

-- sets that agree in the working range have the same outcomes
nth-same : (f g : ℤ → Bool) (start : ℤ) (n : ℕ) (t : ℤ) → IsWorkingMoment start
    → ((u : ℤ) → IsWorkingMoment u → f u ≡ g u) → IsNth f start n t → IsNth g start n t
nth-same f g start n t here same nth = record {
  working = nth.working;
  later = nth.later;
  within = sym (same t nth.working) ∙ nth.within;
  number = sym (count_to-same f g start t here nth.working nth.later same) ∙ nth.number;
}

ends-same : (f g : ℤ → Bool) (start : ℤ) (n : ℕ) → IsWorkingMoment start
    → ((u : ℤ) → IsWorkingMoment u → f u ≡ g u) → EndsBefore f start n → EndsBefore g start n
ends-same f g start n here same over = λ t working later.
    let e = count_to-same f g start t here working later same in
    omega (arith, e, over t working later)

pub outcome-same : (f g c d : ℤ → Bool) (start : ℤ) (count budget : ℕ)
    (outcome : Result Settled Unsettled) → IsWorkingMoment start
    → ((u : ℤ) → IsWorkingMoment u → f u ≡ g u) → ((u : ℤ) → IsWorkingMoment u → c u ≡ d u)
    → IsOutcome f c start count budget outcome → IsOutcome g d start count budget outcome
outcome-same f g c d start count budget (Ok (Last t)) here same alike x =
    let e = count_to-same c d start t.0 here x.member.working x.member.later alike in
    record {
      member = nth-same f g start count t.0 here same x.member;
      within =
          omega (arith, e, x.within);
    }
outcome-same f g c d start count budget (Ok Open) here same alike x = record {
  members = ends-same f g start count here same x.members;
  candidates = ends-same c d start (budget + 1) here alike x.candidates;
}
outcome-same f g c d start count budget (Err u) here same alike x =
    let e = count_to-same f g start u.at.0 here x.candidate.working x.candidate.later same in
    record {
      passed = x.passed;
      candidate = nth-same c d start budget u.at.0 here alike x.candidate;
      fewer = omega (arith, e, x.fewer);
      further = (x.further.0, nth-same c d start (budget + 1) x.further.0 here alike x.further.1);
    }
