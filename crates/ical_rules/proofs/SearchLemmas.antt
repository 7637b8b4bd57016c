-- A search for the last member that a count lets in, from candidate to candidate.
use Rattle.std.proofs.Common.{◌≡◌, ◌≢◌, ℕ, ◌+◌, ◌<◌, ◌≤◌, ℤ, pos, ◌+ℤ◌, ◌-ℤ◌, ◌≤ℤ◌, ◌<ℤ◌, Bool, true, false, if◌then◌else◌, refl, ap, ◌∙◌, arith}
use Rattle.std.proofs.lemmas.Int.{by_lt_z, ints}
use Rattle.moment_core.specs.Line.{IsCalendarMoment, IsWorkingMoment}
use Rattle.moment_core.specs.Ranks.{count_to}
use Rattle.moment_core.specs.Steps.{IsNextCandidate, IsNextStep, NoCandidateLeft}
use Rattle.moment_core.specs.declared.line.Dir.TheVariants.{Fore}
use Rattle.moment_core.specs.declared.line.Step.{Step}
use Rattle.moment_core.specs.declared.line.Step.TheVariants.{Hit, Pass, End}
use Rattle.stored_pair.specs.Recurrences.{NoneUpTo, SkipsNone}
use Rattle.ical_rules.specs.Settling.{EndsBefore, IsLast, IsOpen, IsUnsettled}
use Rattle.ical_rules.proofs.Counting.{count_to-before, count_to-next, count_to_grows, count_to_stays}

-- the search stands at `at`, the last of so many candidates, or before the start; so many were
-- members, too few yet
pub record IsOnWay (has cand : ℤ → Bool) (start at : ℤ) (passed members count : ℕ) : Type 0 where
  pub working : IsWorkingMoment at
  pub behind : start ≤ℤ (at +ℤ pos 1)
  pub candidates : count_to cand start at ≡ passed
  pub counted : count_to has start at ≡ members
  pub fewer : members < count
  pub last : 0 < passed → (start ≤ℤ at) × (cand at ≡ true)

pub starts : (has cand : ℤ → Bool) (start : ℤ) (count : ℕ) → IsCalendarMoment start → 0 < count
    → IsOnWay has cand start (start -ℤ pos 1) 0 0 count
starts has cand start count here some = record {
  working = (omega (arith, ints, here.0), omega (arith, ints, here.1));
  behind = omega (arith, ints);
  candidates = count_to-before cand start;
  counted = count_to-before has start;
  fewer = some;
  last = λ h. absurd (omega arith);
}

-- the search goes on to the next candidate
record HasMoved (has cand : ℤ → Bool) (start at u : ℤ) (passed members : ℕ) : Type 0 where
  working : IsWorkingMoment u
  further : at <ℤ u
  candidate : cand u ≡ true
  candidates : count_to cand start u ≡ passed + 1
  counted : count_to has start u ≡ members + (if has u then 1 else 0)

moved : (has cand : ℤ → Bool) (start at u : ℤ) (passed members count : ℕ)
    → IsOnWay has cand start at passed members count
    → IsNextCandidate cand Fore at u → NoneUpTo has Fore at u → HasMoved has cand start at u passed
    members
moved has cand start at u passed members count way next skips =
    let n = next.1.0 in
    let place : u ≡ at +ℤ pos n = next.1.1 in
    let first = next.1.2 in
    let candidate : cand u ≡ true = ap cand place ∙ first.meets in
    record {
      working = next.0;
      further = omega (arith, ints, place, first.later);
      candidate = candidate;
      candidates = count_to-next cand start at u n way.behind first.later place first.none_before
          ∙ rw (candidate, way.candidates) refl;
      counted = count_to-next has start at u n way.behind first.later place (skips n place)
          ∙ rw way.counted refl;
    }

pub passes : (has cand : ℤ → Bool) (start at u : ℤ) (passed members count : ℕ)
    → IsOnWay has cand start at passed members count
    → IsNextCandidate cand Fore at u → NoneUpTo has Fore at u → has u ≡ false
    → IsOnWay has cand start u (passed + 1) members count
passes has cand start at u passed members count way next skips unmet =
    let m = moved has cand start at u passed members count way next skips in
    let counted : count_to has start u ≡ members + (if false then 1 else 0) = m.counted
    ∙ ap (λ b. members + (if b then 1 else 0)) unmet in
    record {
      working = m.working;
      behind = omega (arith, ints, way.behind, m.further);
      candidates = m.candidates;
      counted = omega (arith, counted);
      fewer = way.fewer;
      last = λ h. (omega (arith, ints, way.behind, m.further), m.candidate);
    }

one-more : (has cand : ℤ → Bool) (start at u : ℤ) (passed members count : ℕ)
    → IsOnWay has cand start at passed members count
    → IsNextCandidate cand Fore at u → NoneUpTo has Fore at u → has u ≡ true → count_to has start u
    ≡ members + 1
one-more has cand start at u passed members count way next skips met =
    (moved has cand start at u passed members count way next skips).counted
    ∙ ap (λ b. members + (if b then 1 else 0)) met

pub hits : (has cand : ℤ → Bool) (start at u : ℤ) (passed members count : ℕ)
    → IsOnWay has cand start at passed members count
    → IsNextCandidate cand Fore at u → NoneUpTo has Fore at u → has u ≡ true → members + 1 ≢ count
    → IsOnWay has cand start u (passed + 1) (members + 1) count
hits has cand start at u passed members count way next skips met more =
    let m = moved has cand start at u passed members count way next skips in
    record {
      working = m.working;
      behind = omega (arith, ints, way.behind, m.further);
      candidates = m.candidates;
      counted = one-more has cand start at u passed members count way next skips met;
      fewer = omega (arith, way.fewer, more);
      last = λ h. (omega (arith, ints, way.behind, m.further), m.candidate);
    }

pub finds : (has cand : ℤ → Bool) (start at u : ℤ) (passed members count budget : ℕ)
    → IsOnWay has cand start at passed members count
    → IsNextCandidate cand Fore at u → NoneUpTo has Fore at u → has u ≡ true → members + 1 ≡ count
    → passed < budget → IsLast has cand start count budget u
finds has cand start at u passed members count budget way next skips met all within =
    let m = moved has cand start at u passed members count way next skips in
    record {
      member = record {
        working = m.working;
        later = omega (arith, ints, way.behind, m.further);
        within = met;
        number = one-more has cand start at u passed members count way next skips met ∙ all;
      };
      within = omega (arith, m.candidates, within);
    }

-- what is so many at most so far stays so, where none is left
stays : (set : ℤ → Bool) (start at : ℤ) (n : ℕ) → IsWorkingMoment at → start ≤ℤ (at +ℤ pos 1)
    → count_to set start at < n → NoCandidateLeft set Fore at → EndsBefore set start n
stays set start at n here behind few none = λ t working later.
    by_lt_z t at
    (λ lt. (let less = count_to_grows set start t at (omega (arith, ints, later))
    (omega (arith, ints, lt)) in omega (arith, less, few)))
    (λ le. (let same = count_to_stays set start at t behind le
    (λ k some upto. none k some (omega (arith, ints, here.0), omega (arith, ints, working.1, upto)))
    in
    omega (arith, same, few)))

pub ends : (has cand : ℤ → Bool) (start at : ℤ) (passed members count budget : ℕ)
    → IsOnWay has cand start at passed members count
    → NoCandidateLeft cand Fore at → NoCandidateLeft has Fore at → passed ≤ budget
    → IsOpen has cand start count budget
ends has cand start at passed members count budget way none no_member within = record {
  members = stays has start at count way.working way.behind (omega (arith, way.counted, way.fewer))
      no_member;
  candidates = stays cand start at (budget + 1) way.working way.behind
      (omega (arith, way.candidates, within)) none;
}

pub cuts_off_at : (has cand : ℤ → Bool) (start at u : ℤ) (passed members count budget : ℕ)
    → IsOnWay has cand start at passed members count
    → IsNextCandidate cand Fore at u → NoneUpTo has Fore at u → passed ≡ budget → 0 < budget
    → IsUnsettled has cand start count budget (record { passed = budget; at = record { 0 = at } })
cuts_off_at has cand start at u passed members count budget way next skips all some =
    let m = moved has cand start at u passed members count way next skips in
    let last = way.last (omega (arith, all, some)) in
    record {
      passed = refl;
      candidate = record {
        working = way.working;
        later = last.0;
        within = last.1;
        number =
            way.candidates ∙ all;
      };
      fewer = omega (arith, way.counted, way.fewer);
      further = (
        u,
        record {
          working = m.working;
          later = omega (arith, ints, last.0, m.further);
          within = m.candidate;
          number = omega (arith, m.candidates, all);
        },
      );
    }

pub cuts_off : (has cand : ℤ → Bool) (start at : ℤ) (passed members count budget : ℕ) (step : Step)
    → IsOnWay has cand start at passed members count
    → IsNextStep has cand Fore at step → SkipsNone has Fore at step → step ≢ End → passed ≡ budget
    → 0 < budget
    → IsUnsettled has cand start count budget (record { passed = budget; at = record { 0 = at } })
cuts_off has cand start at passed members count budget (Hit u) way next skips more all some =
    cuts_off_at has cand start at u.0 passed members count budget way next.0 skips all some
cuts_off has cand start at passed members count budget (Pass u) way next skips more all some =
    cuts_off_at has cand start at u.0 passed members count budget way next.0 skips all some
cuts_off has cand start at passed members count budget End way next skips more all some =
    absurd (more refl)
