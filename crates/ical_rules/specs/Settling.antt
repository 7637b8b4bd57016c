-- The last member that COUNT lets in (RFC 5545, 3.3.10), sought among the first so many candidates.
use Rattle.std.specs.Prelude.{◌≡◌, ◌+◌, ◌<◌, ◌≤◌, ℕ, ℤ, ◌≤ℤ◌, unsigned_abs, Bool, true, Option, Some, None, Result, Ok, Err}
use Rattle.moment_core.specs.Line.{IsCalendarMoment, IsWorkingMoment}
use Rattle.moment_core.specs.Ranks.{count_to}
use Rattle.rule_core.specs.IcalChecks.{check_ical}
use Rattle.rule_core.specs.IcalMembers.{has_uncounted}
use Rattle.rule_core.specs.declared.ical.IcalRule.{IcalRule}
use Rattle.ical_rules.specs.Rules.{is_ical_candidate, last_counted, start_of, without_count}
use Rattle.ical_rules.specs.declared.outcome.Settled.{Settled}
use Rattle.ical_rules.specs.declared.outcome.Settled.TheVariants.{Last, Open}
use Rattle.ical_rules.specs.declared.outcome.Unsettled.{Unsettled}

-- t is the nth moment of a set in the working range, from the start on
pub record IsNth (set : ℤ → Bool) (start : ℤ) (n : ℕ) (t : ℤ) : Type 0 where
  pub working : IsWorkingMoment t
  pub later : start ≤ℤ t
  pub within : set t ≡ true
  pub number : count_to set start t ≡ n

-- the working range ends before the nth one
abbrev pub EndsBefore : (ℤ → Bool) → ℤ → ℕ → Type 0
EndsBefore set start n = (t : ℤ) → IsWorkingMoment t → start ≤ℤ t → count_to set start t < n

-- t is the member with the number `count`, and among the first `budget` candidates
pub record IsLast (has cand : ℤ → Bool) (start : ℤ) (count budget : ℕ) (t : ℤ) : Type 0 where
  pub member : IsNth has start count t
  pub within : count_to cand start t ≤ budget

-- the working range ends before that member, with at most `budget` candidates
pub record IsOpen (has cand : ℤ → Bool) (start : ℤ) (count budget : ℕ) : Type 0 where
  pub members : EndsBefore has start count
  pub candidates : EndsBefore cand start (budget + 1)

-- `budget` candidates were passed, the last of them at `at`; that member comes later, if at all,
-- and a further candidate comes
pub record IsUnsettled (has cand : ℤ → Bool) (start : ℤ) (count budget : ℕ)
    (u : Unsettled) : Type 0 where
  pub passed : u.passed ≡ budget
  pub candidate : IsNth cand start budget u.at.0
  pub fewer : count_to has start u.at.0 < count
  pub further : (t : ℤ) × IsNth cand start (budget + 1) t

abbrev pub IsOutcome : (ℤ → Bool) → (ℤ → Bool) → ℤ → ℕ → ℕ → Result Settled Unsettled → Type 0
IsOutcome has cand start count budget (Ok (Last t)) = IsLast has cand start count budget t.0
IsOutcome has cand start count budget (Ok Open) = IsOpen has cand start count budget
IsOutcome has cand start count budget (Err u) = IsUnsettled has cand start count budget u

-- the outcome for a rule, its members and candidates being those without its COUNT: open, where
-- there is none
abbrev pub IsSettlingBy : IcalRule → Option ℤ → ℕ → Result Settled Unsettled → Type 0
IsSettlingBy r None budget outcome = outcome ≡ Ok Open
IsSettlingBy r (Some count) budget outcome =
    IsOutcome (has_uncounted r) (is_ical_candidate (without_count r)) (start_of r)
    (unsigned_abs count) budget outcome

abbrev pub IsSettling : IcalRule → ℕ → Result Settled Unsettled → Type 0
IsSettling r budget outcome = IsSettlingBy r r.count budget outcome

-- the COUNT-th member, if there is one, is not among the first `budget` candidates
abbrev pub IsBeyond : IcalRule → ℕ → Type 0
IsBeyond r budget =
    (t : ℤ) → last_counted r ≡ Some t
    → budget < count_to (is_ical_candidate (without_count r)) (start_of r) t

-- a set and its candidates are in the working range those of a rule without its COUNT
pub record AreUncounted (r : IcalRule) (has cand : ℤ → Bool) : Type 0 where
  pub members : (t : ℤ) → IsWorkingMoment t → has t ≡ has_uncounted r t
  pub candidates : (t : ℤ) → IsWorkingMoment t → cand t ≡ is_ical_candidate (without_count r) t

-- no rule has two outcomes for one budget
abbrev pub OutcomesAreOne : Type 0
OutcomesAreOne =
    (r : IcalRule) (budget : ℕ) (a b : Result Settled Unsettled)
    → IsSettling r budget a → IsSettling r budget b → a ≡ b

-- and a rule without a fault, with DTSTART in the calendar range, has one for each budget
abbrev pub OutcomesExist : Type 0
OutcomesExist =
    (r : IcalRule) (budget : ℕ) → check_ical r ≡ Ok tt → IsCalendarMoment (start_of r) → 1 ≤ budget
    → (outcome : Result Settled Unsettled) × IsSettling r budget outcome
