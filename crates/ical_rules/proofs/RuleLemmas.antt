-- A rule without its COUNT, and the COUNT-th of its members.
use Rattle.std.proofs.Common.{◌≡◌, ℕ, zero, suc, ◌<◌, ◌≤◌, ℤ, pos, ◌+ℤ◌, ◌-ℤ◌, ◌≤ℤ◌, ◌<ℤ◌, unsigned_abs, Bool, true, false, not, ◌&&◌, ◌||◌, Option, Some, None, Result, Ok, Err, refl, sym, ap, subst, ◌∙◌, arith}
use Rattle.std.specs.Prelude.{int_le, option_map, IfOk, IfErr}
use Rattle.std.specs.Ordering.{int_eq}
use Rattle.std.proofs.lemmas.Bool.{and_from, and_parts, and_right, or_parts, or_right, not-false}
use Rattle.std.proofs.lemmas.Int.{ints}
use Rattle.moment_core.specs.Line.{IsCalendarMoment, IsWorkingMoment}
use Rattle.moment_core.specs.Ranks.{count_to}
use Rattle.moment_core.specs.declared.line.TheConstants.{HIGH, REACH}
use Rattle.moment_core.proofs.Comparing.{int_le-true, le-int_le}
use Rattle.moment_core.proofs.FloorLemmas.{floor_arith}
use Rattle.ical_rules.proofs.LastCounted.{last_counted_is}
use Rattle.rule_core.specs.FieldMembers.{is_working}
use Rattle.rule_core.specs.IcalChecks.{check_ical, is_bad_part}
use Rattle.rule_core.specs.IcalMembers.{filled, has_ical, has_uncounted, meets_by_date, meets_by_day, meets_by_time, meets_parts, meets_set_pos}
use Rattle.rule_core.specs.Laws.{IcalValuesFit}
use Rattle.rule_core.specs.declared.ical.IcalRule.{IcalRule}
use Rattle.rule_core.specs.declared.part.Part.TheVariants as parts
use Rattle.sieve_core.specs.Members.{is_candidate}
use Rattle.sieve_core.specs.declared.tables.Sieve.{Sieve}
use Rattle.stored_pair.specs.Laws.{StepsSkipNone}
use Rattle.stored_pair.specs.Recurrences.{AreCandidates}
use Rattle.ical_rules.specs.Leaves.{has_counted}
use Rattle.ical_rules.specs.declared.leaf.IcalLeaf.{IcalLeaf}
use Rattle.ical_rules.specs.Rules.{IsSettled, first_of, is_ical_candidate, is_member_number, last_by, last_counted, start_of, without_count}
use Rattle.ical_rules.specs.Settling.{AreUncounted, EndsBefore, IsBeyond, IsNth, IsOutcome, IsSettling, IsSettlingBy, OutcomesAreOne, OutcomesExist}
use Rattle.ical_rules.specs.declared.outcome.Settled.{Settled}
use Rattle.ical_rules.specs.declared.outcome.Settled.TheVariants.{Last, Open}
use Rattle.ical_rules.specs.declared.outcome.Unsettled.{Unsettled}
use Rattle.ical_rules.proofs.Counting.{count_to_rises}
use Rattle.ical_rules.proofs.OutcomeLemmas.{beyond, one_outcome, outcome-same, some_outcome}
use Rattle.std.proofs.Math.Bool.{and-true}

-- COUNT is a positive number
outside_none : (count : ℤ) → (not (int_le (pos 1) count && int_le count (pos 1_000_000_000))
    || false) ≡ false → pos 1 ≤ℤ count
outside_none count e =
    let within = not-false _ (or_parts _ false e).0 in
    int_le-true (pos 1) count (and_parts _ _ within).0

count_in_range : (r : IcalRule) (count : ℤ) → r.count ≡ Some count → is_bad_part r parts.Count
    ≡ false → pos 1 ≤ℤ count
unfolding is_bad_part
count_in_range r count is good = outside_none count (rw is at good)

some_count : IcalValuesFit → (r : IcalRule) (count : ℤ) → r.count ≡ Some count → check_ical r
    ≡ Ok tt → pos 1 ≤ℤ count
some_count fit r count is checked = count_in_range r count is (fit r parts.Count checked)

-- the BY parts don't look at COUNT
parts_same : (r : IcalRule) (t : ℤ) → meets_parts (without_count r) t ≡ meets_parts r t
unfolding meets_parts filled meets_by_date meets_by_day meets_by_time
parts_same r t = refl

working_is : (t : ℤ) → IsWorkingMoment t → is_working t ≡ true
working_is t here = and_from _ _ (le-int_le _ _ here.0) (le-int_le _ _ here.1)

-- a member of a rule without its COUNT is a candidate of it
pub members-are : (r : IcalRule) → AreCandidates (has_uncounted r)
    (is_ical_candidate (without_count r))
unfolding has_uncounted is_ical_candidate last_counted
members-are r t here member =
    let by = and_parts _ _ member in
    let ranked = and_parts _ _ by.0 in
    let met = and_parts _ _ ranked.0 in
    let turned = and_parts _ _ met.0 in
    and_from _ _
    (and_from _ _ (and_from _ _ (and_from _ _ (working_is t here) turned.0) by.1) refl)
    (or_right _ _ (parts_same r t ∙ met.1))

-- the first moment that passes a test
first_of-found : (test : ℤ → Bool) (t u : ℤ) (n k : ℕ) → k < n → u ≡ t +ℤ pos k → test u ≡ true
    → ((v : ℤ) → t ≤ℤ v → v <ℤ u → test v ≡ false) → first_of test t n ≡ Some u
unfolding first_of
first_of-found test t u zero k below place met none = absurd (omega arith)
first_of-found test t u (suc n) zero below place met none =
    let same : u ≡ t = omega (arith, ints, place) in
    rw (ap test (sym same) ∙ met) (ap Some (sym same))
first_of-found test t u (suc n) (suc k) below place met none =
    rw (none t (omega (arith, ints)) (omega (arith, ints, place)))
    (first_of-found test (t +ℤ pos 1) u n k (omega (arith, below)) (omega (arith, ints, place)) met
    (λ v low high. none v (omega (arith, ints, low)) high))

first_of-none : (test : ℤ → Bool) (t : ℤ) (n : ℕ) → ((v : ℤ) → t ≤ℤ v → v <ℤ (t +ℤ pos n) → test v
    ≡ false) → first_of test t n ≡ None
unfolding first_of
first_of-none test t zero none = refl
first_of-none test t (suc n) none =
    rw (none t (omega (arith, ints)) (omega (arith, ints)))
    (first_of-none test (t +ℤ pos 1) n (λ v low high. none v (omega (arith, ints, low))
    (omega (arith, ints, high))))

-- numbers that are one or not
same_number : (n : ℕ) (z : ℤ) → pos 1 ≤ℤ z → n ≡ unsigned_abs z → int_eq (pos n) z ≡ true
same_number n z some e = grind (arith, floor_arith)

less_number : (n : ℕ) (z : ℤ) → pos 1 ≤ℤ z → n < unsigned_abs z → int_eq (pos n) z ≡ false
less_number n z some less = grind (arith, floor_arith)

-- the moment with the member's number is the rule's last one
pub last_counted-at : (r : IcalRule) (count t : ℤ) → r.count ≡ Some count → pos 1 ≤ℤ count
    → IsCalendarMoment (start_of r)
    → IsNth (has_uncounted r) (start_of r) (unsigned_abs count) t → last_counted r ≡ Some t
unfolding last_counted
last_counted-at r count t is some here nth =
    let start = start_of r in
    ap (last_by r) is
    ∙ first_of-found (is_member_number r count) start t
    (unsigned_abs (HIGH +ℤ REACH +ℤ pos 1 -ℤ start)) (unsigned_abs (t -ℤ start))
    (omega (arith, floor_arith, nth.later, nth.working.1, here.1))
    (omega (arith, floor_arith, nth.later))
    (and_from _ _ nth.within (same_number _ count some nth.number))
    (λ v from before. (let less = count_to_rises (has_uncounted r) start v t
    (omega (arith, ints, from)) before nth.within in
    and_right _ _ (less_number (count_to (has_uncounted r) start v) count some
    (omega (arith, less, nth.number)))))

-- and where the working range ends before it there is none
pub last_counted-none : (r : IcalRule) (count : ℤ) → r.count ≡ Some count → pos 1 ≤ℤ count
    → IsCalendarMoment (start_of r)
    → EndsBefore (has_uncounted r) (start_of r) (unsigned_abs count) → last_counted r ≡ None
unfolding last_counted
last_counted-none r count is some here over =
    let start = start_of r in
    ap (last_by r) is
    ∙ first_of-none (is_member_number r count) start
    (unsigned_abs (HIGH +ℤ REACH +ℤ pos 1 -ℤ start))
    (λ v from before. and_right _ _ (less_number (count_to (has_uncounted r) start v) count some
    (over v (omega (arith, ints, here.0, from), omega (arith, floor_arith, here.1, before)) from)))

last_counted-uncounted : (r : IcalRule) → r.count ≡ None → last_counted r ≡ None
unfolding last_counted
last_counted-uncounted r is = ap (last_by r) is

-- the rule's last one has the member's number
nth_from : (r : IcalRule) (count t : ℤ) → r.count ≡ Some count → IsCalendarMoment (start_of r)
    → last_counted r ≡ Some t → IsNth (has_uncounted r) (start_of r) (unsigned_abs count) t
unfolding last_counted
nth_from r count t is here e =
    let last = last_counted_is r count t here (sym (ap (last_by r) is) ∙ e) in
    record {
      working = (omega (arith, ints, here.0, last.later), last.working);
      later = last.later;
      within = last.member;
      number = omega (arith, floor_arith, last.number);
    }

-- the outcome settles the rule
settled_by : IcalValuesFit → (r : IcalRule) (count : Option ℤ) (budget : ℕ)
    (outcome : Result Settled Unsettled) → r.count ≡ count → check_ical r ≡ Ok tt
    → IsCalendarMoment (start_of r)
    → IsSettlingBy r count budget outcome → IfOk outcome (IsSettled r)
settled_by fit r None budget outcome is checked here e = rw e (last_counted-uncounted r is)
settled_by fit r (Some count) budget (Ok (Last t)) is checked here last = last_counted-at r count
    t.0 is (some_count fit r count is checked) here last.member
settled_by fit r (Some count) budget (Ok Open) is checked here over = last_counted-none r count is
    (some_count fit r count is checked) here over.members
settled_by fit r (Some count) budget (Err u) is checked here unsettled = tt

pub settles : IcalValuesFit → (r : IcalRule) (budget : ℕ) (outcome : Result Settled Unsettled)
    → check_ical r ≡ Ok tt → IsCalendarMoment (start_of r) → IsSettling r budget outcome
    → IfOk outcome (IsSettled r)
settles fit r budget outcome checked here settling = settled_by fit r r.count budget outcome refl
    checked here settling

beyond_by : (r : IcalRule) (count : Option ℤ) (budget : ℕ) (outcome : Result Settled Unsettled)
    → r.count ≡ count → IsCalendarMoment (start_of r)
    → IsSettlingBy r count budget outcome → IfErr outcome (λ u. IsBeyond r budget)
beyond_by r None budget outcome is here e = rw e tt
beyond_by r (Some count) budget (Ok settled) is here e = tt
beyond_by r (Some count) budget (Err u) is here unsettled = λ t last.
    beyond (has_uncounted r) (is_ical_candidate (without_count r)) (start_of r) (unsigned_abs count)
    budget t u (members-are r) (nth_from r count t is here last) unsettled

pub lies_beyond : (r : IcalRule) (budget : ℕ) (outcome : Result Settled Unsettled)
    → IsCalendarMoment (start_of r) → IsSettling r budget outcome
    → IfErr outcome (λ u. IsBeyond r budget)
lies_beyond r budget outcome here settling = beyond_by r r.count budget outcome refl here settling

-- just one outcome
one_by : (r : IcalRule) (count : Option ℤ) (budget : ℕ) (a b : Result Settled Unsettled)
    → IsSettlingBy r count budget a → IsSettlingBy r count budget b → a ≡ b
one_by r None budget a b x y = x ∙ sym y
one_by r (Some count) budget a b x y = one_outcome (has_uncounted r)
    (is_ical_candidate (without_count r)) (start_of r) (unsigned_abs count) budget a b
    (members-are r) x y

pub outcomes-one : OutcomesAreOne
outcomes-one r budget a b x y = one_by r r.count budget a b x y

some_by : IcalValuesFit → StepsSkipNone → (r : IcalRule) (count : Option ℤ) (budget : ℕ) → r.count
    ≡ count → check_ical r ≡ Ok tt → IsCalendarMoment (start_of r) → 1 ≤ budget
    → (outcome : Result Settled Unsettled) × IsSettlingBy r count budget outcome
some_by fit skips r None budget is checked here some = (Ok Open, refl)
some_by fit skips r (Some count) budget is checked here some =
    let positive = some_count fit r count is checked in
    some_outcome skips (has_uncounted r) (is_ical_candidate (without_count r)) (start_of r)
    (unsigned_abs count) budget (members-are r) here (omega (arith, floor_arith, positive))
    (omega (arith, some))

pub outcomes-exist : IcalValuesFit → StepsSkipNone → OutcomesExist
outcomes-exist fit skips r budget checked here some = some_by fit skips r r.count budget refl
    checked here some

-- what is found in a recurrence that has the rule's members and candidates without its COUNT
found_by : (r : IcalRule) (count : Option ℤ) (n budget : ℕ) (has cand : ℤ → Bool)
    (outcome : Result Settled Unsettled) → option_map unsigned_abs count ≡ Some n
    → IsCalendarMoment (start_of r) → AreUncounted r has cand → IsOutcome has cand (start_of r) n
    budget outcome → IsSettlingBy r count budget outcome
found_by r None n budget has cand outcome is here same found = absurd cc
found_by r (Some count) n budget has cand outcome is here same found =
    let working : IsWorkingMoment (start_of r) =
    (omega (arith, ints, here.0), omega (arith, ints, here.1)) in
    let number : n ≡ unsigned_abs count = cc in
    let exact : IsOutcome has cand (start_of r) (unsigned_abs count) budget outcome =
    subst (λ m. IsOutcome has cand (start_of r) m budget outcome) number found in
    outcome-same has (has_uncounted r) cand (is_ical_candidate (without_count r)) (start_of r)
    (unsigned_abs count) budget outcome working same.members same.candidates exact

pub settling-counted : (r : IcalRule) (n budget : ℕ) (has cand : ℤ → Bool)
    (outcome : Result Settled Unsettled) → option_map unsigned_abs r.count ≡ Some n
    → IsCalendarMoment (start_of r) → AreUncounted r has cand → IsOutcome has cand (start_of r) n
    budget outcome → IsSettling r budget outcome
settling-counted r n budget has cand outcome is here same found = found_by r r.count n budget has
    cand outcome is here same found

open_by : (r : IcalRule) (count : Option ℤ) (budget : ℕ) → option_map unsigned_abs count ≡ None
    → IsSettlingBy r count budget (Ok Open)
open_by r None budget is = refl
open_by r (Some count) budget is = absurd cc

pub settling-open : (r : IcalRule) (budget : ℕ) → option_map unsigned_abs r.count ≡ None
    → IsSettling r budget (Ok Open)
settling-open r budget is = open_by r r.count budget is

-- COUNT lets in some members
positive_by : IcalValuesFit → (r : IcalRule) (count : Option ℤ) (n : ℕ) → r.count ≡ count
    → option_map unsigned_abs count ≡ Some n → check_ical r ≡ Ok tt → 0 < n
positive_by fit r None n is e checked = absurd cc
positive_by fit r (Some count) n is e checked =
    let number : n ≡ unsigned_abs count = cc in
    let some = some_count fit r count is checked in
    omega (arith, floor_arith, number, some)

pub positive_count : IcalValuesFit → (r : IcalRule) (n : ℕ) → option_map unsigned_abs r.count
    ≡ Some n → check_ical r ≡ Ok tt → 0 < n
positive_count fit r n e checked = positive_by fit r r.count n refl e checked

-- the leaf of a rule without its COUNT has the rule's members and candidates
uncounted-is : (r : IcalRule) (t : ℤ) → has_ical (without_count r) t ≡ has_uncounted r t
unfolding has_ical has_uncounted meets_set_pos meets_parts filled meets_by_date meets_by_day
    meets_by_time
uncounted-is r t = and-true (has_uncounted r t)

pub uncounted_from : (r : IcalRule) (leaf : IcalLeaf) (s : Sieve) → leaf.sieve ≡ s → leaf.until
    ≡ r.until → leaf.count ≡ None
    → has_counted s r.until None ≡ has_ical (without_count r) → is_candidate s
    ≡ is_ical_candidate (without_count r)
    → AreUncounted r (has_counted leaf.sieve leaf.until leaf.count) (is_candidate leaf.sieve)
uncounted_from r leaf s is_sieve is_until is_count members candidates = record {
  members = λ t here.
      ap (λ x. has_counted x leaf.until leaf.count t) is_sieve
      ∙ ap (λ x. has_counted s x leaf.count t) is_until ∙ ap (λ x. has_counted s r.until x t)
      is_count
      ∙ ap (λ f. f t) members ∙ uncounted-is r t;
  candidates = λ t here. ap (λ x. is_candidate x t) is_sieve ∙ ap (λ f. f t) candidates;
}
