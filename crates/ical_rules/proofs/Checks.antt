-- What an accepted rule's values are.
use Rattle.std.proofs.Common.{◌≡◌, ℕ, ◌<◌, Bool, true, false, not, ◌&&◌, ◌||◌, List, [], ◌∷◌, Some, ℤ, pos, ◌≤ℤ◌, refl, ap, ◌∙◌, arith, to_z, w64}
use Rattle.std.specs.Prelude.{All, Ok, ◌<ℤ◌, if◌then◌else◌}
use Rattle.std.specs.List.{list_any}
use Rattle.std.proofs.lemmas.Bool.{or_parts}
use Rattle.std.proofs.lemmas.Bool.Decides.{nat_tests}
use Rattle.std.proofs.lemmas.Int.{ints}
use Rattle.std.proofs.lemmas.List.Elements.{All-cons}
use Rattle.moment_core.specs.declared.line.Moment.{Moment}
use Rattle.rule_core.specs.FieldChecks.{is_interval}
use Rattle.rule_core.specs.IcalChecks.{check_ical, is_bad_item, is_bad_part, is_until}
use Rattle.rule_core.specs.Laws.{IcalValuesFit, UntilsAreOfYears}
use Rattle.rule_core.specs.Values.{is_given, is_signed, is_within}
use Rattle.rule_core.specs.declared.ical.IcalRule.{IcalRule}
use Rattle.rule_core.specs.declared.lists.DayItem.{DayItem}
use Rattle.rule_core.specs.declared.part.Part.TheVariants as parts
use Rattle.sieve_tables.specs.Lowered.{IsDayEntry, IsEntry}
use Rattle.sieve_tables.specs.Masks.{IsPlain}
use Rattle.ical_rules.specs.Starts.{IsLastMoment}
use Rattle.std.proofs.Math.Bool.{or_assoc}

-- where none is bad, each is good
each_is : {X : Type 0} (P : X → Type 0) (bad : X → Bool) → ((v : X) → bad v ≡ false → P v)
    → (values : List X) → list_any bad values ≡ false → All P values
each_is P bad means [] e = λ k d lt. absurd (omega (arith, lt))
each_is P bad means (v ∷ values) e =
    let both = or_parts (bad v) (list_any bad values) e in
    All-cons P v values (means v both.0) (each_is P bad means values both.1)

plain_value : (low high : ℤ) (len : ℕ) (v : ℤ) → pos 0 ≤ℤ low → high <ℤ pos len
    → not (is_within low high v) ≡ false → IsPlain len v
plain_value low high len v from to e =
    (grind (arith, ints, nat_tests), grind (arith, ints, nat_tests))

signed_entry : (n half : ℕ) (v : ℤ) → n < half → not (is_signed n v) ≡ false → IsEntry half v
signed_entry n half v less e = record {
  low = grind (arith, ints, nat_tests);
  high =
      grind (arith, ints, nat_tests);
  nonzero = grind (arith, ints, nat_tests);
}

day_entry : (item : DayItem) → is_bad_item item ≡ false → IsDayEntry item
day_entry item e = (grind (arith, ints, nat_tests), grind (arith, ints, nat_tests))

module _ (fit : IcalValuesFit) (r : IcalRule) (ok : check_ical r ≡ Ok tt) where
  pub months_are : All (IsPlain 13) r.by_month
  unfolding is_bad_part
  months_are = each_is (IsPlain 13) (λ v. not (is_within (pos 1) (pos 12) v))
      (λ v. plain_value (pos 1) (pos 12) 13 v (omega (arith, ints)) (omega (arith, ints)))
      r.by_month (fit r parts.ByMonth ok)

  pub hours_are : All (IsPlain 24) r.by_hour
  unfolding is_bad_part
  hours_are = each_is (IsPlain 24) (λ v. not (is_within (pos 0) (pos 23) v))
      (λ v. plain_value (pos 0) (pos 23) 24 v (omega (arith, ints)) (omega (arith, ints))) r.by_hour
      (fit r parts.ByHour ok)

  pub minutes_are : All (IsPlain 60) r.by_minute
  unfolding is_bad_part
  minutes_are = each_is (IsPlain 60) (λ v. not (is_within (pos 0) (pos 59) v))
      (λ v. plain_value (pos 0) (pos 59) 60 v (omega (arith, ints)) (omega (arith, ints)))
      r.by_minute (fit r parts.ByMinute ok)

  pub seconds_are : All (IsPlain 61) r.by_second
  unfolding is_bad_part
  seconds_are = each_is (IsPlain 61) (λ v. not (is_within (pos 0) (pos 60) v))
      (λ v. plain_value (pos 0) (pos 60) 61 v (omega (arith, ints)) (omega (arith, ints)))
      r.by_second (fit r parts.BySecond ok)

  pub weeks_are : All (IsEntry 64) r.by_week
  unfolding is_bad_part
  weeks_are = each_is (IsEntry 64) (λ v. not (is_signed 53 v))
      (λ v. signed_entry 53 64 v (omega arith)) r.by_week (fit r parts.ByWeekNo ok)

  pub year_days_are : All (IsEntry 384) r.by_year_day
  unfolding is_bad_part
  year_days_are = each_is (IsEntry 384) (λ v. not (is_signed 366 v))
      (λ v. signed_entry 366 384 v (omega arith)) r.by_year_day (fit r parts.ByYearDay ok)

  pub month_days_are : All (IsEntry 32) r.by_month_day
  unfolding is_bad_part
  month_days_are = each_is (IsEntry 32) (λ v. not (is_signed 31 v))
      (λ v. signed_entry 31 32 v (omega arith)) r.by_month_day (fit r parts.ByMonthDay ok)

  pub days_are : All IsDayEntry r.by_day
  unfolding is_bad_part
  days_are = each_is IsDayEntry is_bad_item day_entry r.by_day (fit r parts.ByDay ok)

  pub ranks_are : All (IsEntry 384) r.by_set_pos
  unfolding is_bad_part
  ranks_are = each_is (IsEntry 384) (λ v. not (is_signed 366 v))
      (λ v. signed_entry 366 384 v (omega arith)) r.by_set_pos (fit r parts.BySetPos ok)

  until_in : (m : Moment) → r.until ≡ Some m → is_bad_part r parts.Until ≡ false → is_until m ≡ true
  unfolding is_bad_part
  until_in m is e = let one = rw is at e in
      until_of (is_until m) (or_parts (not (is_until m)) false one).0
    where
      until_of : (b : Bool) → not b ≡ false → b ≡ true
      until_of true e = refl
      until_of false e = absurd cc

  -- UNTIL is of the years 0 to 9999
  pub until_is : UntilsAreOfYears → (m : Moment) → r.until ≡ Some m → IsLastMoment m.0
  until_is years m is =
      let within = years m (until_in m is (fit r parts.Until ok)) in
      (omega (arith, ints, within.0), omega (arith, ints, within.1))

  count_in : (n : ℤ) → r.count ≡ Some n → is_bad_part r parts.Count ≡ false → pos 1 ≤ℤ n
  unfolding is_bad_part
  count_in n is e =
      let one = rw is at e in
      let both = or_parts (not (is_within (pos 1) (pos 1_000_000_000) n)) false one in
      least n both.0
    where
      least : (n : ℤ) → not (is_within (pos 1) (pos 1_000_000_000) n) ≡ false → pos 1 ≤ℤ n
      least n e = grind (arith, ints, nat_tests)

  -- COUNT is at least 1
  pub count_is : (n : ℤ) → r.count ≡ Some n → pos 1 ≤ℤ n
  count_is n is = count_in n is (fit r parts.Count ok)

-- and so is the interval
pub interval_is : (n : ℤ) → is_interval n ≡ true → (pos 1 ≤ℤ n) × (n ≤ℤ pos 1_000_000_000)
interval_is n e = (grind (arith, ints, nat_tests), grind (arith, ints, nat_tests))

-- a list with DTSTART's own value put in
pub taken_are : {X : Type 0} (P : X → Type 0) (taken : Bool) (own : X) (values : List X) → P own
    → All P values → All P (if taken && not (is_given values) then own ∷ [] else values)
taken_are P true own [] here each = All-cons P own [] here each
taken_are P true own (v ∷ values) here each = each
taken_are P false own values here each = each

-- is the list that the rule is filled with
pub taken_list : {X : Type 0} (list items values : List X) (taken taken' : Bool) (own own' : X)
    → list ≡ (if taken && not (is_given items) then own ∷ [] else items)
    → items ≡ values → taken ≡ taken' → own ≡ own' → list
    ≡ (if taken' && not (is_given values) then own' ∷ [] else values)
taken_list list items values taken taken' own own' is same_items same_taken same_own =
    is ∙ ap (λ xs. if taken && not (is_given xs) then own ∷ [] else xs) same_items
    ∙ ap (λ b. if b && not (is_given values) then own ∷ [] else values) same_taken
    ∙ ap (λ v. if taken' && not (is_given values) then v ∷ [] else values) same_own

-- it is given where a value is listed or taken
given_taken : {X : Type 0} (taken : Bool) (own : X) (values : List X) → (is_given values || taken)
    ≡ is_given (if taken && not (is_given values) then own ∷ [] else values)
given_taken true own [] = refl
given_taken true own (v ∷ values) = refl
given_taken false own [] = refl
given_taken false own (v ∷ values) = refl

pub given_also : {X : Type 0} (a a' b t t' : Bool) (own : X) (values : List X) → a ≡ a' → b
    ≡ is_given values → t ≡ t' → ((a || b) || t)
    ≡ (a' || is_given (if t' && not (is_given values) then own ∷ [] else values))
given_also a a' b t t' own values e f g =
    let same : ((a || b) || t) ≡ ((a' || is_given values) || t') = cc in
    same ∙ or_assoc a' (is_given values) t' ∙ ap (λ x. a' || x) (given_taken t' own values)

-- a small number as a value
pub small : (n m : ℕ) → n ≡ m → n < 64 → to_z w64 n ≡ pos m
small n m e less = omega (arith, ints)

pub entry_small : (n half : ℕ) → 0 < n → n < half → IsEntry half (pos n)
entry_small n half some below = record {
  low = omega (arith, ints);
  high = omega (arith, ints);
  nonzero = grind (arith, ints);
}
