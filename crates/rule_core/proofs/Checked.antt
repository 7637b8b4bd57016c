-- A rule without a fault meets the test of none.
use Rattle.std.proofs.Common.{◌≡◌, ℕ, zero, suc, ◌<◌, Bool, true, false, not, List, [], ◌∷◌, length, get_or, Option, Some, None, Ok, refl, arith}
use Rattle.std.specs.Prelude.{option_map}
use Rattle.std.specs.List.{find, list_all, list_any}
use Rattle.std.proofs.lemmas.Bool.{and_from, or_parts, not-false}
use Rattle.std.proofs.lemmas.List.Sums.{AllPass-from_list_all}
use Rattle.rule_core.specs.declared.field.FieldRule.{FieldRule}
use Rattle.rule_core.specs.declared.ical.IcalRule.{IcalRule}
use Rattle.rule_core.specs.declared.part.Part.{Part}
use Rattle.rule_core.specs.declared.part.Part.TheVariants as parts
use Rattle.rule_core.specs.declared.part.RuleFault.{RuleFault}
use Rattle.rule_core.specs.declared.part.RuleFault.TheVariants.{BadMix, BadValue, BadInterval}
use Rattle.rule_core.specs.Faults.{fault_where, first_fault, judged}
use Rattle.rule_core.specs.FieldChecks.{check_of, counted, first_bad, first_mixed, is_bad, is_in_range, is_interval, is_mixed, keys, values_of}
use Rattle.rule_core.specs.IcalChecks.{check_ical, first_bad_part, is_bad_part, mixes_of, ranged}
use Rattle.rule_core.specs.Laws.{FieldIntervalFits, FieldKeysFit, FieldValuesFit, IcalIntervalFits, IcalPartsFit, IcalValuesFit}
use Rattle.rule_core.specs.Parts.{part_of}
use Rattle.moment_core.proofs.Options.{no_head, or_none}

judged_ok : (fault : Option RuleFault) → judged fault ≡ Ok tt → fault ≡ None
judged_ok None e = refl
judged_ok (Some fault) e = absurd cc

map_none : {X Y : Type 0} (f : X → Y) (a : Option X) → option_map f a ≡ None → a ≡ None
map_none f None e = refl
map_none f (Some x) e = absurd cc

where_none : (test : Bool) (fault : RuleFault) → fault_where test fault ≡ None → test ≡ false
where_none true fault e = absurd cc
where_none false fault e = refl

-- what isn't found fails at each place
found_none : {X : Type 0} (p : X → Bool) (xs : List X) (k : ℕ) (d : X) → find p xs ≡ None
    → k < length xs → p (get_or xs k d) ≡ false
found_none p [] k d none lt = absurd (omega arith)
found_none p (x ∷ xs) zero d none lt = (no_head (p x) x (find p xs) none).0
found_none p (x ∷ xs) (suc k) d none lt = found_none p xs k d (no_head (p x) x (find p xs) none).1
    (omega arith)

each_passes : {X : Type 0} (p : X → Bool) (xs : List X) → list_any (λ x. not (p x)) xs ≡ false
    → list_all p xs ≡ true
each_passes p [] e = refl
each_passes p (x ∷ xs) e =
    let both = or_parts (not (p x)) (list_any (λ y. not (p y)) xs) e in
    and_from (p x) (list_all p xs) (not-false (p x) both.0) (each_passes p xs both.1)

-- no test of a field rule's faults is met
record NoFieldFault (r : FieldRule) : Type 0 where
  mixed : first_mixed r ≡ None
  bad : first_bad r ≡ None
  interval : is_interval r.interval ≡ true

no_fault : (r : FieldRule) → check_of r ≡ Ok tt → NoFieldFault r
no_fault r e =
    let first = or_none (option_map (BadMix (part_of r.freq)) (first_mixed r)) _ (judged_ok _ e) in
    let second = or_none _ _ first.1 in
    let third = or_none (option_map BadValue (first_bad r)) _ second.1 in
    record {
      mixed = map_none (BadMix (part_of r.freq)) (first_mixed r) first.0;
      bad = map_none BadValue (first_bad r) third.0;
      interval = not-false (is_interval r.interval) (where_none (not (is_interval r.interval))
          BadInterval third.1);
    }

mixed_none : (r : FieldRule) (key : Part) → first_mixed r ≡ None → is_mixed r key ≡ false
unfolding first_mixed
mixed_none r parts.Months none = found_none (is_mixed r) keys 0 parts.Months none (omega arith)
mixed_none r parts.Weeks none = found_none (is_mixed r) keys 1 parts.Months none (omega arith)
mixed_none r parts.Days none = found_none (is_mixed r) keys 2 parts.Months none (omega arith)
mixed_none r parts.Hours none = found_none (is_mixed r) keys 3 parts.Months none (omega arith)
mixed_none r parts.Minutes none = found_none (is_mixed r) keys 4 parts.Months none (omega arith)
mixed_none r parts.Seconds none = found_none (is_mixed r) keys 5 parts.Months none (omega arith)
mixed_none r parts.WeekStart none = found_none (is_mixed r) keys 6 parts.Months none (omega arith)
mixed_none r key none = refl

bad_none : (r : FieldRule) (key : Part) → first_bad r ≡ None → is_bad r key ≡ false
unfolding first_bad
bad_none r parts.Months none = found_none (is_bad r) keys 0 parts.Months none (omega arith)
bad_none r parts.Weeks none = found_none (is_bad r) keys 1 parts.Months none (omega arith)
bad_none r parts.Days none = found_none (is_bad r) keys 2 parts.Months none (omega arith)
bad_none r parts.Hours none = found_none (is_bad r) keys 3 parts.Months none (omega arith)
bad_none r parts.Minutes none = found_none (is_bad r) keys 4 parts.Months none (omega arith)
bad_none r parts.Seconds none = found_none (is_bad r) keys 5 parts.Months none (omega arith)
bad_none r parts.WeekStart none = found_none (is_bad r) keys 6 parts.Months none (omega arith)
bad_none r key none = refl

pub field_keys_fit : FieldKeysFit
field_keys_fit r key e = mixed_none r key (no_fault r e).mixed

pub field_values_fit : FieldValuesFit
field_values_fit r key e =
    AllPass-from_list_all (is_in_range (counted r) key) (values_of r key)
    (each_passes (is_in_range (counted r) key) (values_of r key)
    (bad_none r key (no_fault r e).bad))

pub field_interval_fits : FieldIntervalFits
field_interval_fits r e = (no_fault r e).interval

-- no test of an RFC 5545 rule's faults is met
record NoIcalFault (r : IcalRule) : Type 0 where
  mixes : find (λ (mix : Bool × RuleFault). mix.0) (mixes_of r) ≡ None
  bad : first_bad_part r ≡ None
  interval : is_interval r.interval ≡ true

no_ical_fault : (r : IcalRule) → check_ical r ≡ Ok tt → NoIcalFault r
unfolding first_fault
no_ical_fault r e =
    let first = or_none (first_fault (mixes_of r)) _ (judged_ok _ e) in
    let second = or_none (option_map BadValue (first_bad_part r)) _ first.1 in
    record {
      mixes = map_none (λ (mix : Bool × RuleFault). mix.1) (find (λ (mix : Bool × RuleFault). mix.0)
          (mixes_of r)) first.0;
      bad = map_none BadValue (first_bad_part r) second.0;
      interval = not-false (is_interval r.interval) (where_none (not (is_interval r.interval))
          BadInterval second.1);
    }

bad_part_none : (r : IcalRule) (part : Part) → first_bad_part r ≡ None → is_bad_part r part ≡ false
unfolding first_bad_part is_bad_part
bad_part_none r parts.Until none = found_none (is_bad_part r) ranged 0 parts.Until none
    (omega arith)
bad_part_none r parts.Count none = found_none (is_bad_part r) ranged 1 parts.Until none
    (omega arith)
bad_part_none r parts.ByMonth none = found_none (is_bad_part r) ranged 2 parts.Until none
    (omega arith)
bad_part_none r parts.ByWeekNo none = found_none (is_bad_part r) ranged 3 parts.Until none
    (omega arith)
bad_part_none r parts.ByYearDay none = found_none (is_bad_part r) ranged 4 parts.Until none
    (omega arith)
bad_part_none r parts.ByMonthDay none = found_none (is_bad_part r) ranged 5 parts.Until none
    (omega arith)
bad_part_none r parts.ByDay none = found_none (is_bad_part r) ranged 6 parts.Until none
    (omega arith)
bad_part_none r parts.ByHour none = found_none (is_bad_part r) ranged 7 parts.Until none
    (omega arith)
bad_part_none r parts.ByMinute none = found_none (is_bad_part r) ranged 8 parts.Until none
    (omega arith)
bad_part_none r parts.BySecond none = found_none (is_bad_part r) ranged 9 parts.Until none
    (omega arith)
bad_part_none r parts.BySetPos none = found_none (is_bad_part r) ranged 10 parts.Until none
    (omega arith)
bad_part_none r part none = refl

pub ical_values_fit : IcalValuesFit
ical_values_fit r part e = bad_part_none r part (no_ical_fault r e).bad

pub ical_parts_fit : IcalPartsFit
ical_parts_fit r e =
    λ k d lt. let fails = found_none (λ (mix : Bool × RuleFault). mix.0) (mixes_of r) k d
    (no_ical_fault r e).mixes lt in rw fails refl

pub ical_interval_fits : IcalIntervalFits
ical_interval_fits r e = (no_ical_fault r e).interval
