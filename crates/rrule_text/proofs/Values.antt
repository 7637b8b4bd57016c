-- The values of a checked rule are written and read back.
use Rattle.std.proofs.Common.{◌≡◌, ℕ, ◌≤◌, ℤ, pos, Bool, true, false, not, ◌&&◌, ◌||◌, ◌==◌, List, [], ◌∷◌, Option, Some, None, refl, sym, ap, ◌∙◌, arith}
use Rattle.std.specs.Prelude.{int_lt, option_map, if◌then◌else◌}
use Rattle.std.specs.Fmt.{signed_decimal}
use Rattle.std.specs.Int.{IsInRange}
use Rattle.std.specs.List.{list_all, list_any}
use Rattle.std.specs.Option.{ForSome, option_to_list}
use Rattle.std.specs.Ordering.{int_eq}
use Rattle.std.proofs.lemmas.Bool.{and_from, not-false, or_parts}
use Rattle.std.proofs.lemmas.Bool.Decides.{nat_tests}
use Rattle.std.proofs.lemmas.Int.{ints}
use Rattle.moment_core.specs.declared.line.Moment.{Moment}
use Rattle.rule_core.specs.declared.lists.DayItem.{DayItem}
use Rattle.rule_core.specs.declared.part.Part.{Part}
use Rattle.rule_core.specs.declared.part.Part.TheVariants as parts
use Rattle.rule_core.specs.FieldChecks.{is_interval}
use Rattle.rule_core.specs.IcalChecks.{is_bad_item, is_outside, is_outside_signed, is_until}
use Rattle.rule_core.specs.Values.{is_signed, is_within}
use Rattle.rule_core.specs.WrittenForm.{AreWeekdays, is_before, is_in_order}
use Rattle.rrule_values.specs.Laws.{IsBack, ValuesAreBack, has_form}
use Rattle.rrule_values.specs.Lists.{are_numbers, items_in, numbers_in}
use Rattle.rrule_values.specs.Names.{day_name, day_named}
use Rattle.rrule_values.specs.Numbers.{number_at}
use Rattle.rrule_values.specs.Until.{ends_with_z, until_at, until_text}
use Rattle.rrule_values.specs.Writing.{item_text}
use Rattle.rrule_text.specs.Pieces.{is_value}
use Rattle.rrule_text.specs.Reading.{or_else, then_read}
use Rattle.rrule_text.specs.Writing.{interval_text, listed_text, week_start_text}
use Rattle.rrule_text.proofs.Entries.{FitsIf}

-- values within their ranges have at most ten digits

pub naturals_fine : (low high : ℕ) (ns : List ℤ) → high ≤ 9_999_999_999 → is_outside (pos low)
    (pos high) ns ≡ false → list_all (has_form false) ns ≡ true
naturals_fine low high [] le good = refl
naturals_fine low high (n ∷ ns) le good =
    let both = or_parts (not (is_within (pos low) (pos high) n))
    (is_outside (pos low) (pos high) ns) good in
    and_from (has_form false n) (list_all (has_form false) ns)
    (one n (not-false (is_within (pos low) (pos high) n) both.0))
    (naturals_fine low high ns le both.1)
  where
    one : (n : ℤ) → is_within (pos low) (pos high) n ≡ true → has_form false n ≡ true
    one n within = grind (arith, ints)

signed_fine : (n : ℤ) (most : ℕ) → most ≤ 9_999_999_999 → is_signed most n ≡ true → has_form true n
    ≡ true
signed_fine n most le within = grind (arith, ints)

pub signeds_fine : (most : ℕ) (ns : List ℤ) → most ≤ 9_999_999_999 → is_outside_signed most ns
    ≡ false → list_all (has_form true) ns ≡ true
signeds_fine most [] le good = refl
signeds_fine most (n ∷ ns) le good =
    let both = or_parts (not (is_signed most n)) (is_outside_signed most ns) good in
    and_from (has_form true n) (list_all (has_form true) ns)
    (signed_fine n most le (not-false (is_signed most n) both.0)) (signeds_fine most ns le both.1)

abbrev pub is_short : DayItem → Bool
is_short item = has_form true item.nth

pub ordinals_fine : (items : List DayItem) → list_any is_bad_item items ≡ false
    → list_all is_short items ≡ true
ordinals_fine [] good = refl
ordinals_fine (item ∷ items) good =
    let both = or_parts (is_bad_item item) (list_any is_bad_item items) good in
    and_from (is_short item) (list_all is_short items) (one item.nth both.0)
    (ordinals_fine items both.1)
  where
    one : (n : ℤ) → (not (int_eq n (pos 0)) && not (is_signed 53 n)) ≡ false → has_form true n
        ≡ true
    one n good = grind (arith, ints)

module _ (values : ValuesAreBack) where
  -- a list is of the form of its part, and is read back

  pub numbers_fit : (part : Part) (signed : Bool) (ns : List ℤ)
      → ((value : List ℕ) → is_value part value ≡ are_numbers signed value)
      → list_all (has_form signed) ns ≡ true → FitsIf part (listed_text signed_decimal ns)
  numbers_fit part signed [] form each = tt
  numbers_fit part signed (n ∷ ns) form each =
      let back = values.numbers signed n ns each in
      record { form = form _ ∙ back.formed; plain = back.plain }

  pub numbers_again : (signed : Bool) (ns : List ℤ) → list_all (has_form signed) ns ≡ true
      → is_in_order int_lt ns ≡ true
      → or_else [] (option_map (numbers_in signed) (listed_text signed_decimal ns)) ≡ ns
  numbers_again signed [] each ordered = refl
  numbers_again signed (n ∷ ns) each ordered = (values.numbers signed n ns each).back ordered

  pub items_fit : (items : List DayItem) → AreWeekdays items → list_all is_short items ≡ true
      → FitsIf parts.ByDay (listed_text item_text items)
  unfolding is_value
  items_fit [] days each = tt
  items_fit (item ∷ items) days each =
      let back = values.items item items days each in
      record { form = back.formed; plain = back.plain }

  pub items_again : (items : List DayItem) → AreWeekdays items → list_all is_short items ≡ true
      → is_in_order is_before items ≡ true
      → or_else [] (option_map items_in (listed_text item_text items)) ≡ items
  items_again [] days each ordered = refl
  items_again (item ∷ items) days each ordered = (values.items item items days each).back ordered

  -- UNTIL, COUNT, INTERVAL and WKST

  pub until_fits : (z : Bool) (until : Option Moment) → ForSome until (λ m. is_until m ≡ true)
      → FitsIf parts.Until (option_map (λ (m : Moment). until_text z m.0) until)
  unfolding is_value
  until_fits z None fine = tt
  until_fits z (Some m) fine =
      let back = values.until z m (fine m refl) in
      record { form = back.formed; plain = back.plain }

  pub until_again : (z : Bool) (until : Option Moment) → ForSome until (λ m. is_until m ≡ true)
      → option_map (λ value. record { 0 = until_at value })
      (option_map (λ (m : Moment). until_text z m.0) until) ≡ until
  until_again z None fine = refl
  until_again z (Some m) fine = ap (λ (t : ℤ). Some (record { 0 = t }))
      (values.until z m (fine m refl)).back

  pub until_z_again : (z : Bool) (until : Option Moment) → ForSome until (λ m. is_until m ≡ true)
      → (until ≡ None → z ≡ false)
      → or_else false (option_map ends_with_z (option_map (λ (m : Moment). until_text z m.0) until))
      ≡ z
  until_z_again z None fine none = sym (none refl)
  until_z_again z (Some m) fine none = (values.until z m (fine m refl)).zone

  number_back : (n : ℤ) → is_within (pos 1) (pos 1_000_000_000) n ≡ true → IsBack signed_decimal
      (number_at false) n
  number_back n within = values.number false n (grind (arith, ints))

  count_back : (n : ℤ) → is_outside (pos 1) (pos 1_000_000_000) (n ∷ []) ≡ false
      → IsBack signed_decimal (number_at false) n
  count_back n good =
      number_back n (not-false (is_within (pos 1) (pos 1_000_000_000) n)
      (or_parts (not (is_within (pos 1) (pos 1_000_000_000) n)) false good).0)

  pub count_fits : (count : Option ℤ) → is_outside (pos 1) (pos 1_000_000_000)
      (option_to_list count) ≡ false → FitsIf parts.Count (option_map signed_decimal count)
  unfolding is_value
  count_fits None good = tt
  count_fits (Some n) good = record {
    form = rw (count_back n good).back refl;
    plain =
        (count_back n good).plain;
  }

  pub count_again : (count : Option ℤ) → is_outside (pos 1) (pos 1_000_000_000)
      (option_to_list count) ≡ false → then_read (number_at false) (option_map signed_decimal count)
      ≡ count
  count_again None good = refl
  count_again (Some n) good = (count_back n good).back

  pub interval_fits : (n : ℤ) → is_interval n ≡ true → FitsIf parts.Interval (interval_text n)
  unfolding is_value
  interval_fits n within = by_one (int_eq n (pos 1))
    where
      by_one : (one : Bool) → FitsIf parts.Interval (if one then None else Some (signed_decimal n))
      by_one true = tt
      by_one false = record {
        form = rw (number_back n within).back refl;
        plain =
            (number_back n within).plain;
      }

  pub interval_again : (n : ℤ) → is_interval n ≡ true
      → or_else (pos 1) (then_read (number_at false) (interval_text n)) ≡ n
  interval_again n within = by_one (int_eq n (pos 1)) refl
    where
      is_one : (n : ℤ) → int_eq n (pos 1) ≡ true → pos 1 ≡ n
      is_one n e = grind (arith, ints)

      by_one : (one : Bool) → int_eq n (pos 1) ≡ one
          → or_else (pos 1)
          (then_read (number_at false) (if one then None else Some (signed_decimal n))) ≡ n
      by_one true is = is_one n is
      by_one false is = rw (number_back n within).back refl

  pub week_start_fits : (d : ℕ) → IsInRange 1 7 d → FitsIf parts.Wkst (week_start_text d)
  unfolding is_value
  week_start_fits d within = by_one (d == 1)
    where
      by_one : (one : Bool) → FitsIf parts.Wkst (if one then None else Some (day_name d))
      by_one true = tt
      by_one false = record {
        form = rw (values.weekday d within).back refl;
        plain =
            (values.weekday d within).plain;
      }

  pub week_start_again : (d : ℕ) → IsInRange 1 7 d
      → or_else 1 (then_read day_named (week_start_text d)) ≡ d
  week_start_again d within = by_one (d == 1) refl
    where
      is_one : (d : ℕ) → (d == 1) ≡ true → 1 ≡ d
      is_one d e = grind (arith, nat_tests)

      by_one : (one : Bool) → (d == 1) ≡ one
          → or_else 1 (then_read day_named (if one then None else Some (day_name d))) ≡ d
      by_one true is = is_one d is
      by_one false is = rw (values.weekday d within).back refl

-- an UNTIL that `check` takes
pub until_fine : (until : Option Moment) → list_any (λ m. not (is_until m)) (option_to_list until)
    ≡ false → ForSome until (λ m. is_until m ≡ true)
until_fine None good m e = absurd cc
until_fine (Some n) good m e =
    let same : n ≡ m = cc in
    rw same at (by_test (is_until n) good)
  where
    by_test : (b : Bool) → (not b || false) ≡ false → b ≡ true
    by_test true e = refl
    by_test false e = absurd cc
