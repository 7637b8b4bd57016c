-- The fields of a rule's printed form, as forms, stand for the rule.
use Rattle.std.proofs.Common.{◌≡◌, ℕ, ◌==◌, ◌<◌, ◌≤◌, ℤ, pos, Bool, true, false, cond, List, [], ◌∷◌, Option, Some, None, refl, sym, ap, ◌∙◌, arith}
use Rattle.std.specs.List.{AllByRecursion, IsDistinct}
use Rattle.std.specs.Option.{option_to_list}
use Rattle.std.specs.Ordering.{int_eq}
use Rattle.std.proofs.lemmas.Bool.Decides.{Decides-int_eq, nat_tests}
use Rattle.moment_core.specs.declared.line.Stamp.{Stamp}
use Rattle.rule_core.specs.declared.field.FieldRule.{FieldRule}
use Rattle.expr_grammar.specs.declared.syntax.Key.{Key}
use Rattle.expr_grammar.specs.declared.syntax.Key.TheVariants as keys
use Rattle.expr_grammar.specs.Fields.{AreFields, HasNumbers, field_place, is_single, key_place, same_key}
use Rattle.expr_grammar.specs.Form.{FieldForm, Values, Start}
use Rattle.expr_print.specs.Fields.{interval_printed}
use Rattle.expr_text.specs.Rules.{first_of, interval_of, literal_in, numbers_of, rule_from, rule_with}

abbrev pub with_numbers : Key → List ℤ → List FieldForm → List FieldForm
with_numbers key [] fields = fields
with_numbers key (n ∷ ns) fields = Values key (n ∷ ns) ∷ fields

abbrev pub with_start : Option Stamp → List FieldForm → List FieldForm
with_start None fields = fields
with_start (Some s) fields = Start (Some s) ∷ fields

-- the fields from each key on
module _ (r : FieldRule) where
  abbrev pub from_week_start : List FieldForm
  from_week_start = with_numbers keys.WeekStart (option_to_list r.week_start) []

  abbrev pub from_start : List FieldForm
  from_start = with_start r.start from_week_start

  abbrev pub from_interval : List FieldForm
  from_interval = with_numbers keys.Interval (interval_printed r.interval) from_start

  abbrev pub from_seconds : List FieldForm
  from_seconds = with_numbers keys.Seconds r.seconds from_interval

  abbrev pub from_minutes : List FieldForm
  from_minutes = with_numbers keys.Minutes r.minutes from_seconds

  abbrev pub from_hours : List FieldForm
  from_hours = with_numbers keys.Hours r.hours from_minutes

  abbrev pub from_days : List FieldForm
  from_days = with_numbers keys.Days r.days from_hours

  abbrev pub from_weeks : List FieldForm
  from_weeks = with_numbers keys.Weeks r.weeks from_days

  abbrev pub written_fields : List FieldForm
  written_fields = with_numbers keys.Months r.months from_weeks

-- the numbers of a key

same_place : (key : Key) → (key_place key == key_place key) ≡ true
same_place keys.Months = refl
same_place keys.Weeks = refl
same_place keys.Days = refl
same_place keys.Hours = refl
same_place keys.Minutes = refl
same_place keys.Seconds = refl
same_place keys.Interval = refl
same_place keys.WeekStart = refl

found_at : (key : Key) (ns : List ℤ) (fields : List FieldForm) → numbers_of key fields ≡ []
    → numbers_of key (with_numbers key ns fields) ≡ ns
found_at key [] fields e = e
found_at key (n ∷ ns) fields e = rw (same_place key) refl

passed_at : (key other : Key) (ns : List ℤ) (fields : List FieldForm)
    → (key_place other == key_place key) ≡ false → numbers_of key (with_numbers other ns fields)
    ≡ numbers_of key fields
passed_at key other [] fields h = refl
passed_at key other (n ∷ ns) fields h = rw h refl

passed_start : (key : Key) (start : Option Stamp) (fields : List FieldForm)
    → numbers_of key (with_start start fields) ≡ numbers_of key fields
passed_start key None fields = refl
passed_start key (Some s) fields = refl

-- the key is none of those from another on
abbrev Differ : Key → Key → Type 0
Differ key other = (key_place other == key_place key) ≡ false

module _ (r : FieldRule) (key : Key) where
  past_week_start : Differ key keys.WeekStart → numbers_of key (from_week_start r) ≡ []
  past_week_start h = passed_at key keys.WeekStart (option_to_list r.week_start) [] h

  past_start : Differ key keys.WeekStart → numbers_of key (from_start r) ≡ []
  past_start h = passed_start key r.start (from_week_start r) ∙ past_week_start h

  past_interval : Differ key keys.Interval → Differ key keys.WeekStart
      → numbers_of key (from_interval r) ≡ []
  past_interval i h = passed_at key keys.Interval (interval_printed r.interval) (from_start r) i
      ∙ past_start h

  past_seconds : Differ key keys.Seconds → Differ key keys.Interval → Differ key keys.WeekStart
      → numbers_of key (from_seconds r) ≡ []
  past_seconds s i h = passed_at key keys.Seconds r.seconds (from_interval r) s ∙ past_interval i h

  past_minutes : Differ key keys.Minutes → Differ key keys.Seconds → Differ key keys.Interval
      → Differ key keys.WeekStart → numbers_of key (from_minutes r) ≡ []
  past_minutes m s i h = passed_at key keys.Minutes r.minutes (from_seconds r) m
      ∙ past_seconds s i h

  past_hours : Differ key keys.Hours → Differ key keys.Minutes → Differ key keys.Seconds
      → Differ key keys.Interval → Differ key keys.WeekStart → numbers_of key (from_hours r) ≡ []
  past_hours o m s i h = passed_at key keys.Hours r.hours (from_minutes r) o ∙ past_minutes m s i h

  past_days : Differ key keys.Days → Differ key keys.Hours → Differ key keys.Minutes
      → Differ key keys.Seconds → Differ key keys.Interval → Differ key keys.WeekStart
      → numbers_of key (from_days r) ≡ []
  past_days d o m s i h = passed_at key keys.Days r.days (from_hours r) d ∙ past_hours o m s i h

  past_weeks : Differ key keys.Weeks → Differ key keys.Days → Differ key keys.Hours
      → Differ key keys.Minutes → Differ key keys.Seconds → Differ key keys.Interval
      → Differ key keys.WeekStart → numbers_of key (from_weeks r) ≡ []
  past_weeks w d o m s i h = passed_at key keys.Weeks r.weeks (from_days r) w
      ∙ past_days d o m s i h

  -- up to another key
  to_weeks : Differ key keys.Months → numbers_of key (written_fields r)
      ≡ numbers_of key (from_weeks r)
  to_weeks a = passed_at key keys.Months r.months (from_weeks r) a

  to_days : Differ key keys.Months → Differ key keys.Weeks → numbers_of key (written_fields r)
      ≡ numbers_of key (from_days r)
  to_days a b = to_weeks a ∙ passed_at key keys.Weeks r.weeks (from_days r) b

  to_hours : Differ key keys.Months → Differ key keys.Weeks → Differ key keys.Days
      → numbers_of key (written_fields r) ≡ numbers_of key (from_hours r)
  to_hours a b c = to_days a b ∙ passed_at key keys.Days r.days (from_hours r) c

  to_minutes : Differ key keys.Months → Differ key keys.Weeks → Differ key keys.Days
      → Differ key keys.Hours → numbers_of key (written_fields r) ≡ numbers_of key (from_minutes r)
  to_minutes a b c d = to_hours a b c ∙ passed_at key keys.Hours r.hours (from_minutes r) d

  to_seconds : Differ key keys.Months → Differ key keys.Weeks → Differ key keys.Days
      → Differ key keys.Hours → Differ key keys.Minutes → numbers_of key (written_fields r)
      ≡ numbers_of key (from_seconds r)
  to_seconds a b c d e = to_minutes a b c d ∙ passed_at key keys.Minutes r.minutes (from_seconds r)
      e

  to_interval : Differ key keys.Months → Differ key keys.Weeks → Differ key keys.Days
      → Differ key keys.Hours → Differ key keys.Minutes → Differ key keys.Seconds
      → numbers_of key (written_fields r) ≡ numbers_of key (from_interval r)
  to_interval a b c d e f = to_seconds a b c d e ∙ passed_at key keys.Seconds r.seconds
      (from_interval r) f

interval_back : (n : ℤ) → interval_of (first_of (interval_printed n)) ≡ n
interval_back n = by_value (int_eq n (pos 1)) refl
  where
    by_value : (b : Bool) → int_eq n (pos 1) ≡ b → interval_of (first_of (cond b [] (n ∷ []))) ≡ n
    by_value true e = sym ((Decides-int_eq n (pos 1)).0 e)
    by_value false e = refl

week_start_back : (o : Option ℤ) → first_of (option_to_list o) ≡ o
week_start_back None = refl
week_start_back (Some n) = refl

-- the start's literal

literal_past : (key : Key) (ns : List ℤ) (fields : List FieldForm)
    → literal_in (with_numbers key ns fields) ≡ literal_in fields
literal_past key [] fields = refl
literal_past key (n ∷ ns) fields = refl

abbrev literal_of_start : Option Stamp → Option (Option Stamp)
literal_of_start None = None
literal_of_start (Some s) = Some (Some s)

literal_at : (start : Option Stamp) (fields : List FieldForm) → literal_in fields ≡ None
    → literal_in (with_start start fields) ≡ literal_of_start start
literal_at None fields e = e
literal_at (Some s) fields e = refl

literal_back : (r : FieldRule) → literal_in (written_fields r) ≡ literal_of_start r.start
literal_back r =
    literal_past keys.Months r.months (from_weeks r) ∙ literal_past keys.Weeks r.weeks (from_days r)
    ∙ literal_past keys.Days r.days (from_hours r)
    ∙ literal_past keys.Hours r.hours (from_minutes r) ∙ literal_past keys.Minutes r.minutes
    (from_seconds r) ∙ literal_past keys.Seconds r.seconds (from_interval r)
    ∙ literal_past keys.Interval (interval_printed r.interval) (from_start r)
    ∙ literal_at r.start (from_week_start r)
    (literal_past keys.WeekStart (option_to_list r.week_start) [])

from_literal : (r : FieldRule) (fields : List FieldForm) (start : Option Stamp)
    → rule_with r.freq fields start ≡ r → literal_in fields ≡ literal_of_start start
    → rule_from r.freq fields ≡ Some r
from_literal r fields None e d = rw d (ap (λ (x : FieldRule). Some x) e)
from_literal r fields (Some s) e d = rw d (ap (λ (x : FieldRule). Some x) e)

fields_back : (r : FieldRule) → rule_with r.freq (written_fields r) r.start ≡ r
fields_back r =
    let months = found_at keys.Months r.months (from_weeks r)
    (past_weeks r keys.Months refl refl refl refl refl refl refl) in
    let weeks = to_weeks r keys.Weeks refl ∙ found_at keys.Weeks r.weeks (from_days r)
    (past_days r keys.Weeks refl refl refl refl refl refl) in
    let days = to_days r keys.Days refl refl ∙ found_at keys.Days r.days (from_hours r)
    (past_hours r keys.Days refl refl refl refl refl) in
    let hours = to_hours r keys.Hours refl refl refl ∙ found_at keys.Hours r.hours (from_minutes r)
    (past_minutes r keys.Hours refl refl refl refl) in
    let minutes = to_minutes r keys.Minutes refl refl refl refl ∙ found_at keys.Minutes r.minutes
    (from_seconds r) (past_seconds r keys.Minutes refl refl refl) in
    let seconds = to_seconds r keys.Seconds refl refl refl refl refl ∙ found_at keys.Seconds
    r.seconds (from_interval r) (past_interval r keys.Seconds refl refl) in
    let interval = to_interval r keys.Interval refl refl refl refl refl refl
    ∙ found_at keys.Interval (interval_printed r.interval) (from_start r)
    (past_start r keys.Interval refl) in
    let week_start = to_interval r keys.WeekStart refl refl refl refl refl refl
    ∙ passed_at keys.WeekStart keys.Interval (interval_printed r.interval) (from_start r) refl
    ∙ passed_start keys.WeekStart r.start (from_week_start r) ∙ found_at keys.WeekStart
    (option_to_list r.week_start) [] refl in
    rw (
      months,
      weeks,
      days,
      hours,
      minutes,
      seconds,
      interval,
      week_start,
      interval_back
          r.interval,
      week_start_back r.week_start,
    ) refl

pub rule_back : (r : FieldRule) → rule_from r.freq (written_fields r) ≡ Some r
rule_back r = from_literal r (written_fields r) r.start (fields_back r) (literal_back r)

-- each key stands once, and with its numbers

abbrev AllHave : List FieldForm → Type 0
AllHave fields = AllByRecursion HasNumbers fields

many_kept : (key : Key) (ns : List ℤ) (fields : List FieldForm) → is_single key ≡ false
    → AllHave fields → AllHave (with_numbers key ns fields)
many_kept key [] fields e h = h
many_kept key (n ∷ []) fields e h = (tt, h)
many_kept key (n ∷ m ∷ ns) fields e h = (e, h)

interval_kept : (n : ℤ) (fields : List FieldForm) → AllHave fields
    → AllHave (with_numbers keys.Interval (interval_printed n) fields)
interval_kept n fields h = by_value (int_eq n (pos 1))
  where
    by_value : (b : Bool) → AllHave (with_numbers keys.Interval (cond b [] (n ∷ [])) fields)
    by_value true = h
    by_value false = (tt, h)

week_start_kept : (o : Option ℤ) → AllHave (with_numbers keys.WeekStart (option_to_list o) [])
week_start_kept None = tt
week_start_kept (Some n) = (tt, tt)

start_kept : (o : Option Stamp) (fields : List FieldForm) → AllHave fields
    → AllHave (with_start o fields)
start_kept None fields h = h
start_kept (Some s) fields h = (tt, h)

abbrev Later : ℕ → List FieldForm → Type 0
Later place fields = AllByRecursion (λ (f : FieldForm). place < field_place f) fields

-- the fields stand behind the place, each key once
record Ordered (place : ℕ) (fields : List FieldForm) : Type 0 where
  later : Later place fields
  once : IsDistinct same_key fields

later_still : (n m : ℕ) (fields : List FieldForm) → n ≤ m → Later m fields → Later n fields
later_still n m [] le h = tt
later_still n m (f ∷ fields) le h = (omega (arith, le, h.0), later_still n m fields le h.1)

apart : (f : FieldForm) (fields : List FieldForm) → Later (field_place f) fields
    → AllByRecursion (λ g. same_key f g ≡ false) fields
apart f [] h = tt
apart f (g ∷ fields) h = (not_equal (field_place f) (field_place g) h.0, apart f fields h.1)
  where
    not_equal : (a b : ℕ) → a < b → (a == b) ≡ false
    not_equal a b less = grind (arith, nat_tests)

with_field : (n : ℕ) (f : FieldForm) (fields : List FieldForm) → n < field_place f
    → Ordered (field_place f) fields → Ordered n (f ∷ fields)
unfolding IsDistinct
with_field n f fields less h = record {
  later = (less, later_still n (field_place f) fields (omega (arith, less)) h.later);
  once = (apart f fields h.later, h.once);
}

without : (n m : ℕ) (fields : List FieldForm) → n < m → Ordered m fields → Ordered n fields
without n m fields less h = record {
  later = later_still n m fields (omega (arith, less)) h.later;
  once = h.once;
}

numbers_ordered : (n : ℕ) (key : Key) (ns : List ℤ) (fields : List FieldForm) → n < key_place key
    → Ordered (key_place key) fields → Ordered n (with_numbers key ns fields)
numbers_ordered n key [] fields less h = without n (key_place key) fields less h
numbers_ordered n key (m ∷ ns) fields less h = with_field n (Values key (m ∷ ns)) fields less h

start_ordered : (o : Option Stamp) (fields : List FieldForm) → Ordered 7 fields
    → Ordered 6 (with_start o fields)
start_ordered None fields h = without 6 7 fields (omega arith) h
start_ordered (Some s) fields h = with_field 6 (Start (Some s)) fields (omega arith) h

months_once : (ns : List ℤ) (fields : List FieldForm) → Ordered 0 fields
    → IsDistinct same_key (with_numbers keys.Months ns fields)
unfolding IsDistinct
months_once [] fields h = h.once
months_once (n ∷ ns) fields h = (apart (Values keys.Months (n ∷ ns)) fields h.later, h.once)

nothing_ordered : Ordered 8 []
unfolding IsDistinct
nothing_ordered = record { later = tt; once = tt }

pub are_fields : (r : FieldRule) → AreFields (written_fields r)
are_fields r = record {
  numbers =
      many_kept keys.Months r.months (from_weeks r) refl (many_kept keys.Weeks r.weeks (from_days r)
      refl (many_kept keys.Days r.days (from_hours r) refl
      (many_kept keys.Hours r.hours (from_minutes r) refl
      (many_kept keys.Minutes r.minutes (from_seconds r) refl
      (many_kept keys.Seconds r.seconds (from_interval r) refl
      (interval_kept r.interval (from_start r)
      (start_kept r.start (from_week_start r) (week_start_kept r.week_start))))))));
  once =
      months_once r.months (from_weeks r) (numbers_ordered 0 keys.Weeks r.weeks (from_days r)
      (omega arith) (numbers_ordered 1 keys.Days r.days (from_hours r) (omega arith)
      (numbers_ordered 2 keys.Hours r.hours (from_minutes r) (omega arith)
      (numbers_ordered 3 keys.Minutes r.minutes (from_seconds r) (omega arith)
      (numbers_ordered 4 keys.Seconds r.seconds (from_interval r) (omega arith)
      (numbers_ordered 5 keys.Interval (interval_printed r.interval) (from_start r) (omega arith)
      (start_ordered r.start (from_week_start r)
      (numbers_ordered 7 keys.WeekStart (option_to_list r.week_start) [] (omega arith)
      nothing_ordered))))))));
}
