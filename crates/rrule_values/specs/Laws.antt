-- What is written of values is read back, and what is read is in order.
use Rattle.std.specs.Prelude.{◌≡◌, ℕ, ◌==◌, nat_le, ℤ, pos, neg_ℤ, int_lt, Bool, true, ◌&&◌, ◌||◌, List, ◌∷◌, ◌++◌, flat_map, Option, Some, if◌then◌else◌}
use Rattle.std.specs.Fmt.{signed_decimal}
use Rattle.std.specs.Int.{IsInRange}
use Rattle.std.specs.List.{list_all}
use Rattle.moment_core.specs.declared.line.Moment.{Moment}
use Rattle.rule_core.specs.declared.lists.DayItem.{DayItem}
use Rattle.rule_core.specs.declared.part.Freq.{Freq}
use Rattle.rule_core.specs.IcalChecks.{is_until}
use Rattle.rule_core.specs.Values.{is_within}
use Rattle.rule_core.specs.WrittenForm.{AreWeekdays, is_before, is_in_order}
use Rattle.rrule_values.specs.Lists.{are_items, are_numbers, items_in, numbers_in}
use Rattle.rrule_values.specs.Names.{day_name, day_named, freq_name, freq_named}
use Rattle.rrule_values.specs.Numbers.{number_at}
use Rattle.rrule_values.specs.Splitting.{behind, is_other, split_at}
use Rattle.rrule_values.specs.Until.{ends_with_z, is_until_text, until_at, until_text}
use Rattle.rrule_values.specs.Writing.{item_text, list_text}

-- a digit, a capital letter, a comma or a minus
abbrev pub is_value_byte : ℕ → Bool
is_value_byte b = (nat_le 48 b && nat_le b 57) || (nat_le 65 b && nat_le b 90) || b == 44 || b == 45

-- a value's text is read as the value, and has those bytes alone
pub record IsBack {X : Type 0} (text : X → List ℕ) (read : List ℕ → Option X) (x : X) : Type 0 where
  pub back : read (text x) ≡ Some x
  pub plain : list_all is_value_byte (text x) ≡ true

-- a list's text is of its form, and read as the list where that is in order
pub record IsListBack {X : Type 0} (before : X → X → Bool) (text : X → List ℕ)
    (form : List ℕ → Bool) (read : List ℕ → List X) (xs : List X) : Type 0 where
  pub formed : form (list_text text xs) ≡ true
  pub back : is_in_order before xs ≡ true → read (list_text text xs) ≡ xs
  pub plain : list_all is_value_byte (list_text text xs) ≡ true

-- and the text of an UNTIL, with a Z or without
pub record IsUntilBack (z : Bool) (m : Moment) : Type 0 where
  pub formed : is_until_text (until_text z m.0) ≡ true
  pub back : until_at (until_text z m.0) ≡ m.0
  pub zone : ends_with_z (until_text z m.0) ≡ z
  pub plain : list_all is_value_byte (until_text z m.0) ≡ true

-- at most ten digits write the number, behind a minus only where signs are allowed
abbrev pub has_form : Bool → ℤ → Bool
has_form signed n =
    is_within (if signed then neg_ℤ (pos 9_999_999_999) else pos 0) (pos 9_999_999_999) n

-- what is written of a value is read back
pub record ValuesAreBack : Type 0 where
  pub frequency : (freq : Freq) → IsBack freq_name freq_named freq
  pub weekday : (day : ℕ) → IsInRange 1 7 day → IsBack day_name day_named day
  pub number : (signed : Bool) (n : ℤ) → has_form signed n ≡ true
      → IsBack signed_decimal (number_at signed) n
  pub numbers : (signed : Bool) (n : ℤ) (ns : List ℤ) → list_all (has_form signed) (n ∷ ns) ≡ true
      → IsListBack int_lt signed_decimal (are_numbers signed) (numbers_in signed) (n ∷ ns)
  pub items : (item : DayItem) (items : List DayItem) → AreWeekdays (item ∷ items)
      → list_all (λ (x : DayItem). has_form true x.nth) (item ∷ items) ≡ true
      → IsListBack is_before item_text are_items items_in (item ∷ items)
  pub until : (z : Bool) (m : Moment) → is_until m ≡ true → IsUntilBack z m

-- lists that are read are in order, and weekdays that are read are weekdays
abbrev pub NumbersAreOrdered : Type 0
NumbersAreOrdered =
    (signed : Bool) (value : List ℕ) → is_in_order int_lt (numbers_in signed value) ≡ true

abbrev pub ItemsAreOrdered : Type 0
ItemsAreOrdered = (value : List ℕ) → is_in_order is_before (items_in value) ≡ true

abbrev pub ItemsAreWeekdays : Type 0
ItemsAreWeekdays = (value : List ℕ) → AreWeekdays (items_in value)

abbrev pub NamesAreWeekdays : Type 0
NamesAreWeekdays = (name : List ℕ) (day : ℕ) → day_named name ≡ Some day → IsInRange 1 7 day

-- texts that lack a sign stand between the signs that join them
abbrev pub JoinedAreCut : Type 0
JoinedAreCut =
    (sign : ℕ) (text : List ℕ) (texts : List (List ℕ))
    → list_all (λ t. list_all (is_other sign) t) (text ∷ texts) ≡ true
    → split_at sign (text ++ flat_map (behind sign) texts) ≡ text ∷ texts
