-- What is written of values is read back, and what is read is in order.
use Rattle.std.proofs.Common.{◌≡◌, ℕ, suc, ◌<◌, ◌≤◌, ◌^◌, ℤ, pos, negsuc, Bool, true, false, ◌&&◌, nat_le, List, [], ◌∷◌, ◌-◌, length, take, drop, Option, Some, None, refl, arith}
use Rattle.std.specs.Prelude.{codes, int_lt, unsigned_abs, if◌then◌else◌}
use Rattle.std.specs.Fmt.{signed_decimal}
use Rattle.std.specs.Int.{IsInRange}
use Rattle.std.specs.List.{cons_option, filter_map, list_all}
use Rattle.std.specs.Str.{bytes_eq}
use Rattle.std.proofs.lemmas.Bool.{and_from, and_parts}
use Rattle.std.proofs.lemmas.Bool.Decides.{nat_tests}
use Rattle.std.proofs.lemmas.Int.{ints}
use Rattle.std.proofs.lemmas.List.Sums.{AllPass-from_list_all}
use Rattle.rule_core.specs.declared.lists.DayItem.{DayItem}
use Rattle.rule_core.specs.declared.part.Freq.{Freq}
use Rattle.rule_core.specs.declared.part.Freq.TheVariants as freqs
use Rattle.rule_core.specs.Laws.{UntilsAreOfYears}
use Rattle.rule_core.specs.WrittenForm.{AreWeekdays, is_before}
use Rattle.rrule_values.specs.Laws.{IsBack, IsListBack, ItemsAreOrdered, ItemsAreWeekdays, NamesAreWeekdays, NumbersAreOrdered, ValuesAreBack, has_form}
use Rattle.rrule_values.specs.Lists.{are_items, are_numbers, items_in, numbers_in, written_items, written_numbers}
use Rattle.rrule_values.specs.Names.{day_name, day_named, freq_name, freq_named}
use Rattle.rrule_values.specs.Numbers.{item_at, item_with, number_at, ordinal_at}
use Rattle.rrule_values.specs.Splitting.{split_at}
use Rattle.rrule_values.specs.Writing.{item_text}
use Rattle.rrule_values.proofs.Listed.{AreWords, IsWord, all_read, all_some, cut, list_plain, word_back}
use Rattle.rrule_values.proofs.Numerals.{number_back, positive_back}
use Rattle.rrule_values.proofs.Ordered.{all_ordered, all_pass, ordered_same}
use Rattle.rrule_values.proofs.UntilValues.{until_back}
use Rattle.rrule_values.proofs.Words.{day_is, item_back, item_words, signed_words}

freq_back : (freq : Freq) → IsBack freq_name freq_named freq
unfolding freq_named
freq_back freqs.Yearly = record { back = refl; plain = refl }
freq_back freqs.Monthly = record { back = refl; plain = refl }
freq_back freqs.Weekly = record { back = refl; plain = refl }
freq_back freqs.Daily = record { back = refl; plain = refl }
freq_back freqs.Hourly = record { back = refl; plain = refl }
freq_back freqs.Minutely = record { back = refl; plain = refl }
freq_back freqs.Secondly = record { back = refl; plain = refl }

weekday_back : (day : ℕ) → IsInRange 1 7 day → IsBack day_name day_named day
weekday_back day within =
    let is = day_is day within in
    word_back day_name day_named day (record { words = is.words; back = is.named })

-- numbers

few_digits : (signed : Bool) (n : ℤ) → has_form signed n ≡ true → unsigned_abs n < 10 ^ 10
few_digits true (pos k) within = let le : k ≤ 9_999_999_999 = grind (arith, ints) in omega arith
few_digits true (negsuc k) within = let le : suc k ≤ 9_999_999_999 = grind (arith, ints) in
    omega arith
few_digits false (pos k) within = let le : k ≤ 9_999_999_999 = grind (arith, ints) in omega arith
few_digits false (negsuc k) within = absurd (grind (arith, ints))

number_word : (signed : Bool) (n : ℤ) → has_form signed n ≡ true → IsWord signed_decimal
    (number_at signed) n
number_word signed n within = record {
  words = signed_words n (few_digits signed n within);
  back =
      read signed n within (few_digits signed n within);
}
  where
    read : (signed : Bool) (n : ℤ) → has_form signed n ≡ true → unsigned_abs n < 10 ^ 10
        → number_at signed (signed_decimal n) ≡ Some n
    read true n within few = number_back n few
    read false (pos k) within few = positive_back false k few
    read false (negsuc k) within few = absurd (grind (arith, ints))

number_words : (signed : Bool) (ns : List ℤ) → list_all (has_form signed) ns ≡ true
    → AreWords signed_decimal (number_at signed) ns
number_words signed [] each = tt
number_words signed (n ∷ ns) each =
    let both = and_parts (has_form signed n) (list_all (has_form signed) ns) each in
    (number_word signed n both.0, number_words signed ns both.1)

numbers_back : (signed : Bool) (n : ℤ) (ns : List ℤ) → list_all (has_form signed) (n ∷ ns) ≡ true
    → IsListBack int_lt signed_decimal (are_numbers signed) (numbers_in signed) (n ∷ ns)
unfolding numbers_in written_numbers
numbers_back signed n ns each =
    let words = number_words signed (n ∷ ns) each in
    let parts = cut signed_decimal (number_at signed) n ns words in
    record {
      formed = rw parts (all_some signed_decimal (number_at signed) (n ∷ ns) words);
      back = λ ordered. rw (parts, all_read signed_decimal (number_at signed) (n ∷ ns) words)
          (ordered_same int_lt (n ∷ ns) ordered);
      plain = list_plain signed_decimal (number_at signed) n ns words;
    }

-- weekdays behind their ordinals

abbrev is_short : DayItem → Bool
is_short item = has_form true item.nth

item_all_words : (items : List DayItem) → AreWeekdays items → list_all is_short items ≡ true
    → AreWords item_text item_at items
item_all_words [] days each = tt
item_all_words (item ∷ items) days each =
    let both = and_parts (is_short item) (list_all is_short items) each in
    let day = days 0 item (omega arith) in
    let few = few_digits true item.nth both.0 in (
      record { words = item_words item day few; back = item_back item day few },
      item_all_words items
          (λ k d lt. days (suc k) d (omega arith)) both.1,
    )

items_back : (item : DayItem) (items : List DayItem) → AreWeekdays (item ∷ items)
    → list_all is_short (item ∷ items) ≡ true
    → IsListBack is_before item_text are_items items_in (item ∷ items)
unfolding items_in written_items
items_back item items days each =
    let words = item_all_words (item ∷ items) days each in
    let parts = cut item_text item_at item items words in
    record {
      formed = rw parts (all_some item_text item_at (item ∷ items) words);
      back = λ ordered. rw (parts, all_read item_text item_at (item ∷ items) words)
          (ordered_same is_before (item ∷ items) ordered);
      plain = list_plain item_text item_at item items words;
    }

pub values_back : UntilsAreOfYears → ValuesAreBack
values_back of_years = record {
  frequency = freq_back;
  weekday = weekday_back;
  number = λ signed n within. word_back signed_decimal (number_at signed) n
      (number_word signed n within);
  numbers = numbers_back;
  items = items_back;
  until = until_back of_years;
}

-- what is read is in order

int_follows : (a b c : ℤ) → int_lt a b ≡ true → int_lt b c ≡ true → int_lt a c ≡ true
int_follows a b c e f = grind (arith, ints)

item_follows : (a b c : DayItem) → is_before a b ≡ true → is_before b c ≡ true → is_before a c
    ≡ true
unfolding is_before
item_follows a b c e f = grind (arith, nat_tests, ints)

pub numbers_ordered : NumbersAreOrdered
unfolding numbers_in
numbers_ordered signed value = all_ordered int_lt int_follows [] (written_numbers signed value) refl

pub items_ordered : ItemsAreOrdered
unfolding items_in
items_ordered value = all_ordered is_before item_follows [] (written_items value) refl

-- weekdays that are read are weekdays

abbrev in_week : ℕ → Bool
in_week d = nat_le 1 d && nat_le d 7

abbrev is_in_week : DayItem → Bool
is_in_week item = in_week item.day

abbrev PassesIf : {X : Type 0} → (X → Bool) → Option X → Type 0
PassesIf p None = Unit {0}
PassesIf p (Some x) = p x ≡ true

choose : (b : Bool) (n : ℕ) (rest : Option ℕ) → in_week n ≡ true → PassesIf in_week rest
    → PassesIf in_week (if b then Some n else rest)
choose true n rest own others = own
choose false n rest own others = others

day_in_week : (name : List ℕ) → PassesIf in_week (day_named name)
unfolding day_named
day_in_week name =
    choose (bytes_eq name (codes "MO")) 1 _ refl
    (choose (bytes_eq name (codes "TU")) 2 _ refl
    (choose (bytes_eq name (codes "WE")) 3 _ refl
    (choose (bytes_eq name (codes "TH")) 4 _ refl
    (choose (bytes_eq name (codes "FR")) 5 _ refl
    (choose (bytes_eq name (codes "SA")) 6 _ refl
    (choose (bytes_eq name (codes "SU")) 7 None refl tt))))))

item_in_week : (bytes : List ℕ) → PassesIf is_in_week (item_at bytes)
unfolding item_at
item_in_week bytes = by_length (nat_le 2 (length bytes))
    (ordinal_at (take (length bytes - 2) bytes)) (day_named (drop (length bytes - 2) bytes))
    (day_in_week (drop (length bytes - 2) bytes))
  where
    by_length : (b : Bool) (nth : Option ℤ) (day : Option ℕ) → PassesIf in_week day
        → PassesIf is_in_week (if b then item_with nth day else None)
    by_length true None day h = tt
    by_length true (Some nth) None h = tt
    by_length true (Some nth) (Some day) h = h
    by_length false nth day h = tt

found_pass : {X : Type 0} (p : X → Bool) (read : List ℕ → Option X)
    → ((text : List ℕ) → PassesIf p (read text)) → (texts : List (List ℕ))
    → list_all p (filter_map read texts) ≡ true
found_pass p read each [] = refl
found_pass {X} p read each (text ∷ texts) = by_found (read text) (filter_map read texts) (each text)
    (found_pass p read each texts)
  where
    by_found : (found : Option X) (xs : List X) → PassesIf p found → list_all p xs ≡ true
        → list_all p (cons_option found xs) ≡ true
    by_found None xs h others = others
    by_found (Some x) xs h others = and_from (p x) (list_all p xs) h others

week_range : (d : ℕ) → in_week d ≡ true → IsInRange 1 7 d
week_range d e = (grind (arith, nat_tests), grind (arith, nat_tests))

items_in_week : (value : List ℕ) → list_all is_in_week (items_in value) ≡ true
unfolding items_in written_items
items_in_week value = all_pass is_before is_in_week [] (written_items value) refl
    (found_pass is_in_week item_at item_in_week (split_at 44 value))

pub items_weekdays : ItemsAreWeekdays
items_weekdays value =
    λ k d lt. week_range _ (AllPass-from_list_all is_in_week (items_in value) (items_in_week value)
    k d lt)

pub names_weekdays : NamesAreWeekdays
names_weekdays name day found = week_range day (rw found at (day_in_week name))
