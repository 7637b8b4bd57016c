-- What the tables of weekdays test is what the items say.
use Rattle.std.proofs.Common.{◌≡◌, ℕ, zero, suc, ◌+◌, ◌-◌, ◌*◌, nat_lt, length, ℤ, pos, Bool, true, false, not, ◌&&◌, ◌||◌, ◌==◌, List, [], ◌∷◌, refl, sym, ap, ◌∙◌, arith}
use Rattle.std.specs.Prelude.{neg_ℤ, slice_index_or}
use Rattle.std.specs.Int.{IsInRange}
use Rattle.std.proofs.lemmas.Bool.{and_parts, and_right}
use Rattle.std.specs.List.{list_all, list_any}
use Rattle.std.specs.Ordering.{int_eq}
use Rattle.moment_core.specs.Calendar.{weekday_of, day_of_month}
use Rattle.moment_core.specs.Units.{from_end, nth_of, month_len_of, year_len_of, day_of_year, is_nth as is_nth_item}
use Rattle.moment_core.proofs.FloorLemmas.{floor_arith}
use Rattle.moment_core.proofs.Lists.{any_same}
use Rattle.rule_core.specs.declared.lists.DayItem.{DayItem}
use Rattle.rule_core.specs.IcalChecks.{has_ordinal}
use Rattle.rule_core.specs.IcalMembers.{is_day_item}
use Rattle.rule_core.specs.Values.{is_given}
use Rattle.sieve_core.specs.Bits.{has_bit, is_in_signed, is_zero}
use Rattle.sieve_core.specs.Days.{is_nth, is_nth_weekday, meets_weekdays}
use Rattle.sieve_tables.specs.Lowered.{IsDayTableOf}
use Rattle.sieve_tables.proofs.Filled.{zero_bits}
use Rattle.sieve_tables.proofs.TableLemmas.{or_swap}
use Rattle.std.proofs.Math.Bool.{or_assoc}

any_or : {X : Type 0} (p q : X → Bool) (xs : List X) → list_any (λ x. p x || q x) xs
    ≡ (list_any p xs || list_any q xs)
any_or p q [] = refl
any_or p q (x ∷ xs) = rw (any_or p q xs) (or_swap (p x) (q x) (list_any p xs) (list_any q xs))

spread : (a n x y : Bool) → (a && (n || (x || y))) ≡ ((a && n) || ((a && x) || (a && y)))
spread true n x y = refl
spread false n x y = refl

-- an item of weekday w, for the day that is v of len
abbrev is_item : ℕ → ℕ → ℕ → DayItem → Bool
is_item w len v item = (w == item.day) && (not (has_ordinal item) || is_nth_item item.nth len v)

module _ (week_days : ℕ) (nth : List (List ℕ)) (items : List DayItem)
    (table : IsDayTableOf week_days nth items) where
  abbrev words : ℕ → List ℕ
  words w = slice_index_or nth (w - 1) []

  items_same : (w len v : ℕ) → IsInRange 1 7 w → IsInRange 1 len v
      → (has_bit (week_days ∷ []) w || is_nth (words w) len v) ≡ list_any (is_item w len v) items
  unfolding is_in_signed
  items_same w len v within place =
      let a = nth_of v in
      let b = nth_of (from_end len v) in
      let plain : DayItem → Bool = λ item. (w == item.day) && not (has_ordinal item) in
      let front : DayItem → Bool = λ item. (w == item.day) && int_eq item.nth (pos a) in
      let back : DayItem → Bool = λ item. (w == item.day) && int_eq item.nth (neg_ℤ (pos b)) in
      let parts = any_same (is_item w len v) (λ item. plain item || (front item || back item))
      (λ item. spread (w == item.day) (not (has_ordinal item)) (int_eq item.nth (pos a))
      (int_eq item.nth (neg_ℤ (pos b)))) items in
      let apart = any_or plain (λ item. front item || back item) items in
      let apart_too = any_or front back items in
      rw (
        table.plain w within,
        table.tables w within,
        table.front w a within (omega arith),
        table.back w b within (omega arith),
      )
      (sym (parts ∙ apart ∙ ap (λ x. list_any plain items || x) apart_too))

  pub by_day_same : (in_month : Bool) (day : ℤ) → IsInRange 1 (month_len_of day) (day_of_month day)
      → IsInRange 1 (year_len_of day) (day_of_year day)
      → meets_weekdays week_days nth in_month day
      ≡ (not (is_given items) || list_any (is_day_item in_month day) items)
  unfolding meets_weekdays is_nth_weekday is_day_item weekday_of
  by_day_same true day month year =
      rw table.none (or_assoc (not (is_given items)) _ _ ∙ ap (λ x. not (is_given items) || x)
      (items_same (weekday_of day) (month_len_of day) (day_of_month day)
      (omega (arith, floor_arith), omega (arith, floor_arith)) month))
  by_day_same false day month year =
      rw table.none (or_assoc (not (is_given items)) _ _ ∙ ap (λ x. not (is_given items) || x)
      (items_same (weekday_of day) (year_len_of day) (day_of_year day)
      (omega (arith, floor_arith), omega (arith, floor_arith)) year))

pub zero_words : (nth : List (List ℕ)) (k : ℕ) → list_all is_zero nth ≡ true
    → is_zero (slice_index_or nth k []) ≡ true
zero_words [] k each = refl
zero_words (words ∷ nth) zero each = (and_parts (is_zero words) (list_all is_zero nth) each).0
zero_words (words ∷ nth) (suc k) each =
    zero_words nth k (and_parts (is_zero words) (list_all is_zero nth) each).1

none_signed : (words : List ℕ) (v w : ℕ) → is_zero words ≡ true → is_in_signed words v w ≡ false
unfolding is_in_signed
none_signed words v w empty =
    rw (
      zero_bits words v empty,
      zero_bits words (32 * length words + w) empty,
      and_right
          (nat_lt v (32 * length words)) false refl,
      and_right (nat_lt w (32 * length words)) false refl,
    )
    refl

alone_of : (a b x n : Bool) → b ≡ true → n ≡ false → (((a && b) || x) || n) ≡ (a || x)
alone_of true true x false p q = refl
alone_of false true true false p q = refl
alone_of false true false false p q = refl
alone_of a false x n p q = absurd cc
alone_of a b x true p q = absurd cc

-- tables without ordinals test the weekday by itself
pub alone_same : (week_days : ℕ) (nth : List (List ℕ)) (in_month : Bool) (day : ℤ)
    → list_all is_zero nth ≡ true
    → meets_weekdays week_days nth in_month day
    ≡ ((week_days == 0) || has_bit (week_days ∷ []) (weekday_of day))
unfolding meets_weekdays is_nth_weekday
alone_same week_days nth true day empty =
    alone_of (week_days == 0) (list_all is_zero nth) (has_bit (week_days ∷ []) (weekday_of day)) _
    empty
    (none_signed _ (nth_of (day_of_month day))
    (nth_of (from_end (month_len_of day) (day_of_month day)))
    (zero_words nth (weekday_of day - 1) empty))
alone_same week_days nth false day empty =
    alone_of (week_days == 0) (list_all is_zero nth) (has_bit (week_days ∷ []) (weekday_of day)) _
    empty
    (none_signed _ (nth_of (day_of_year day))
    (nth_of (from_end (year_len_of day) (day_of_year day)))
    (zero_words nth (weekday_of day - 1) empty))
