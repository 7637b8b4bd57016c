-- The tables of listed weekdays.
use Rattle.std.proofs.Common.{◌≡◌, ℕ, zero, suc, ◌+◌, ◌-◌, ◌*◌, ◌<◌, ◌^◌, ℤ, pos, negsuc, Bool, true, false, not, ◌&&◌, ◌||◌, ◌==◌, nat_lt, List, [], ◌∷◌, length, take, get_or, refl, sym, ap, subst, ◌∙◌, arith}
use Rattle.std.specs.Prelude.{neg_ℤ, slice_index_or, All, ◌<ℤ◌}
use Rattle.std.specs.Int.{IsInRange}
use Rattle.std.specs.List.{list_all, list_any}
use Rattle.std.specs.Ordering.{int_eq}
use Rattle.std.proofs.lemmas.Bool.{and_right}
use Rattle.std.proofs.lemmas.Bool.Decides.{nat_tests}
use Rattle.std.proofs.lemmas.Int.{ints}
use Rattle.std.proofs.lemmas.List.Elements.{All-more, All-head}
use Rattle.std.proofs.lemmas.List.Folds.{list_any_more}
use Rattle.rule_core.specs.IcalChecks.{has_ordinal}
use Rattle.rule_core.specs.Values.{is_given}
use Rattle.rule_core.specs.declared.lists.DayItem.{DayItem}
use Rattle.sieve_core.specs.Bits.{has_bit, is_zero}
use Rattle.sieve_tables.specs.Lowered.{IsDayEntry, IsDayTableOf, IsNthTableOf, has_nth, has_place, is_by_itself}
use Rattle.sieve_tables.proofs.Filled.{and_any, any_same_all, zero_bits}
use Rattle.sieve_tables.proofs.WeekdayLemmas.{zero_words}

not_or : (a b : Bool) → (not a && not b) ≡ not (a || b)
not_or true b = refl
not_or false b = refl

-- the weekdays by themselves that were listed so far
pub record IsDayMask (mask : ℕ) (items : List DayItem) : Type 0 where
  pub bits : (w : ℕ) → w < 64 → has_bit (mask ∷ []) w
      ≡ list_any (λ (item : DayItem). (w == item.day) && not (has_ordinal item)) items
  pub below : mask < 2 ^ 8
  pub none : (mask == 0) ≡ not (list_any is_by_itself items)
  pub weekdays : All (λ (item : DayItem). IsInRange 1 7 item.day) items

-- one item more
more_any : (p : DayItem → Bool) (items : List DayItem) (n : ℕ) (x : DayItem) → n < length items → x
    ≡ get_or items n x → list_any p (take (n + 1) items) ≡ (list_any p (take n items) || p x)
more_any p items n x lt here = list_any_more p items n x lt
    ∙ ap (λ y. list_any p (take n items) || p y) (sym here)

pub no_days : IsDayMask 0 []
no_days = record {
  bits = λ w small. zero_bits (0 ∷ []) w refl;
  below = omega arith;
  none = refl;
  weekdays =
      λ k d lt. absurd (omega (arith, lt));
}

pub day_mask_more : (mask more n : ℕ) (items : List DayItem) (x : DayItem) → n < length items → x
    ≡ get_or items n x → IsDayMask mask (take n items)
    → ((w : ℕ) → w < 64 → has_bit (more ∷ []) w
    ≡ (has_bit (mask ∷ []) w || ((w == x.day) && not (has_ordinal x))))
    → more < 2 ^ 8 → (more == 0) ≡ ((mask == 0) && not (is_by_itself x)) → IsInRange 1 7 x.day
    → IsDayMask more (take (n + 1) items)
day_mask_more mask more n items x lt here is bits below none weekday =
    let plain = λ (w : ℕ) (item : DayItem). (w == item.day) && not (has_ordinal item) in
    record {
      bits = λ w small. bits w small ∙ ap (λ b. b || plain w x) (is.bits w small)
          ∙ sym (more_any (plain w) items n x lt here);
      below = below;
      none = none ∙ ap (λ b. b && not (is_by_itself x)) is.none
          ∙ not_or (list_any is_by_itself (take n items)) (is_by_itself x)
          ∙ ap not (sym (more_any is_by_itself items n x lt here));
      weekdays = All-more (λ (item : DayItem). IsInRange 1 7 item.day) items n x lt is.weekdays
          (subst (λ (item : DayItem). IsInRange 1 7 item.day) here weekday);
    }

-- no ordinals
pub no_nth : (w : ℕ) → IsNthTableOf (0 ∷ 0 ∷ []) w []
no_nth w = record { two = refl; bits = λ j. zero_bits (0 ∷ 0 ∷ []) j refl; none = refl }

-- what a table of ordinals looks up
ordinal_front : (w v : ℕ) (item : DayItem) → 0 < v → IsDayEntry item
    → (nat_lt v 64 && (has_nth w item && has_place 64 v item.nth))
    ≡ ((w == item.day) && int_eq item.nth (pos v))
ordinal_front w v item some entry = by_nth (w == item.day) item.nth entry
  where
    by_nth : (b : Bool) (x : ℤ) → (neg_ℤ (pos 64) <ℤ x) × (x <ℤ pos 64)
        → (nat_lt v 64 && ((b && not (int_eq x (pos 0))) && has_place 64 v x))
        ≡ (b && int_eq x (pos v))
    by_nth true (pos n) entry = grind (arith, ints, nat_tests, entry.1)
    by_nth true (negsuc n) entry = grind (arith, ints, nat_tests)
    by_nth false x entry = and_right (nat_lt v 64) false refl

ordinal_back : (w v : ℕ) (item : DayItem) → 0 < v → IsDayEntry item
    → (nat_lt v 64 && (has_nth w item && has_place 64 (64 + v) item.nth))
    ≡ ((w == item.day) && int_eq item.nth (neg_ℤ (pos v)))
ordinal_back w v item some entry = by_nth (w == item.day) item.nth entry
  where
    by_nth : (b : Bool) (x : ℤ) → (neg_ℤ (pos 64) <ℤ x) × (x <ℤ pos 64)
        → (nat_lt v 64 && ((b && not (int_eq x (pos 0))) && has_place 64 (64 + v) x))
        ≡ (b && int_eq x (neg_ℤ (pos v)))
    by_nth true (pos n) entry = grind (arith, ints, nat_tests, entry.1)
    by_nth true (negsuc n) entry = grind (arith, ints, nat_tests, entry.0)
    by_nth false x entry = and_right (nat_lt v 64) false refl

-- what holds of seven tables, one for each weekday
pub each_day : (P : ℕ → List ℕ → Type 0) (a b c d e f g : List ℕ) → P 1 a → P 2 b → P 3 c → P 4 d
    → P 5 e → P 6 f → P 7 g
    → (w : ℕ) → IsInRange 1 7 w → P w (slice_index_or (a ∷ b ∷ c ∷ d ∷ e ∷ f ∷ g ∷ []) (w - 1) [])
each_day P a b c d e f g pa pb pc pd pe pf pg zero within = absurd (omega (arith, within.0))
each_day P a b c d e f g pa pb pc pd pe pf pg (suc zero) within = pa
each_day P a b c d e f g pa pb pc pd pe pf pg (suc (suc zero)) within = pb
each_day P a b c d e f g pa pb pc pd pe pf pg (suc (suc (suc zero))) within = pc
each_day P a b c d e f g pa pb pc pd pe pf pg (suc (suc (suc (suc zero)))) within = pd
each_day P a b c d e f g pa pb pc pd pe pf pg (suc (suc (suc (suc (suc zero))))) within = pe
each_day P a b c d e f g pa pb pc pd pe pf pg (suc (suc (suc (suc (suc (suc zero)))))) within = pf
each_day P a b c d e f g pa pb pc pd pe pf pg (suc (suc (suc (suc (suc (suc (suc zero)))))))
    within = pg
each_day P a b c d e f g pa pb pc pd pe pf pg (suc (suc (suc (suc (suc (suc (suc (suc n))))))))
    within = absurd (omega (arith, within.1))

-- seven tables that are all zero
pub seven_zero : (a b c d e f g : List ℕ)
    → ((w : ℕ) → IsInRange 1 7 w → is_zero (slice_index_or (a ∷ b ∷ c ∷ d ∷ e ∷ f ∷ g ∷ []) (w - 1)
    []) ≡ true) → list_all is_zero (a ∷ b ∷ c ∷ d ∷ e ∷ f ∷ g ∷ []) ≡ true
seven_zero a b c d e f g each =
    let p1 : is_zero a ≡ true = each 1 (omega arith, omega arith) in
    let p2 : is_zero b ≡ true = each 2 (omega arith, omega arith) in
    let p3 : is_zero c ≡ true = each 3 (omega arith, omega arith) in
    let p4 : is_zero d ≡ true = each 4 (omega arith, omega arith) in
    let p5 : is_zero e ≡ true = each 5 (omega arith, omega arith) in
    let p6 : is_zero f ≡ true = each 6 (omega arith, omega arith) in
    let p7 : is_zero g ≡ true = each 7 (omega arith, omega arith) in
    rw (p1, p2, p3, p4, p5, p6, p7) refl

module _ (week_days : ℕ) (nth : List (List ℕ)) (items : List DayItem) (tables : (w : ℕ)
    → IsInRange 1 7 w → IsNthTableOf (slice_index_or nth (w - 1) []) w items)
    (all_zero : ((w : ℕ) → IsInRange 1 7 w → is_zero (slice_index_or nth (w - 1) []) ≡ true)
    → list_all is_zero nth ≡ true) where
  -- a given weekday sets a bit of the mask, or of its own table
  some_bit : (item : DayItem) (rest : List DayItem) → items ≡ item ∷ rest → IsInRange 1 7 item.day
      → (week_days == 0) ≡ not (list_any is_by_itself items)
      → ((week_days == 0) && list_all is_zero nth) ≡ false
  some_bit item rest given weekday plain = by_ordinal (has_ordinal item) refl
    where
      same_day : (item.day == item.day) ≡ true
      same_day = grind (arith, nat_tests)

      of_table : (b : Bool) → list_all is_zero nth ≡ b → has_ordinal item ≡ true
          → ((week_days == 0) && b) ≡ false
      of_table false e ordinal = and_right (week_days == 0) false refl
      of_table true e ordinal =
          let empty = zero_words nth (item.day - 1) e in
          let filled : is_zero (slice_index_or nth (item.day - 1) []) ≡ false =
          (tables item.day weekday).none ∙ rw (given, same_day, ordinal) refl in
          let clash : true ≡ false = sym empty ∙ filled in
          absurd cc

      by_ordinal : (b : Bool) → has_ordinal item ≡ b → ((week_days == 0) && list_all is_zero nth)
          ≡ false
      by_ordinal true e = of_table (list_all is_zero nth) refl e
      by_ordinal false e = let set : (week_days == 0) ≡ false = plain ∙ rw (given, e) refl in
          rw set refl

  none_given : (xs : List DayItem) → items ≡ xs → All (λ (item : DayItem). IsInRange 1 7 item.day)
      xs → (week_days == 0) ≡ not (list_any is_by_itself items)
      → ((week_days == 0) && list_all is_zero nth) ≡ not (is_given xs)
  none_given [] e weekdays plain =
      let mask : (week_days == 0) ≡ true = plain ∙ rw e refl in
      rw (mask, all_zero (λ w within. (tables w within).none ∙ rw e refl)) refl
  none_given (item ∷ rest) e weekdays plain =
      some_bit item rest e (All-head (λ (item : DayItem). IsInRange 1 7 item.day) item rest
      weekdays) plain

  pub weekdays_are : All IsDayEntry items → All (λ (item : DayItem). IsInRange 1 7 item.day) items
      → ((w : ℕ) → w < 64 → has_bit (week_days ∷ []) w
      ≡ list_any (λ (item : DayItem). (w == item.day) && not (has_ordinal item)) items)
      → (week_days == 0) ≡ not (list_any is_by_itself items) → IsDayTableOf week_days nth items
  weekdays_are entries weekdays bits none = record {
    plain = λ w within. bits w (omega (arith, within.1));
    tables = λ w within. ap (λ (n : ℕ). 32 * n) (tables w within).two;
    front = λ w v within some. rw ((tables w within).bits v)
        (and_any (nat_lt v 64) (λ (item : DayItem). has_nth w item && has_place 64 v item.nth) items
        ∙ any_same_all IsDayEntry _ _ (λ x. ordinal_front w v x some) items entries);
    back = λ w v within some. rw ((tables w within).bits (64 + v))
        (and_any (nat_lt v 64) (λ (item : DayItem). has_nth w item && has_place 64 (64 + v)
        item.nth) items ∙ any_same_all IsDayEntry _ _ (λ x. ordinal_back w v x some) items entries);
    none = none_given items refl weekdays none;
  }
