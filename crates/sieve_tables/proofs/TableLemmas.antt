-- What a table tests is what the list means.
use Rattle.std.proofs.Common.{◌≡◌, ℕ, ◌+◌, ◌<◌, ℤ, pos, negsuc, ◌+ℤ◌, Bool, true, false, not, ◌||◌, List, [], ◌∷◌, refl, ap, arith, sym}
use Rattle.std.specs.Prelude.{neg_ℤ, int_lt, All}
use Rattle.std.proofs.lemmas.List.Elements.{All-head, All-tail}
use Rattle.std.specs.Int.{IsInRange}
use Rattle.std.specs.List.{list_any}
use Rattle.std.specs.Ordering.{int_eq}
use Rattle.std.proofs.lemmas.Int.{ints}
use Rattle.moment_core.specs.Units.{from_end}
use Rattle.rule_core.specs.IcalMembers.{meets_part}
use Rattle.rule_core.specs.Values.{is_given, is_listed, meant}
use Rattle.sieve_core.specs.Bits.{is_in_signed, meets_signed}
use Rattle.sieve_tables.specs.Lowered.{IsTableOf, lists}
use Rattle.sieve_tables.specs.Masks.{IsPlain}
use Rattle.std.proofs.Math.Bool.{or-false}

not_below : (x : ℕ) → int_lt (pos x) (pos 0) ≡ false
not_below x = grind (arith, ints)

not_back : (x w : ℕ) → 0 < w → int_eq (pos x) (neg_ℤ (pos w)) ≡ false
not_back x w h = grind (arith, ints)

same_back : (n v x : ℕ) → IsInRange 1 n v → int_eq (negsuc x +ℤ pos (n + 1)) (pos v)
    ≡ int_eq (negsuc x) (neg_ℤ (pos (from_end n v)))
same_back n v x within = grind (arith, ints)

-- a value means v of 1 to n where it is v, or v counted from the end
meant_signed : (n v : ℕ) (x : ℤ) → IsInRange 1 n v → int_eq (meant (n + 1) x) (pos v)
    ≡ (int_eq x (pos v) || int_eq x (neg_ℤ (pos (from_end n v))))
meant_signed n v (pos x) within = rw (not_below x, not_back x (from_end n v) (omega arith))
    (sym (or-false (int_eq (pos x) (pos v))))
meant_signed n v (negsuc x) within = same_back n v x within

pub or_swap : (a b c d : Bool) → ((a || b) || (c || d)) ≡ ((a || c) || (b || d))
or_swap true b c d = refl
or_swap false true true d = refl
or_swap false true false d = refl
or_swap false false true d = refl
or_swap false false false d = refl

signed_listed : (n v : ℕ) (values : List ℤ) → IsInRange 1 n v → is_listed values (n + 1) v
    ≡ (lists values (pos v) || lists values (neg_ℤ (pos (from_end n v))))
unfolding is_listed
signed_listed n v [] within = refl
signed_listed n v (x ∷ values) within =
    rw (meant_signed n v x within, signed_listed n v values within)
    (or_swap (int_eq x (pos v)) (int_eq x (neg_ℤ (pos (from_end n v)))) (lists values (pos v))
    (lists values (neg_ℤ (pos (from_end n v)))))

-- a signed table of the values has v or -w as the list has
pub table_has : (words : List ℕ) (half v w : ℕ) (values : List ℤ) → IsTableOf words half values
    → is_in_signed words v w ≡ (lists values (pos v) || lists values (neg_ℤ (pos w)))
unfolding is_in_signed
table_has words half v w values table = rw (table.words_fit, table.front v, table.back w) refl

-- and tests v of 1 to n as the list does
pub table_same : (words : List ℕ) (half n v : ℕ) (values : List ℤ) → IsTableOf words half values
    → IsInRange 1 n v → meets_signed words n v ≡ meets_part values (n + 1) v
unfolding meets_signed meets_part
table_same words half n v values table within =
    rw (
      table.none,
      table_has words half v (from_end n v) values table,
      signed_listed n v values
          within,
    ) refl

meant_plain : (v : ℕ) (x : ℤ) → int_eq (meant 0 x) (pos v) ≡ int_eq x (pos v)
meant_plain v (pos x) = rw (not_below x) refl
meant_plain v (negsuc x) = grind (arith, ints)

plain_listed : (v : ℕ) (values : List ℤ) → is_listed values 0 v ≡ lists values (pos v)
unfolding is_listed
plain_listed v [] = refl
plain_listed v (x ∷ values) = rw (meant_plain v x, plain_listed v values) refl

-- what a part without negative values tests
pub plain_part : (v : ℕ) (values : List ℤ) → meets_part values 0 v
    ≡ (not (is_given values) || lists values (pos v))
unfolding meets_part
plain_part v values = ap (λ b. not (is_given values) || b) (plain_listed v values)

-- one list looked through for either of two numbers
pub either_listed : (values : List ℤ) (a b : ℤ) → list_any (λ n. int_eq n a || int_eq n b) values
    ≡ (lists values a || lists values b)
either_listed [] a b = refl
either_listed (x ∷ values) a b =
    rw (either_listed values a b) (or_swap (int_eq x a) (int_eq x b) (lists values a)
    (lists values b))

-- of numbers that aren't below 0 each means itself
plain_means : (len v : ℕ) (x : ℤ) → IsPlain len x → int_eq (meant len x) (pos v) ≡ int_eq x (pos v)
plain_means len v (pos x) plain = rw (not_below x) refl
plain_means len v (negsuc x) plain = absurd (omega (arith, ints, plain.0))

pub plain_lists : (len v : ℕ) (values : List ℤ) → All (IsPlain len) values → is_listed values len v
    ≡ lists values (pos v)
unfolding is_listed
plain_lists len v [] each = refl
plain_lists len v (x ∷ values) each =
    rw (
      plain_means len v x (All-head (IsPlain len) x values each),
      plain_lists len v values
          (All-tail (IsPlain len) x values each),
    ) refl
