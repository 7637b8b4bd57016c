-- The member with COUNT's number is the last one that COUNT lets in.
use Rattle.std.proofs.Common.{inl, inr, ◌≡◌, ◌⊎◌, ℕ, zero, suc, ◌+◌, ◌<◌, ◌≤◌, ℤ, pos, ◌+ℤ◌, ◌-ℤ◌, ◌≤ℤ◌, ◌<ℤ◌, Bool, true, false, ◌&&◌, Option, Some, None, refl, sym, ap, subst, ◌∙◌, arith}
use Rattle.std.specs.Prelude.{int_le, unsigned_abs, if◌then◌else◌}
use Rattle.std.specs.Ordering.{int_eq}
use Rattle.std.proofs.lemmas.Bool.{and_parts, cases_lt}
use Rattle.std.proofs.lemmas.Int.{ints}
use Rattle.moment_core.specs.Line.{IsCalendarMoment}
use Rattle.moment_core.specs.Ranks.{count_below, count_to}
use Rattle.moment_core.specs.Sets.{seen}
use Rattle.moment_core.specs.declared.line.Dir.TheVariants.{Fore}
use Rattle.moment_core.specs.declared.line.TheConstants.{HIGH, REACH}
use Rattle.moment_core.proofs.FloorLemmas.{floor_arith}
use Rattle.rule_core.specs.IcalMembers.{has_ical, has_uncounted, is_within_count}
use Rattle.rule_core.specs.declared.ical.IcalRule.{IcalRule}
use Rattle.ical_rules.specs.Starts.{IsLastMoment}
use Rattle.ical_rules.specs.declared.outcome.Settled.{Settled}
use Rattle.ical_rules.specs.declared.outcome.Settled.TheVariants.{Last}
use Rattle.moment_core.specs.declared.line.Moment.{Moment}
use Rattle.moment_core.proofs.Comparing.{int_eq-is}
use Rattle.ical_rules.specs.Rules.{IsSettled, first_of, is_member_number, is_up_to, last_by, last_counted, start_of}
use Rattle.ical_rules.proofs.Counting.{within-count}
use Rattle.moment_core.proofs.Options.{no_head}

-- the first of n moments that passes a test is one of them
head_some : (b : Bool) (t u : ℤ) (rest : Option ℤ) → (if b then Some t else rest) ≡ Some u
    → ((b ≡ true) × (u ≡ t)) ⊎ (rest ≡ Some u)
head_some true t u rest e = inl (refl, cc)
head_some false t u rest e = inr e

first_some : (test : ℤ → Bool) (t : ℤ) (n : ℕ) (u : ℤ) → first_of test t n ≡ Some u → (k : ℕ)
    × (k < n) × (u ≡ t +ℤ pos k) × (test u ≡ true)
unfolding first_of
first_some test t zero u e = absurd cc
first_some test t (suc n) u e = elim (head_some (test t) t u (first_of test (t +ℤ pos 1) n) e) [
  | inl here ↦ (0, omega arith, omega (arith, ints, here.1), ap test here.1 ∙ here.0)
  | inr later ↦ (let (k, below, place, met) = first_some test (t +ℤ pos 1) n u later in
      (suc k, omega arith, omega (arith, ints, place), met))
]

first_none : (test : ℤ → Bool) (t : ℤ) (n k : ℕ) → first_of test t n ≡ None → k < n
    → test (t +ℤ pos k) ≡ false
unfolding first_of
first_none test t zero k e below = absurd (omega (arith, below))
first_none test t (suc n) zero e below =
    let here : t +ℤ pos 0 ≡ t = omega (arith, ints) in
    ap test here ∙ (no_head (test t) t (first_of test (t +ℤ pos 1) n) e).0
first_none test t (suc n) (suc k) e below =
    let there : t +ℤ pos (suc k) ≡ (t +ℤ pos 1) +ℤ pos k = omega (arith, ints) in
    ap test there ∙ first_none test (t +ℤ pos 1) n k
    (no_head (test t) t (first_of test (t +ℤ pos 1) n) e).1 (omega arith)

-- t is the member with COUNT's number
pub record IsLastCounted (r : IcalRule) (count t : ℤ) : Type 0 where
  pub later : start_of r ≤ℤ t
  pub working : t ≤ℤ (HIGH +ℤ REACH)
  pub member : has_uncounted r t ≡ true
  pub number : pos (count_to (has_uncounted r) (start_of r) t) ≡ count

pub last_counted_is : (r : IcalRule) (count t : ℤ) → IsCalendarMoment (start_of r)
    → last_by r (Some count) ≡ Some t → IsLastCounted r count t
last_counted_is r count t here e =
    let n = unsigned_abs (HIGH +ℤ REACH +ℤ pos 1 -ℤ start_of r) in
    let (k, below, place, met) = first_some (is_member_number r count) (start_of r) n t e in
    let both = and_parts (has_uncounted r t)
    (int_eq (pos (count_to (has_uncounted r) (start_of r) t)) count) met in
    record {
      later = omega (arith, ints, place);
      working = omega (arith, floor_arith, below, place, here.1);
      member = both.0;
      number = int_eq-is _ count both.1;
    }

-- a count that is reached was reached at a member
one_more : (b : Bool) (n c : ℕ) → n < c → c ≤ n + (if b then 1 else 0) → (b ≡ true)
    × (n + (if b then 1 else 0) ≡ c)
one_more true n c less most = (refl, omega arith)
one_more false n c less most = absurd (omega (arith, most))

reached : (f : ℕ → Bool) (n c : ℕ) → 1 ≤ c → c ≤ count_below f n → (k : ℕ) × (k < n) × (f k ≡ true)
    × (count_below f (suc k) ≡ c)
unfolding count_below
reached f zero c some most = absurd (omega arith)
reached f (suc n) c some most = elim (cases_lt (count_below f n) c) [
  | inl less ↦ (let (here, number) = one_more (f n) (count_below f n) c less most in
      (n, omega arith, here, number))
  | inr before ↦ (let (k, below, here, number) = reached f n c some before in
      (k, omega arith, here, number))
]

starts_later : (r : IcalRule) (t : ℤ) → has_uncounted r t ≡ true → start_of r ≤ℤ t
unfolding has_uncounted
starts_later r t e =
    let first = (and_parts _ _ (and_parts _ _ (and_parts _ _ (and_parts _ _ e).0).0).0).0 in
    within (start_of r) t first
  where
    within : (start t : ℤ) → int_le start t ≡ true → start ≤ℤ t
    within start t e = grind (arith, ints)

-- where the working range holds no member with that number, COUNT lets in each member there
none_over : (r : IcalRule) (count t : ℤ) → pos 1 ≤ℤ count → t ≤ℤ (HIGH +ℤ REACH)
    → last_by r (Some count) ≡ None → has_uncounted r t ≡ true
    → int_le (pos (count_to (has_uncounted r) (start_of r) t)) count ≡ true
unfolding count_to
none_over r count t some working e member =
    let start = start_of r in
    let later = starts_later r t member in
    let f = seen (has_uncounted r) Fore start in
    let n = unsigned_abs (t +ℤ pos 1 -ℤ start) in
    elim (cases_lt (unsigned_abs count) (count_below f n)) [
      | inl over ↦ (let (k, below, here, number) = reached f n (unsigned_abs count)
          (omega (arith, ints)) (omega (arith, over)) in
          let inside : k < unsigned_abs (HIGH +ℤ REACH +ℤ pos 1 -ℤ start) =
          omega (arith, floor_arith, below, later, working) in
          let behind : unsigned_abs (start +ℤ pos k +ℤ pos 1 -ℤ start) ≡ suc k =
          omega (arith, floor_arith) in
          let no = first_none (is_member_number r count) start
          (unsigned_abs (HIGH +ℤ REACH +ℤ pos 1 -ℤ start)) k e inside in
          let yes : is_member_number r count (start +ℤ pos k) ≡ true =
          both (ap (λ m. int_eq (pos (count_below f m)) count) behind
          ∙ equal (count_below f (suc k)) number) here in
          let clash : true ≡ false = sym yes ∙ no in absurd cc)
      | inr most ↦ fits (count_below f n) most
    ]
  where
    both : {a b : Bool} → a ≡ true → b ≡ true → (b && a) ≡ true
    both p q = cc

    equal : (m : ℕ) → m ≡ unsigned_abs count → int_eq (pos m) count ≡ true
    equal m is = grind (arith, ints)

    fits : (m : ℕ) → m ≤ unsigned_abs count → int_le (pos m) count ≡ true
    fits m le = grind (arith, ints)

-- so COUNT lets in the members up to the last one
by_member : (b : Bool) (x y : Bool) → (b ≡ true → x ≡ y) → (b && x) ≡ (b && y)
by_member true x y same = same refl
by_member false x y same = refl

split_by : (r : IcalRule) (t : ℤ) (count last : Option ℤ) → IsCalendarMoment (start_of r)
    → ((n : ℤ) → count ≡ Some n → pos 1 ≤ℤ n) → t ≤ℤ (HIGH +ℤ REACH) → last_by r count ≡ last
    → (has_uncounted r t && is_within_count count (count_to (has_uncounted r) (start_of r) t))
    ≡ (has_uncounted r t && is_up_to last t)
split_by r t None None here some working e = refl
split_by r t None (Some last) here some working e = absurd cc
split_by r t (Some count) None here some working e =
    by_member _ _ _ (none_over r count t (some count refl) working e)
split_by r t (Some count) (Some last) here some working e =
    let is = last_counted_is r count last here e in
    let same = ap (λ n. int_le (pos (count_to (has_uncounted r) (start_of r) t)) n)
    (sym is.number) in
    by_member _ _ _ (λ member. same ∙ within-count (has_uncounted r) (start_of r) last t
    (count_to (has_uncounted r) (start_of r) last) is.later refl (starts_later r t member) member)

pub has_ical-split : (r : IcalRule) (t : ℤ) → IsCalendarMoment (start_of r)
    → ((n : ℤ) → r.count ≡ Some n → pos 1 ≤ℤ n) → t ≤ℤ (HIGH +ℤ REACH)
    → has_ical r t ≡ (has_uncounted r t && is_up_to (last_counted r) t)
unfolding has_ical last_counted
has_ical-split r t here some working = split_by r t r.count (last_by r r.count) here some working
    refl

-- past the last one there is none, on the whole line
past_count : (r : IcalRule) (count last t : ℤ) → IsLastCounted r count last → last <ℤ t
    → (has_uncounted r t && is_within_count (Some count) (count_to (has_uncounted r) (start_of r)
    t)) ≡ false
past_count r count last t is past =
    let over : int_le t last ≡ false = grind (arith, ints) in
    let same = ap (λ n. int_le (pos (count_to (has_uncounted r) (start_of r) t)) n)
    (sym is.number) in
    by_member (has_uncounted r t) _ false (λ member. same ∙ within-count (has_uncounted r)
    (start_of r) last t (count_to (has_uncounted r) (start_of r) last) is.later refl
    (starts_later r t member) member ∙ over)
    ∙ none (has_uncounted r t)
  where
    none : (b : Bool) → (b && false) ≡ false
    none true = refl
    none false = refl

pub none_past : (r : IcalRule) (count last t : ℤ) → r.count ≡ Some count → IsLastCounted r count
    last → last <ℤ t → has_ical r t ≡ false
unfolding has_ical
none_past r count last t is_count is past =
    ap (λ c. has_uncounted r t && is_within_count c (count_to (has_uncounted r) (start_of r) t))
    is_count ∙ past_count r count last t is past

-- what is settled lies in the working range
within_by : (r : IcalRule) (count : Option ℤ) (t : ℤ) → IsCalendarMoment (start_of r)
    → last_by r count ≡ Some t → IsLastMoment t
within_by r None t here e = absurd cc
within_by r (Some count) t here e =
    let is = last_counted_is r count t here e in
    (omega (arith, ints, is.later, here.0), omega (arith, ints, is.working))

pub settled_within : (r : IcalRule) (settled : Settled) (t : Moment) → IsCalendarMoment (start_of r)
    → IsSettled r settled → settled ≡ Last t → IsLastMoment t.0
unfolding last_counted
settled_within r settled t here e is =
    let P : Settled → Type 0 = λ x. IsSettled r x in
    within_by r r.count t.0 here (subst P is e)
