-- A lowered rule means what the rule means.
use Rattle.std.proofs.Common.{◌≡◌, Bool, true, false, ◌&&◌, ◌||◌, refl, sym, ap, ◌∙◌, ℤ, pos, ◌+ℤ◌, ◌-ℤ◌, ◌≤ℤ◌, Option, Some, arith}
use Rattle.std.specs.Prelude.{int_le}
use Rattle.std.proofs.Math.Path.{fun_ext}
use Rattle.std.proofs.lemmas.Int.{ints}
use Rattle.frame_core.specs.declared.frames.Frame.{Frame}
use Rattle.moment_core.specs.Line.{IsCalendarMoment, IsWorkingMoment}
use Rattle.moment_core.specs.Ranks.{count_to}
use Rattle.moment_core.specs.declared.line.Moment.{Moment}
use Rattle.moment_core.specs.declared.line.TheConstants.{LOW, HIGH, REACH}
use Rattle.rule_core.specs.FieldMembers.{is_working}
use Rattle.rule_core.specs.IcalMembers.{filled, has_ical, has_uncounted, is_by, is_within_count, meets_by_date, meets_by_day, meets_by_time, meets_parts, meets_set_pos}
use Rattle.rule_core.specs.declared.ical.IcalRule.{IcalRule}
use Rattle.sieve_core.specs.Members.{has, is_between, is_candidate, is_mark, is_midnight, meets_rule, meets_tests}
use Rattle.sieve_core.specs.Sieves.{IsSieve}
use Rattle.sieve_core.specs.declared.tables.Sieve.{Sieve}
use Rattle.sieve_tables.specs.Lowered.{IsSieveOf, SievesHaveRules, SievesTestRules, has_until}
use Rattle.stored_pair.specs.Meanings.{Meaning}
use Rattle.stored_pair.specs.declared.guarded.Guarded.{Guarded}
use Rattle.ical_rules.specs.Leaves.{HasCounted, has_counted}
use Rattle.ical_rules.specs.Lowered.{meaning_of_leaf}
use Rattle.ical_rules.specs.Rules.{IsSettled, frame_of_ical, is_ical_candidate, is_up_to, last_counted, meaning_of_ical, start_of, with_count}
use Rattle.ical_rules.specs.Starts.{ends_by, last_in}
use Rattle.ical_rules.specs.declared.leaf.IcalLeaf.{IcalLeaf}
use Rattle.ical_rules.specs.declared.outcome.Settled.{Settled}
use Rattle.ical_rules.specs.declared.outcome.Settled.TheVariants.{Last, Open}
use Rattle.ical_rules.proofs.LastCounted.{has_ical-split}

-- another COUNT changes no test
parts-alike : (count : Option ℤ) (r : IcalRule) (t : ℤ) → meets_parts r t
    ≡ meets_parts (with_count count r) t
unfolding meets_parts filled meets_by_date meets_by_day meets_by_time
parts-alike count r t = refl

uncounted-alike : (count : Option ℤ) (r : IcalRule) (t : ℤ) → has_uncounted r t
    ≡ has_uncounted (with_count count r) t
unfolding has_uncounted meets_set_pos meets_parts filled meets_by_date meets_by_day meets_by_time
uncounted-alike count r t = refl

-- what is settled is the last member
last-alike : (r : IcalRule) (settled : Settled) (t : ℤ) → IsSettled r settled
    → is_by (last_in settled) t ≡ is_up_to (last_counted r) t
last-alike r (Last last) t e = rw e refl
last-alike r Open t e = rw e refl

regroup : (a e b l m : Bool) → e ≡ true → ((a && ((e && b) && l)) && m) ≡ (((a && m) && b) && l)
regroup a false b l m is = absurd cc
regroup false true b l m is = refl
regroup true true true l m is = swap l m
  where
    swap : (l m : Bool) → (l && m) ≡ ((m && true) && l)
    swap true true = refl
    swap true false = refl
    swap false true = refl
    swap false false = refl
regroup true true false l m is = none l m
  where
    none : (l m : Bool) → ((false && l) && m) ≡ ((m && false) && l)
    none l true = refl
    none l false = refl

-- where t isn't before DTSTART it isn't before the working range
rebound : (w e a b l : Bool) → (a ≡ true → w ≡ true) → (a && ((e && b) && l))
    ≡ ((((w && e) && a) && b) && l)
rebound w e false b l within = none (w && e) b l
  where
    none : (x b l : Bool) → false ≡ (((x && false) && b) && l)
    none true b l = refl
    none false b l = refl
rebound true true true b l within = refl
rebound true false true b l within = refl
rebound false e true b l within = absurd (let no : false ≡ true = within refl in cc)

start-within : (start t : ℤ) → IsCalendarMoment start → int_le start t ≡ true
    → int_le (LOW -ℤ REACH) t ≡ true
start-within start t here e = grind (arith, ints, here.0)

module _ (members : SievesHaveRules) (tests : SievesTestRules) (r : IcalRule) (count : Option ℤ)
    (settled : Settled) (s : Sieve)
    (is : IsSieveOf r s) (here : IsCalendarMoment (start_of r)) (some : (n : ℤ) → count ≡ Some n
    → pos 1 ≤ℤ n)
    (last : IsSettled (with_count count r) settled) (ends : (t : ℤ) → int_le t s.last.0
    ≡ ends_by r.until (last_in settled) t) where
  abbrev rule : IcalRule
  rule = with_count count r

  until-same : (t : ℤ) → has_until s r.until t ≡ has_uncounted rule t
  until-same t = members r s is t ∙ uncounted-alike count r t

  -- the members, on the whole line
  counted-same : (t : ℤ) → has_counted s r.until count t ≡ has_ical rule t
  unfolding has_counted has_ical
  counted-same t =
      let same : has_until s r.until ≡ has_uncounted rule = fun_ext until-same in
      ap (λ f. f t && is_within_count count (count_to f s.first.0 t)) same
      ∙ ap (λ start. has_uncounted rule t && is_within_count count
      (count_to (has_uncounted rule) start t)) is.begins

  -- and in the working range those of the sieve
  sieve-split : (t : ℤ) → IsWorkingMoment t → has s t
      ≡ (has_until s r.until t && is_up_to (last_counted rule) t)
  unfolding has is_between has_until
  sieve-split t working =
      let within : int_le t (HIGH +ℤ REACH) ≡ true = grind (arith, ints, working.1) in
      ap (λ b. (int_le s.first.0 t && b) && meets_rule s t) (ends t)
      ∙ regroup (int_le s.first.0 t) (int_le t (HIGH +ℤ REACH)) (is_by r.until t)
      (is_by (last_in settled) t) (meets_rule s t) within
      ∙ ap (λ b. ((int_le s.first.0 t && meets_rule s t) && is_by r.until t) && b)
      (last-alike rule settled t last)

  working-same : (t : ℤ) → IsWorkingMoment t → has s t ≡ has_counted s r.until count t
  working-same t working =
      sieve-split t working ∙ ap (λ b. b && is_up_to (last_counted rule) t) (until-same t)
      ∙ sym (has_ical-split rule t here some working.1) ∙ sym (counted-same t)

  pub leaf-counted : IsSieve s → HasCounted s r.until count
  leaf-counted sieve = record { sieve = sieve; working = working-same }

  candidates-same : (t : ℤ) → is_candidate s t ≡ is_ical_candidate rule t
  unfolding is_candidate is_between is_mark is_ical_candidate
  candidates-same t =
      let first : int_le s.first.0 t ≡ int_le (start_of r) t = ap (λ z. int_le z t) is.begins in
      let mark : (is_midnight t || meets_tests s t) ≡ (is_midnight t || meets_parts rule t) =
      ap (λ b. is_midnight t || b) (tests r s is t ∙ parts-alike count r t) in
      let bounds : (int_le s.first.0 t && int_le t s.last.0)
      ≡ (is_working t && int_le (start_of r) t && is_by r.until t && is_up_to (last_counted rule) t)
      = ap (λ b. b && int_le t s.last.0) first ∙ ap (λ b. int_le (start_of r) t && b) (ends t)
      ∙ ap (λ b. int_le (start_of r) t && (int_le t (HIGH +ℤ REACH) && is_by r.until t && b))
      (last-alike rule settled t last)
      ∙ rebound (int_le (LOW -ℤ REACH) t) (int_le t (HIGH +ℤ REACH)) (int_le (start_of r) t)
      (is_by r.until t) (is_up_to (last_counted rule) t) (start-within (start_of r) t here) in
      both bounds mark
    where
      both : {a b c d : Bool} → a ≡ b → c ≡ d → (a && c) ≡ (b && d)
      both x y = cc

  pub members-same : has_counted s r.until count ≡ has_ical rule
  members-same = fun_ext counted-same

  pub candidates-all_same : is_candidate s ≡ is_ical_candidate rule
  candidates-all_same = fun_ext candidates-same

abbrev meant : (ℤ → Bool) → (ℤ → Bool) → Option Frame → Meaning
meant f g o = record { member = f; candidate = g; frame = o }

-- a leaf with these parts means it
pub leaf-means : (r : IcalRule) (leaf : Guarded IcalLeaf) (s : Sieve) (until : Option Moment)
    (count : Option ℤ) (frame : Option Frame)
    → leaf.inner.sieve ≡ s → leaf.inner.until ≡ until → leaf.inner.count ≡ count → leaf.inner.frame
    ≡ frame
    → has_counted s until count ≡ has_ical r → is_candidate s ≡ is_ical_candidate r → frame
    ≡ frame_of_ical r → meaning_of_leaf leaf ≡ meaning_of_ical r
leaf-means r leaf s until count frame is_sieve is_until is_count is_frame members candidates
    framed =
    let inner = leaf.inner in
    ap (λ x. meant (has_counted x inner.until inner.count) (is_candidate x) inner.frame) is_sieve
    ∙ ap (λ x. meant (has_counted s x inner.count) (is_candidate s) inner.frame) is_until
    ∙ ap (λ x. meant (has_counted s until x) (is_candidate s) inner.frame) is_count
    ∙ ap (λ x. meant x (is_candidate s) inner.frame) members
    ∙ ap (λ x. meant (has_ical r) x inner.frame) candidates
    ∙ ap (meant (has_ical r) (is_ical_candidate r)) (is_frame ∙ framed)
