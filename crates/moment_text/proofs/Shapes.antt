-- The literal that is read at the front of a text, and the forms by which the text begins.
use Rattle.std.proofs.Common.{◌≡◌, ℕ, ◌≤◌, Bool, true, false, List, [], ◌∷◌, ◌++◌, Some, None, IfSome, not, length, take, refl, sym, ap, ◌∙◌, inl, inr, arith, length-append}
use Rattle.std.specs.Prelude.{codes, ◌==◌}
use Rattle.std.specs.Char.{is_ascii_digit}
use Rattle.std.specs.Int.{IsInRange}
use Rattle.std.proofs.lemmas.Bool.{and_parts, cases_Bool, false_from_ne_true, both_ways, false≢true, eqb-true}
use Rattle.std.proofs.lemmas.Bool.Decides.{nat_tests}
use Rattle.moment_text.specs.declared.parts.Date.{Date}
use Rattle.moment_text.specs.declared.parts.Time.{Time}
use Rattle.moment_text.specs.declared.parts.Literal.{Literal}
use Rattle.moment_core.specs.Texts.{zone_text}
use Rattle.moment_text.specs.Literal.{has_form, form_of, is_shaped, shaped_front}
use Rattle.moment_text.specs.Parts.{Front, text_of, two_at, behind, past, date_at, time_at, unsigned_at, literal_at}
use Rattle.std.proofs.Math.Seq.{take-append_seam}
use Rattle.moment_core.proofs.Truths.{same_or_not}
use Rattle.moment_text.proofs.Digits.{digit}
use Rattle.moment_text.proofs.Options.{passes, passes-then, IfSome-after, IfSome-at}
use Rattle.moment_text.proofs.Fronts.{begins, begins_by, begins-append, length_of, has_front, shape_of, has_shape, last_passing-is, last_passing-within, last_passing-passes, last_passing-last}
use Rattle.moment_text.specs.Laws.{IsLongestFront, begins_with_zone}

-- a form of two digits, a sign, a date or a time, and then another form
begins-two : (form bytes : List ℕ) → begins (48 ∷ 48 ∷ form) bytes ≡ passes (λ x. begins form x.1)
    (two_at bytes)
begins-two form [] = refl
begins-two form (a ∷ []) = grind arith
begins-two form (a ∷ b ∷ rest) = grind (arith, nat_tests)

begins-behind : (sign : ℕ) (form bytes : List ℕ) → (sign == 48) ≡ false → begins (sign ∷ form) bytes
    ≡ passes (begins form) (behind sign bytes)
begins-behind sign form [] other = refl
begins-behind sign form (b ∷ rest) other = rw other (grind (arith, nat_tests))

begins-date : (form bytes : List ℕ) → begins (codes "0000-00-00" ++ form) bytes
    ≡ passes (λ x. begins form x.1) (date_at bytes)
unfolding date_at
begins-date form bytes =
    begins-two (codes "00-00-00" ++ form) bytes ∙ passes-then _ _ (two_at bytes) _ (λ high.
    begins-two (codes "-00-00" ++ form) high.1 ∙ passes-then _ _ (two_at high.1) _ (λ low.
    begins-behind 45 (codes "00-00" ++ form) low.1 refl ∙ passes-then _ _ (behind 45 low.1) _
    (λ months.
    begins-two (codes "-00" ++ form) months ∙ passes-then _ _ (two_at months) _ (λ month.
    begins-behind 45 (codes "00" ++ form) month.1 refl ∙ passes-then _ _ (behind 45 month.1) _
    (λ days.
    begins-two form days ∙ passes-then _ _ (two_at days) _ (λ day. refl))))))

begins-time : (form bytes : List ℕ) → begins (codes "00:00:00" ++ form) bytes
    ≡ passes (λ x. begins form x.1) (time_at bytes)
unfolding time_at
begins-time form bytes =
    begins-two (codes ":00:00" ++ form) bytes ∙ passes-then _ _ (two_at bytes) _ (λ hour.
    begins-behind 58 (codes "00:00" ++ form) hour.1 refl ∙ passes-then _ _ (behind 58 hour.1) _
    (λ minutes.
    begins-two (codes ":00" ++ form) minutes ∙ passes-then _ _ (two_at minutes) _ (λ minute.
    begins-behind 58 (codes "00" ++ form) minute.1 refl ∙ passes-then _ _ (behind 58 minute.1) _
    (λ seconds.
    begins-two form seconds ∙ passes-then _ _ (two_at seconds) _ (λ second. refl)))))

-- a Z where one is wanted
abbrev wanted : Bool → Bool → Bool
wanted true has = has
wanted false has = true

-- the forms with a Z and without
begins-zone : (absolute : Bool) (bytes : List ℕ) → begins (zone_text absolute) bytes
    ≡ wanted absolute (past 90 bytes).0
begins-zone false bytes = refl
begins-zone true [] = refl
begins-zone true (b ∷ rest) = elim (cases_Bool (b == 90)) [
  | inl holds ↦ rw holds refl
  | inr fails ↦
      rw fails refl
]

begins-unsigned : (minus absolute : Bool) (bytes : List ℕ) → begins (form_of false absolute) bytes
    ≡ passes (λ x. wanted absolute x.0.absolute) (unsigned_at minus bytes)
unfolding unsigned_at
begins-unsigned minus absolute bytes =
    begins-date (codes "T00:00:00" ++ zone_text absolute) bytes ∙ passes-then _ _ (date_at bytes) _
    (λ date.
    begins-behind 84 (codes "00:00:00" ++ zone_text absolute) date.1 refl
    ∙ passes-then _ _ (behind 84 date.1) _ (λ times.
    begins-time (zone_text absolute) times ∙ passes-then _ _ (time_at times) _ (λ time.
    begins-zone absolute time.1)))

-- what is read without a sign has the sign that was read before
signs : (minus : Bool) (bytes : List ℕ) → IfSome (unsigned_at minus bytes) (λ x. x.0.minus ≡ minus)
unfolding unsigned_at
signs minus bytes =
    IfSome-after _ (date_at bytes) _ (λ date. IfSome-after _ (behind 84 date.1) _
    (λ times. IfSome-after _ (time_at times) _ (λ time. refl)))

-- The bytes begin by the forms that the literal at their front has, and by no others.
pub record Fronts (bytes : List ℕ) (found : Front Literal) : Type 0 where
  pub minus : Bool
  pub sign : IfSome found (λ x. x.0.minus ≡ minus)
  pub of_sign : (absolute : Bool) → begins (form_of minus absolute) bytes
      ≡ passes (λ x. wanted absolute x.0.absolute) found
  pub others : (absolute : Bool) → begins (form_of (not minus) absolute) bytes ≡ false

is_unsigned : (b : ℕ) (rest : List ℕ) → (b == 45) ≡ false
    → Fronts (b ∷ rest) (unsigned_at false (b ∷ rest))
is_unsigned b rest other = record {
  minus = false;
  sign = signs false (b ∷ rest);
  of_sign = λ absolute. begins-unsigned false absolute (b ∷ rest);
  others = λ absolute. rw other refl;
}

is_signed : (rest : List ℕ) → Fronts (45 ∷ rest) (unsigned_at true rest)
is_signed rest = record {
  minus = true;
  sign = signs true rest;
  of_sign = λ absolute. begins-unsigned true absolute rest;
  others = λ absolute. refl;
}

no_front : Fronts [] (unsigned_at false [])
unfolding unsigned_at date_at
no_front = record {
  minus = false;
  sign = tt;
  of_sign =
      λ absolute. refl;
  others = λ absolute. refl;
}

pub fronts : (bytes : List ℕ) → Fronts bytes (literal_at bytes)
unfolding literal_at
fronts [] = no_front
fronts (b ∷ rest) =
    elim (cases_Bool (b == 45)) [
      | inl holds ↦ (let is : b ≡ 45 = eqb-true b 45 holds in rw is (is_signed rest))
      | inr fails ↦ (let h = is_unsigned b rest fails in rw fails h)
    ]

-- a literal is as long as its form
widths : (minus absolute : Bool) (date : Date) (time : Time)
    → length (text_of (record { minus = minus; date = date; time = time; absolute = absolute }))
    ≡ length (form_of minus absolute)
widths true true date time = refl
widths true false date time = refl
widths false true date time = refl
widths false false date time = refl

pub length-text_of : (l : Literal) → length (text_of l) ≡ length (form_of l.minus l.absolute)
length-text_of l = widths l.minus l.absolute l.date l.time

widths_within : (minus absolute : Bool) → IsInRange 19 21 (length (form_of minus absolute))
widths_within true true = (omega arith, omega arith)
widths_within true false = (omega arith, omega arith)
widths_within false true = (omega arith, omega arith)
widths_within false false = (omega arith, omega arith)

pub width_of : (l : Literal) → IsInRange 19 21 (length (text_of l))
width_of l = rw (length-text_of l) (widths_within l.minus l.absolute)

wanted_own : (absolute : Bool) → wanted absolute absolute ≡ true
wanted_own true = refl
wanted_own false = refl

no_longer : (signed absolute also : Bool) → wanted absolute also ≡ true
    → length (form_of signed absolute) ≤ length (form_of signed also)
no_longer true true true h = omega arith
no_longer false true true h = omega arith
no_longer signed true false h = absurd (false≢true h)
no_longer true false true h = omega arith
no_longer true false false h = omega arith
no_longer false false true h = omega arith
no_longer false false false h = omega arith

-- a form that the bytes begin by is no longer than the literal's
form_within : (bytes : List ℕ) (l : Literal) (rest : List ℕ) → literal_at bytes ≡ Some (l, rest)
    → (signed absolute : Bool) → begins (form_of signed absolute) bytes ≡ true
    → length (form_of signed absolute) ≤ length (form_of l.minus l.absolute)
form_within bytes l rest is signed absolute h =
    let f = fronts bytes in
    let minus : l.minus ≡ f.minus = IfSome-at _ (literal_at bytes) (l, rest) is f.sign in
    elim (same_or_not signed f.minus) [
      | inl same ↦ (
          let read : begins (form_of f.minus absolute) bytes ≡ wanted absolute l.absolute =
          f.of_sign absolute ∙ ap (passes (λ x. wanted absolute x.0.absolute)) is in
          rw (same, minus) (no_longer f.minus absolute l.absolute (sym read ∙ rw same at h)))
      | inr other ↦ absurd (both_ways _ (f.others absolute) (rw other at h))
    ]

form_own : (bytes : List ℕ) (l : Literal) (rest : List ℕ) → literal_at bytes ≡ Some (l, rest)
    → begins (form_of l.minus l.absolute) bytes ≡ true
form_own bytes l rest is =
    let f = fronts bytes in
    let minus : l.minus ≡ f.minus = IfSome-at _ (literal_at bytes) (l, rest) is f.sign in
    rw minus (f.of_sign l.absolute ∙ ap (passes (λ x. wanted l.absolute x.0.absolute)) is
    ∙ wanted_own l.absolute)

pub front_found : (bytes : List ℕ) (l : Literal) (rest : List ℕ) → literal_at bytes ≡ Some (l, rest)
    → shaped_front bytes ≡ length (text_of l)
unfolding shaped_front
front_found bytes l rest is =
    let form = form_of l.minus l.absolute in
    let front = has_front form bytes (form_own bytes l rest is) in
    last_passing-is (λ n. is_shaped (take n bytes)) (length bytes) (length form) front.1
    (λ _. has_shape l.minus l.absolute (take (length form) bytes) front.0)
    (λ j above within. false_from_ne_true (is_shaped (take j bytes)) (λ shaped.
    let other = shape_of (take j bytes) shaped in
    let by = begins_by (form_of other.0 other.1) bytes j within other.2 in
    let short = form_within bytes l rest is other.0 other.1 by.1 in
    omega arith))
    ∙ sym (length-text_of l)

pub none_found : (bytes : List ℕ) → literal_at bytes ≡ None → shaped_front bytes ≡ 0
unfolding shaped_front
none_found bytes is =
    let f = fronts bytes in
    last_passing-is (λ n. is_shaped (take n bytes)) (length bytes) 0 (omega arith)
    (λ some. absurd (omega arith))
    (λ j above within. false_from_ne_true (is_shaped (take j bytes)) (λ shaped.
    let other = shape_of (take j bytes) shaped in
    let by = begins_by (form_of other.0 other.1) bytes j within other.2 in
    elim (same_or_not other.0 f.minus) [
      | inl same ↦ both_ways _ (f.of_sign other.1 ∙ ap (passes (λ x. wanted other.1 x.0.absolute))
          is) (rw same at by.1)
      | inr different ↦ both_ways _ (f.others other.1) (rw different at by.1)
    ]))

form_of_text : (minus absolute : Bool) (date : Date) (time : Time)
    → has_form (form_of minus absolute)
    (text_of (record { minus = minus; date = date; time = time; absolute = absolute })) ≡ true
unfolding has_form
form_of_text true true date time = simp digit
form_of_text true false date time = simp digit
form_of_text false true date time = simp digit
form_of_text false false date time = simp digit

-- every literal is shaped
pub shaped_text : (l : Literal) → is_shaped (text_of l) ≡ true
shaped_text l = has_shape l.minus l.absolute (text_of l)
    (form_of_text l.minus l.absolute l.date l.time)

-- the laws of fronts

pub longest_front : (bytes : List ℕ) → IsLongestFront bytes (shaped_front bytes)
unfolding shaped_front
longest_front bytes =
    let shaped = λ (n : ℕ). is_shaped (take n bytes) in
    record {
      within = last_passing-within shaped (length bytes);
      shaped = last_passing-passes shaped (length bytes);
      longest = λ k. last_passing-last shaped (length bytes) k;
    }

-- one form without a Z goes on behind a text only by a Z
goes_on : (form text rest : List ℕ) → has_form form text ≡ true → begins_with_zone rest ≡ false
    → begins (form ++ codes "Z") (text ++ rest) ≡ false
goes_on form text [] h stop = begins-append form (codes "Z") text [] h
goes_on form text (b ∷ rest) h stop = begins-append form (codes "Z") text (b ∷ rest) h
    ∙ rw stop refl

-- a text that begins by a digit's form doesn't begin by a sign's
apart : (text more rest : List ℕ) (form : List ℕ) → has_form (48 ∷ form) text ≡ true
    → begins (45 ∷ more) (text ++ rest) ≡ false
unfolding has_form
apart [] more rest form h = absurd (false≢true h)
apart (b ∷ text) more rest form h =
    let is_digit = (and_parts (is_ascii_digit b) (has_form form text) h).0 in
    grind (arith, nat_tests)

apart_signed : (text more rest form : List ℕ) → has_form (45 ∷ form) text ≡ true
    → begins (48 ∷ more) (text ++ rest) ≡ false
unfolding has_form
apart_signed [] more rest form h = absurd (false≢true h)
apart_signed (b ∷ text) more rest form h =
    let is : b ≡ 45 = eqb-true b 45 (and_parts (b == 45) (has_form form text) h).0 in
    rw is refl

-- behind a text of one form, a longer form would need a Z
no_longer_form : (signed absolute also other : Bool) (text rest : List ℕ)
    → has_form (form_of signed absolute) text ≡ true → begins_with_zone rest ≡ false
    → begins (form_of other also) (text ++ rest) ≡ true → length (form_of other also) ≤ length
    (form_of signed absolute)
no_longer_form true true true true text rest h stop by = omega arith
no_longer_form true true false true text rest h stop by = omega arith
no_longer_form true false true true text rest h stop by =
    absurd (both_ways _ (goes_on (form_of true false) text rest h stop) by)
no_longer_form true false false true text rest h stop by = omega arith
no_longer_form true absolute also false text rest h stop by =
    absurd (both_ways _ (apart_signed text (codes "000-00-00T00:00:00" ++ zone_text also) rest
    (codes "0000-00-00T00:00:00" ++ zone_text absolute) h) by)
no_longer_form false true true false text rest h stop by = omega arith
no_longer_form false true false false text rest h stop by = omega arith
no_longer_form false false true false text rest h stop by =
    absurd (both_ways _ (goes_on (form_of false false) text rest h stop) by)
no_longer_form false false false false text rest h stop by = omega arith
no_longer_form false absolute also true text rest h stop by =
    absurd (both_ways _ (apart text (codes "0000-00-00T00:00:00" ++ zone_text also) rest
    (codes "000-00-00T00:00:00" ++ zone_text absolute) h) by)

pub shapes_end : (text rest : List ℕ) → is_shaped text ≡ true → begins_with_zone rest ≡ false
    → shaped_front (text ++ rest) ≡ length text
unfolding shaped_front
shapes_end text rest h stop =
    let own = shape_of text h in
    let all = text ++ rest in
    let long = length-append text rest in
    last_passing-is (λ n. is_shaped (take n all)) (length all) (length text) (omega arith)
    (λ _. rw take-append_seam h)
    (λ j above within. false_from_ne_true (is_shaped (take j all)) (λ shaped.
    let other = shape_of (take j all) shaped in
    let by = begins_by (form_of other.0 other.1) all j within other.2 in
    let short = no_longer_form own.0 own.1 other.1 other.0 text rest own.2 stop by.1 in
    let same = length_of (form_of own.0 own.1) text own.2 in
    omega arith))
