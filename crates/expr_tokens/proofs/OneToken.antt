-- How the bytes of each kind of token are read, whatever may stand behind them.
use Rattle.std.proofs.Common.{◌≡◌, ℕ, suc, ◌≤◌, ◌<◌, pos, Bool, true, false, cond, ◌&&◌, ◌⊎◌, inl, inr, List, [], ◌∷◌, ◌++◌, length, take, drop, Option, Some, refl, sym, ap, subst, ◌∙◌, append_assoc, arith}
use Rattle.std.specs.Prelude.{nat_le, ◌==◌, codes}
use Rattle.std.proofs.Math.Seq.{take-append_seam, drop-append_seam}
use Rattle.std.proofs.lemmas.List.{take-append-drop}
use Rattle.std.specs.List.{list_all}
use Rattle.std.proofs.lemmas.Bool.{le-leb, leb-true, and_parts, and_from, or_cases, cases_Bool, cases_lt, eqb-true, false_from_ne_true, or_left, or_right, false≢true, both_ways}
use Rattle.std.proofs.lemmas.Bool.Decides.{nat_tests}
use Rattle.moment_text.specs.Laws.{FrontsAreLongest, ShapedTextsHaveForms, ShapesEnd, begins_with_zone}
use Rattle.moment_core.specs.Texts.{with_sign, zone_text}
use Rattle.moment_text.specs.Literal.{fits, has_form, form_of, is_shaped, shaped_front}
use Rattle.expr_tokens.specs.declared.class.Class.TheVariants as classes
use Rattle.expr_tokens.specs.Plain.{Token}
use Rattle.expr_tokens.specs.Plain as tokens
use Rattle.expr_tokens.specs.Class.{holds, front_of, behind, passes_first}
use Rattle.expr_tokens.specs.Names.{word_of}
use Rattle.expr_tokens.specs.Reading.{begins_digit, begins_number, digits_of, value_from, named, number_at, name_at, quote_at, text_at, sign_of, signed_at, figures_at, string_limit, token_at}
use Rattle.expr_tokens.specs.Stamps.{stamp_of}
use Rattle.expr_tokens.specs.Laws.{goes_on}
use Rattle.expr_tokens.specs.Longest.{AreDigits}
use Rattle.expr_tokens.proofs.Runs.{run_and_rest}
use Rattle.expr_tokens.proofs.Stamps.{moment_there}
use Rattle.std.proofs.lemmas.Option.{none-some}

-- The bytes are read as this token where the rest stands behind them.
pub record Reads (bytes : List ℕ) (t : Token) (rest : List ℕ) : Type 0 where
  pub first : ℕ
  pub others : List ℕ
  pub splits : bytes ≡ first ∷ others
  pub no_blank : holds classes.Blank first ≡ false
  pub read : token_at first (others ++ rest) ≡ Some (t, rest)

-- classes apart

within : (d : ℕ) → holds classes.Digit d ≡ true → (48 ≤ d) × (d ≤ 57)
within d h = let parts = and_parts (nat_le 48 d) (nat_le d 57) h in
    (leb-true 48 d parts.0, leb-true d 57 parts.1)

pub record DigitByte (d : ℕ) : Type 0 where
  pub letter : holds classes.Letter d ≡ false
  pub blank : holds classes.Blank d ≡ false
  pub quote : (d == 34) ≡ false
  pub minus : (d == 45) ≡ false

pub digit_byte : (d : ℕ) → holds classes.Digit d ≡ true → DigitByte d
digit_byte d h = let p = within d h in record {
  letter = grind (arith, nat_tests);
  blank =
      grind (arith, nat_tests);
  quote = grind (arith, nat_tests);
  minus = grind (arith, nat_tests);
}

pub record LetterByte (b : ℕ) : Type 0 where
  pub digit : holds classes.Digit b ≡ false
  pub blank : holds classes.Blank b ≡ false
  pub name : holds classes.Name b ≡ true
  pub minus : (b == 45) ≡ false

pub letter_byte : (b : ℕ) → holds classes.Letter b ≡ true → LetterByte b
letter_byte b h =
    let parts = and_parts (nat_le 97 b) (nat_le b 122) h in
    let low : 97 ≤ b = leb-true 97 b parts.0 in
    let high : b ≤ 122 = leb-true b 122 parts.1 in
    record {
      digit = grind (arith, nat_tests);
      blank = grind (arith, nat_tests);
      name = rw h refl;
      minus = grind (arith, nat_tests);
    }

pub record SignByte (b : ℕ) : Type 0 where
  pub letter : holds classes.Letter b ≡ false
  pub blank : holds classes.Blank b ≡ false
  pub quote : (b == 34) ≡ false
  pub digit : holds classes.Digit b ≡ false

-- signs

one_sign : (k b : ℕ) (u t : Token) (others : Option Token) → SignByte k
    → (others ≡ Some t → SignByte b) → cond (b == k) (Some u) others ≡ Some t → SignByte b
one_sign k b u t others here more e = elim (cases_Bool (b == k))
    [ inl h ↦ subst SignByte (sym (eqb-true b k h)) here | inr h ↦ more (rw h at e) ]

pub sign_byte : (b : ℕ) (t : Token) → sign_of b ≡ Some t → SignByte b
unfolding sign_of
sign_byte b t e =
    one_sign 40 b _ t _ (record { letter = refl; blank = refl; quote = refl; digit = refl }) (λ e.
    one_sign 41 b _ t _ (record { letter = refl; blank = refl; quote = refl; digit = refl }) (λ e.
    one_sign 123 b _ t _ (record { letter = refl; blank = refl; quote = refl; digit = refl }) (λ e.
    one_sign 125 b _ t _ (record { letter = refl; blank = refl; quote = refl; digit = refl }) (λ e.
    one_sign 44 b _ t _ (record { letter = refl; blank = refl; quote = refl; digit = refl }) (λ e.
    one_sign 59 b _ t _ (record { letter = refl; blank = refl; quote = refl; digit = refl }) (λ e.
    one_sign 61 b _ t _ (record { letter = refl; blank = refl; quote = refl; digit = refl }) (λ e.
    one_sign 124 b _ t _ (record { letter = refl; blank = refl; quote = refl; digit = refl }) (λ e.
    one_sign 38 b _ t _ (record { letter = refl; blank = refl; quote = refl; digit = refl }) (λ e.
    one_sign 45 b _ t _ (record { letter = refl; blank = refl; quote = refl; digit = refl }) (λ e.
    one_sign 33 b _ t _ (record { letter = refl; blank = refl; quote = refl; digit = refl })
    (λ e. absurd (none-some t e))
    e) e) e) e) e) e) e) e) e) e) e

-- a sign that begins no number
pub sign_read : (b : ℕ) (t : Token) (rest : List ℕ) → sign_of b ≡ Some t
    → (b == 45 && begins_digit rest) ≡ false → Reads (b ∷ []) t rest
unfolding token_at
sign_read b t rest is stop =
    let byte = sign_byte b t is in
    record {
      first = b;
      others = [];
      splits = refl;
      no_blank = byte.blank;
      read =
          rw (byte.letter, byte.quote, byte.digit, stop, is) refl;
    }

-- names

name_there : (name rest : List ℕ) → list_all (holds classes.Name) name ≡ true
    → passes_first (holds classes.Name) rest ≡ false → name_at (name ++ rest)
    ≡ Some (named name (word_of name), rest)
unfolding name_at
name_there name rest each stop = let run = run_and_rest (holds classes.Name) name rest each stop in
    rw (run.0, run.1) refl

pub name_read : (b : ℕ) (more rest : List ℕ) → holds classes.Letter b ≡ true
    → list_all (holds classes.Name) more ≡ true → passes_first (holds classes.Name) rest ≡ false
    → Reads (b ∷ more) (named (b ∷ more) (word_of (b ∷ more))) rest
unfolding token_at
name_read b more rest letter each stop =
    let byte = letter_byte b letter in
    let there = name_there (b ∷ more) rest (and_from _ _ byte.name each) stop in
    record {
      first = b;
      others = more;
      splits = refl;
      no_blank = byte.blank;
      read =
          rw letter there;
    }

-- strings

pub text_read : (quoted rest : List ℕ) → list_all (holds classes.Quoted) quoted ≡ true
    → length quoted ≤ string_limit → Reads (34 ∷ quoted ++ 34 ∷ []) (tokens.Text quoted) rest
unfolding token_at text_at quote_at
text_read quoted rest each short =
    let run = run_and_rest (holds classes.Quoted) quoted (34 ∷ rest) each refl in
    let fits : nat_le (length quoted) string_limit ≡ true = le-leb (length quoted) string_limit
    short in
    let read : text_at (quoted ++ 34 ∷ rest) ≡ Some (tokens.Text quoted, rest) =
    rw (run.0, run.1, fits) refl in
    record {
      first = 34;
      others = quoted ++ 34 ∷ [];
      splits = refl;
      no_blank = refl;
      read =
          rw append_assoc read;
    }

-- numbers

number_there : (minus : Bool) (digits rest : List ℕ) → AreDigits digits → begins_digit rest ≡ false
    → number_at minus (digits ++ rest)
    ≡ Some (tokens.Number (with_sign minus (value_from 0 digits)), rest)
unfolding number_at
number_there minus digits rest are stop =
    let run = run_and_rest (holds classes.Digit) digits rest are.each stop in
    let fits : nat_le (length digits) 13 ≡ true = le-leb (length digits) 13 are.most in
    rw (run.0, run.1, fits) refl

-- a digit, or a minus and a digit
pub figures_first : (b : ℕ) (bytes : List ℕ) → begins_number b bytes ≡ true
    → (token_at b bytes ≡ figures_at (b ∷ bytes)) × (holds classes.Blank b ≡ false)
unfolding token_at
figures_first b bytes begins =
    elim (or_cases (holds classes.Digit b) (b == 45 && begins_digit bytes) begins) [
      | inl digit ↦ let byte = digit_byte b digit in
          (rw (byte.letter, byte.quote, digit) refl, byte.blank)
      | inr minus ↦
          let parts = and_parts (b == 45) (begins_digit bytes) minus in
          let P : ℕ → Type 0 =
          λ k. (token_at k bytes ≡ figures_at (k ∷ bytes)) × (holds classes.Blank k ≡ false) in
          subst P (sym (eqb-true b 45 parts.0)) (rw parts.1 refl, refl)
    ]

-- so many digits stand there, and a minus behind them
pub record Dashed (n : ℕ) (bytes : List ℕ) : Type 0 where
  pub run : length (digits_of bytes) ≡ n
  pub dash : passes_first (λ b. b == 45) (behind (holds classes.Digit) bytes) ≡ true

no_digit : (b : ℕ) → (b == 45) ≡ true → holds classes.Digit b ≡ false
no_digit b h = rw (eqb-true b 45 h) refl

dash : (form front others : List ℕ) → has_form (45 ∷ form) front ≡ true → Dashed 0 (front ++ others)
unfolding has_form front_of behind
dash form [] others h = absurd (false≢true h)
dash form (b ∷ front) others h =
    let minus : (b == 45) ≡ true = (and_parts (fits 45 b) (has_form form front) h).0 in
    record { run = rw (no_digit b minus) refl; dash = rw (no_digit b minus) minus }

one_digit : (form front others : List ℕ) (n : ℕ) → ((tail : List ℕ) → has_form form tail ≡ true
    → Dashed n (tail ++ others)) → has_form (48 ∷ form) front ≡ true
    → Dashed (suc n) (front ++ others)
unfolding has_form front_of behind
one_digit form [] others n more h = absurd (false≢true h)
one_digit form (b ∷ front) others n more h =
    let parts = and_parts (fits 48 b) (has_form form front) h in
    let digit : holds classes.Digit b ≡ true = parts.0 in
    let tail = more front parts.1 in
    record { run = rw digit (ap suc tail.run); dash = rw digit tail.dash }

abbrev behind_year : Bool → List ℕ
behind_year absolute = codes "00-00T00:00:00" ++ zone_text absolute

year_dashed : (absolute : Bool) (front others : List ℕ) → has_form (form_of false absolute) front
    ≡ true → Dashed 4 (front ++ others)
year_dashed absolute front others h =
    let form = behind_year absolute in
    one_digit (48 ∷ 48 ∷ 48 ∷ 45 ∷ form) front others 3 (λ tail.
    one_digit (48 ∷ 48 ∷ 45 ∷ form) tail others 2 (λ tail.
    one_digit (48 ∷ 45 ∷ form) tail others 1 (λ tail.
    one_digit (45 ∷ form) tail others 0 (λ tail. dash form tail others)))) h

-- how the bytes begin of which a front is shaped as a literal
abbrev pub BeginsYear : List ℕ → List ℕ → Type 0
BeginsYear front others = Dashed 4 (front ++ others) ⊎ ((tail : List ℕ) × (front ≡ 45 ∷ tail)
    × Dashed 4 (tail ++ others))

signed_year : (absolute : Bool) (front others : List ℕ) → has_form (form_of true absolute) front
    ≡ true → BeginsYear front others
unfolding has_form
signed_year absolute [] others h = absurd (false≢true h)
signed_year absolute (b ∷ front) others h =
    let parts = and_parts (fits 45 b) (has_form (form_of false absolute) front) h in
    inr (
      front,
      ap (λ (x : ℕ). x ∷ front) (eqb-true b 45 parts.0),
      year_dashed absolute front others
          parts.1,
    )

either_year : (minus absolute : Bool) (front others : List ℕ) → has_form (form_of minus absolute)
    front ≡ true → BeginsYear front others
either_year false absolute front others h = inl (year_dashed absolute front others h)
either_year true absolute front others h = signed_year absolute front others h

stops : (rest : List ℕ) → goes_on rest ≡ false → (begins_digit rest ≡ false)
    × (passes_first (λ b. b == 45) rest ≡ false)
stops [] h = (refl, refl)
stops (b ∷ rest) h = (
  false_from_ne_true _ (λ e. both_ways _ h (rw e refl)),
  false_from_ne_true _
      (λ e. both_ways _ h (or_right _ _ e)),
)

not_dashed : (n : ℕ) (digits rest : List ℕ) → list_all (holds classes.Digit) digits ≡ true
    → goes_on rest ≡ false → Dashed n (digits ++ rest) → ⊥
not_dashed n digits rest each stop dashed =
    let stop = stops rest stop in
    let run = run_and_rest (holds classes.Digit) digits rest each stop.0 in
    both_ways (passes_first (λ b. b == 45) rest) stop.1 (rw run.1 at dashed.dash)

minus_not_digit : (digits tail rest others : List ℕ) → list_all (holds classes.Digit) digits ≡ true
    → 0 < length digits → digits ++ rest ≡ 45 ∷ tail ++ others → ⊥
minus_not_digit [] tail rest others each some e = absurd (omega arith)
minus_not_digit (d ∷ digits) tail rest others each some e =
    let digit = digit_byte d
    (and_parts (holds classes.Digit d) (list_all (holds classes.Digit) digits) each).0 in
    let is : d ≡ 45 = cc in
    both_ways (d == 45) digit.minus (rw is refl)

no_run_at_minus : (n : ℕ) (bytes : List ℕ) → Dashed (suc n) (45 ∷ bytes) → ⊥
unfolding front_of
no_run_at_minus n bytes dashed = let e : 0 ≡ suc n = dashed.run in absurd (omega (arith, e))

pub figures_number : (bytes : List ℕ) → shaped_front bytes ≡ 0 → figures_at bytes ≡ signed_at bytes
unfolding figures_at
figures_number bytes none = rw none refl

pub digits_begin : (digits rest : List ℕ) → list_all (holds classes.Digit) digits ≡ true
    → 0 < length digits → begins_digit (digits ++ rest) ≡ true
digits_begin [] rest each some = absurd (omega arith)
digits_begin (d ∷ digits) rest each some =
    (and_parts (holds classes.Digit d) (list_all (holds classes.Digit) digits) each).0

dashed_begins : (n : ℕ) (bytes : List ℕ) → Dashed (suc n) bytes → begins_digit bytes ≡ true
unfolding front_of
dashed_begins n [] dashed = let e : 0 ≡ suc n = dashed.run in absurd (omega (arith, e))
dashed_begins n (b ∷ bytes) dashed = elim (cases_Bool (holds classes.Digit b)) [
  | inl digit ↦ digit
  | inr other ↦ let e : 0 ≡ suc n = rw other at dashed.run in absurd (omega (arith, e))
]

not_shaped : is_shaped [] ≡ true → ⊥
unfolding is_shaped has_form
not_shaped h = absurd (false≢true h)

module _ (forms : ShapedTextsHaveForms) (fronts : FrontsAreLongest) (shapes_end : ShapesEnd) where
  pub begins_year : (front others : List ℕ) → is_shaped front ≡ true → BeginsYear front others
  begins_year front others h = let shape = forms front h in either_year shape.0 shape.1 front others
      shape.2

  no_literal : (bytes : List ℕ) → ((front others : List ℕ) → bytes ≡ front ++ others
      → is_shaped front ≡ true → ⊥) → shaped_front bytes ≡ 0
  no_literal bytes none = elim (cases_lt 0 (shaped_front bytes)) [
    | inl some ↦ absurd (none (take (shaped_front bytes) bytes) (drop (shaped_front bytes) bytes)
        (sym (take-append-drop (shaped_front bytes) bytes)) ((fronts bytes).shaped some))
    | inr le ↦ omega (arith, le)
  ]

  number_no_literal : (digits rest : List ℕ) → AreDigits digits → goes_on rest ≡ false
      → (front others : List ℕ) → digits ++ rest ≡ front ++ others → is_shaped front ≡ true → ⊥
  number_no_literal digits rest are stop front others e shaped =
      elim (begins_year front others shaped) [
        | inl dashed ↦ not_dashed 4 digits rest are.each stop (rw e dashed)
        | inr w ↦ minus_not_digit digits w.0 rest others are.each are.some
            (e ∙ ap (λ (x : List ℕ). x ++ others) w.1)
      ]

  negative_no_literal : (digits rest : List ℕ) → AreDigits digits → goes_on rest ≡ false
      → (front others : List ℕ) → 45 ∷ digits ++ rest ≡ front ++ others → is_shaped front ≡ true → ⊥
  negative_no_literal digits rest are stop front others e shaped =
      elim (begins_year front others shaped) [
        | inl dashed ↦ no_run_at_minus 3 (digits ++ rest) (rw e dashed)
        | inr w ↦
            let all : 45 ∷ digits ++ rest ≡ 45 ∷ w.0 ++ others = e
            ∙ ap (λ (x : List ℕ). x ++ others)
            w.1 in
            let tail : digits ++ rest ≡ w.0 ++ others = ap (drop 1) all in
            not_dashed 4 digits rest are.each stop (rw tail w.2)
      ]

  pub number_read : (digits rest : List ℕ) → AreDigits digits → goes_on rest ≡ false
      → Reads digits (tokens.Number (pos (value_from 0 digits))) rest
  number_read [] rest are stop = absurd (omega (arith, are.some))
  number_read (d ∷ digits) rest are stop =
      let digit = (and_parts (holds classes.Digit d) (list_all (holds classes.Digit) digits)
      are.each).0 in
      let byte = digit_byte d digit in
      let first = figures_first d (digits ++ rest) (or_left _ _ digit) in
      let none = no_literal (d ∷ digits ++ rest) (number_no_literal (d ∷ digits) rest are stop) in
      let signed : signed_at (d ∷ digits ++ rest) ≡ number_at false (d ∷ digits ++ rest) =
      rw byte.minus refl in
      record {
        first = d;
        others = digits;
        splits = refl;
        no_blank = first.1;
        read = first.0 ∙ figures_number (d ∷ digits ++ rest) none ∙ signed
            ∙ number_there false (d ∷ digits) rest are (stops rest stop).0;
      }

  pub negative_read : (digits rest : List ℕ) → AreDigits digits → goes_on rest ≡ false
      → Reads (45 ∷ digits) (tokens.Number (with_sign true (value_from 0 digits))) rest
  negative_read digits rest are stop =
      let first = figures_first 45 (digits ++ rest) (digits_begin digits rest are.each are.some) in
      let none = no_literal (45 ∷ digits ++ rest) (negative_no_literal digits rest are stop) in
      record {
        first = 45;
        others = digits;
        splits = refl;
        no_blank = refl;
        read = first.0 ∙ figures_number (45 ∷ digits ++ rest) none ∙ number_there true digits rest
            are (stops rest stop).0;
      }

  -- moment literals

  shaped_figures : (text rest : List ℕ) → is_shaped text ≡ true → begins_with_zone rest ≡ false
      → 0 < length text → figures_at (text ++ rest) ≡ Some (tokens.Moment (stamp_of text), rest)
  shaped_figures text rest shaped stop some =
      let width = shapes_end text rest shaped stop in
      let there = moment_there (text ++ rest) (rw width some) in
      let front : take (shaped_front (text ++ rest)) (text ++ rest) ≡ text =
      rw width (take-append_seam text rest) in
      let back : drop (shaped_front (text ++ rest)) (text ++ rest) ≡ rest =
      rw width (drop-append_seam text rest) in
      rw (front, back) at there

  pub shaped_first : (b : ℕ) (more rest : List ℕ) → is_shaped (b ∷ more) ≡ true
      → begins_number b (more ++ rest) ≡ true
  shaped_first b more rest shaped = elim (begins_year (b ∷ more) rest shaped) [
    | inl dashed ↦ or_left _ _ (dashed_begins 3 (b ∷ more ++ rest) dashed)
    | inr w ↦
        let minus : b ≡ 45 = cc in
        let tail : more ≡ w.0 = ap (drop 1) w.1 in
        or_right _ _ (and_from (b == 45) (begins_digit (more ++ rest)) (rw minus refl)
        (rw tail (dashed_begins 3 (w.0 ++ rest) w.2)))
  ]

  pub moment_read : (text rest : List ℕ) → is_shaped text ≡ true → begins_with_zone rest ≡ false
      → Reads text (tokens.Moment (stamp_of text)) rest
  moment_read [] rest shaped stop = absurd (not_shaped shaped)
  moment_read (b ∷ more) rest shaped stop =
      let first = figures_first b (more ++ rest) (shaped_first b more rest shaped) in
      record {
        first = b;
        others = more;
        splits = refl;
        no_blank = first.1;
        read = first.0
            ∙ shaped_figures (b ∷ more) rest shaped stop (omega arith);
      }
