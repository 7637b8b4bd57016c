-- What is read at the front is the longest token there.
use Rattle.std.proofs.Common.{◌≡◌, ℕ, suc, ◌+◌, ◌≤◌, ◌<◌, Bool, true, false, cond, ◌&&◌, inl, inr, List, [], ◌∷◌, ◌++◌, length, take, drop, Option, Some, None, refl, sym, ap, subst, ◌∙◌, append_assoc, arith, length-append, length-drop, length-take-le}
use Rattle.std.specs.Prelude.{nat_le, nat_lt, ◌==◌}
use Rattle.std.specs.List.{list_all}
use Rattle.std.proofs.Math.Seq.{take-append_seam}
use Rattle.std.proofs.lemmas.List.{take-append-drop}
use Rattle.std.proofs.lemmas.Bool.{leb-true, and_parts, and_from, or_cases, or_left, or_right, cases_Bool, cases_lt, eqb-true, false_from_ne_true, both_ways, false≢true}
use Rattle.std.proofs.lemmas.Bool.Decides.{nat_tests}
use Rattle.moment_text.specs.Laws.{FormsTellLengths, FrontsAreLongest, ShapedTextsHaveForms, ShapesEnd}
use Rattle.moment_text.specs.Literal.{form_of, is_shaped, shaped_front}
use Rattle.expr_tokens.specs.declared.class.Class.TheVariants as classes
use Rattle.expr_tokens.specs.Plain.{Token}
use Rattle.expr_tokens.specs.Plain as tokens
use Rattle.expr_tokens.specs.Class.{holds, front_of, behind}
use Rattle.expr_tokens.specs.Reading.{Front, begins_digit, begins_number, digits_of, number_at, name_at, quote_at, text_at, sign_of, with_rest, signed_at, figures_at, string_limit, token_at}
use Rattle.expr_tokens.specs.Longest.{AreDigits, Spells, moment, number, negative, name, text, sign, begins_long_number, IsLongestReading, ReadsLongest, SpellsOne}
use Rattle.expr_tokens.proofs.Runs.{run_splits, run_is_longer}
use Rattle.expr_tokens.proofs.Stamps.{moment_there}
use Rattle.expr_tokens.proofs.OneToken.{Reads, letter_byte, digit_byte, sign_byte, begins_year, figures_first, figures_number, shaped_first, digits_begin, sign_read, name_read, text_read, number_read, negative_read, moment_read}

-- the parts of what is found

abbrev token_of : Token → Front → Token
token_of t None = t
token_of t (Some x) = x.0

abbrev rest_of : Front → List ℕ
rest_of None = []
rest_of (Some x) = x.1

abbrev found : Token → List ℕ → Front
found t rest = Some (t, rest)

same_parts : (t u : Token) (rest more : List ℕ) → found t rest ≡ found u more → (t ≡ u)
    × (rest ≡ more)
same_parts t u rest more e = (ap (token_of t) e, ap rest_of e)

-- no bytes spell two tokens

no_digit_behind : (b : ℕ) → (b == 45 && false) ≡ false
no_digit_behind b = elim (cases_Bool (b == 45)) [ inl h ↦ rw h refl | inr h ↦ rw h refl ]

module _ (forms : ShapedTextsHaveForms) (fronts : FrontsAreLongest) (shapes_end : ShapesEnd)
    (lengths : FormsTellLengths) where
  -- bytes that spell a token are read as it
  reads_alone : (bytes : List ℕ) (t : Token) → Spells bytes t → Reads bytes t []
  reads_alone bytes t spelled = elim spelled [
    | moment shaped is ↦ rw is (moment_read forms fronts shapes_end bytes [] shaped refl)
    | number are is ↦ rw is (number_read forms fronts shapes_end bytes [] are refl)
    | negative digits splits are is ↦
        rw (splits, is) (negative_read forms fronts shapes_end digits [] are refl)
    | name b more splits letter each is ↦ rw (is, splits) (name_read b more [] letter each refl)
    | text quoted splits each short is ↦ rw (splits, is) (text_read quoted [] each short)
    | sign b splits is ↦ rw splits (sign_read b t [] is (no_digit_behind b))
  ]

  same_reading : (bytes : List ℕ) (t u : Token) → Reads bytes t [] → Reads bytes u [] → t ≡ u
  same_reading bytes t u first second =
      let splits : first.first ∷ first.others ≡ second.first ∷ second.others = sym first.splits
      ∙ second.splits in
      let b : first.first ≡ second.first = cc in
      let others : first.others ≡ second.others = cc in
      let read : token_at first.first (first.others ++ []) ≡ found u [] =
      rw (b, others) second.read in
      (same_parts t u [] [] (sym first.read ∙ read)).0

  pub spells_one : SpellsOne
  spells_one bytes t u first second = same_reading bytes t u (reads_alone bytes t first)
      (reads_alone bytes u second)

  no_digit_run : (b : ℕ) (bytes : List ℕ) → (b == 45) ≡ true → length (digits_of (b ∷ bytes)) ≡ 4
      → ⊥
  unfolding front_of
  no_digit_run b bytes minus run =
      let P : ℕ → Type 0 = λ k. length (digits_of (k ∷ bytes)) ≡ 4 in
      let e : 0 ≡ 4 = subst P (eqb-true b 45 minus) run in
      absurd (omega (arith, e))

  -- a token that stands there is no longer than the one that is read

  -- what is read leaves at most so many bytes, and nothing is read only at a number that is too
  -- long
  abbrev Reaches : ℕ → Bool → Front → Type 0
  Reaches most long (Some x) = length x.1 ≤ most
  Reaches most long None = long ≡ true

  module _ (most : ℕ) where
    number_reaches : (minus : Bool) (bytes : List ℕ) → length (behind (holds classes.Digit) bytes) ≤
        most → Reaches most (nat_lt 13 (length (digits_of bytes))) (number_at minus bytes)
    unfolding number_at
    number_reaches minus bytes short = elim (cases_Bool (nat_le (length (digits_of bytes)) 13)) [
      | inl fits ↦ rw fits short
      | inr long ↦ rw long (grind (arith, nat_tests))
    ]

    figures_reach : (b : ℕ) (bytes : List ℕ)
        → (0 < shaped_front (b ∷ bytes) → length (drop (shaped_front (b ∷ bytes)) (b ∷ bytes)) ≤
        most)
        → length (behind (holds classes.Digit) (cond (b == 45) bytes (b ∷ bytes))) ≤ most
        → Reaches most (begins_long_number b bytes) (figures_at (b ∷ bytes))
    unfolding figures_at
    figures_reach b bytes literal digits = elim (cases_Bool (nat_lt 0 (shaped_front (b ∷ bytes)))) [
      | inl some ↦ rw some (literal (grind (arith, nat_tests)))
      | inr none ↦ elim (cases_Bool (b == 45)) [
        | inl minus ↦ rw (none, minus) (number_reaches true bytes (rw minus at digits))
        | inr other ↦ rw (none, other) (number_reaches false (b ∷ bytes) (rw other at digits))
      ]
    ]

    number_first : (b : ℕ) (bytes : List ℕ) → begins_number b bytes ≡ true
        → Reaches most (begins_long_number b bytes) (figures_at (b ∷ bytes))
        → Reaches most (begins_long_number b bytes) (token_at b bytes)
    number_first b bytes begins reaches = rw (figures_first b bytes begins).0 reaches

  read_reaches : (b : ℕ) (bytes longer others : List ℕ) (t : Token) → b ∷ bytes ≡ longer ++ others
      → Reads longer t others → Reaches (length others) (begins_long_number b bytes)
      (token_at b bytes)
  read_reaches b bytes longer others t e reads =
      let all : b ∷ bytes ≡ reads.first ∷ reads.others ++ others = e
      ∙ ap (λ (x : List ℕ). x ++ others) reads.splits in
      let first : b ≡ reads.first = cc in
      let more : bytes ≡ reads.others ++ others = ap (drop 1) all in
      let read : token_at b bytes ≡ Some (t, others) = rw (first, more) reads.read in
      rw read (omega arith)

  digits_long : (bytes rest : List ℕ) → list_all (holds classes.Digit) bytes ≡ true
      → length bytes ≤ length (digits_of (bytes ++ rest))
  digits_long bytes rest each =
      let splits = run_splits (holds classes.Digit) (bytes ++ rest) in
      let total : length bytes + length rest ≡ length (digits_of (bytes ++ rest)) + length
      (behind (holds classes.Digit) (bytes ++ rest)) =
      sym (length-append bytes rest) ∙ ap length splits.0
      ∙ length-append (digits_of (bytes ++ rest)) (behind (holds classes.Digit) (bytes ++ rest)) in
      omega (arith, total, run_is_longer (holds classes.Digit) bytes rest each)

  long_form : (minus absolute : Bool) → 19 ≤ length (form_of minus absolute)
  long_form false false = omega arith
  long_form false true = omega arith
  long_form true false = omega arith
  long_form true true = omega arith

  shape_long : (front : List ℕ) → is_shaped front ≡ true → 19 ≤ length front
  shape_long front shaped = let shape = forms front shaped in
      rw (lengths (form_of shape.0 shape.1) front shape.2) (long_form shape.0 shape.1)

  -- where a literal stands, a year of four digits does
  record HasYear (b : ℕ) (bytes : List ℕ) : Type 0 where
    year : length (digits_of (cond (b == 45) bytes (b ∷ bytes))) ≡ 4
    long : 19 ≤ shaped_front (b ∷ bytes)

  no_digits : (bytes : List ℕ) → begins_digit bytes ≡ false → digits_of bytes ≡ []
  unfolding front_of
  no_digits [] h = refl
  no_digits (b ∷ bytes) h = rw h refl

  year_there : (b : ℕ) (bytes : List ℕ) → 0 < shaped_front (b ∷ bytes) → HasYear b bytes
  year_there b bytes some =
      let n = shaped_front (b ∷ bytes) in
      let front = take n (b ∷ bytes) in
      let others = drop n (b ∷ bytes) in
      let whole : front ++ others ≡ b ∷ bytes = take-append-drop n (b ∷ bytes) in
      let shaped : is_shaped front ≡ true = (fronts (b ∷ bytes)).shaped some in
      let width : length front ≡ n = length-take-le n (b ∷ bytes) (fronts (b ∷ bytes)).within in
      record {
        year = elim (begins_year forms fronts shapes_end front others shaped) [
          | inl dashed ↦
              let run : length (digits_of (b ∷ bytes)) ≡ 4 = rw whole at dashed.run in
              elim (cases_Bool (b == 45)) [
                | inl minus ↦ absurd (no_digit_run b bytes minus run)
                | inr other ↦ rw other run
              ]
          | inr w ↦
              let all : b ∷ bytes ≡ 45 ∷ w.0 ++ others = sym whole
              ∙ ap (λ (x : List ℕ). x ++ others) w.1 in
              let is : b ≡ 45 = cc in
              let tail : bytes ≡ w.0 ++ others = ap (drop 1) all in
              let minus : (b == 45) ≡ true = rw is refl in
              rw (minus, tail) w.2.run
        ];
        long = omega (arith, shape_long front shaped, width);
      }

  -- how much is left where some bytes stand at the front
  left_behind : (n : ℕ) (bytes longer others : List ℕ) → bytes ≡ longer ++ others
      → length longer ≤ n → length (drop n bytes) ≤ length others
  left_behind n bytes longer others e le =
      let total : length bytes ≡ length longer + length others = ap length e ∙ length-append longer
      others in
      omega (arith, total, length-drop n bytes)

  digits_left : (b : ℕ) (bytes digits others : List ℕ) → cond (b == 45) bytes (b ∷ bytes) ≡ digits
      ++ others → suc (length digits) ≤ shaped_front (b ∷ bytes)
      → length (drop (shaped_front (b ∷ bytes)) (b ∷ bytes)) ≤ length others
  digits_left b bytes digits others e le = elim (cases_Bool (b == 45)) [
    | inl minus ↦
        let tail : bytes ≡ digits ++ others = rw minus at e in
        left_behind (shaped_front (b ∷ bytes)) (b ∷ bytes) (b ∷ digits) others
        (ap (λ (x : List ℕ). b ∷ x) tail) le
    | inr other ↦ left_behind (shaped_front (b ∷ bytes)) (b ∷ bytes) digits others (rw other at e)
        (omega (arith, le))
  ]

  digits_reach : (b : ℕ) (bytes digits others : List ℕ) → cond (b == 45) bytes (b ∷ bytes) ≡ digits
      ++ others → list_all (holds classes.Digit) digits ≡ true → begins_number b bytes ≡ true
      → Reaches (length others) (begins_long_number b bytes) (token_at b bytes)
  digits_reach b bytes digits others e each begins =
      number_first (length others) b bytes begins (figures_reach (length others) b bytes
      (λ some.
      let year = year_there b bytes some in
      let four : length (digits_of (digits ++ others)) ≡ 4 = rw e at year.year in
      let within : length digits ≤ 4 = omega (arith, digits_long digits others each, four) in
      digits_left b bytes digits others e (omega (arith, within, year.long)))
      (rw e (run_is_longer (holds classes.Digit) digits others each)))

  number_reach : (b : ℕ) (bytes digits others : List ℕ) → b ∷ bytes ≡ digits ++ others
      → AreDigits digits → Reaches (length others) (begins_long_number b bytes) (token_at b bytes)
  number_reach b bytes [] others e are = absurd (omega (arith, are.some))
  number_reach b bytes (d ∷ digits) others e are =
      let digit = (and_parts (holds classes.Digit d) (list_all (holds classes.Digit) digits)
      are.each).0 in
      let is : b ≡ d = cc in
      let minus : (b == 45) ≡ false = rw is (digit_byte d digit).minus in
      digits_reach b bytes (d ∷ digits) others (rw minus e) are.each
      (or_left (holds classes.Digit b) (b == 45 && begins_digit bytes) (rw is digit))

  negative_reach : (b : ℕ) (bytes digits others : List ℕ) → b ∷ bytes ≡ 45 ∷ digits ++ others
      → AreDigits digits → Reaches (length others) (begins_long_number b bytes) (token_at b bytes)
  negative_reach b bytes digits others e are =
      let is : b ≡ 45 = cc in
      let tail : bytes ≡ digits ++ others = ap (drop 1) e in
      let minus : (b == 45) ≡ true = rw is refl in
      let begins : begins_digit bytes ≡ true =
      rw tail (digits_begin digits others are.each are.some) in
      digits_reach b bytes digits others (rw minus tail) are.each
      (or_right _ _ (and_from _ _ minus begins))

  longest_is_long : (bytes longer others : List ℕ) → bytes ≡ longer ++ others → is_shaped longer
      ≡ true → length longer ≤ shaped_front bytes
  longest_is_long bytes longer others e shaped =
      elim (cases_lt (shaped_front bytes) (length longer)) [
        | inl less ↦
            let within : length longer ≤ length bytes =
            omega (arith, ap length e, length-append longer others) in
            let no : is_shaped (take (length longer) bytes) ≡ false = (fronts bytes).longest
            (length longer) less within in
            let same : take (length longer) bytes ≡ longer =
            rw e (take-append_seam longer others) in
            absurd (both_ways (is_shaped longer) (rw same at no) shaped)
        | inr le ↦ le
      ]

  moment_reach : (b : ℕ) (bytes longer others : List ℕ) → b ∷ bytes ≡ longer ++ others
      → is_shaped longer ≡ true → Reaches (length others) (begins_long_number b bytes)
      (token_at b bytes)
  moment_reach b bytes [] others e shaped = absurd (omega (arith, shape_long [] shaped))
  moment_reach b bytes (c ∷ more) others e shaped =
      let is : b ≡ c = cc in
      let tail : bytes ≡ more ++ others = ap (drop 1) e in
      let begins : begins_number b bytes ≡ true =
      rw (is, tail) (shaped_first forms fronts shapes_end c more others shaped) in
      let wide : length (c ∷ more) ≤ shaped_front (b ∷ bytes) = longest_is_long (b ∷ bytes)
      (c ∷ more) others e shaped in
      let there = moment_there (b ∷ bytes) (omega (arith, wide)) in
      number_first (length others) b bytes begins
      (rw there (left_behind (shaped_front (b ∷ bytes)) (b ∷ bytes) (c ∷ more) others e wide))

  name_reach : (b : ℕ) (bytes more others : List ℕ) → b ∷ bytes ≡ b ∷ more ++ others
      → holds classes.Letter b ≡ true → list_all (holds classes.Name) more ≡ true
      → Reaches (length others) (begins_long_number b bytes) (token_at b bytes)
  unfolding token_at name_at
  name_reach b bytes more others e letter each =
      rw (letter, e) (run_is_longer (holds classes.Name) (b ∷ more) others
      (and_from _ _ (letter_byte b letter).name each))

  sign_reach : (b : ℕ) (bytes : List ℕ) (t : Token) → sign_of b ≡ Some t → Reaches (length bytes)
      (begins_long_number b bytes) (token_at b bytes)
  sign_reach b bytes t is = elim (cases_Bool (b == 45 && begins_digit bytes)) [
    | inl begins ↦
        let parts = and_parts (b == 45) (begins_digit bytes) begins in
        digits_reach b bytes [] bytes (rw parts.0 refl) refl (or_right _ _ begins)
    | inr stop ↦ read_reaches b bytes (b ∷ []) bytes t refl (sign_read b t bytes is stop)
  ]

  reaches : (b : ℕ) (bytes longer others : List ℕ) (t : Token) → b ∷ bytes ≡ longer ++ others
      → Spells longer t → Reaches (length others) (begins_long_number b bytes) (token_at b bytes)
  reaches b bytes longer others t e spelled = elim spelled [
    | moment shaped is ↦ moment_reach b bytes longer others e shaped
    | number are is ↦ number_reach b bytes longer others e are
    | negative digits splits are is ↦ negative_reach b bytes digits others (rw splits at e) are
    | name c more splits letter each is ↦
        let all : b ∷ bytes ≡ c ∷ more ++ others = rw splits at e in
        let same : b ≡ c = cc in
        name_reach b bytes more others (rw (← same) at all) (rw same letter) each
    | text quoted splits each short is ↦ read_reaches b bytes (34 ∷ quoted ++ 34 ∷ []) others
        (tokens.Text quoted) (rw splits at e) (text_read quoted others each short)
    | sign c splits is ↦
        let all : b ∷ bytes ≡ c ∷ others = rw splits at e in
        let same : b ≡ c = cc in
        let tail : bytes ≡ others = ap (drop 1) all in
        rw (← tail) (sign_reach b bytes t (rw same is))
  ]

  -- what is read is spelled by the bytes before the rest

  record IsSpelled (b : ℕ) (bytes : List ℕ) (t : Token) (rest : List ℕ) : Type 0 where
    front : List ℕ
    splits : b ∷ bytes ≡ front ++ rest
    spelled : Spells front t
    short : begins_long_number b bytes ≡ false

  abbrev AreSpelled : ℕ → List ℕ → Front → Type 0
  AreSpelled b bytes (Some x) = IsSpelled b bytes x.0 x.1
  AreSpelled b bytes None = Unit {0}

  not_long : (b : ℕ) (bytes : List ℕ) → (b == 45) ≡ false → holds classes.Digit b ≡ false
      → begins_long_number b bytes ≡ false
  not_long b bytes minus digit = rw (minus, no_digits (b ∷ bytes) digit) refl

  name_spelled : (b : ℕ) (bytes : List ℕ) → holds classes.Letter b ≡ true
      → AreSpelled b bytes (name_at (b ∷ bytes))
  unfolding name_at front_of
  name_spelled b bytes letter =
      let byte = letter_byte b letter in
      let splits = run_splits (holds classes.Name) (b ∷ bytes) in
      let front : front_of (holds classes.Name) (b ∷ bytes) ≡ b ∷ front_of (holds classes.Name)
      bytes = rw byte.name refl in
      record {
        front = front_of (holds classes.Name) (b ∷ bytes);
        splits = splits.0;
        spelled = name b (front_of (holds classes.Name) bytes) front letter
            (run_splits (holds classes.Name) bytes).1 refl;
        short = not_long b bytes byte.minus byte.digit;
      }

  quote_spelled : (quoted after : List ℕ) → list_all (holds classes.Quoted) quoted ≡ true
      → length quoted ≤ string_limit → AreSpelled 34 (quoted ++ after) (quote_at quoted after)
  unfolding quote_at
  quote_spelled quoted [] each short = tt
  quote_spelled quoted (c ∷ after) each short = elim (cases_Bool (c == 34)) [
    | inl quote ↦ rw quote (record {
      front = 34 ∷ quoted ++ 34 ∷ [];
      splits = rw (eqb-true c 34 quote, append_assoc) refl;
      spelled = text quoted refl each short refl;
      short = not_long 34 (quoted ++ c ∷ after) refl refl;
    })
    | inr other ↦ rw other tt
  ]

  text_spelled : (bytes : List ℕ) → AreSpelled 34 bytes (text_at bytes)
  unfolding text_at
  text_spelled bytes =
      let splits = run_splits (holds classes.Quoted) bytes in
      elim (cases_Bool (nat_le (length (front_of (holds classes.Quoted) bytes)) string_limit)) [
        | inl fits ↦ rw fits
            (rw (← splits.0) at (quote_spelled (front_of (holds classes.Quoted) bytes)
            (behind (holds classes.Quoted) bytes) splits.1 (leb-true _ string_limit fits)))
        | inr long ↦ rw long tt
      ]

  sign_spelled : (b : ℕ) (bytes : List ℕ) (read : Option Token) → sign_of b ≡ read
      → begins_number b bytes ≡ false → AreSpelled b bytes (with_rest bytes read)
  sign_spelled b bytes None is stop = tt
  sign_spelled b bytes (Some t) is stop =
      let byte = sign_byte b t is in
      record {
        front = b ∷ [];
        splits = refl;
        spelled = sign b refl is;
        short = elim (cases_Bool (b == 45)) [
          | inl minus ↦
              let none : begins_digit bytes ≡ false = false_from_ne_true (begins_digit bytes)
              (λ h. both_ways (begins_number b bytes) stop
              (or_right (holds classes.Digit b) (b == 45 && begins_digit bytes)
              (and_from (b == 45) (begins_digit bytes) minus h))) in
              rw (minus, no_digits bytes none) refl
          | inr other ↦ not_long b bytes other byte.digit
        ];
      }

  some_digits : (bytes : List ℕ) → begins_digit bytes ≡ true → 0 < length (digits_of bytes)
  unfolding front_of
  some_digits [] h = absurd (false≢true h)
  some_digits (b ∷ bytes) h = rw h (omega arith)

  are_digits : (bytes : List ℕ) → begins_digit bytes ≡ true → nat_le (length (digits_of bytes)) 13
      ≡ true → AreDigits (digits_of bytes)
  are_digits bytes begins fits = record {
    each = (run_splits (holds classes.Digit) bytes).1;
    some =
        some_digits bytes begins;
    most = leb-true (length (digits_of bytes)) 13 fits;
  }

  fits_not_long : (n : ℕ) → nat_le n 13 ≡ true → nat_lt 13 n ≡ false
  fits_not_long n fits = grind (arith, nat_tests)

  number_spelled : (b : ℕ) (bytes : List ℕ) → (b == 45) ≡ false → holds classes.Digit b ≡ true
      → AreSpelled b bytes (number_at false (b ∷ bytes))
  unfolding number_at
  number_spelled b bytes other digit =
      elim (cases_Bool (nat_le (length (digits_of (b ∷ bytes))) 13)) [
        | inl fits ↦ rw fits (record {
          front = digits_of (b ∷ bytes);
          splits = (run_splits (holds classes.Digit) (b ∷ bytes)).0;
          spelled = number (are_digits (b ∷ bytes) digit fits) refl;
          short = rw other (fits_not_long (length (digits_of (b ∷ bytes))) fits);
        })
        | inr long ↦ rw long tt
      ]

  negative_spelled : (bytes : List ℕ) → begins_digit bytes ≡ true
      → AreSpelled 45 bytes (number_at true bytes)
  unfolding number_at
  negative_spelled bytes digit = elim (cases_Bool (nat_le (length (digits_of bytes)) 13)) [
    | inl fits ↦ rw fits (record {
      front = 45 ∷ digits_of bytes;
      splits = ap (λ (x : List ℕ). 45 ∷ x) (run_splits (holds classes.Digit) bytes).0;
      spelled = negative (digits_of bytes) refl (are_digits bytes digit fits) refl;
      short = fits_not_long (length (digits_of bytes)) fits;
    })
    | inr long ↦ rw long tt
  ]

  signed_spelled : (b : ℕ) (bytes : List ℕ) → begins_number b bytes ≡ true
      → AreSpelled b bytes (signed_at (b ∷ bytes))
  signed_spelled b bytes begins =
      elim (or_cases (holds classes.Digit b) (b == 45 && begins_digit bytes) begins) [
        | inl digit ↦ let other = (digit_byte b digit).minus in
            rw other (number_spelled b bytes other digit)
        | inr both ↦
            let parts = and_parts (b == 45) (begins_digit bytes) both in
            subst (λ (k : ℕ). AreSpelled k bytes (signed_at (k ∷ bytes)))
            (sym (eqb-true b 45 parts.0))
            (negative_spelled bytes parts.1)
      ]

  literal_spelled : (b : ℕ) (bytes : List ℕ) → 0 < shaped_front (b ∷ bytes)
      → AreSpelled b bytes (figures_at (b ∷ bytes))
  literal_spelled b bytes some = rw (moment_there (b ∷ bytes) some) (record {
    front = take (shaped_front (b ∷ bytes)) (b ∷ bytes);
    splits = sym (take-append-drop (shaped_front (b ∷ bytes)) (b ∷ bytes));
    spelled = moment ((fronts (b ∷ bytes)).shaped some) refl;
    short = rw (year_there b bytes some).year refl;
  })

  figures_spelled : (b : ℕ) (bytes : List ℕ) → begins_number b bytes ≡ true
      → AreSpelled b bytes (figures_at (b ∷ bytes))
  figures_spelled b bytes begins = elim (cases_lt 0 (shaped_front (b ∷ bytes))) [
    | inl some ↦ literal_spelled b bytes some
    | inr le ↦ rw (figures_number (b ∷ bytes) (omega (arith, le))) (signed_spelled b bytes begins)
  ]

  spelled_there : (b : ℕ) (bytes : List ℕ) → AreSpelled b bytes (token_at b bytes)
  unfolding token_at
  spelled_there b bytes = elim (cases_Bool (holds classes.Letter b)) [
    | inl letter ↦ rw letter (name_spelled b bytes letter)
    | inr other ↦ elim (cases_Bool (b == 34)) [
      | inl quote ↦ rw (other, quote) (subst (λ (k : ℕ). AreSpelled k bytes (text_at bytes))
          (sym (eqb-true b 34 quote)) (text_spelled bytes))
      | inr more ↦ elim (cases_Bool (begins_number b bytes)) [
        | inl begins ↦ rw (other, more, begins) (figures_spelled b bytes begins)
        | inr stop ↦ rw (other, more, stop) (sign_spelled b bytes (sign_of b) refl stop)
      ]
    ]
  ]

  -- both together

  longer_front : (whole front rest longer others : List ℕ) → whole ≡ front ++ rest → whole ≡ longer
      ++ others → length rest ≤ length others → length longer ≤ length front
  longer_front whole front rest longer others e f le =
      omega (
        arith,
        ap length e,
        ap length f,
        length-append front rest,
        length-append longer others,
        le,
      )

  both_parts : (b : ℕ) (bytes : List ℕ) (read : Front) → AreSpelled b bytes read
      → ((longer others : List ℕ) (t : Token) → b ∷ bytes ≡ longer ++ others → Spells longer t
      → Reaches (length others) (begins_long_number b bytes) read) → IsLongestReading b bytes read
  both_parts b bytes None spelled reach = λ front rest t e spells. reach front rest t e spells
  both_parts b bytes (Some x) spelled reach = (
    record {
      front = spelled.front;
      splits = spelled.splits;
      spelled = spelled.spelled;
      longest = λ longer others u e spells. longer_front (b ∷ bytes) spelled.front x.1 longer others
          spelled.splits e (reach longer others u e spells);
    },
    spelled.short,
  )

  pub reads_longest : ReadsLongest
  reads_longest b bytes = both_parts b bytes (token_at b bytes) (spelled_there b bytes)
      (λ longer others t e spells. reaches b bytes longer others t e spells)
