-- The printed form of a rule is read as the tokens of its fields.
use Rattle.std.proofs.Common.{◌≡◌, ℕ, ◌<◌, ◌^◌, ℤ, pos, Bool, true, false, cond, List, [], ◌∷◌, ◌++◌, Option, Some, None, Ok, refl, sym, ap, subst, ◌∙◌, append_assoc, unsigned_abs, neg_ℤ, arith}
use Rattle.std.specs.Prelude.{codes}
use Rattle.std.specs.Fmt.{signed_decimal}
use Rattle.std.specs.List.{AllByRecursion, AllZip, flat_map}
use Rattle.std.specs.Option.{option_to_list}
use Rattle.std.specs.Ordering.{int_eq}
use Rattle.std.proofs.lemmas.Int.{ints}
use Rattle.std.proofs.lemmas.List.Concat.{flat_map-cons}
use Rattle.std.proofs.lemmas.List.Elements.{recursion_from_All}
use Rattle.moment_core.specs.Line.{IsCalendarMoment}
use Rattle.moment_core.specs.declared.line.Stamp.{Stamp}
use Rattle.moment_text.specs.Literal.{literal_of}
use Rattle.moment_text.specs.Laws.{begins_with_zone}
use Rattle.rule_core.specs.FieldChecks.{check_of, counted, is_in_range, is_interval, most_days, values_of}
use Rattle.rule_core.specs.FieldMembers.{start_of}
use Rattle.rule_core.specs.Laws.{FieldIntervalFits, FieldValuesFit}
use Rattle.rule_core.specs.Values.{is_signed, is_within}
use Rattle.rule_core.specs.declared.field.Counted.{Counted}
use Rattle.rule_core.specs.declared.field.Counted.TheVariants as counts
use Rattle.rule_core.specs.declared.field.FieldRule.{FieldRule}
use Rattle.rule_core.specs.declared.part.Part.{Part}
use Rattle.rule_core.specs.declared.part.Part.TheVariants as parts
use Rattle.expr_tokens.specs.Laws.{Lexes, goes_on}
use Rattle.expr_tokens.specs.Names.{name_of}
use Rattle.expr_tokens.specs.Plain as tokens
use Rattle.expr_tokens.specs.declared.token.Word.{Word}
use Rattle.expr_tokens.specs.declared.token.Word.TheVariants as words
use Rattle.expr_grammar.specs.declared.syntax.Key.{Key}
use Rattle.expr_grammar.specs.declared.syntax.Key.TheVariants as keys
use Rattle.expr_grammar.specs.Fields.{field_tokens, fields_tokens, freq_word, key_word, more_numbers, rule_tokens}
use Rattle.expr_grammar.specs.Form.{FieldForm, Values, Start}
use Rattle.expr_print.specs.Fields.{field_rule_text, interval_printed, next_field, next_number, numbers_before, printed_fields, start_before, with_spaces}
use Rattle.expr_text.proofs.RulesBack.{with_numbers, with_start, written_fields}
use Rattle.expr_text.proofs.Signs.{Writing, Lexes-close, Lexes-comma, Lexes-equals, Lexes-open}

-- a number that a token holds
abbrev IsShort : ℤ → Type 0
IsShort n = unsigned_abs n < 10 ^ 13

abbrev AreShort : List ℤ → Type 0
AreShort ns = AllByRecursion IsShort ns

within_short : (low high v : ℤ) → is_within low high v ≡ true → unsigned_abs low < 10 ^ 13
    → unsigned_abs high < 10 ^ 13 → IsShort v
within_short low high v e l h = grind (arith, ints)

signed_short : (n : ℕ) (v : ℤ) → n < 10 ^ 13 → is_signed n v ≡ true → IsShort v
signed_short n v less e = grind (arith, ints)

days_short : (c : Counted) → most_days c < 10 ^ 13
days_short counts.OfYear = omega arith
days_short counts.OfMonth = omega arith
days_short counts.OfWeek = omega arith
days_short counts.Never = omega arith

all_short : (test : ℤ → Bool) (ns : List ℤ) → ((v : ℤ) → test v ≡ true → IsShort v)
    → AllByRecursion (λ v. test v ≡ true) ns → AreShort ns
all_short test [] short h = tt
all_short test (n ∷ ns) short h = (short n h.0, all_short test ns short h.1)

-- the numbers of a rule that has no fault
record HasShort (r : FieldRule) : Type 0 where
  months : AreShort r.months
  weeks : AreShort r.weeks
  days : AreShort r.days
  hours : AreShort r.hours
  minutes : AreShort r.minutes
  seconds : AreShort r.seconds
  interval : AreShort (interval_printed r.interval)
  week_start : AreShort (option_to_list r.week_start)

interval_short : (n : ℤ) → is_interval n ≡ true → AreShort (interval_printed n)
interval_short n e = by_value (int_eq n (pos 1))
  where
    by_value : (b : Bool) → AreShort (cond b [] (n ∷ []))
    by_value true = tt
    by_value false = (within_short (pos 1) (pos 1_000_000_000) n e (omega arith) (omega arith), tt)

has_short : FieldValuesFit → FieldIntervalFits → (r : FieldRule) → check_of r ≡ Ok tt → HasShort r
has_short fit intervals r ok =
    let c = counted r in
    let each = λ (key : Part). recursion_from_All (λ v. is_in_range c key v ≡ true)
    (values_of r key) (fit r key ok) in
    record {
      months = all_short (is_in_range c parts.Months) r.months
          (λ v e. signed_short 12 v (omega arith) e) (each parts.Months);
      weeks = all_short (is_in_range c parts.Weeks) r.weeks
          (λ v e. signed_short 53 v (omega arith) e) (each parts.Weeks);
      days = all_short (is_in_range c parts.Days) r.days
          (λ v e. signed_short (most_days c) v (days_short c) e) (each parts.Days);
      hours = all_short (is_in_range c parts.Hours) r.hours
          (λ v e. within_short (neg_ℤ (pos 24)) (pos 23) v e (omega arith) (omega arith))
          (each parts.Hours);
      minutes = all_short (is_in_range c parts.Minutes) r.minutes
          (λ v e. within_short (neg_ℤ (pos 60)) (pos 59) v e (omega arith) (omega arith))
          (each parts.Minutes);
      seconds = all_short (is_in_range c parts.Seconds) r.seconds
          (λ v e. within_short (neg_ℤ (pos 60)) (pos 59) v e (omega arith) (omega arith))
          (each parts.Seconds);
      interval = interval_short r.interval (intervals r ok);
      week_start = all_short (is_in_range c parts.WeekStart) (option_to_list r.week_start)
          (λ v e. within_short (pos 1) (pos 7) v e (omega arith) (omega arith))
          (each parts.WeekStart);
    }

-- what may stand behind a field
record Stops (rest : List ℕ) : Type 0 where
  number : goes_on rest ≡ false
  moment : begins_with_zone rest ≡ false

numbers_stop : (ns : List ℤ) (rest : List ℕ) → goes_on rest ≡ false
    → goes_on (flat_map next_number ns ++ rest) ≡ false
numbers_stop [] rest h = h
numbers_stop (n ∷ ns) rest h = ap (λ (x : List ℕ). goes_on (x ++ rest))
    (flat_map-cons next_number n ns)

fields_stop : (fields : List (List ℕ)) (rest : List ℕ) → Stops rest
    → Stops (flat_map next_field fields ++ rest)
fields_stop [] rest h = h
fields_stop (f ∷ fields) rest h = record {
  number = ap (λ (x : List ℕ). goes_on (x ++ rest)) (flat_map-cons next_field f fields);
  moment = ap (λ (x : List ℕ). begins_with_zone (x ++ rest)) (flat_map-cons next_field f fields);
}

module _ (w : Writing) where
  more_lex : (ns : List ℤ) (rest : List ℕ) → AreShort ns → goes_on rest ≡ false
      → Lexes (flat_map next_number ns) (more_numbers ns) rest
  more_lex [] rest short stop = w.nothing rest
  more_lex (n ∷ ns) rest short stop =
      let others = flat_map next_number ns in
      let e : flat_map next_number (n ∷ ns) ≡ codes "," ++ (signed_decimal n ++ others) =
      flat_map-cons next_number n ns ∙ append_assoc (codes ",") (signed_decimal n) others in
      subst (λ (x : List ℕ). Lexes x (more_numbers (n ∷ ns)) rest) (sym e)
      (w.parts (codes ",") (signed_decimal n ++ others) (tokens.Comma ∷ [])
      (tokens.Number n ∷ more_numbers ns) rest
      (Lexes-comma w ((signed_decimal n ++ others) ++ rest))
      (w.parts (signed_decimal n) others (tokens.Number n ∷ []) (more_numbers ns) rest
      (w.numbers n (others ++ rest) short.0 (numbers_stop ns rest stop))
      (more_lex ns rest short.1 stop)))

  -- a word and an equals sign
  word_equals : (word : Word) (rest : List ℕ) → Lexes (name_of word ++ codes "=")
      (tokens.Word word ∷ tokens.Equals ∷ []) rest
  word_equals word rest = w.parts (name_of word) (61 ∷ []) (tokens.Word word ∷ [])
      (tokens.Equals ∷ []) rest (w.words word (61 ∷ rest) refl) (Lexes-equals w rest)

  -- the text of a field is read as the field
  record Reads (text : List ℕ) (field : FieldForm) : Type 0 where
    reads : (rest : List ℕ) → Stops rest → Lexes text (field_tokens field) rest

  numbers_read : (key : Key) (n : ℤ) (ns : List ℤ) → AreShort (n ∷ ns)
      → Reads (name_of (key_word key) ++ codes "=" ++ (signed_decimal n ++ flat_map next_number ns))
      (Values key (n ∷ ns))
  numbers_read key n ns short = record {
    reads = λ rest stop.
        let others = flat_map next_number ns in
        w.parts (name_of (key_word key) ++ codes "=") (signed_decimal n ++ others)
        (tokens.Word (key_word key) ∷ tokens.Equals ∷ []) (tokens.Number n ∷ more_numbers ns) rest
        (word_equals (key_word key) ((signed_decimal n ++ others) ++ rest))
        (w.parts (signed_decimal n) others (tokens.Number n ∷ []) (more_numbers ns) rest
        (w.numbers n (others ++ rest) short.0 (numbers_stop ns rest stop.number))
        (more_lex ns rest short.1 stop.number));
  }

  start_read : (s : Stamp) → IsCalendarMoment s.moment.0
      → Reads (codes "start=" ++ literal_of s.moment.0 s.absolute) (Start (Some s))
  start_read s within = record {
    reads = λ rest stop.
        w.parts (codes "start=") (literal_of s.moment.0 s.absolute)
        (tokens.Word words.Start ∷ tokens.Equals ∷ []) (tokens.Moment (Some s) ∷ []) rest
        (word_equals words.Start (literal_of s.moment.0 s.absolute ++ rest))
        (w.moments s.moment.0 s.absolute rest within stop.moment);
  }

  abbrev AllRead : List (List ℕ) → List FieldForm → Type 0
  AllRead texts fields = AllZip Reads texts fields

  numbers_zip : (key : Key) (ns : List ℤ) (texts : List (List ℕ)) (fields : List FieldForm)
      → AreShort ns → AllRead texts fields → AllRead (numbers_before key ns texts)
      (with_numbers key ns fields)
  numbers_zip key [] texts fields short h = h
  numbers_zip key (n ∷ ns) texts fields short h = (numbers_read key n ns short, h)

  start_zip : (o : Option Stamp) (texts : List (List ℕ)) (fields : List FieldForm)
      → IsCalendarMoment (start_of o) → AllRead texts fields → AllRead (start_before o texts)
      (with_start o fields)
  start_zip None texts fields within h = h
  start_zip (Some s) texts fields within h = (start_read s within, h)

  fields_zip : (r : FieldRule) → HasShort r → IsCalendarMoment (start_of r.start)
      → AllRead (printed_fields r) (written_fields r)
  fields_zip r h within =
      numbers_zip keys.Months r.months _ _ h.months (numbers_zip keys.Weeks r.weeks _ _ h.weeks
      (numbers_zip keys.Days r.days _ _ h.days
      (numbers_zip keys.Hours r.hours _ _ h.hours (numbers_zip keys.Minutes r.minutes _ _ h.minutes
      (numbers_zip keys.Seconds r.seconds _ _ h.seconds
      (numbers_zip keys.Interval (interval_printed r.interval) _ _ h.interval
      (start_zip r.start _ _ within (numbers_zip keys.WeekStart (option_to_list r.week_start) [] []
      h.week_start tt))))))))

  more_fields : (texts : List (List ℕ)) (fields : List FieldForm) (rest : List ℕ)
      → AllRead texts fields → Stops rest → Lexes (flat_map next_field texts) (fields_tokens fields)
      rest
  more_fields [] [] rest h stop = w.nothing rest
  more_fields [] (f ∷ fields) rest h stop = absurd h
  more_fields (t ∷ texts) [] rest h stop = absurd h
  more_fields (t ∷ texts) (f ∷ fields) rest h stop =
      let others = flat_map next_field texts in
      let e : flat_map next_field (t ∷ texts) ≡ codes " " ++ (t ++ others) =
      flat_map-cons next_field t texts ∙ append_assoc (codes " ") t others in
      subst (λ (x : List ℕ). Lexes x (fields_tokens (f ∷ fields)) rest) (sym e)
      (w.parts (codes " ") (t ++ others) [] (fields_tokens (f ∷ fields)) rest
      (w.spaces ((t ++ others) ++ rest))
      (w.parts t others (field_tokens f) (fields_tokens fields) rest
      (h.0.reads (others ++ rest) (fields_stop texts rest stop))
      (more_fields texts fields rest h.1 stop)))

  all_fields : (texts : List (List ℕ)) (fields : List FieldForm) (rest : List ℕ)
      → AllRead texts fields → Stops rest → Lexes (with_spaces texts) (fields_tokens fields) rest
  all_fields [] [] rest h stop = w.nothing rest
  all_fields [] (f ∷ fields) rest h stop = absurd h
  all_fields (t ∷ texts) [] rest h stop = absurd h
  all_fields (t ∷ texts) (f ∷ fields) rest h stop =
      w.parts t (flat_map next_field texts) (field_tokens f) (fields_tokens fields) rest
      (h.0.reads (flat_map next_field texts ++ rest) (fields_stop texts rest stop))
      (more_fields texts fields rest h.1 stop)

  pub rule_lexes : FieldValuesFit → FieldIntervalFits → (r : FieldRule) (rest : List ℕ) → check_of r
      ≡ Ok tt → IsCalendarMoment (start_of r.start)
      → Lexes (field_rule_text r) (rule_tokens r.freq (written_fields r)) rest
  rule_lexes fit intervals r rest ok within =
      let name = name_of (freq_word r.freq) ++ codes "(" in
      let fields = with_spaces (printed_fields r) in
      let close : Stops (codes ")" ++ rest) = record { number = refl; moment = refl } in
      let open_name = w.parts (name_of (freq_word r.freq)) (40 ∷ [])
      (tokens.Word (freq_word r.freq) ∷ []) (tokens.Open ∷ []) ((fields ++ codes ")") ++ rest)
      (w.words (freq_word r.freq) (40 ∷ ((fields ++ codes ")") ++ rest)) refl)
      (Lexes-open w ((fields ++ codes ")") ++ rest)) in
      subst (λ (x : List ℕ). Lexes x (rule_tokens r.freq (written_fields r)) rest)
      (sym (append_assoc name fields (codes ")")))
      (w.parts name (fields ++ codes ")") (tokens.Word (freq_word r.freq) ∷ tokens.Open ∷ [])
      (fields_tokens (written_fields r) ++ tokens.Close ∷ []) rest open_name
      (w.parts fields (codes ")") (fields_tokens (written_fields r)) (tokens.Close ∷ []) rest
      (all_fields (printed_fields r) (written_fields r) (codes ")" ++ rest)
      (fields_zip r (has_short fit intervals r ok) within) close) (Lexes-close w rest)))
