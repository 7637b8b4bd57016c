-- The printed form is read back as its trees.
use Rattle.std.proofs.Common.{◌≡◌, ℕ, ℤ, ◌<◌, ◌≤◌, ◌^◌, unsigned_abs, Bool, true, false, ◌&&◌, cond, List, [], ◌∷◌, ◌++◌, length, Option, Some, None, Ok, refl, sym, ap, subst, ◌∙◌, append_assoc, arith}
use Rattle.std.specs.Prelude.{codes, option_map}
use Rattle.std.specs.Fmt.{signed_decimal}
use Rattle.std.specs.List.{AllByRecursion, flat_map}
use Rattle.std.proofs.lemmas.Bool.Decides.{nat_tests}
use Rattle.std.proofs.lemmas.List.{append-nil}
use Rattle.std.proofs.lemmas.List.Concat.{flat_map-cons}
use Rattle.std.proofs.lemmas.List.Elements.{recursion_from_All}
use Rattle.moment_core.specs.Line.{IsCalendarMoment}
use Rattle.moment_core.specs.declared.line.Clock.{Clock}
use Rattle.moment_core.specs.declared.line.Moment.{Moment}
use Rattle.moment_core.specs.declared.line.Stamp.{Stamp}
use Rattle.moment_text.specs.Laws.{begins_with_zone}
use Rattle.span_core.specs.Bounds.{IsGiven}
use Rattle.span_core.specs.declared.bounds.Bound.{Bound}
use Rattle.span_core.specs.declared.bounds.Bound.TheVariants.{Closed, Open, Inf, Edge}
use Rattle.moment_core.specs.declared.joining.Op.{Op}
use Rattle.moment_core.specs.declared.joining.Op.TheVariants.{Union, Meet, Minus}
use Rattle.moment_core.specs.declared.joining.UnaryOp.{UnaryOp}
use Rattle.moment_core.specs.declared.joining.UnaryOp.TheVariants.{Not}
use Rattle.expr_tokens.specs.declared.token.Word.{Word}
use Rattle.expr_tokens.specs.declared.token.Word.TheVariants as words
use Rattle.expr_tokens.specs.Plain.{Token}
use Rattle.expr_tokens.specs.Plain as tokens
use Rattle.expr_tokens.specs.Names.{name_of}
use Rattle.expr_tokens.specs.Laws.{Lexes}
use Rattle.expr_tokens.specs.Class.{holds}
use Rattle.expr_tokens.specs.Reading.{string_limit}
use Rattle.expr_tokens.specs.declared.class.Class.TheVariants as classes
use Rattle.expr_text.proofs.Signs.{Writing, Lexes-close, Lexes-comma, Lexes-exclamation, Lexes-left_brace, Lexes-meet, Lexes-minus, Lexes-open, Lexes-right_brace, Lexes-semicolon, Lexes-union}
use Rattle.expr_grammar.specs.declared.syntax.SpanBound.{SpanBound}
use Rattle.std.specs.Option.{option_to_list}
use Rattle.rule_core.specs.Laws.{FieldIntervalFits, FieldValuesFit}
use Rattle.rule_core.specs.declared.field.FieldRule.{FieldRule}
use Rattle.rule_core.specs.declared.ical.IcalRule.{IcalRule}
use Rattle.rrule_text.specs.Laws.{WrittenIsPlain, WrittenIsRead, is_plain}
use Rattle.rrule_text.specs.Writing.{text_of}
use Rattle.rule_core.specs.declared.part.Freq.{Freq}
use Rattle.rule_core.specs.declared.part.Freq.TheVariants as freqs
use Rattle.expr_grammar.specs.declared.syntax.Key.{Key}
use Rattle.expr_grammar.specs.declared.syntax.Key.TheVariants as keys
use Rattle.expr_grammar.specs.Calls.{call_of, number_end_tokens}
use Rattle.expr_grammar.specs.Fields.{field_tokens, fields_tokens, freq_word, key_word, more_numbers, rule_tokens}
use Rattle.expr_grammar.specs.Form.{FieldForm, Values, Start}
use Rattle.expr_tree.specs.WellFormed.{AreWellFormed, IsWellFormed}
use Rattle.expr_grammar.specs.Grammar.{rrule_tokens}
use Rattle.expr_text.specs.Rrules.{fault_of}
use Rattle.expr_print.specs.Fields.{interval_printed}
use Rattle.expr_text.proofs.RulesBack.{rule_back, with_numbers, with_start, written_fields}
use Rattle.expr_text.proofs.RuleText.{rule_lexes}
use Rattle.expr_grammar.specs.Nesting.{bounds_tokens, high_word, in_brackets, is_joined, low_word, more_tokens, spelled, spelled_program, spelled_second, unary_tokens}
use Rattle.moment_core.proofs.Lists.{all_both, all_weaker}
use Rattle.expr_grammar.specs.Laws.{PrintedIsSpelled}
use Rattle.expr_tree.specs.Sorts.{looks_past, reach_of}
use Rattle.expr_tree.specs.Tree.{Rule, Listed, Field, Ical, Tree, Empty, Spanned, Ruled, Joined, Pairs, Unary, Trees}
use Rattle.expr_text.specs.Accepted.{AreRead, IsRead, held, sorted, spelled as spelled_so}
use Rattle.expr_text.specs.declared.fault.TheConstants.{LONGEST}
use Rattle.phases.specs.Phases.{goes_on}
use Rattle.expr_text.specs.Calls.{calls_unbuilt, names_unbuilt}
use Rattle.expr_text.specs.Faults.{HasPosition, Tokens, first_nameless, first_rrule_fault, first_rule_fault, is_nameless, kinds_of, rrule_fault, rule_fault, second_rrule_fault, second_rule_fault, second_spans, sort_fault, spans_of}
use Rattle.expr_print.specs.Printing.{bracketed, call_text, comma_text, high_text, is_at_moment, is_join, low_text, moment_text, next_stamp, number_text, print, print_program, print_second, rrule_text, sign_text, stamp_text, unary_text}
use Rattle.expr_text.specs.Trees.{bound_of}
use Rattle.expr_text.proofs.Places.{short_text, stand_in}
use Rattle.expr_text.specs.Laws.{HasShortSecond, HasShortStrings}
use Rattle.expr_text.proofs.Written.{AreModest, AreShown, IsModestSecond, IsShown, IsShownSecond, all_modest, all_printable, all_shown, all_written, bound_back, first_shown, joined_same, literals_of, other_shown, stamp_at, trees_back, written, written_bound}

along : (a b : List ℕ) (ts : List Token) (rest : List ℕ) → a ≡ b → Lexes b ts rest → Lexes a ts rest
along a b ts rest e h = subst (λ (x : List ℕ). Lexes x ts rest) (sym e) h

spelled_as : (a : List ℕ) (ts us : List Token) (rest : List ℕ) → us ≡ ts → Lexes a ts rest
    → Lexes a us rest
spelled_as a ts us rest e h = subst (λ (x : List Token). Lexes a x rest) (sym e) h

-- what the printed bounds of a span are read as
abbrev low_tokens : Option SpanBound → List Token
low_tokens None = []
low_tokens (Some b) = tokens.Word (low_word b.closed) ∷ tokens.Moment b.stamp ∷ []

abbrev high_tokens : Option SpanBound → List Token
high_tokens None = []
high_tokens (Some b) = tokens.Word (high_word b.closed) ∷ tokens.Moment b.stamp ∷ []

abbrev is_given : Option SpanBound → Bool
is_given None = false
is_given (Some b) = true

abbrev comma_tokens : Bool → List Token
comma_tokens b = cond b (tokens.Comma ∷ []) []

bounds_parts : (a b : Option SpanBound) (rest : List Token) → bounds_tokens a b ++ rest
    ≡ low_tokens a ++ (comma_tokens (is_given a && is_given b) ++ (high_tokens b ++ rest))
bounds_parts None None rest = refl
bounds_parts (Some a) None rest = refl
bounds_parts None (Some b) rest = refl
bounds_parts (Some a) (Some b) rest = refl

given_same : (b : Bound) (clock : Clock) → is_at_moment b ≡ is_given (written_bound b clock)
given_same (Closed t) clock = refl
given_same (Open t) clock = refl
given_same Inf clock = refl
given_same Edge clock = refl

-- no Z stands behind a bound
no_zone_high : (b : Bool) (high : Bound) (clock : Clock) (rest : List ℕ)
    → begins_with_zone (cond (b && is_at_moment high) (codes ", ") []
    ++ (high_text high clock ++ (codes ")" ++ rest))) ≡ false
no_zone_high true (Closed t) clock rest = refl
no_zone_high true (Open t) clock rest = refl
no_zone_high true Inf clock rest = refl
no_zone_high true Edge clock rest = refl
no_zone_high false (Closed t) clock rest = refl
no_zone_high false (Open t) clock rest = refl
no_zone_high false Inf clock rest = refl
no_zone_high false Edge clock rest = refl

-- neither an unbuilt call's name nor a literal without a moment
abbrev IsPlain : Token → Type 0
IsPlain t = (names_unbuilt t ≡ false) × (is_nameless t ≡ false)

abbrev ArePlain : List Token → Type 0
ArePlain ts = AllByRecursion IsPlain ts

plain_brackets : (b : Bool) (ts : List Token) → ArePlain ts → ArePlain (in_brackets b ts)
plain_brackets true ts h =
    ((refl, refl), all_both IsPlain ts (tokens.Close ∷ []) h ((refl, refl), tt))
plain_brackets false ts h = h

plain_more : (ss : List Stamp) → ArePlain (more_tokens (literals_of ss))
plain_more [] = ((refl, refl), tt)
plain_more (s ∷ ss) = ((refl, refl), ((refl, refl), plain_more ss))

plain_bounds : (a b : Bound) (low high : Clock)
    → ArePlain (bounds_tokens (written_bound a low) (written_bound b high))
plain_bounds (Closed t) (Closed u) low high =
    ((refl, refl), ((refl, refl), ((refl, refl), ((refl, refl), ((refl, refl), tt)))))
plain_bounds (Closed t) (Open u) low high =
    ((refl, refl), ((refl, refl), ((refl, refl), ((refl, refl), ((refl, refl), tt)))))
plain_bounds (Open t) (Closed u) low high =
    ((refl, refl), ((refl, refl), ((refl, refl), ((refl, refl), ((refl, refl), tt)))))
plain_bounds (Open t) (Open u) low high =
    ((refl, refl), ((refl, refl), ((refl, refl), ((refl, refl), ((refl, refl), tt)))))
plain_bounds (Closed t) Inf low high = ((refl, refl), ((refl, refl), tt))
plain_bounds (Closed t) Edge low high = ((refl, refl), ((refl, refl), tt))
plain_bounds (Open t) Inf low high = ((refl, refl), ((refl, refl), tt))
plain_bounds (Open t) Edge low high = ((refl, refl), ((refl, refl), tt))
plain_bounds Inf (Closed u) low high = ((refl, refl), ((refl, refl), tt))
plain_bounds Inf (Open u) low high = ((refl, refl), ((refl, refl), tt))
plain_bounds Edge (Closed u) low high = ((refl, refl), ((refl, refl), tt))
plain_bounds Edge (Open u) low high = ((refl, refl), ((refl, refl), tt))
plain_bounds Inf Inf low high = tt
plain_bounds Inf Edge low high = tt
plain_bounds Edge Inf low high = tt
plain_bounds Edge Edge low high = tt

plain_joined : (op : Op) (b c : Bool) (ts us : List Token) → ArePlain ts → ArePlain us
    → ArePlain (in_brackets b ts ++ tokens.Operator op ∷ in_brackets c us)
plain_joined op b c ts us h k = all_both IsPlain (in_brackets b ts)
    (tokens.Operator op ∷ in_brackets c us) (plain_brackets b ts h)
    ((refl, refl), plain_brackets c us k)

plain_end : (number : Option ℤ) → ArePlain (number_end_tokens number)
plain_end None = ((refl, refl), tt)
plain_end (Some n) = ((refl, refl), ((refl, refl), ((refl, refl), tt)))

abbrev HasPlainName : Option (Word × Option ℤ) → Type 0
HasPlainName None = Unit {0}
HasPlainName (Some call) = IsPlain (tokens.Word call.0)

plain_name : (op : UnaryOp) → HasPlainName (call_of op)
plain_name Not = tt
plain_name op = (refl, refl)

plain_unary : (by : Option (Word × Option ℤ)) (joined : Bool) (ts : List Token)
    → HasPlainName by → ArePlain ts → ArePlain (unary_tokens by joined ts)
plain_unary None joined ts name h = ((refl, refl), plain_brackets joined ts h)
plain_unary (Some call) joined ts name h =
    let end = number_end_tokens call.1 in
    (name, ((refl, refl), all_both IsPlain ts end h (plain_end call.1)))

plain_pairs : (ts us : List Token) → ArePlain ts → ArePlain us
    → ArePlain (ts ++ (tokens.Comma ∷ us ++ tokens.Close ∷ []))
plain_pairs ts us h k = all_both IsPlain ts (tokens.Comma ∷ us ++ tokens.Close ∷ []) h
    ((refl, refl), all_both IsPlain us (tokens.Close ∷ []) k ((refl, refl), tt))

plain_freq : (freq : Freq) → IsPlain (tokens.Word (freq_word freq))
plain_freq freqs.Yearly = (refl, refl)
plain_freq freqs.Monthly = (refl, refl)
plain_freq freqs.Weekly = (refl, refl)
plain_freq freqs.Daily = (refl, refl)
plain_freq freqs.Hourly = (refl, refl)
plain_freq freqs.Minutely = (refl, refl)
plain_freq freqs.Secondly = (refl, refl)

plain_key : (key : Key) → IsPlain (tokens.Word (key_word key))
plain_key keys.Months = (refl, refl)
plain_key keys.Weeks = (refl, refl)
plain_key keys.Days = (refl, refl)
plain_key keys.Hours = (refl, refl)
plain_key keys.Minutes = (refl, refl)
plain_key keys.Seconds = (refl, refl)
plain_key keys.Interval = (refl, refl)
plain_key keys.WeekStart = (refl, refl)

plain_numbers : (ns : List ℤ) → ArePlain (more_numbers ns)
plain_numbers [] = tt
plain_numbers (n ∷ ns) = ((refl, refl), ((refl, refl), plain_numbers ns))

-- a start names a moment
abbrev IsNamedField : FieldForm → Type 0
IsNamedField (Values key ns) = Unit {0}
IsNamedField (Start None) = ⊥
IsNamedField (Start (Some s)) = Unit {0}

plain_field : (f : FieldForm) → IsNamedField f → ArePlain (field_tokens f)
plain_field (Values key []) h = (plain_key key, ((refl, refl), tt))
plain_field (Values key (n ∷ ns)) h =
    (plain_key key, ((refl, refl), ((refl, refl), plain_numbers ns)))
plain_field (Start None) h = absurd h
plain_field (Start (Some s)) h = ((refl, refl), ((refl, refl), ((refl, refl), tt)))

plain_fields : (fields : List FieldForm) → AllByRecursion IsNamedField fields
    → ArePlain (fields_tokens fields)
plain_fields [] h = tt
plain_fields (f ∷ fields) h = all_both IsPlain (field_tokens f) (fields_tokens fields)
    (plain_field f h.0) (plain_fields fields h.1)

plain_rule : (freq : Freq) (fields : List FieldForm) → AllByRecursion IsNamedField fields
    → ArePlain (rule_tokens freq fields)
plain_rule freq fields h = (
  plain_freq freq,
  (
    (refl, refl),
    all_both IsPlain (fields_tokens fields) (tokens.Close ∷ [])
        (plain_fields fields h) ((refl, refl), tt),
  ),
)

numbers_named : (key : Key) (ns : List ℤ) (fields : List FieldForm) → AllByRecursion IsNamedField
    fields → AllByRecursion IsNamedField (with_numbers key ns fields)
numbers_named key [] fields h = h
numbers_named key (n ∷ ns) fields h = (tt, h)

start_named : (o : Option Stamp) (fields : List FieldForm) → AllByRecursion IsNamedField fields
    → AllByRecursion IsNamedField (with_start o fields)
start_named None fields h = h
start_named (Some s) fields h = (tt, h)

named_fields : (r : FieldRule) → AllByRecursion IsNamedField (written_fields r)
named_fields r =
    numbers_named keys.Months r.months _
    (numbers_named keys.Weeks r.weeks _
    (numbers_named keys.Days r.days _ (numbers_named keys.Hours r.hours _
    (numbers_named keys.Minutes r.minutes _
    (numbers_named keys.Seconds r.seconds _
    (numbers_named keys.Interval (interval_printed r.interval) _
    (start_named r.start _ (numbers_named keys.WeekStart (option_to_list r.week_start) [] tt))))))))

no_fault : (t : Tree Rule) → IsShown t → rule_fault (written t) ≡ None
no_fault Empty h = refl
no_fault (Ruled (Listed stamps)) h = refl
no_fault (Spanned bounds low high) h = refl
no_fault (Ruled (Field rule)) h = rw (rule_back rule, h.0.0) refl
no_fault (Ruled (Ical rule)) h = refl
no_fault (Joined op a b) h = rw (no_fault a (first_shown h), no_fault b (other_shown h)) refl
no_fault (Pairs a b) h = rw (no_fault a (first_shown h), no_fault b (other_shown h)) refl
no_fault (Unary op a) h = no_fault a h

no_second_fault : (o : Option (Tree Rule)) → IsShownSecond o
    → second_rule_fault (option_map written o) ≡ None
no_second_fault None h = refl
no_second_fault (Some t) h = no_fault t h

no_rule_fault : (p : Trees) → AreShown p → first_rule_fault (all_written p) ≡ None
no_rule_fault p h = rw (no_fault p.first h.0, no_second_fault p.second h.1) refl

plain_spelled : (t : Tree Rule) → IsShown t → ArePlain (spelled (written t))
unfolding spelled
plain_spelled Empty h = ((refl, refl), ((refl, refl), ((refl, refl), tt)))
plain_spelled (Ruled (Listed [])) h = absurd (omega (arith, h.0.0))
plain_spelled (Ruled (Listed (s ∷ ss))) h = ((refl, refl), ((refl, refl), plain_more ss))
plain_spelled (Spanned bounds low high) h = (
  (refl, refl),
  (
    (refl, refl),
    all_both IsPlain (bounds_tokens (written_bound bounds.0 low)
        (written_bound bounds.1 high)) (tokens.Close ∷ []) (plain_bounds bounds.0 bounds.1 low high)
        ((refl, refl), tt),
  ),
)
plain_spelled (Ruled (Field rule)) h = plain_rule rule.freq (written_fields rule)
    (named_fields rule)
plain_spelled (Ruled (Ical rule)) h = (
  (refl, refl),
  ((refl, refl), ((refl, refl), ((refl, refl), ((refl, refl), ((refl, refl), tt))))),
)
plain_spelled (Joined op a b) h = plain_joined op (is_joined (written a)) (is_joined (written b))
    (spelled (written a)) (spelled (written b)) (plain_spelled a (first_shown h))
    (plain_spelled b (other_shown h))
plain_spelled (Pairs a b) h = (
  (refl, refl),
  (
    (refl, refl),
    plain_pairs (spelled (written a)) (spelled (written b))
        (plain_spelled a (first_shown h)) (plain_spelled b (other_shown h)),
  ),
)
plain_spelled (Unary op a) h =
    let w = written a in
    plain_unary (call_of op) (is_joined w) (spelled w) (plain_name op) (plain_spelled a h)

plain_second : (o : Option (Tree Rule)) → IsShownSecond o
    → ArePlain (spelled_second (option_map written o))
plain_second None h = tt
plain_second (Some t) h = ((refl, refl), plain_spelled t h)

no_call : (ts : List Token) → ArePlain ts → calls_unbuilt ts ≡ false
unfolding calls_unbuilt
no_call [] h = refl
no_call (t ∷ ts) h = rw (h.0.0) (no_call ts h.1)

no_nameless : (ts : Tokens) → ArePlain (kinds_of ts) → first_nameless ts ≡ None
no_nameless [] h = refl
no_nameless (t ∷ ts) h = rw (h.0.1) (no_nameless ts h.1)

spans_held : (t : Tree Rule) → IsShown t → AllByRecursion HasPosition (spans_of (written t))
spans_held Empty h = tt
spans_held (Ruled (Listed stamps)) h = tt
spans_held (Spanned bounds low high) h =
    let position : HasPosition (
      bound_of (written_bound bounds.0 low),
      bound_of
          (written_bound bounds.1 high),
    ) =
    rw (bound_back bounds.0 low h.0.0.low_given, bound_back bounds.1 high h.0.0.high_given)
    h.0.0.some in
    (position, tt)
spans_held (Ruled (Field rule)) h = tt
spans_held (Ruled (Ical rule)) h = tt
spans_held (Joined op a b) h = all_both HasPosition (spans_of (written a)) (spans_of (written b))
    (spans_held a (first_shown h)) (spans_held b (other_shown h))
spans_held (Pairs a b) h = all_both HasPosition (spans_of (written a)) (spans_of (written b))
    (spans_held a (first_shown h)) (spans_held b (other_shown h))
spans_held (Unary op a) h = spans_held a h

second_held : (o : Option (Tree Rule)) → IsShownSecond o → AllByRecursion HasPosition
    (second_spans (option_map written o))
second_held None h = tt
second_held (Some t) h = spans_held t h

-- bytes of a rule's written form may stand between quotes
plain_quoted : (b : ℕ) → is_plain b ≡ true → holds classes.Quoted b ≡ true
plain_quoted b h = grind (arith, nat_tests)

no_text_fault : WrittenIsRead → (t : Tree Rule) → IsShown t → rrule_fault (written t) ≡ None
no_text_fault back Empty h = refl
no_text_fault back (Ruled (Listed stamps)) h = refl
no_text_fault back (Spanned bounds low high) h = refl
no_text_fault back (Ruled (Field rule)) h = refl
no_text_fault back (Ruled (Ical rule)) h = ap fault_of (back rule h.0.0 h.0.1)
no_text_fault back (Joined op a b) h =
    rw (no_text_fault back a (first_shown h), no_text_fault back b (other_shown h)) refl
no_text_fault back (Pairs a b) h = rw (
  no_text_fault back a (first_shown h),
  no_text_fault back b
      (other_shown h),
) refl
no_text_fault back (Unary op a) h = no_text_fault back a h

no_second_text_fault : WrittenIsRead → (o : Option (Tree Rule)) → IsShownSecond o
    → second_rrule_fault (option_map written o) ≡ None
no_second_text_fault back None h = refl
no_second_text_fault back (Some t) h = no_text_fault back t h

no_rrule_fault : WrittenIsRead → (p : Trees) → AreShown p → first_rrule_fault (all_written p) ≡ None
no_rrule_fault back p h = rw (
  no_text_fault back p.first h.0,
  no_second_text_fault back p.second
      h.1,
) refl

-- the number of a call
abbrev size_of : Option ℤ → ℕ
size_of None = 0
size_of (Some n) = unsigned_abs n

abbrev call_size : Option (Word × Option ℤ) → ℕ
call_size None = 0
call_size (Some call) = size_of call.1

-- is no greater than what the operator looks past
call_near : (op : UnaryOp) → call_size (call_of op) ≤ looks_past op
call_near Not = omega arith
call_near op = omega arith

module _ (program_spelled : PrintedIsSpelled) (writing : Writing) (fit : FieldValuesFit)
    (intervals : FieldIntervalFits) (back : WrittenIsRead) (plain : WrittenIsPlain) where
  -- three texts, one behind the other
  three : (a b c : List ℕ) (ts us vs : List Token) (rest : List ℕ) → Lexes a ts ((b ++ c) ++ rest)
      → Lexes b us (c ++ rest) → Lexes c vs rest → Lexes (a ++ b ++ c) (ts ++ (us ++ vs)) rest
  three a b c ts us vs rest first second third =
      along (a ++ b ++ c) (a ++ (b ++ c)) (ts ++ (us ++ vs)) rest (append_assoc a b c)
      (writing.parts a (b ++ c) ts (us ++ vs) rest first
      (writing.parts b c us vs rest second third))

  -- a sign between two spaces
  spaced : (b : ℕ) (t : Token) (rest : List ℕ) → Lexes (b ∷ []) (t ∷ []) (32 ∷ rest)
      → Lexes (32 ∷ b ∷ 32 ∷ []) (t ∷ []) rest
  spaced b t rest h = writing.parts (32 ∷ []) (b ∷ 32 ∷ []) [] (t ∷ []) rest
      (writing.spaces (b ∷ 32 ∷ rest)) (writing.parts (b ∷ []) (32 ∷ []) (t ∷ []) [] rest h
      (writing.spaces rest))

  sign_lexes : (op : Op) (rest : List ℕ) → Lexes (sign_text op) (tokens.Operator op ∷ []) rest
  sign_lexes Union rest = spaced 124 (tokens.Operator Union) rest (Lexes-union writing (32 ∷ rest))
  sign_lexes Meet rest = spaced 38 (tokens.Operator Meet) rest (Lexes-meet writing (32 ∷ rest))
  sign_lexes Minus rest = spaced 45 (tokens.Operator Minus) rest (Lexes-minus writing rest)

  comma : (rest : List ℕ) → Lexes (codes ", ") (tokens.Comma ∷ []) rest
  comma rest = writing.parts (44 ∷ []) (32 ∷ []) (tokens.Comma ∷ []) [] rest
      (Lexes-comma writing (32 ∷ rest)) (writing.spaces rest)

  -- a word and a space
  word_space : (w : Word) (rest : List ℕ) → Lexes (name_of w ++ codes " ") (tokens.Word w ∷ []) rest
  word_space w rest = writing.parts (name_of w) (32 ∷ []) (tokens.Word w ∷ []) [] rest
      (writing.words w (32 ∷ rest) refl) (writing.spaces rest)

  -- a word and a bracket
  word_open : (w : Word) (rest : List ℕ) → Lexes (name_of w ++ codes "(")
      (tokens.Word w ∷ tokens.Open ∷ []) rest
  word_open w rest = writing.parts (name_of w) (40 ∷ []) (tokens.Word w ∷ []) (tokens.Open ∷ [])
      rest (writing.words w (40 ∷ rest) refl) (Lexes-open writing rest)

  empty_call : (rest : List ℕ) → Lexes (codes "empty()") (tokens.Word words.Empty ∷ tokens.Open ∷
      tokens.Close ∷ []) rest
  empty_call rest = writing.parts (codes "empty(") (41 ∷ [])
      (tokens.Word words.Empty ∷ tokens.Open ∷ []) (tokens.Close ∷ []) rest
      (word_open words.Empty (41 ∷ rest)) (Lexes-close writing rest)

  brackets_lex : (b : Bool) (text : List ℕ) (ts : List Token) (rest : List ℕ)
      → ((r : List ℕ) → Lexes text ts r) → Lexes (bracketed b text) (in_brackets b ts) rest
  brackets_lex false text ts rest h = h rest
  brackets_lex true text ts rest h = three (codes "(") text (codes ")") (tokens.Open ∷ []) ts
      (tokens.Close ∷ []) rest (Lexes-open writing ((text ++ codes ")") ++ rest))
      (h (codes ")" ++ rest)) (Lexes-close writing rest)

  comma_lexes : (b : Bool) (rest : List ℕ) → Lexes (cond b (codes ", ") []) (comma_tokens b) rest
  comma_lexes true rest = comma rest
  comma_lexes false rest = writing.nothing rest

  stamp_lexes : (s : Stamp) (rest : List ℕ) → IsCalendarMoment s.moment.0 → begins_with_zone rest
      ≡ false → Lexes (stamp_text s) (tokens.Moment (Some s) ∷ []) rest
  stamp_lexes s rest within stop = writing.moments s.moment.0 s.absolute rest within stop

  no_zone_more : (ss : List Stamp) (rest : List ℕ)
      → begins_with_zone ((flat_map next_stamp ss ++ codes "}") ++ rest) ≡ false
  no_zone_more [] rest = refl
  no_zone_more (s ∷ ss) rest = ap (λ (x : List ℕ). begins_with_zone ((x ++ codes "}") ++ rest))
      (flat_map-cons next_stamp s ss)

  more_lexes : (ss : List Stamp) (rest : List ℕ)
      → AllByRecursion (λ (s : Stamp). IsCalendarMoment s.moment.0) ss
      → Lexes (flat_map next_stamp ss ++ codes "}") (more_tokens (literals_of ss)) rest
  more_lexes [] rest h = Lexes-right_brace writing rest
  more_lexes (s ∷ ss) rest h =
      let others = flat_map next_stamp ss ++ codes "}" in
      let e : flat_map next_stamp (s ∷ ss) ++ codes "}" ≡ codes ", " ++ (stamp_text s ++ others) =
      ap (λ (x : List ℕ). x ++ codes "}") (flat_map-cons next_stamp s ss)
      ∙ append_assoc (codes ", " ++ stamp_text s) (flat_map next_stamp ss) (codes "}")
      ∙ append_assoc (codes ", ") (stamp_text s) others in
      along (flat_map next_stamp (s ∷ ss) ++ codes "}") (codes ", " ++ (stamp_text s ++ others))
      (more_tokens (literals_of (s ∷ ss))) rest e
      (writing.parts (codes ", ") (stamp_text s ++ others) (tokens.Comma ∷ [])
      (tokens.Moment (Some s) ∷ more_tokens (literals_of ss)) rest
      (comma ((stamp_text s ++ others) ++ rest))
      (writing.parts (stamp_text s) others (tokens.Moment (Some s) ∷ [])
      (more_tokens (literals_of ss)) rest
      (stamp_lexes s (others ++ rest) h.0 (no_zone_more ss rest)) (more_lexes ss rest h.1)))

  list_lexes : (s : Stamp) (ss : List Stamp) (rest : List ℕ)
      → AllByRecursion (λ (x : Stamp). IsCalendarMoment x.moment.0) (s ∷ ss)
      → Lexes (codes "{" ++ (stamp_text s ++ flat_map next_stamp ss) ++ codes "}")
      (tokens.LeftBrace ∷ tokens.Moment (Some s) ∷ more_tokens (literals_of ss)) rest
  list_lexes s ss rest h =
      let others = flat_map next_stamp ss ++ codes "}" in
      let e : codes "{" ++ (stamp_text s ++ flat_map next_stamp ss) ++ codes "}" ≡ codes "{"
      ++ (stamp_text s ++ others) = ap (λ (x : List ℕ). codes "{" ++ x)
      (append_assoc (stamp_text s) (flat_map next_stamp ss) (codes "}")) in
      along (codes "{" ++ (stamp_text s ++ flat_map next_stamp ss) ++ codes "}")
      (codes "{" ++ (stamp_text s ++ others)) (tokens.LeftBrace ∷ tokens.Moment (Some s) ∷
      more_tokens (literals_of ss)) rest e
      (writing.parts (codes "{") (stamp_text s ++ others) (tokens.LeftBrace ∷ [])
      (tokens.Moment (Some s) ∷ more_tokens (literals_of ss)) rest
      (Lexes-left_brace writing ((stamp_text s ++ others) ++ rest))
      (writing.parts (stamp_text s) others (tokens.Moment (Some s) ∷ [])
      (more_tokens (literals_of ss)) rest
      (stamp_lexes s (others ++ rest) h.0 (no_zone_more ss rest)) (more_lexes ss rest h.1)))

  -- a word, a space and a moment
  word_moment : (w : Word) (t : Moment) (clock : Clock) (rest : List ℕ) → IsCalendarMoment t.0
      → begins_with_zone rest ≡ false → Lexes ((name_of w ++ codes " ") ++ moment_text t clock)
      (tokens.Word w ∷ tokens.Moment (Some (stamp_at t clock)) ∷ []) rest
  word_moment w t clock rest within stop =
      writing.parts (name_of w ++ codes " ") (moment_text t clock) (tokens.Word w ∷ [])
      (tokens.Moment (Some (stamp_at t clock)) ∷ []) rest
      (word_space w (moment_text t clock ++ rest)) (stamp_lexes (stamp_at t clock) rest within stop)

  low_lexes : (b : Bound) (clock : Clock) (rest : List ℕ) → IsGiven b → begins_with_zone rest
      ≡ false → Lexes (low_text b clock) (low_tokens (written_bound b clock)) rest
  low_lexes (Closed t) clock rest h stop = word_moment words.Start t clock rest h stop
  low_lexes (Open t) clock rest h stop = word_moment words.After t clock rest h stop
  low_lexes Inf clock rest h stop = writing.nothing rest
  low_lexes Edge clock rest h stop = absurd h

  high_lexes : (b : Bound) (clock : Clock) (rest : List ℕ) → IsGiven b → begins_with_zone rest
      ≡ false → Lexes (high_text b clock) (high_tokens (written_bound b clock)) rest
  high_lexes (Closed t) clock rest h stop = word_moment words.End t clock rest h stop
  high_lexes (Open t) clock rest h stop = word_moment words.Before t clock rest h stop
  high_lexes Inf clock rest h stop = writing.nothing rest
  high_lexes Edge clock rest h stop = absurd h

  span_lexes : (low high : Bound) (c d : Clock) (rest : List ℕ) → IsGiven low → IsGiven high
      → Lexes (codes "span(" ++ low_text low c ++ comma_text low high ++ high_text high d
      ++ codes ")")
      (tokens.Word words.Span ∷ tokens.Open ∷ bounds_tokens (written_bound low c)
      (written_bound high d) ++ tokens.Close ∷ []) rest
  span_lexes low high c d rest first second =
      let L = low_text low c in
      let C = comma_text low high in
      let H = high_text high d in
      let end = codes ")" in
      let a = written_bound low c in
      let b = written_bound high d in
      let e : codes "span(" ++ L ++ C ++ H ++ end ≡ codes "span(" ++ (L ++ (C ++ (H ++ end))) =
      append_assoc (codes "span(" ++ L ++ C) H end ∙ append_assoc (codes "span(" ++ L) C (H ++ end)
      ∙ append_assoc (codes "span(") L (C ++ (H ++ end)) in
      let same : is_at_moment low && is_at_moment high ≡ is_given a && is_given b =
      rw (given_same low c, given_same high d) refl in
      let between : Lexes C (comma_tokens (is_given a && is_given b)) ((H ++ end) ++ rest) =
      spelled_as C (comma_tokens (is_at_moment low && is_at_moment high))
      (comma_tokens (is_given a && is_given b)) ((H ++ end) ++ rest) (ap comma_tokens (sym same))
      (comma_lexes (is_at_moment low && is_at_moment high) ((H ++ end) ++ rest)) in
      let stop : begins_with_zone ((C ++ (H ++ end)) ++ rest) ≡ false =
      rw (append_assoc C (H ++ end) rest, append_assoc H end rest)
      (no_zone_high (is_at_moment low) high d rest) in
      let us = low_tokens a ++ (comma_tokens (is_given a && is_given b)
      ++ (high_tokens b ++ tokens.Close ∷ [])) in
      let inner : Lexes (L ++ (C ++ (H ++ end))) us rest =
      writing.parts L (C ++ (H ++ end)) (low_tokens a) (comma_tokens (is_given a && is_given b)
      ++ (high_tokens b ++ tokens.Close ∷ [])) rest (low_lexes low c ((C ++ (H ++ end)) ++ rest)
      first stop)
      (writing.parts C (H ++ end) (comma_tokens (is_given a && is_given b))
      (high_tokens b ++ tokens.Close ∷ []) rest between
      (writing.parts H end (high_tokens b) (tokens.Close ∷ []) rest
      (high_lexes high d (end ++ rest) second refl) (Lexes-close writing rest))) in
      let whole : Lexes (codes "span(" ++ (L ++ (C ++ (H ++ end))))
      (tokens.Word words.Span ∷ tokens.Open ∷ us) rest =
      writing.parts (codes "span(") (L ++ (C ++ (H ++ end)))
      (tokens.Word words.Span ∷ tokens.Open ∷ []) us rest
      (word_open words.Span ((L ++ (C ++ (H ++ end))) ++ rest)) inner in
      along (codes "span(" ++ L ++ C ++ H ++ end) (codes "span(" ++ (L ++ (C ++ (H ++ end))))
      (tokens.Word words.Span ∷ tokens.Open ∷ bounds_tokens a b ++ tokens.Close ∷ []) rest e
      (spelled_as (codes "span(" ++ (L ++ (C ++ (H ++ end))))
      (tokens.Word words.Span ∷ tokens.Open ∷ us)
      (tokens.Word words.Span ∷ tokens.Open ∷ bounds_tokens a b ++ tokens.Close ∷ []) rest
      (ap (λ (x : List Token). tokens.Word words.Span ∷ tokens.Open ∷ x)
      (bounds_parts a b (tokens.Close ∷ []))) whole)

  rrule_lexes : (rule : IcalRule) (rest : List ℕ) → IsWellFormed (Ruled (Ical rule))
      → length (text_of rule) ≤ string_limit
      → Lexes (rrule_text rule) (rrule_tokens (text_of rule) (Some rule.start)) rest
  rrule_lexes rule rest h short =
      let T = text_of rule in
      let S = stamp_text rule.start in
      let end = codes ")" in
      let behind = codes ", " ++ (S ++ end) in
      let string = 34 ∷ T ++ 34 ∷ [] in
      let quoted = all_weaker is_plain (holds classes.Quoted) plain_quoted T (plain rule h.0 h.1) in
      let e : rrule_text rule ≡ codes "rrule(" ++ (string ++ behind) =
      ap (λ (x : List ℕ). codes "rrule(\"" ++ x) (append_assoc (T ++ codes "\", ") S end
      ∙ append_assoc T (codes "\", ") (S ++ end) ∙ sym (append_assoc T (34 ∷ []) behind)) in
      along (rrule_text rule) (codes "rrule(" ++ (string ++ behind))
      (rrule_tokens T (Some rule.start)) rest e
      (writing.parts (codes "rrule(") (string ++ behind) (tokens.Word words.Rrule ∷ tokens.Open ∷
      []) (tokens.Text T ∷ tokens.Comma ∷ tokens.Moment (Some rule.start) ∷ tokens.Close ∷ []) rest
      (word_open words.Rrule ((string ++ behind) ++ rest))
      (writing.parts string behind (tokens.Text T ∷ [])
      (tokens.Comma ∷ tokens.Moment (Some rule.start) ∷ tokens.Close ∷ []) rest
      (writing.strings T (behind ++ rest) quoted short)
      (writing.parts (codes ", ") (S ++ end) (tokens.Comma ∷ [])
      (tokens.Moment (Some rule.start) ∷ tokens.Close ∷ []) rest (comma ((S ++ end) ++ rest))
      (writing.parts S end (tokens.Moment (Some rule.start) ∷ []) (tokens.Close ∷ []) rest
      (stamp_lexes rule.start (end ++ rest) h.2 refl) (Lexes-close writing rest)))))

  -- an operand in its brackets
  operand_lexes : (t : Tree Rule) (rest : List ℕ)
      → ((r : List ℕ) → Lexes (print t) (spelled (written t)) r)
      → Lexes (bracketed (is_join t) (print t))
      (in_brackets (is_joined (written t)) (spelled (written t))) rest
  operand_lexes t rest h =
      rw (joined_same t) (brackets_lex (is_join t) (print t) (spelled (written t)) rest h)

  joined_lexes : (op : Op) (a b : Tree Rule) (rest : List ℕ)
      → ((r : List ℕ) → Lexes (print a) (spelled (written a)) r)
      → ((r : List ℕ) → Lexes (print b) (spelled (written b)) r)
      → Lexes (bracketed (is_join a) (print a) ++ sign_text op ++ bracketed (is_join b) (print b))
      (in_brackets (is_joined (written a)) (spelled (written a)) ++ tokens.Operator op ∷ in_brackets
      (is_joined (written b)) (spelled (written b))) rest
  joined_lexes op a b rest first second =
      let x = bracketed (is_join a) (print a) in
      let y = bracketed (is_join b) (print b) in
      three x (sign_text op) y (in_brackets (is_joined (written a)) (spelled (written a)))
      (tokens.Operator op ∷ []) (in_brackets (is_joined (written b)) (spelled (written b))) rest
      (operand_lexes a ((sign_text op ++ y) ++ rest) first) (sign_lexes op (y ++ rest))
      (operand_lexes b rest second)

  -- a call, by what stands within its brackets
  call_lexes : (w : Word) (within : List ℕ) (ts : List Token) (rest : List ℕ)
      → Lexes within ts (codes ")" ++ rest)
      → Lexes (call_text w within) (tokens.Word w ∷ tokens.Open ∷ ts ++ tokens.Close ∷ []) rest
  call_lexes w within ts rest h =
      three (name_of w ++ codes "(") within (codes ")") (tokens.Word w ∷ tokens.Open ∷ []) ts
      (tokens.Close ∷ []) rest (word_open w ((within ++ codes ")") ++ rest)) h
      (Lexes-close writing rest)

  -- a call of one set, with the number behind it if there is one
  number_lexes : (w : Word) (number : Option ℤ) (text : List ℕ) (ts : List Token) (rest : List ℕ)
      → ((r : List ℕ) → Lexes text ts r) → size_of number < 10 ^ 13
      → Lexes (call_text w (text ++ number_text number))
      (tokens.Word w ∷ tokens.Open ∷ ts ++ number_end_tokens number) rest
  number_lexes w None text ts rest first short =
      rw (append-nil text) (call_lexes w text ts rest (first (codes ")" ++ rest)))
  number_lexes w (Some n) text ts rest first short =
      let end = codes ")" ++ rest in
      let us = tokens.Comma ∷ tokens.Number n ∷ [] in
      let behind : Lexes (number_text (Some n)) us end =
      writing.parts (codes ", ") (signed_decimal n) (tokens.Comma ∷ []) (tokens.Number n ∷ []) end
      (comma (signed_decimal n ++ end)) (writing.numbers n end short refl) in
      let within : Lexes (text ++ number_text (Some n)) (ts ++ us) end =
      writing.parts text (number_text (Some n)) ts us end
      (first (number_text (Some n) ++ end)) behind in
      let whole = call_lexes w (text ++ number_text (Some n)) (ts ++ us) rest within in
      rw (← append_assoc ts us (tokens.Close ∷ [])) whole

  unary_lexes : (by : Option (Word × Option ℤ)) (a : Tree Rule) (rest : List ℕ)
      → ((r : List ℕ) → Lexes (print a) (spelled (written a)) r) → call_size by < 10 ^ 13
      → Lexes (unary_text by (is_join a) (print a))
      (unary_tokens by (is_joined (written a)) (spelled (written a))) rest
  unary_lexes None a rest first short =
      let text = bracketed (is_join a) (print a) in
      let ts = in_brackets (is_joined (written a)) (spelled (written a)) in
      writing.parts (codes "!") text (tokens.Exclamation ∷ []) ts rest
      (Lexes-exclamation writing (text ++ rest)) (operand_lexes a rest first)
  unary_lexes (Some by) a rest first short =
      number_lexes by.0 by.1 (print a) (spelled (written a)) rest first short

  pairs_lexes : (a b : Tree Rule) (rest : List ℕ)
      → ((r : List ℕ) → Lexes (print a) (spelled (written a)) r)
      → ((r : List ℕ) → Lexes (print b) (spelled (written b)) r)
      → Lexes (call_text words.Pairs (print a ++ codes ", " ++ print b))
      (tokens.Word words.Pairs ∷ tokens.Open ∷ spelled (written a)
      ++ (tokens.Comma ∷ spelled (written b) ++ tokens.Close ∷ [])) rest
  pairs_lexes a b rest first second =
      let ts = spelled (written a) in
      let us = spelled (written b) in
      let both = print a ++ codes ", " ++ print b in
      let within : Lexes both (ts ++ tokens.Comma ∷ us) (codes ")" ++ rest) =
      three (print a) (codes ", ") (print b) ts (tokens.Comma ∷ []) us (codes ")" ++ rest)
      (first ((codes ", " ++ print b) ++ (codes ")" ++ rest)))
      (comma (print b ++ (codes ")" ++ rest))) (second (codes ")" ++ rest)) in
      let whole = call_lexes words.Pairs both (ts ++ tokens.Comma ∷ us) rest within in
      rw (← append_assoc ts (tokens.Comma ∷ us) (tokens.Close ∷ [])) whole

  print_lexes : (t : Tree Rule) (rest : List ℕ) → IsShown t → reach_of t < 10 ^ 13
      → Lexes (print t) (spelled (written t)) rest
  unfolding print spelled
  print_lexes Empty rest h near = empty_call rest
  print_lexes (Ruled (Listed [])) rest h near = absurd (omega (arith, h.0.0))
  print_lexes (Ruled (Listed (s ∷ ss))) rest h near =
      list_lexes s ss rest (recursion_from_All (λ (x : Stamp). IsCalendarMoment x.moment.0) (s ∷ ss)
      h.0.1)
  print_lexes (Spanned bounds low high) rest h near = span_lexes bounds.0 bounds.1 low high rest
      h.0.0.low_given h.0.0.high_given
  print_lexes (Ruled (Field rule)) rest h near = rule_lexes writing fit intervals rule rest h.0.0
      h.0.1
  print_lexes (Ruled (Ical rule)) rest h near = rrule_lexes rule rest h.0 h.1
  print_lexes (Joined op a b) rest h near = joined_lexes op a b rest
      (λ r. print_lexes a r (first_shown h) (omega (arith, near)))
      (λ r. print_lexes b r (other_shown h) (omega (arith, near)))
  print_lexes (Pairs a b) rest h near =
      pairs_lexes a b rest (λ r. print_lexes a r (first_shown h) (omega (arith, near)))
      (λ r. print_lexes b r (other_shown h) (omega (arith, near)))
  print_lexes (Unary op a) rest h near =
      let first = λ (r : List ℕ). print_lexes a r h (omega (arith, near)) in
      unary_lexes (call_of op) a rest first (omega (arith, call_near op, near))

  second_lexes : (o : Option (Tree Rule)) → IsShownSecond o → IsModestSecond o
      → Lexes (print_second o) (spelled_second (option_map written o)) []
  second_lexes None h modest = writing.nothing []
  second_lexes (Some t) h modest =
      writing.parts (codes " ; ") (print t) (tokens.Semicolon ∷ []) (spelled (written t)) []
      (spaced 59 tokens.Semicolon (print t ++ []) (Lexes-semicolon writing (32 ∷ (print t ++ []))))
      (print_lexes t [] h modest.reach)

  program_lexes : (p : Trees) → AreShown p → AreModest p → Lexes (print_program p)
      (spelled_program (all_written p)) []
  program_lexes p h modest =
      writing.parts (print p.first) (print_second p.second) (spelled (written p.first))
      (spelled_second (option_map written p.second)) []
      (print_lexes p.first (print_second p.second ++ []) h.0 modest.0.reach)
      (second_lexes p.second h.1 modest.1)

  trees_accepted : (p : Trees) → AreShown p → sort_fault p ≡ None → (ts : Tokens) → kinds_of ts
      ≡ spelled_program (all_written p)
      → AreRead ts (Ok p)
  trees_accepted p h sort ts same =
      let all : ArePlain (spelled_program (all_written p)) =
      all_both IsPlain (spelled (written p.first)) (spelled_second (option_map written p.second))
      (plain_spelled p.first h.0) (plain_second p.second h.1) in
      let each : ArePlain (kinds_of ts) = subst ArePlain (sym same) all in
      let built : calls_unbuilt (kinds_of ts) ≡ false = no_call (kinds_of ts) each in
      let named : first_nameless ts ≡ None = no_nameless ts each in
      goes_on ts (Ok p) (rw built refl)
      (goes_on (record { tokens = ts; forms = all_written p }) (Ok p)
      (spelled_so (all_written p)
      (rw same (program_spelled (all_written p) (all_printable p h (all_modest p sort)))))
      (goes_on (record { tokens = ts; forms = all_written p }) (Ok p) (rw named refl)
      (goes_on (all_written p) (Ok p)
      (held (all_both HasPosition (spans_of (written p.first))
      (second_spans (option_map written p.second)) (spans_held p.first h.0)
      (second_held p.second h.1)))
      (goes_on (all_written p) (Ok p) (rw (no_rule_fault p h) refl)
      (goes_on (all_written p) (Ok p) (rw (no_rrule_fault back p h) refl)
      (sorted p (trees_back back p h) sort))))))

  -- the printed form is read as the trees
  pub printed_is_read : (p : Trees) → AreWellFormed p → HasShortStrings p.first
      × HasShortSecond p.second → sort_fault p ≡ None → length (print_program p) ≤ LONGEST
      → IsRead (print_program p) (Ok p)
  printed_is_read p formed strings sort short =
      let h = all_shown p formed strings in
      let text = print_program p in
      let there = stand_in text (spelled_program (all_written p))
      (writing.texts text (spelled_program (all_written p))
      (program_lexes p h (all_modest p sort))) in
      goes_on text (Ok p) (short_text text short)
      (goes_on there.tokens (Ok p) there.read (trees_accepted p h sort there.tokens there.same))
