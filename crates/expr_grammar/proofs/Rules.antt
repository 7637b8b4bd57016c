-- Rules are read just where their tokens stand.
use Rattle.std.proofs.Common.{◌≡◌, inl, inr, ℕ, zero, suc, ◌≤◌, ℤ, Bool, true, false, cond, List, [], ◌∷◌, ◌++◌, length, drop, Option, Some, None, refl, sym, ap, subst, ◌∙◌, append_assoc, arith, length-append}
use Rattle.std.specs.List.{AllByRecursion, IsDistinct}
use Rattle.std.proofs.lemmas.Bool.{cases_Bool, or_parts}
use Rattle.std.proofs.lemmas.List.{append-nil}
use Rattle.rule_core.specs.declared.part.Freq.{Freq}
use Rattle.rule_core.specs.declared.part.Freq.TheVariants as freqs
use Rattle.moment_core.specs.Texts.{◌>>=◌}
use Rattle.expr_tokens.specs.declared.token.Word.{Word}
use Rattle.expr_tokens.specs.declared.token.Word.TheVariants as words
use Rattle.expr_tokens.specs.Plain.{Token}
use Rattle.expr_tokens.specs.Plain as tokens
use Rattle.expr_grammar.specs.declared.syntax.Key.{Key}
use Rattle.expr_grammar.specs.declared.syntax.Key.TheVariants as keys
use Rattle.expr_grammar.specs.Fields.{AreFields, HasNumbers, field_tokens, fields_tokens, freq_word, is_single, key_word, more_numbers, rule_tokens, same_key}
use Rattle.expr_grammar.specs.Form.{FieldForm, Values, Start, Form, Rule}
use Rattle.expr_grammar.specs.Parsing.{field_at, fields_from, freq_at, freq_named, has_key, is_close, key_named, more_at, number_at, numbers_at, rule_at, values_at, with_freq, with_key}
use Rattle.moment_core.proofs.Lists.{all_both, all_behind}
use Rattle.expr_grammar.proofs.Parts.{along, bind_some, found, read_is}
use Rattle.std.proofs.lemmas.Option.{same_Some}

-- names

pub freq_back : (freq : Freq) → freq_named (freq_word freq) ≡ Some freq
freq_back freqs.Yearly = refl
freq_back freqs.Monthly = refl
freq_back freqs.Weekly = refl
freq_back freqs.Daily = refl
freq_back freqs.Hourly = refl
freq_back freqs.Minutely = refl
freq_back freqs.Secondly = refl

freq_is : (w : Word) (freq : Freq) → freq_named w ≡ Some freq → w ≡ freq_word freq
freq_is words.Yearly freq e = ap freq_word (same_Some freqs.Yearly freq e)
freq_is words.Monthly freq e = ap freq_word (same_Some freqs.Monthly freq e)
freq_is words.Weekly freq e = ap freq_word (same_Some freqs.Weekly freq e)
freq_is words.Daily freq e = ap freq_word (same_Some freqs.Daily freq e)
freq_is words.Hourly freq e = ap freq_word (same_Some freqs.Hourly freq e)
freq_is words.Minutely freq e = ap freq_word (same_Some freqs.Minutely freq e)
freq_is words.Secondly freq e = ap freq_word (same_Some freqs.Secondly freq e)
freq_is w freq e = absurd cc

key_back : (key : Key) → key_named (key_word key) ≡ Some key
key_back keys.Months = refl
key_back keys.Weeks = refl
key_back keys.Days = refl
key_back keys.Hours = refl
key_back keys.Minutes = refl
key_back keys.Seconds = refl
key_back keys.Interval = refl
key_back keys.WeekStart = refl

key_is : (w : Word) (key : Key) → key_named w ≡ Some key → w ≡ key_word key
key_is words.Months key e = ap key_word (same_Some keys.Months key e)
key_is words.Weeks key e = ap key_word (same_Some keys.Weeks key e)
key_is words.Days key e = ap key_word (same_Some keys.Days key e)
key_is words.Hours key e = ap key_word (same_Some keys.Hours key e)
key_is words.Minutes key e = ap key_word (same_Some keys.Minutes key e)
key_is words.Seconds key e = ap key_word (same_Some keys.Seconds key e)
key_is words.Interval key e = ap key_word (same_Some keys.Interval key e)
key_is words.WeekStart key e = ap key_word (same_Some keys.WeekStart key e)
key_is w key e = absurd cc

-- what is read stands there

-- the numbers behind those that were found, and the tokens behind them
record TakesNumbers (single : Bool) (before : List ℤ) (ts : List Token) : Type 0 where
  more : List ℤ
  rest : List Token
  is : numbers_at single before ts ≡ (before ++ more, rest)
  whole : ts ≡ more_numbers more ++ rest
  alone : single ≡ true → more ≡ []

more_sound : (before : List ℤ) (ts : List Token) → TakesNumbers false before ts
unfolding more_at
more_sound before (tokens.Comma ∷ tokens.Number n ∷ ts) =
    let others = more_sound (before ++ n ∷ []) ts in
    record {
      more = n ∷ others.more;
      rest = others.rest;
      is = others.is ∙ ap (λ (ns : List ℤ). (ns, others.rest))
          (append_assoc before (n ∷ []) others.more);
      whole = ap (λ (x : List Token). tokens.Comma ∷ tokens.Number n ∷ x) others.whole;
      alone = λ e. absurd cc;
    }
more_sound before ts = record {
  more = [];
  rest = ts;
  is = ap (λ (ns : List ℤ). (ns, ts))
      (sym (append-nil before));
  whole = refl;
  alone = λ e. absurd cc;
}

numbers_sound : (single : Bool) (before : List ℤ) (ts : List Token) → TakesNumbers single before ts
numbers_sound true before ts = record {
  more = [];
  rest = ts;
  is = ap (λ (ns : List ℤ). (ns, ts))
      (sym (append-nil before));
  whole = refl;
  alone = λ _. refl;
}
numbers_sound false before ts = more_sound before ts

-- a field, and the tokens behind it
record TakesField (ts : List Token) (f : FieldForm) (rest : List Token) : Type 0 where
  whole : ts ≡ field_tokens f ++ rest
  numbers : HasNumbers f

number_is : (ts : List Token) (x : (Key × ℤ) × List Token) → number_at ts ≡ Some x → ts
    ≡ tokens.Word (key_word x.0.0) ∷ tokens.Equals ∷ tokens.Number x.0.1 ∷ x.1
number_is (tokens.Word w ∷ tokens.Equals ∷ tokens.Number n ∷ ts) x e =
    let y = bind_some (key_named w) (λ key. Some ((key, n), ts)) x e in
    let same = read_is (y.0, n) x.0 ts x.1 y.2 in
    let key : y.0 ≡ x.0.0 = ap (λ (p : Key × ℤ). p.0) same.0 in
    let number : n ≡ x.0.1 = ap (λ (p : Key × ℤ). p.1) same.0 in
    rw (key_is w y.0 y.1, key, number, same.1) refl
number_is ts x e = absurd cc

has_numbers : (key : Key) (n : ℤ) (more : List ℤ) → (is_single key ≡ true → more ≡ [])
    → HasNumbers (Values key (n ∷ more))
has_numbers key n [] alone = tt
has_numbers key n (m ∷ more) alone = elim (cases_Bool (is_single key))
    [ inl single ↦ (let e = alone single in absurd cc) | inr many ↦ many ]

values_sound : (ts : List Token) (f : FieldForm) (rest : List Token) → values_at ts ≡ Some (f, rest)
    → TakesField ts f rest
unfolding values_at
values_sound ts f rest e =
    let x = bind_some (number_at ts)
    (λ x. with_key x.0.0 (numbers_at (is_single x.0.0) (x.0.1 ∷ []) x.1)) (f, rest) e in
    let key = x.0.0.0 in
    let n = x.0.0.1 in
    let others = numbers_sound (is_single key) (n ∷ []) x.0.1 in
    let read : found (Values key (n ∷ others.more)) others.rest ≡ Some (f, rest) =
    ap (with_key key) (sym others.is) ∙ x.2 in
    along (TakesField ts) (Values key (n ∷ others.more)) f others.rest rest read
    (record {
      whole = number_is ts x.0 x.1
          ∙ ap (λ (y : List Token). tokens.Word (key_word key) ∷ tokens.Equals ∷ tokens.Number n ∷
          y) others.whole;
      numbers = has_numbers key n others.more others.alone;
    })

field_sound : (ts : List Token) (f : FieldForm) (rest : List Token) → field_at ts ≡ Some (f, rest)
    → TakesField ts f rest
unfolding field_at
field_sound (tokens.Word words.Start ∷ tokens.Equals ∷ tokens.Moment m ∷ ts) f rest e =
    along (TakesField (tokens.Word words.Start ∷ tokens.Equals ∷ tokens.Moment m ∷ ts)) (Start m) f
    ts rest e (record { whole = refl; numbers = tt })
field_sound ts f rest e = values_sound ts f rest e

push_distinct : (f : FieldForm) (before : List FieldForm) → IsDistinct same_key before
    → has_key f before ≡ false → IsDistinct same_key (before ++ f ∷ [])
unfolding IsDistinct
push_distinct f [] once free = (tt, tt)
push_distinct f (x ∷ before) once free =
    let parts = or_parts (same_key x f) (has_key f before) free in (
      all_both (λ y. same_key x y ≡ false) before (f ∷ []) once.0 (parts.0, tt),
      push_distinct f
          before once.1 parts.1,
    )

-- the fields behind those that were found, up to their bracket
record TakesFields (before : List FieldForm) (ts : List Token) (all : List FieldForm)
    (rest : List Token) : Type 0 where
  more : List FieldForm
  is : all ≡ before ++ more
  whole : ts ≡ fields_tokens more ++ tokens.Close ∷ rest
  numbers : AllByRecursion HasNumbers more
  once : IsDistinct same_key all

close_is : (ts : List Token) → is_close ts ≡ true → ts ≡ tokens.Close ∷ drop 1 ts
close_is (tokens.Close ∷ ts) e = refl
close_is ts e = absurd cc

no_field : (before : List FieldForm) (ts : List Token) (all : List FieldForm) (rest : List Token)
    → is_close ts ≡ true → IsDistinct same_key before → found before (drop 1 ts) ≡ Some (all, rest)
    → TakesFields before ts all rest
no_field before ts all rest next once e =
    along (TakesFields before ts) before all (drop 1 ts) rest e
    (record {
      more = [];
      is = sym (append-nil before);
      whole = close_is ts next;
      numbers = tt;
      once = once;
    })

one_field : (before : List FieldForm) (ts : List Token) (f : FieldForm) (after : List Token)
    (all : List FieldForm) (rest : List Token) → TakesField ts f after
    → TakesFields (before ++ f ∷ []) after all rest → TakesFields before ts all rest
one_field before ts f after all rest first others = record {
  more = f ∷ others.more;
  is = others.is ∙ append_assoc before (f ∷ []) others.more;
  whole = first.whole ∙ ap (λ (x : List Token). field_tokens f ++ x) others.whole
      ∙ sym (append_assoc (field_tokens f) (fields_tokens others.more) (tokens.Close ∷ rest));
  numbers = (first.numbers, others.numbers);
  once = others.once;
}

abbrev Fields : Type 0
Fields = List FieldForm × List Token

refused_or : (b : Bool) (read : Option Fields) (y : Fields) → cond b None read ≡ Some y
    → (b ≡ false) × (read ≡ Some y)
refused_or true read y e = absurd cc
refused_or false read y e = (refl, e)

fields_sound : (n : ℕ) (before : List FieldForm) (ts : List Token) (all : List FieldForm)
    (rest : List Token) → IsDistinct same_key before → fields_from n before ts ≡ Some (all, rest)
    → TakesFields before ts all rest
unfolding fields_from
fields_sound zero before ts all rest once e = absurd cc
fields_sound (suc n) before ts all rest once e =
    let step : FieldForm × List Token → Option Fields =
    λ f. cond (has_key f.0 before) None (fields_from n (before ++ f.0 ∷ []) f.1) in
    let P : Bool → Type 0 =
    λ b. is_close ts ≡ b → cond b (Some (before, drop 1 ts)) (field_at ts >>= step)
    ≡ Some (all, rest) → TakesFields before ts all rest in
    let go : (b : Bool) → P b = λ b. elim b as P [
      | true ↦ λ next h. no_field before ts all rest next once h
      | false ↦ λ next h.
          let x = bind_some (field_at ts) step (all, rest) h in
          let taken = refused_or (has_key x.0.0 before) (fields_from n (before ++ x.0.0 ∷ []) x.0.1)
          (all, rest) x.2 in
          one_field before ts x.0.0 x.0.1 all rest (field_sound ts x.0.0 x.0.1 x.1)
          (fields_sound n (before ++ x.0.0 ∷ []) x.0.1 all rest
          (push_distinct x.0.0 before once taken.0) taken.1)
    ] in
    go (is_close ts) refl e

-- a rule that was read
pub record TakesRule (ts : List Token) (t : Form) (rest : List Token) : Type 0 where
  pub freq : Freq
  pub fields : List FieldForm
  pub is : Rule freq fields ≡ t
  pub whole : ts ≡ rule_tokens freq fields ++ rest
  pub are : AreFields fields

freq_at_is : (ts : List Token) (x : Freq × List Token) → freq_at ts ≡ Some x → ts
    ≡ tokens.Word (freq_word x.0) ∷ tokens.Open ∷ x.1
freq_at_is (tokens.Word w ∷ tokens.Open ∷ ts) x e =
    let y = bind_some (freq_named w) (λ freq. Some (freq, ts)) x e in
    let same = read_is y.0 x.0 ts x.1 y.2 in
    rw (freq_is w y.0 y.1, same.0, same.1) refl
freq_at_is ts x e = absurd cc

none_distinct : IsDistinct same_key []
unfolding IsDistinct
none_distinct = tt

pub rule_sound : (ts : List Token) (t : Form) (rest : List Token) → rule_at ts ≡ Some (t, rest)
    → TakesRule ts t rest
unfolding rule_at
rule_sound ts t rest e =
    let x = bind_some (freq_at ts)
    (λ freq. with_freq freq.0 (fields_from (length freq.1) [] freq.1)) (t, rest) e in
    let freq = x.0.0 in
    let y = bind_some (fields_from (length x.0.1) [] x.0.1)
    (λ fields. Some (Rule freq fields.0, fields.1)) (t, rest) x.2 in
    let same = read_is (Rule freq y.0.0) t y.0.1 rest y.2 in
    let taken = fields_sound (length x.0.1) [] x.0.1 y.0.0 y.0.1 none_distinct y.1 in
    let all : y.0.0 ≡ taken.more = taken.is in
    let behind : fields_tokens y.0.0 ++ tokens.Close ∷ rest
    ≡ (fields_tokens y.0.0 ++ tokens.Close ∷ []) ++ rest =
    sym (append_assoc (fields_tokens y.0.0) (tokens.Close ∷ []) rest) in
    let there : fields_tokens taken.more ++ tokens.Close ∷ y.0.1 ≡ fields_tokens y.0.0
    ++ tokens.Close ∷ rest =
    ap (λ (z : List FieldForm). fields_tokens z ++ tokens.Close ∷ y.0.1) (sym all)
    ∙ ap (λ (z : List Token). fields_tokens y.0.0 ++ tokens.Close ∷ z) same.1 in
    let within : x.0.1 ≡ (fields_tokens y.0.0 ++ tokens.Close ∷ []) ++ rest = taken.whole ∙ there
    ∙ behind in
    record {
      freq = freq;
      fields = y.0.0;
      is = same.0;
      whole = freq_at_is ts x.0 x.1
          ∙ ap (λ (z : List Token). tokens.Word (freq_word freq) ∷ tokens.Open ∷ z) within;
      are = record {
        numbers = subst (AllByRecursion HasNumbers) (sym all) taken.numbers;
        once =
            taken.once;
      };
    }

-- what stands there is read

abbrev is_comma : List Token → Bool
is_comma (tokens.Comma ∷ ts) = true
is_comma ts = false

none_more : (before : List ℤ) (rest : List Token) → is_comma rest ≡ false → more_at before rest
    ≡ (before, rest)
unfolding more_at
none_more before (tokens.Comma ∷ rest) e = absurd cc
none_more before rest e = refl

numbers_complete : (before more : List ℤ) (rest : List Token) → is_comma rest ≡ false
    → more_at before (more_numbers more ++ rest) ≡ (before ++ more, rest)
unfolding more_at
numbers_complete before [] rest stop = none_more before rest stop ∙ ap (λ (ns : List ℤ). (ns, rest))
    (sym (append-nil before))
numbers_complete before (n ∷ more) rest stop = numbers_complete (before ++ n ∷ []) more rest stop
    ∙ ap (λ (ns : List ℤ). (ns, rest)) (append_assoc before (n ∷ []) more)

all_numbers : (key : Key) (n : ℤ) (more : List ℤ) (rest : List Token)
    → HasNumbers (Values key (n ∷ more)) → is_comma rest ≡ false → numbers_at (is_single key)
    (n ∷ []) (more_numbers more ++ rest) ≡ (n ∷ more, rest)
all_numbers key n [] rest has stop = elim (cases_Bool (is_single key))
    [ inl single ↦ rw single refl | inr many ↦ rw many (numbers_complete (n ∷ []) [] rest stop) ]
all_numbers key n (m ∷ more) rest many stop =
    rw many (numbers_complete (n ∷ []) (m ∷ more) rest stop)

values_complete : (key : Key) (n : ℤ) (more : List ℤ) (rest : List Token)
    → HasNumbers (Values key (n ∷ more)) → is_comma rest ≡ false
    → values_at (field_tokens (Values key (n ∷ more)) ++ rest) ≡ Some (Values key (n ∷ more), rest)
unfolding values_at
values_complete key n more rest has stop = rw (key_back key, all_numbers key n more rest has stop)
    refl

values_case : (key : Key) (ts : List Token) → field_at (tokens.Word (key_word key) ∷ ts)
    ≡ values_at (tokens.Word (key_word key) ∷ ts)
unfolding field_at
values_case keys.Months ts = refl
values_case keys.Weeks ts = refl
values_case keys.Days ts = refl
values_case keys.Hours ts = refl
values_case keys.Minutes ts = refl
values_case keys.Seconds ts = refl
values_case keys.Interval ts = refl
values_case keys.WeekStart ts = refl

field_complete : (f : FieldForm) (rest : List Token) → HasNumbers f → is_comma rest ≡ false
    → field_at (field_tokens f ++ rest) ≡ Some (f, rest)
unfolding field_at
field_complete (Start m) rest has stop = refl
field_complete (Values key []) rest has stop = absurd has
field_complete (Values key (n ∷ more)) rest has stop =
    values_case key (tokens.Equals ∷ tokens.Number n ∷ more_numbers more ++ rest)
    ∙ values_complete key n more rest has stop

field_opens : (f : FieldForm) (rest : List Token) → is_close (field_tokens f ++ rest) ≡ false
field_opens (Start m) rest = refl
field_opens (Values key ns) rest = refl

no_comma : (fields : List FieldForm) (rest : List Token)
    → is_comma (fields_tokens fields ++ tokens.Close ∷ rest) ≡ false
no_comma [] rest = refl
no_comma (Start m ∷ fields) rest = refl
no_comma (Values key ns ∷ fields) rest = refl

some_tokens : (f : FieldForm) → 1 ≤ length (field_tokens f)
some_tokens (Start m) = omega arith
some_tokens (Values key ns) = omega arith

key_free : (f : FieldForm) (before fields : List FieldForm)
    → IsDistinct same_key (before ++ f ∷ fields) → has_key f before ≡ false
unfolding IsDistinct
key_free f [] fields once = refl
key_free f (x ∷ before) fields once =
    rw ((all_behind (λ y. same_key x y ≡ false) before (f ∷ fields) once.0).0)
    (key_free f before fields once.1)

fields_complete : (n : ℕ) (before fields : List FieldForm) (rest : List Token)
    → length (fields_tokens fields ++ tokens.Close ∷ rest) ≤ n → AllByRecursion HasNumbers fields
    → IsDistinct same_key (before ++ fields)
    → fields_from n before (fields_tokens fields ++ tokens.Close ∷ rest)
    ≡ Some (before ++ fields, rest)
unfolding fields_from
fields_complete zero before fields rest enough numbers once =
    absurd (omega (arith, enough, length-append (fields_tokens fields) (tokens.Close ∷ rest)))
fields_complete (suc n) before [] rest enough numbers once =
    ap (λ (x : List FieldForm). Some (x, rest)) (sym (append-nil before))
fields_complete (suc n) before (f ∷ fields) rest enough numbers once =
    let behind = fields_tokens fields ++ tokens.Close ∷ rest in
    let regrouped : (field_tokens f ++ fields_tokens fields) ++ tokens.Close ∷ rest ≡ field_tokens f
    ++ behind = append_assoc (field_tokens f) (fields_tokens fields) (tokens.Close ∷ rest) in
    let fits : length behind ≤ n = omega (
      arith,
      ap length regrouped,
      length-append (field_tokens f)
          behind,
      some_tokens f,
      enough,
    ) in
    let others = fields_complete n (before ++ f ∷ []) fields rest fits numbers.1
    (rw append_assoc once) in
    rw (
      regrouped,
      field_opens f behind,
      field_complete f behind numbers.0 (no_comma fields rest),
      key_free f before fields once,
    ) (others ∙ ap (λ (x : List FieldForm). Some (x, rest))
    (append_assoc before (f ∷ []) fields))

pub rule_complete : (freq : Freq) (fields : List FieldForm) (rest : List Token) → AreFields fields
    → rule_at (rule_tokens freq fields ++ rest) ≡ Some (Rule freq fields, rest)
unfolding rule_at
rule_complete freq fields rest are =
    let regrouped : (fields_tokens fields ++ tokens.Close ∷ []) ++ rest ≡ fields_tokens fields
    ++ tokens.Close ∷ rest = append_assoc (fields_tokens fields) (tokens.Close ∷ []) rest in
    let read = fields_complete (length (fields_tokens fields ++ tokens.Close ∷ rest)) [] fields rest
    (omega arith) are.numbers are.once in
    rw (regrouped, freq_back freq, read) refl
