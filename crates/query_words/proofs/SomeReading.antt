-- Any words have an answer.
use Rattle.std.proofs.Common.{◌≡◌, ◌≢◌, ◌<◌, ◌≤◌, ◌+◌, ◌*◌, ◌++◌, ◌∷◌, [], ℕ, zero, suc, ℤ, pos, ◌+ℤ◌, ◌-ℤ◌, ◌≤ℤ◌, ◌<ℤ◌, int_le, List, Bool, true, false, Contains, codes, Option, Some, None, Result, Ok, Err, ◌⊎◌, inl, inr, length, take, drop, get_or, refl, sym, ◌∙◌, ap, subst, arith, unsigned_abs, drop-cons}
use Rattle.std.proofs.lemmas.Bool.{cases_lt, true≢false}
use Rattle.std.proofs.lemmas.Int.{ints}
use Rattle.std.proofs.lemmas.List.{take-append-drop, length-take-le}
use Rattle.std.proofs.lemmas.Slice.Eq.{bytes_eq-Decides}
use Rattle.std.specs.Char.{digit_value}
use Rattle.std.specs.List.{before_first, after_first}
use Rattle.std.specs.Str.{bytes_eq}
use Rattle.std.specs.Str.Parse.{AllDigits, digits_value}
use Rattle.moment_core.specs.Line.{position_of}
use Rattle.moment_core.specs.Sets.{ahead, IsUpTo, range_begin}
use Rattle.moment_core.specs.declared.line.Dir.{Dir}
use Rattle.moment_core.specs.declared.line.Dir.TheVariants.{Fore, Back}
use Rattle.moment_core.specs.declared.line.Pos.{Pos}
use Rattle.moment_core.specs.declared.line.Stamp.{Stamp}
use Rattle.moment_core.specs.declared.line.TheConstants.{LOW, HIGH, WIDTH}
use Rattle.moment_text.specs.Laws.{LiteralsTellMomentsApart}
use Rattle.moment_text.specs.Literal.{IsStamp, literal_of, Names}
use Rattle.span_core.specs.Tokens.{IsFit, IsPlaceFit}
use Rattle.span_core.specs.declared.answers.Token.{Token}
use Rattle.token_text.specs.Laws.{TextsTellTokensApart}
use Rattle.token_text.specs.Texts.{token_text, Means as IsToken}
use Rattle.query_words.specs.declared.commands.Command.{Command}
use Rattle.query_words.specs.declared.commands.Command.TheVariants.{Next, Previous, Current, Closest, Contains as ContainsOf, Walk, Resume, Min, Max, Empty, Count, Duration, Audit, ContainsSet, Intersects, Intersected, Show, Load}
use Rattle.query_words.specs.declared.commands.Key.{Key}
use Rattle.query_words.specs.declared.commands.Key.TheVariants.{At, From, To, Dir as DirOf, Limit, Budget, Token as TokenOf, Seed}
use Rattle.query_words.specs.declared.queries.Neighbour.{Neighbour}
use Rattle.query_words.specs.declared.queries.Neighbour.TheVariants as neighbours
use Rattle.query_words.specs.declared.queries.Query.{Query}
use Rattle.query_words.specs.declared.queries.Query.TheVariants.{Show as Showing}
use Rattle.query_words.specs.declared.queries.WordsFault.{WordsFault}
use Rattle.query_words.specs.declared.queries.WordsFault.TheVariants.{Unbuilt, Bad}
use Rattle.query_words.specs.declared.values.Value.{Value}
use Rattle.query_words.specs.declared.values.Value.TheVariants.{Stamp as Stamped, Dir as Directed, Number, Token as Placed}
use Rattle.query_words.specs.Commands.{name_of, is_built, keys_of, required}
use Rattle.query_words.specs.Laws.{WordsAreRead}
use Rattle.query_words.specs.Neighbours.{command_of}
use Rattle.query_words.specs.Reading.{FitBelow, stamp_in, token_in}
use Rattle.query_words.specs.Words.{word_of, Fits, Gives, Lacks, IsNumber, Agrees, AreInOrder, InForm, Says, Tells, IsDirValue, IsNumberValue, IsStampValue, IsTokenValue, IsValue, unfit, missing, IsFirstBad, AreGood, Asks, no_command, unbuilt, bad, AreRead}
use Rattle.query_words.proofs.Asking.{Told, near_by, near_needs, near_asked, needed, walk_by, walk_asked, resume_by, resume_asked, show_asked, stamp_told, token_told}
use Rattle.query_words.proofs.SettingLemmas.{same_key}
use Rattle.query_words.proofs.Positions.{cut_at, fits_one_more, unfit_first, missing_first, all_good}
use Rattle.query_words.proofs.Stamps.{one_meaning, one_stamp}
use Rattle.query_words.proofs.WordLemmas.{one_value, is_equals, key_before, value_after, read_key, read_key-text, one_key, read_command, read_command-name, fits_by}

by_test : {P : Type 0} (b : Bool) → (b ≡ true → P) → (P → b ≡ true) → P ⊎ ¬ P
by_test true there back = inl (there refl)
by_test false there back = inr (λ p. true≢false (sym (back p)))

same_or_not : (a b : List ℕ) → (a ≡ b) ⊎ ¬ (a ≡ b)
same_or_not a b = by_test (bytes_eq a b) (bytes_eq-Decides a b).0 (bytes_eq-Decides a b).1

record Found {X : Type 0} (P : X → Type 0) (xs : List X) : Type 0 where
  element : X
  inside : Contains xs element
  passes : P element

find_or_not : {X : Type 0} (P : X → Type 0) → ((x : X) → P x ⊎ ¬ (P x)) → (xs : List X) → Found P xs
    ⊎ ((x : X) → Contains xs x → ¬ (P x))
find_or_not {X = X} P test [] = inr (λ x has p. absurd (omega (arith, has.1)))
find_or_not {X = X} P test (y ∷ ys) =
    elim (test y) [
      | inl is ↦ inl (record { element = y; inside = (0, omega arith, refl); passes = is })
      | inr isnt ↦ elim (find_or_not P test ys) [
        | inl f ↦ inl
            (record {
              element = f.element;
              inside =
                  (suc f.inside.0, omega (arith, f.inside.1), f.inside.2);
              passes = f.passes;
            })
        | inr none ↦ inr (λ x has. none_in isnt none x has)
      ]
    ]
  where
    none_in : ¬ (P y) → ((x : X) → Contains ys x → ¬ (P x)) → (x : X) → Contains (y ∷ ys) x
        → ¬ (P x)
    none_in isnt none x (zero, less, e) p = isnt (subst P (sym e) p)
    none_in isnt none x (suc k, less, e) p = none x (k, omega (arith, less), e) p

command_or_not : (word : List ℕ) → ((c : Command) × (word ≡ name_of c))
    ⊎ ((c : Command) → word ≢ name_of c)
command_or_not word =
    elim (same_or_not word (name_of (read_command word))) [
      | inl is ↦ inl (read_command word, is)
      | inr isnt ↦ inr
          (λ c e. isnt (e ∙ ap name_of (sym (ap read_command e ∙ read_command-name c))))
    ]

setting_or_not : (word : List ℕ) → ((key : Key) × (value : List ℕ) × (word ≡ word_of key value))
    ⊎ ((key : Key) (value : List ℕ) → word ≢ word_of key value)
setting_or_not word =
    let key = read_key (before_first is_equals word) in
    let value = after_first is_equals word in
    elim (same_or_not word (word_of key value)) [
      | inl is ↦ inl (key, value, is)
      | inr isnt ↦ inr (λ k v e. isnt (e ∙ ap (λ x. word_of x v) (sym (named k v e))
          ∙ ap (word_of key) (sym (ap (after_first is_equals) e ∙ value_after k v))))
    ]
  where
    named : (k : Key) (v : List ℕ) → word ≡ word_of k v → read_key (before_first is_equals word) ≡ k
    named k v e = ap read_key (ap (before_first is_equals) e ∙ key_before k v) ∙ read_key-text k

-- whether a word gives the key
gives_or_not : (key : Key) (word : List ℕ) → ((value : List ℕ) × (word ≡ word_of key value))
    ⊎ ¬ ((value : List ℕ) × (word ≡ word_of key value))
gives_or_not key word =
    elim (setting_or_not word) [
      | inl s ↦ elim (same_key s.0 key) [
        | inl same ↦ inl (s.1, subst (λ k. word ≡ word_of k s.1) same s.2)
        | inr differs ↦ inr (λ x. differs (one_key s.0 key s.1 x.0 (sym s.2 ∙ x.1)))
      ]
      | inr none ↦ inr (λ x. none key x.0 x.1)
    ]

given_or_lacking : (words : List (List ℕ)) (key : Key) → ((value : List ℕ) × Gives words key value)
    ⊎ Lacks words key
given_or_lacking words key =
    elim (find_or_not (λ word. (value : List ℕ) × (word ≡ word_of key value)) (gives_or_not key)
    words) [
      | inl f ↦ inl (f.passes.0, subst (Contains words) f.passes.1 f.inside)
      | inr none ↦ inr (λ value gives. none (word_of key value) gives (value, refl))
    ]

lacking_or_not : (words : List (List ℕ)) (key : Key) → Lacks words key ⊎ ¬ (Lacks words key)
lacking_or_not words key =
    elim (given_or_lacking words key) [
      | inl g ↦ inr (λ lacks. lacks g.0 g.1)
      | inr lacks ↦ inl lacks
    ]

-- one of the numbers below n is as asked for, or none is
some_or_none : (P : ℕ → Type 0) → ((k : ℕ) → P k ⊎ ¬ (P k)) → (n : ℕ) → ((k : ℕ) × (k < n) × P k)
    ⊎ ((k : ℕ) → k < n → ¬ (P k))
some_or_none P test zero = inr (λ k less p. absurd (omega (arith, less)))
some_or_none P test (suc n) =
    elim (some_or_none P test n) [
      | inl f ↦ inl (f.0, omega (arith, f.1), f.2)
      | inr none ↦ elim (test n) [
        | inl is ↦ inl (n, omega arith, is)
        | inr isnt ↦ inr (λ k less. elim (cases_lt k n) [
          | inl below ↦ none k below
          | inr up ↦ (let same : n ≡ k = omega (arith, less, up) in
              λ p. isnt (subst P (sym same) p))
        ])
      ]
    ]

-- what holds of no numbers but n of them holds of one or of none
number_with : (P : ℤ → Type 0) (low : ℤ) (n : ℕ) → ((z : ℤ) → P z ⊎ ¬ (P z))
    → ((z : ℤ) → P z → (low ≤ℤ z) × (z <ℤ (low +ℤ pos n))) → ((z : ℤ) × P z) ⊎ ¬ ((z : ℤ) × P z)
number_with P low n test within =
    elim (some_or_none (λ k. P (low +ℤ pos k)) (λ k. test (low +ℤ pos k)) n) [
      | inl f ↦ inl (low +ℤ pos f.0, f.2)
      | inr none ↦ inr (λ x. not_within none x.0 x.1)
    ]
  where
    not_within : ((k : ℕ) → k < n → ¬ (P (low +ℤ pos k))) → (z : ℤ) → ¬ (P z)
    not_within none z p =
        let bounds = within z p in
        let first = bounds.0 in
        let last = bounds.1 in
        let k = unsigned_abs (z -ℤ low) in
        let there : z ≡ low +ℤ pos k = grind (arith, ints, first) in
        let less : k < n = grind (arith, ints, first, last) in
        none k less (subst P there p)

le_or_not : (a b : ℤ) → (a ≤ℤ b) ⊎ ¬ (a ≤ℤ b)
le_or_not a b = by_value (int_le a b) refl
  where
    by_value : (t : Bool) → int_le a b ≡ t → (a ≤ℤ b) ⊎ ¬ (a ≤ℤ b)
    by_value false e = inr (λ less. absurd (grind (arith, ints)))
    by_value true e = inl (grind (arith, ints))

both_or_not : {A B : Type 0} → A ⊎ ¬ A → B ⊎ ¬ B → (A × B) ⊎ ¬ (A × B)
both_or_not (inl a) (inl b) = inl (a, b)
both_or_not (inl a) (inr isnt) = inr (λ x. isnt x.1)
both_or_not (inr isnt) b = inr (λ x. isnt x.0)

three_or_not : {A B C : Type 0} → A ⊎ ¬ A → B ⊎ ¬ B → C ⊎ ¬ C → (A × B × C) ⊎ ¬ (A × B × C)
three_or_not (inl a) (inl b) (inl c) = inl (a, b, c)
three_or_not (inl a) (inl b) (inr isnt) = inr (λ x. isnt x.2)
three_or_not (inl a) (inr isnt) c = inr (λ x. isnt x.1)
three_or_not (inr isnt) b c = inr (λ x. isnt x.0)

names_or_not : (text : List ℕ) (absolute : Bool) (t : ℤ) → Names text t absolute
    ⊎ ¬ (Names text t absolute)
names_or_not text absolute t =
    elim (both_or_not (same_or_not text (literal_of t absolute))
    (both_or_not (le_or_not LOW t) (le_or_not t HIGH))) [
      | inl x ↦ inl (record { is_literal = x.0; in_range = x.1 })
      | inr isnt ↦ inr (λ names. isnt (names.is_literal, names.in_range))
    ]

moment_or_not : (text : List ℕ) (absolute : Bool) → ((t : ℤ) × Names text t absolute)
    ⊎ ¬ ((t : ℤ) × Names text t absolute)
moment_or_not text absolute = number_with (λ t. Names text t absolute) LOW WIDTH
    (names_or_not text absolute) (λ t names. (names.in_range.0, in_width t names.in_range))
  where
    in_width : (t : ℤ) → (LOW ≤ℤ t) × (t ≤ℤ HIGH) → t <ℤ (LOW +ℤ pos WIDTH)
    in_width t range = grind (arith, ints, range.1)

up_to_or_not : (dir : Dir) (end q : ℤ) → IsUpTo dir end q ⊎ ¬ (IsUpTo dir end q)
up_to_or_not Fore end q = le_or_not q end
up_to_or_not Back end q = le_or_not end q

-- whether the text is that of a token with these parts
abbrev token : Dir → ℤ → Option Pos → ℤ → Token
token dir place begun end = record {
  dir = dir;
  place = record { 0 = place };
  begun = begun;
  end =
      record { 0 = end };
}

place_fit_or_not : (dir : Dir) (place end : ℤ) (begun : Option Pos) → IsPlaceFit dir place end begun
    ⊎ ¬ (IsPlaceFit dir place end begun)
place_fit_or_not dir place end None = both_or_not (up_to_or_not dir place (range_begin dir))
    (up_to_or_not dir (ahead dir end 1) place)
place_fit_or_not dir place end (Some begun) =
    three_or_not (up_to_or_not dir begun.0 (range_begin dir)) (up_to_or_not dir place begun.0)
    (up_to_or_not dir end place)

token_means_or_not : (text : List ℕ) (dir : Dir) (place : ℤ) (begun : Option Pos) (end : ℤ)
    → IsToken text (token dir place begun end) ⊎ ¬ (IsToken text (token dir place begun end))
token_means_or_not text dir place begun end =
    both_or_not (same_or_not text (token_text (token dir place begun end)))
    (both_or_not (both_or_not (le_or_not (position_of LOW) end) (le_or_not end (position_of HIGH)))
    (place_fit_or_not dir place end begun))

-- the positions of tokens that fit are few
abbrev LOWEST : ℤ
LOWEST = position_of LOW -ℤ pos 1

abbrev POSITIONS : ℕ
POSITIONS = 2 * WIDTH + 1

abbrev IsNear : ℤ → Type 0
IsNear p = (LOWEST ≤ℤ p) × (p <ℤ (LOWEST +ℤ pos POSITIONS))

end_near : (dir : Dir) (place : ℤ) (begun : Option Pos) (end : ℤ)
    → IsFit (token dir place begun end) → IsNear end
end_near dir place begun end fit = (grind (arith, ints, fit.0), grind (arith, ints, fit.0))

place_near : (dir : Dir) (place : ℤ) (begun : Option Pos) (end : ℤ)
    → IsFit (token dir place begun end) → IsNear place
place_near Fore place None end fit = (grind (arith, ints), grind (arith, ints))
place_near Back place None end fit = (grind (arith, ints), grind (arith, ints))
place_near Fore place (Some begun) end fit = (grind (arith, ints), grind (arith, ints))
place_near Back place (Some begun) end fit = (grind (arith, ints), grind (arith, ints))

begun_near : (dir : Dir) (place begun end : ℤ)
    → IsFit (token dir place (Some (record { 0 = begun })) end) → IsNear begun
begun_near Fore place begun end fit = (grind (arith, ints), grind (arith, ints))
begun_near Back place begun end fit = (grind (arith, ints), grind (arith, ints))

-- the text is that of a token with these parts, and some others
abbrev WithPlaces : List ℕ → Dir → ℤ → ℤ → Type 0
WithPlaces text dir place end = (begun : Option Pos) × IsToken text (token dir place begun end)

abbrev WithEnd : List ℕ → Dir → ℤ → Type 0
WithEnd text dir end = (place : ℤ) × WithPlaces text dir place end

abbrev WithDir : List ℕ → Dir → Type 0
WithDir text dir = (end : ℤ) × WithEnd text dir end

begun_or_not : (text : List ℕ) (dir : Dir) (place end : ℤ) → WithPlaces text dir place end
    ⊎ ¬ (WithPlaces text dir place end)
begun_or_not text dir place end =
    elim (token_means_or_not text dir place None end) [
      | inl is ↦ inl (None, is)
      | inr closed ↦
          elim (number_with (λ z. IsToken text (token dir place (Some (record { 0 = z })) end))
          LOWEST POSITIONS
          (λ z. token_means_or_not text dir place (Some (record { 0 = z })) end)
          (λ z is. begun_near dir place z end is.1)) [
            | inl f ↦ inl (Some (record { 0 = f.0 }), f.1)
            | inr opened ↦ inr (λ x. neither closed opened x.0 x.1)
          ]
    ]
  where
    neither : ¬ (IsToken text (token dir place None end))
        → ¬ ((z : ℤ) × IsToken text (token dir place (Some (record { 0 = z })) end))
        → (begun : Option Pos) → ¬ (IsToken text (token dir place begun end))
    neither closed opened None is = closed is
    neither closed opened (Some begun) is = opened (begun.0, is)

place_or_not : (text : List ℕ) (dir : Dir) (end : ℤ) → WithEnd text dir end
    ⊎ ¬ (WithEnd text dir end)
place_or_not text dir end = number_with (λ place. WithPlaces text dir place end) LOWEST POSITIONS
    (λ place. begun_or_not text dir place end) (λ place x. place_near dir place x.0 end x.1.1)

end_or_not : (text : List ℕ) (dir : Dir) → WithDir text dir ⊎ ¬ (WithDir text dir)
end_or_not text dir = number_with (WithEnd text dir) LOWEST POSITIONS (place_or_not text dir)
    (λ end x. end_near dir x.0 x.1.0 end x.1.1.1)

token_or_not : (text : List ℕ) → ((t : Token) × IsToken text t) ⊎ ¬ ((t : Token) × IsToken text t)
token_or_not text =
    elim (end_or_not text Fore) [
      | inl f ↦ inl (token Fore f.1.0 f.1.1.0 f.0, f.1.1.1)
      | inr not_fore ↦ elim (end_or_not text Back) [
        | inl f ↦ inl (token Back f.1.0 f.1.1.0 f.0, f.1.1.1)
        | inr not_back ↦ inr (λ x. neither not_fore not_back x.0.dir x.0.place.0 x.0.begun x.0.end.0
            x.1)
      ]
    ]
  where
    neither : ¬ (WithDir text Fore) → ¬ (WithDir text Back) → (dir : Dir) (place : ℤ)
        (begun : Option Pos) (end : ℤ) → ¬ (IsToken text (token dir place begun end))
    neither not_fore not_back Fore place begun end is = not_fore (end, (place, (begun, is)))
    neither not_fore not_back Back place begun end is = not_back (end, (place, (begun, is)))

stamp_or_not : (text : List ℕ) → ((stamp : Stamp) × IsStamp text stamp)
    ⊎ ¬ ((stamp : Stamp) × IsStamp text stamp)
stamp_or_not text =
    elim (moment_or_not text true) [
      | inl f ↦ inl (record { moment = record { 0 = f.0 }; absolute = true }, f.1)
      | inr not_absolute ↦ elim (moment_or_not text false) [
        | inl f ↦ inl (record { moment = record { 0 = f.0 }; absolute = false }, f.1)
        | inr not_floating ↦ inr (λ x. neither not_absolute not_floating x.0.moment.0 x.0.absolute
            x.1)
      ]
    ]
  where
    neither : ¬ ((t : ℤ) × Names text t true) → ¬ ((t : ℤ) × Names text t false)
        → (t : ℤ) (absolute : Bool) → ¬ (Names text t absolute)
    neither not_absolute not_floating t true names = not_absolute (t, names)
    neither not_absolute not_floating t false names = not_floating (t, names)

digits_or_not : (ds : List ℕ) → AllDigits 10 ds ⊎ ¬ (AllDigits 10 ds)
digits_or_not [] = inl tt
digits_or_not (d ∷ ds) =
    elim (cases_lt (digit_value d) 10) [
      | inl digit ↦ elim (digits_or_not ds) [
        | inl all ↦ inl (digit, all)
        | inr isnt ↦ inr (λ h. isnt h.1)
      ]
      | inr above ↦ inr (λ h. absurd (omega (arith, above, h.0)))
    ]

number_or_not : (least most : ℕ) (ds : List ℕ) → ((n : ℕ) × IsNumber least most ds n)
    ⊎ ¬ ((n : ℕ) × IsNumber least most ds n)
number_or_not least most ds =
    elim (cases_lt 0 (length ds)) [
      | inr empty ↦ inr (λ x. absurd (omega (arith, empty, x.1.numeral.0)))
      | inl some ↦ elim (digits_or_not ds) [
        | inr isnt ↦ inr (λ x. isnt x.1.numeral.1)
        | inl all ↦ elim (cases_lt (digits_value 10 ds) least) [
          | inl low ↦ inr (λ x. absurd (omega (arith, low, x.1.value, x.1.in_range.0)))
          | inr above ↦ elim (cases_lt most (digits_value 10 ds)) [
            | inl high ↦ inr (λ x. absurd (omega (arith, high, x.1.value, x.1.in_range.1)))
            | inr below ↦
                inl (
                  digits_value 10 ds,
                  record {
                    numeral = (some, all);
                    value = refl;
                    in_range =
                        (above, below);
                  },
                )
          ]
        ]
      ]
    ]

stamp_form : (text : List ℕ) → ((v : Value) × IsStampValue text v)
    ⊎ ¬ ((v : Value) × IsStampValue text v)
stamp_form text = elim (stamp_or_not text) [
  | inl f ↦ inl (Stamped f.0, f.1)
  | inr none ↦
      inr (λ x. by_value none x.0 x.1)
]
  where
    by_value : ¬ ((s : Stamp) × IsStamp text s) → (v : Value) → ¬ (IsStampValue text v)
    by_value none (Stamped s) is = none (s, is)
    by_value none v is = is

number_form : (least most : ℕ) (text : List ℕ)
    → ((v : Value) × IsNumberValue (IsNumber least most) text v)
    ⊎ ¬ ((v : Value) × IsNumberValue (IsNumber least most) text v)
number_form least most text = elim (number_or_not least most text)
    [ inl f ↦ inl (Number f.0, f.1) | inr none ↦ inr (λ x. by_value none x.0 x.1) ]
  where
    by_value : ¬ ((n : ℕ) × IsNumber least most text n) → (v : Value)
        → ¬ (IsNumberValue (IsNumber least most) text v)
    by_value none (Number n) is = none (n, is)
    by_value none v is = is

dir_form : (text : List ℕ) → ((v : Value) × IsDirValue text v) ⊎ ¬ ((v : Value) × IsDirValue text v)
dir_form text =
    elim (same_or_not text (codes "fore")) [
      | inl fore ↦ inl (Directed Fore, fore)
      | inr not_fore ↦ elim (same_or_not text (codes "back")) [
        | inl back ↦ inl (Directed Back, back)
        | inr not_back ↦ inr (λ x. by_value not_fore not_back x.0 x.1)
      ]
    ]
  where
    by_value : ¬ (text ≡ codes "fore") → ¬ (text ≡ codes "back") → (v : Value)
        → ¬ (IsDirValue text v)
    by_value not_fore not_back (Directed Fore) is = not_fore is
    by_value not_fore not_back (Directed Back) is = not_back is
    by_value not_fore not_back v is = is

token_form : (text : List ℕ) → ((v : Value) × IsTokenValue text v)
    ⊎ ¬ ((v : Value) × IsTokenValue text v)
token_form text = elim (token_or_not text) [
  | inl f ↦ inl (Placed f.0, f.1)
  | inr none ↦
      inr (λ x. by_value none x.0 x.1)
]
  where
    by_value : ¬ ((t : Token) × IsToken text t) → (v : Value) → ¬ (IsTokenValue text v)
    by_value none (Placed t) is = none (t, is)
    by_value none v is = is

value_or_not : (key : Key) (text : List ℕ) → ((v : Value) × IsValue key text v)
    ⊎ ¬ ((v : Value) × IsValue key text v)
value_or_not At text = stamp_form text
value_or_not From text = stamp_form text
value_or_not To text = stamp_form text
value_or_not DirOf text = dir_form text
value_or_not Limit text = number_form 1 1_000_000 text
value_or_not Budget text = number_form 1 1_000_000_000_000 text
value_or_not TokenOf text = token_form text
value_or_not Seed text = number_form 0 18_446_744_073_709_551_615 text

order_or_not : (first last : Stamp) → AreInOrder first last ⊎ ¬ (AreInOrder first last)
order_or_not first last = both_or_not (le_or_not first.moment.0 last.moment.0)
    (same_clock first.absolute last.absolute)
  where
    same_clock : (a b : Bool) → (a ≡ b) ⊎ ¬ (a ≡ b)
    same_clock true true = inl refl
    same_clock false false = inl refl
    same_clock true false = inr true≢false
    same_clock false true = inr (λ e. true≢false (sym e))

module _ (apart : LiteralsTellMomentsApart) (tokens : TextsTellTokensApart) where
  -- some word gives the key a moment that isn't as it is to be, or none does
  IsOut : Key → (Stamp → Type 0) → List ℕ → Type 0
  IsOut key Good word = (text : List ℕ) × (t : Stamp) × (word ≡ word_of key text) × IsStamp text t
      × ¬ (Good t)

  out_or_not : (key : Key) (Good : Stamp → Type 0) → ((t : Stamp) → Good t ⊎ ¬ (Good t))
      → (word : List ℕ) → IsOut key Good word ⊎ ¬ (IsOut key Good word)
  unfolding IsOut
  out_or_not key Good test word =
      elim (gives_or_not key word) [
        | inr none ↦ inr (λ x. none (x.0, x.2))
        | inl g ↦ elim (stamp_or_not g.0) [
          | inr none ↦ inr
              (λ x. none (
                x.1,
                subst (λ v. IsStamp v x.1)
                    (one_value key key x.0 g.0 (sym x.2 ∙ g.1)) x.3,
              ))
          | inl s ↦ elim (test s.0) [
            | inr late ↦ inl (g.0, s.0, g.1, s.1, late)
            | inl good ↦ inr
                (λ x. x.4 (subst Good
                (one_stamp apart g.0 s.0 x.1 s.1
                (subst (λ v. IsStamp v x.1) (one_value key key x.0 g.0 (sym x.2 ∙ g.1)) x.3)) good))
          ]
        ]
      ]

  all_or_not : (before : List (List ℕ)) (key : Key) (Good : Stamp → Type 0)
      → ((t : Stamp) → Good t ⊎ ¬ (Good t)) → ((t : Stamp) → Says before key IsStamp t → Good t)
      ⊎ ¬ ((t : Stamp) → Says before key IsStamp t → Good t)
  unfolding IsOut
  all_or_not before key Good test =
      elim (find_or_not (IsOut key Good) (out_or_not key Good test) before) [
        | inl f ↦ inr
            (λ all. f.passes.4
            (all f.passes.1
            (record {
              value = f.passes.0;
              given = subst (Contains before) f.passes.2 f.inside;
              is =
                  f.passes.3;
            })))
        | inr none ↦ inl
            (λ t says. elim (test t) [
              | inl good ↦ good
              | inr late ↦
                  absurd (none (word_of key says.value) says.given
                  (says.value, t, refl, says.is, late))
            ])
      ]

  agrees_or_not : (before : List (List ℕ)) (key : Key) (v : Value) → Agrees before key v
      ⊎ ¬ (Agrees before key v)
  agrees_or_not before From (Stamped first) = all_or_not before To (AreInOrder first)
      (order_or_not first)
  agrees_or_not before To (Stamped last) = all_or_not before From (λ first. AreInOrder first last)
      (λ first. order_or_not first last)
  agrees_or_not before key v = inl tt

  form_or_not : (before : List (List ℕ)) (key : Key) (text : List ℕ) → InForm before key text
      ⊎ ¬ (InForm before key text)
  form_or_not before key text =
      elim (value_or_not key text) [
        | inr isnt ↦ inr (λ x. isnt (x.value, x.is))
        | inl x ↦ elim (agrees_or_not before key x.0) [
          | inl agrees ↦ inl (record { value = x.0; is = x.1; agrees = agrees })
          | inr differ ↦
              inr (λ y. differ
              (subst (Agrees before key) (one_meaning apart tokens key text y.value x.0 y.is x.1)
              y.agrees))
        ]
      ]

  fits_or_not : (command : Command) (before : List (List ℕ)) (word : List ℕ)
      → Fits command before word ⊎ ¬ (Fits command before word)
  fits_or_not command before word =
      elim (setting_or_not word) [
        | inr none ↦ inr (λ f. none f.key f.value f.word_is)
        | inl s ↦ elim (find_or_not (λ k. k ≡ s.0) (λ k. same_key k s.0) (keys_of command)) [
          | inr none ↦ inr (λ f. none s.0 (fits_by command before word s.0 s.1 s.2 f).0 refl)
          | inl taken ↦ elim (lacking_or_not before s.0) [
            | inr again ↦ inr (λ f. again (fits_by command before word s.0 s.1 s.2 f).1)
            | inl lacks ↦ elim (form_or_not before s.0 s.1) [
              | inr isnt ↦ inr (λ f. isnt (fits_by command before word s.0 s.1 s.2 f).2)
              | inl form ↦ inl (record {
                key = s.0;
                value = s.1;
                word_is = s.2;
                of_command =
                    subst (Contains (keys_of command)) taken.passes taken.inside;
                first = lacks;
                in_form = form;
              })
            ]
          ]
        ]
      ]

  fit_or_bad : (command : Command) (words : List (List ℕ)) (n : ℕ) → n ≤ length words
      → FitBelow command words n ⊎ ((m : ℕ) × IsFirstBad command words m)
  fit_or_bad command words zero within =
      inl (λ before word after e less. absurd (omega (arith, less)))
  fit_or_bad command words (suc n) within =
      elim (fit_or_bad command words n (omega (arith, within))) [
        | inr b ↦ inr b
        | inl fit ↦ one_more fit
      ]
    where
      word : List ℕ
      word = get_or words n []

      cut : words ≡ take n words ++ word ∷ drop (suc n) words
      cut = sym (take-append-drop n words) ∙ ap (λ ys. take n words ++ ys)
          (drop-cons words n [] (omega (arith, within)))

      size : length (take n words) ≡ n
      size = length-take-le n words (omega (arith, within))

      one_more : FitBelow command words n → FitBelow command words (suc n)
          ⊎ ((m : ℕ) × IsFirstBad command words m)
      one_more fit =
          elim (fits_or_not command (take n words) word) [
            | inl fits ↦ inl (subst (FitBelow command words) (let e : n + 1 ≡ suc n = omega arith in
                e) (fits_one_more command words (take n words) (drop (suc n) words) word n cut size
                fit fits))
            | inr isnt ↦ inr (
              n + 1,
              unfit_first command words (take n words) (drop (suc n) words)
                  word n cut size fit isnt,
            )
          ]

  good_or_bad : (command : Command) (words : List (List ℕ)) → AreGood command words
      ⊎ ((m : ℕ) × IsFirstBad command words m)
  good_or_bad command words =
      elim (fit_or_bad command words (length words) (omega arith)) [
        | inr b ↦ inr b
        | inl fit ↦ elim (find_or_not (Lacks words) (lacking_or_not words) (required command)) [
          | inl f ↦ inr (
            length words + 1,
            missing_first command words f.element fit f.inside
                f.passes,
          )
          | inr none ↦ inl (all_good command words fit none)
        ]
      ]

  -- the values in good words are in form
  good_value : (command : Command) (later : List (List ℕ)) (key : Key) (value : List ℕ)
      → AreGood command later → Gives later key value → (v : Value) × IsValue key value v
  good_value command later key value good (k, within, is) =
      elim (value_or_not key value) [
        | inl form ↦ form
        | inr isnt ↦ absurd (good (suc (length (take k later)))
            (unfit (take k later) (word_of key value) (drop (suc k) later)
            (cut_at later k (word_of key value) within is)
            (λ f. let x = (fits_by command (take k later) (word_of key value) key value refl f).2 in
            isnt (x.value, x.is))))
      ]

  -- good words tell a value of each key that they give
  good_told : (command : Command) (later : List (List ℕ)) → AreGood command later → (key : Key)
      → (o : Option Value) × Tells later key (IsValue key) o
  good_told command later good key =
      elim (given_or_lacking later key) [
        | inl g ↦ (let x = good_value command later key g.0 good g.1 in
            (Some x.0, record { value = g.0; given = g.1; is = x.1 }))
        | inr lacks ↦ (None, lacks)
      ]

  -- and of a key that they need
  needed_told : {X : Type 0} (command : Command) (later : List (List ℕ)) (key : Key)
      (Is : List ℕ → X → Type 0) → required command ≡ key ∷ [] → AreGood command later
      → (o : Option X) → Tells later key Is o → (x : X) × (o ≡ Some x)
  needed_told command later key Is one good (Some x) told = (x, refl)
  needed_told command later key Is one good None lacks =
      absurd (good (suc (length later)) (missing key (needed command key one) lacks))

  good_near : (side : Neighbour) (later : List (List ℕ)) → AreGood (command_of side) later
      → (q : Query) × Asks (name_of (command_of side) ∷ later) q
  good_near side later good =
      let told : Key → Option Value = λ key. (good_told (command_of side) later good key).0 in
      let each : Told later told = λ key. (good_told (command_of side) later good key).1 in
      let at = needed_told (command_of side) later At IsStamp (near_needs side) good
      (stamp_in (told At)) (stamp_told later At (told At) (each At)) in
      (near_by side at.0 told, near_asked side later told at.0 good each at.1)

  good_walk : (later : List (List ℕ)) → AreGood Walk later → (q : Query)
      × Asks (name_of Walk ∷ later) q
  good_walk later good =
      let told : Key → Option Value = λ key. (good_told Walk later good key).0 in
      let each : Told later told = λ key. (good_told Walk later good key).1 in
      (walk_by told, walk_asked later told good each)

  good_resume : (later : List (List ℕ)) → AreGood Resume later → (q : Query)
      × Asks (name_of Resume ∷ later) q
  good_resume later good =
      let told : Key → Option Value = λ key. (good_told Resume later good key).0 in
      let each : Told later told = λ key. (good_told Resume later good key).1 in
      let token = needed_told Resume later TokenOf IsToken refl good (token_in (told TokenOf))
      (token_told later TokenOf (told TokenOf) (each TokenOf)) in
      (resume_by token.0 told, resume_asked later told token.0 good each token.1)

  good_query : (command : Command) (later : List (List ℕ)) → is_built command ≡ true
      → AreGood command later → (q : Query) × Asks (name_of command ∷ later) q
  good_query Next later built good = good_near neighbours.Next later good
  good_query Previous later built good = good_near neighbours.Previous later good
  good_query Current later built good = good_near neighbours.Current later good
  good_query Closest later built good = good_near neighbours.Closest later good
  good_query ContainsOf later built good = good_near neighbours.Contains later good
  good_query Walk later built good = good_walk later good
  good_query Resume later built good = good_resume later good
  good_query Show later built good = (Showing, show_asked later good)
  good_query Min later built good = absurd (true≢false (sym built))
  good_query Max later built good = absurd (true≢false (sym built))
  good_query Empty later built good = absurd (true≢false (sym built))
  good_query Count later built good = absurd (true≢false (sym built))
  good_query Duration later built good = absurd (true≢false (sym built))
  good_query Audit later built good = absurd (true≢false (sym built))
  good_query ContainsSet later built good = absurd (true≢false (sym built))
  good_query Intersects later built good = absurd (true≢false (sym built))
  good_query Intersected later built good = absurd (true≢false (sym built))
  good_query Load later built good = absurd (true≢false (sym built))

  named_answer : (command : Command) (later : List (List ℕ)) (b : Bool) → is_built command ≡ b
      → (answer : Result Query WordsFault) × AreRead (name_of command ∷ later) answer
  named_answer command later false e = (Err Unbuilt, unbuilt command later refl e)
  named_answer command later true e =
      elim (good_or_bad command later) [
        | inl good ↦ (let asked = good_query command later e good in (Ok asked.0, asked.1))
        | inr b ↦ (Err (Bad b.0), bad command later b.0 refl e b.1)
      ]

  first_of : List (List ℕ) → List ℕ
  first_of [] = []
  first_of (x ∷ xs) = x

  pub words_are_read : WordsAreRead
  words_are_read [] = (Err (Bad 0), no_command (λ c l e. absurd cc))
  words_are_read (first ∷ later) =
      elim (command_or_not first) [
        | inl c ↦ subst (λ f. (answer : Result Query WordsFault) × AreRead (f ∷ later) answer)
            (sym c.1) (named_answer c.0 later (is_built c.0) refl)
        | inr none ↦ (Err (Bad 0), no_command (λ c l e. none c cc))
      ]
