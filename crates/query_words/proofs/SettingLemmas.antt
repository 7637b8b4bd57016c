-- What is known of settings.
use Rattle.std.proofs.Common.{◌≡◌, ◌≢◌, ◌<◌, ◌==◌, ◌++◌, ◌∷◌, [], ◌⊎◌, ap, lit<, set, if◌then◌else◌, ℕ, List, Contains, true, false, Option, Some, None, inl, inr, length, refl, sym, ◌∙◌, subst, arith}
use Rattle.std.proofs.lemmas.Bool.{cases_eq}
use Rattle.std.proofs.lemmas.List.{get_or-set_same, get_or-set_other, length-set}
use Rattle.std.proofs.lemmas.List.Elements.{Contains-append_left, Contains-append_cases}
use Rattle.std.specs.Option.{is_some}
use Rattle.moment_core.specs.declared.line.Stamp.{Stamp}
use Rattle.moment_text.specs.Laws.{LiteralsTellMomentsApart}
use Rattle.moment_text.specs.Literal.{IsStamp}
use Rattle.query_words.specs.declared.commands.Key.{Key}
use Rattle.query_words.specs.declared.commands.Key.TheVariants.{At, From, To, Dir as DirOf, Limit, Budget, Token as TokenOf, Seed}
use Rattle.query_words.specs.declared.settings.Settings.{Settings}
use Rattle.query_words.specs.declared.values.Value.{Value}
use Rattle.query_words.specs.declared.values.Value.TheVariants.{Stamp as Stamped, Dir as Directed, Number, Token as Placed}
use Rattle.query_words.specs.Reading.{Holds, place_of, stamp_in, value_at, AreOrdered}
use Rattle.query_words.specs.Words.{word_of, Agrees, Gives, InForm, IsStampValue, IsValue, Lacks, Says, Tells}
use Rattle.query_words.proofs.Stamps.{one_stamp}
use Rattle.query_words.proofs.WordLemmas.{contains_end, contains_one, lacks_more, one_key, one_value}

-- a word of another key changes nothing
pub tells_more : {X : Type 0} (words : List (List ℕ)) (key other : Key) (value : List ℕ)
    (Is : List ℕ → X → Type 0) (o : Option X) → key ≢ other → Tells words key Is o
    → Tells (words ++ word_of other value ∷ []) key Is o
tells_more words key other value Is None differs h = lacks_more words key other value differs h
tells_more words key other value Is (Some x) differs h = record {
  value = h.value;
  given = Contains-append_left words (word_of other value ∷ []) (word_of key h.value) h.given;
  is = h.is;
}

-- a place without a value is one of a key that the words lack
pub told_none : {X : Type 0} (words : List (List ℕ)) (key : Key) (Is : List ℕ → X → Type 0)
    (o : Option X) → o ≡ None → Tells words key Is o → Lacks words key
told_none words key Is None e h = h
told_none words key Is (Some x) e h = absurd cc

pub told_some : {X : Type 0} (words : List (List ℕ)) (key : Key) (Is : List ℕ → X → Type 0)
    (o : Option X) → ¬ (o ≡ None) → Tells words key Is o → ¬ (Lacks words key)
told_some words key Is None some h lacks = some refl
told_some words key Is (Some x) some h lacks = lacks h.value h.given

-- the key of a place
key_at : ℕ → Key
key_at n = if n == 0 then At else if n == 1 then From else if n == 2 then To else if n == 3 then
    DirOf else if n == 4 then Limit else if n == 5 then Budget else if n == 6 then TokenOf else Seed

key_back : (key : Key) → key_at (place_of key) ≡ key
unfolding key_at
key_back At = refl
key_back From = refl
key_back To = refl
key_back DirOf = refl
key_back Limit = refl
key_back Budget = refl
key_back TokenOf = refl
key_back Seed = refl

one_place : (a b : Key) → place_of a ≡ place_of b → a ≡ b
one_place a b e = sym (key_back a) ∙ ap key_at e ∙ key_back b

place_small : (key : Key) → place_of key < 8
place_small At = lit< tt
place_small From = lit< tt
place_small To = lit< tt
place_small DirOf = lit< tt
place_small Limit = lit< tt
place_small Budget = lit< tt
place_small TokenOf = lit< tt
place_small Seed = lit< tt

abbrev pub with_value : Settings → Key → Option Value → Settings
with_value s key v = record { values = set s.values (place_of key) v }

pub value_put : (s : Settings) (key : Key) (v : Option Value) → length s.values ≡ 8
    → value_at (with_value s key v) key ≡ v
value_put s key v all = get_or-set_same s.values (place_of key) v None
    (omega (arith, all, place_small key))

value_kept : (s : Settings) (key other : Key) (v : Option Value) → (other ≡ key → ⊥)
    → value_at (with_value s key v) other ≡ value_at s other
value_kept s key other v differs = get_or-set_other s.values (place_of key) (place_of other) v None
    (λ e. differs (one_place other key e))

pub same_key : (a b : Key) → (a ≡ b) ⊎ ¬ (a ≡ b)
same_key a b = elim (cases_eq (place_of a) (place_of b))
    [ inl e ↦ inl (one_place a b e) | inr differs ↦ inr (λ e. differs (ap place_of e)) ]

-- a key that was lacking is given once
once_more : (before : List (List ℕ)) (key : Key) (text : List ℕ) → Lacks before key
    → ((other : Key) (v w : List ℕ) → Gives before other v → Gives before other w → v ≡ w)
    → (other : Key) (v w : List ℕ) → Gives (before ++ word_of key text ∷ []) other v
    → Gives (before ++ word_of key text ∷ []) other w → v ≡ w
once_more before key text lacks once other v w g h =
    elim (Contains-append_cases before (word_of key text ∷ []) (word_of other v) g) [
      | inl a ↦ elim (Contains-append_cases before (word_of key text ∷ []) (word_of other w) h) [
        | inl b ↦ once other v w a b
        | inr b ↦ absurd (new other w b v a)
      ]
      | inr a ↦ elim (Contains-append_cases before (word_of key text ∷ []) (word_of other w) h) [
        | inl b ↦ absurd (new other v a w b)
        | inr b ↦ one_value other key v text (contains_one (word_of key text) (word_of other v) a)
            ∙ sym (one_value other key w text (contains_one (word_of key text) (word_of other w) b))
      ]
    ]
  where
    new : (k : Key) (x : List ℕ) → Contains (word_of key text ∷ []) (word_of k x) → (y : List ℕ)
        → Gives before k y → ⊥
    new k x last y gives =
        lacks y (subst (λ z. Gives before z y)
        (one_key k key x text (contains_one (word_of key text) (word_of k x) last)) gives)

-- a moment that the words give a key is the one that settings hold
stamp_said : LiteralsTellMomentsApart → (before : List (List ℕ)) (s : Settings) (key : Key)
    (Is : IsValue key ≡ IsStampValue) → Holds before s → (t : Stamp) → Says before key IsStamp t
    → stamp_in (value_at s key) ≡ Some t
stamp_said apart before s key is h t says = by_value (value_at s key)
    (subst (λ (P : List ℕ → Value → Type 0). Tells before key P (value_at s key)) is (h.each key))
  where
    by_value : (o : Option Value) → Tells before key IsStampValue o → stamp_in o ≡ Some t
    by_value None lacks = absurd (lacks says.value says.given)
    by_value (Some (Stamped u)) told =
        let same : says.value ≡ told.value = h.once key says.value told.value says.given
        told.given in
        ap (λ (x : Stamp). Some x)
        (one_stamp apart told.value u t told.is (subst (λ v. IsStamp v t) same says.is))
    by_value (Some (Number n)) told = absurd told.is
    by_value (Some (Directed d)) told = absurd told.is
    by_value (Some (Placed p)) told = absurd told.is

-- and what they hold is said
stamp_held : (before : List (List ℕ)) (s : Settings) (key : Key) (Is : IsValue key ≡ IsStampValue)
    → Holds before s → (t : Stamp) → stamp_in (value_at s key) ≡ Some t → Says before key IsStamp t
stamp_held before s key is h t e = by_value (value_at s key)
    (subst (λ (P : List ℕ → Value → Type 0). Tells before key P (value_at s key)) is (h.each key)) e
  where
    by_value : (o : Option Value) → Tells before key IsStampValue o → stamp_in o ≡ Some t
        → Says before key IsStamp t
    by_value None told d = absurd cc
    by_value (Some (Stamped u)) told d = subst (Says before key IsStamp) (let same : u ≡ t = cc in
        same) (record { value = told.value; given = told.given; is = told.is })
    by_value (Some (Number n)) told d = absurd told.is
    by_value (Some (Directed dir)) told d = absurd told.is
    by_value (Some (Placed p)) told d = absurd told.is

pub from_agrees : LiteralsTellMomentsApart → (before : List (List ℕ)) (s : Settings) (first : Stamp)
    → Holds before s → AreOrdered (Some first) (stamp_in (value_at s To))
    → Agrees before From (Stamped first)
from_agrees apart before s first h ordered last says = subst (AreOrdered (Some first))
    (stamp_said apart before s To refl h last says) ordered

pub to_agrees : LiteralsTellMomentsApart → (before : List (List ℕ)) (s : Settings) (last : Stamp)
    → Holds before s → AreOrdered (stamp_in (value_at s From)) (Some last)
    → Agrees before To (Stamped last)
to_agrees apart before s last h ordered first says = subst (λ o. AreOrdered o (Some last))
    (stamp_said apart before s From refl h first says) ordered

pub from_ordered : (before : List (List ℕ)) (s : Settings) (first : Stamp) → Holds before s
    → Agrees before From (Stamped first) → AreOrdered (Some first) (stamp_in (value_at s To))
from_ordered before s first h agrees = by_last (stamp_in (value_at s To)) refl
  where
    by_last : (o : Option Stamp) → stamp_in (value_at s To) ≡ o → AreOrdered (Some first) o
    by_last None e = tt
    by_last (Some last) e = agrees last (stamp_held before s To refl h last e)

pub to_ordered : (before : List (List ℕ)) (s : Settings) (last : Stamp) → Holds before s
    → Agrees before To (Stamped last) → AreOrdered (stamp_in (value_at s From)) (Some last)
to_ordered before s last h agrees = by_first (stamp_in (value_at s From)) refl
  where
    by_first : (o : Option Stamp) → stamp_in (value_at s From) ≡ o → AreOrdered o (Some last)
    by_first None e = tt
    by_first (Some first) e = agrees first (stamp_held before s From refl h first e)

-- where a value is put in an empty place, the words lacked the key, and the word of the value tells
-- it
pub put_holds : (before : List (List ℕ)) (s : Settings) (key : Key) (text : List ℕ) (v : Value)
    → Holds before s → value_at s key ≡ None → IsValue key text v → Agrees before key v
    → Lacks before key × InForm before key text × Holds (before ++ word_of key text ∷ [])
    (with_value s key (Some v))
put_holds before s key text v h none is agrees = (
  told_none before key (IsValue key) (value_at s key) none (h.each key),
  record { value = v; is = is; agrees = agrees },
  record {
    all = length-set s.values (place_of key) (Some v) ∙ h.all;
    once =
        once_more before key text (told_none before key (IsValue key) (value_at s key) none
        (h.each key))
        h.once;
    each = each;
  },
)
  where
    each : (other : Key) → Tells (before ++ word_of key text ∷ []) other (IsValue other)
        (value_at (with_value s key (Some v)) other)
    each other =
        elim (same_key other key) [
          | inl e ↦ subst (λ (k : Key). Tells (before ++ word_of key text ∷ []) k (IsValue k)
              (value_at (with_value s key (Some v)) k)) (sym e)
              (subst (Tells (before ++ word_of key text ∷ []) key (IsValue key))
              (sym (value_put s key (Some v) h.all))
              (record { value = text; given = contains_end before (word_of key text); is = is }))
          | inr differs ↦ subst (Tells (before ++ word_of key text ∷ []) other (IsValue other))
              (sym (value_kept s key other (Some v) differs))
              (tells_more before other key text (IsValue other) (value_at s other) differs
              (h.each other))
        ]

pub some_not_none : {X : Type 0} (o : Option X) → is_some o ≡ true → o ≡ None → ⊥
some_not_none None e d = absurd cc
some_not_none (Some x) e d = absurd cc

pub none_if_not_some : {X : Type 0} (o : Option X) → is_some o ≡ false → o ≡ None
none_if_not_some None e = refl
none_if_not_some (Some x) e = absurd cc
