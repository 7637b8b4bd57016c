-- The key and the value of a word, and the names of commands.
use Rattle.std.proofs.Common.{◌≡◌, ◌≢◌, ◌++◌, ◌∷◌, ◌==◌, [], ℕ, zero, suc, List, Bool, false, Contains, IsTrue, ◌↔◌, inl, inr, codes, refl, sym, ◌∙◌, ap, subst, arith, if◌then◌else◌}
use Rattle.std.proofs.lemmas.Bool.{true≢false}
use Rattle.std.proofs.lemmas.List.Elements.{Contains-append_right, Contains-append_cases}
use Rattle.std.specs.List.{before_first, after_first}
use Rattle.std.specs.Str.{bytes_eq}
use Rattle.query_words.specs.declared.commands.Command.{Command}
use Rattle.query_words.specs.declared.commands.Command.TheVariants.{Next, Previous, Current, Closest, Contains as ContainsOf, Walk, Resume, Min, Max, Empty, Count, Duration, Audit, ContainsSet, Intersects, Intersected, Show, Load}
use Rattle.query_words.specs.declared.commands.Key.{Key}
use Rattle.query_words.specs.declared.commands.Key.TheVariants.{At, From, To, Dir, Limit, Budget, Token, Seed}
use Rattle.query_words.specs.Commands.{name_of, key_text, keys_of}
use Rattle.query_words.specs.Words.{word_of, Fits, InForm, Lacks}

-- `=`
abbrev pub is_equals : ℕ → Bool
is_equals b = b == 61

-- no key has an `=` in it
pub key_before : (key : Key) (value : List ℕ) → before_first is_equals (word_of key value)
    ≡ key_text key
key_before At value = refl
key_before From value = refl
key_before To value = refl
key_before Dir value = refl
key_before Limit value = refl
key_before Budget value = refl
key_before Token value = refl
key_before Seed value = refl

pub value_after : (key : Key) (value : List ℕ) → after_first is_equals (word_of key value) ≡ value
value_after At value = refl
value_after From value = refl
value_after To value = refl
value_after Dir value = refl
value_after Limit value = refl
value_after Budget value = refl
value_after Token value = refl
value_after Seed value = refl

-- the key of a text, and any where it is none
pub read_key : List ℕ → Key
read_key text =
    if bytes_eq text (codes "at") then At else if bytes_eq text (codes "from") then From else if
    bytes_eq text (codes "to") then To
    else if bytes_eq text (codes "dir") then Dir else if bytes_eq text (codes "limit") then Limit
    else if bytes_eq text (codes "budget") then Budget else if bytes_eq text (codes "token") then
    Token else Seed

pub read_key-text : (key : Key) → read_key (key_text key) ≡ key
unfolding read_key
read_key-text At = refl
read_key-text From = refl
read_key-text To = refl
read_key-text Dir = refl
read_key-text Limit = refl
read_key-text Budget = refl
read_key-text Token = refl
read_key-text Seed = refl

pub one_key : (a b : Key) (v w : List ℕ) → word_of a v ≡ word_of b w → a ≡ b
one_key a b v w e = sym (read_key-text a)
    ∙ ap read_key (sym (key_before a v) ∙ ap (before_first is_equals) e ∙ key_before b w)
    ∙ read_key-text b

pub one_value : (a b : Key) (v w : List ℕ) → word_of a v ≡ word_of b w → v ≡ w
one_value a b v w e = sym (value_after a v) ∙ ap (after_first is_equals) e ∙ value_after b w

-- a word that fits does so with its own key and value
pub fits_by : (command : Command) (before : List (List ℕ)) (word : List ℕ) (key : Key)
    (value : List ℕ) → word ≡ word_of key value → Fits command before word
    → Contains (keys_of command) key × Lacks before key × InForm before key value
fits_by command before word key value is fits =
    let whole : word_of fits.key fits.value ≡ word_of key value = sym fits.word_is ∙ is in
    let same = one_key fits.key key fits.value value whole in (
      subst (Contains (keys_of command)) same fits.of_command,
      subst (Lacks before) same fits.first,
      subst (InForm before key) (one_value fits.key key fits.value value whole)
          (subst (λ k. InForm before k fits.value) same fits.in_form),
    )

-- the command of a name, and any where it is none
pub read_command : List ℕ → Command
read_command name =
    if bytes_eq name (codes "next") then Next else if bytes_eq name (codes "previous") then Previous
    else if bytes_eq name (codes "current") then Current else if bytes_eq name (codes "closest")
    then Closest
    else if bytes_eq name (codes "contains") then ContainsOf else if bytes_eq name (codes "walk")
    then Walk
    else if bytes_eq name (codes "resume") then Resume else if bytes_eq name (codes "min") then Min
    else if bytes_eq name (codes "max") then Max else if bytes_eq name (codes "empty") then Empty
    else if bytes_eq name (codes "count") then Count else if bytes_eq name (codes "duration") then
    Duration
    else if bytes_eq name (codes "audit") then Audit else if bytes_eq name (codes "contains_set")
    then ContainsSet
    else if bytes_eq name (codes "intersects") then Intersects else if bytes_eq name
    (codes "intersected") then Intersected
    else if bytes_eq name (codes "show") then Show else Load

pub read_command-name : (command : Command) → read_command (name_of command) ≡ command
unfolding read_command
read_command-name Next = refl
read_command-name Previous = refl
read_command-name Current = refl
read_command-name Closest = refl
read_command-name ContainsOf = refl
read_command-name Walk = refl
read_command-name Resume = refl
read_command-name Min = refl
read_command-name Max = refl
read_command-name Empty = refl
read_command-name Count = refl
read_command-name Duration = refl
read_command-name Audit = refl
read_command-name ContainsSet = refl
read_command-name Intersects = refl
read_command-name Intersected = refl
read_command-name Show = refl
read_command-name Load = refl

pub one_command : (a b : Command) → name_of a ≡ name_of b → a ≡ b
one_command a b e = sym (read_command-name a) ∙ ap read_command e ∙ read_command-name b

pub in_either : (xs ys : List Key) (key : Key) (a b : Bool) → (IsTrue a ↔ Contains xs key) → a
    ≡ false → (IsTrue b ↔ Contains ys key) → IsTrue b ↔ Contains (xs ++ ys) key
in_either xs ys key a b first not_first second = (
  λ is. Contains-append_right xs ys key (second.0 is),
  λ has.
      elim (Contains-append_cases xs ys key has) [
        | inl left ↦ absurd (true≢false (sym (first.1 left) ∙ not_first))
        | inr right ↦ second.1 right
      ],
)

pub contains_one : {X : Type 0} (x y : X) → Contains (x ∷ []) y → y ≡ x
contains_one x y (zero, less, e) = sym e
contains_one x y (suc k, less, e) = absurd (omega (arith, less))

pub contains_end : {X : Type 0} (xs : List X) (x : X) → Contains (xs ++ x ∷ []) x
contains_end xs x = Contains-append_right xs (x ∷ []) x (0, omega arith, refl)

-- a word of another key changes nothing
pub lacks_more : (words : List (List ℕ)) (key other : Key) (value : List ℕ) → key ≢ other
    → Lacks words key → Lacks (words ++ word_of other value ∷ []) key
lacks_more words key other value differs lacks v gives =
    elim (Contains-append_cases words (word_of other value ∷ []) (word_of key v) gives) [
      | inl before ↦ lacks v before
      | inr last ↦ differs
          (one_key key other v value (contains_one (word_of other value) (word_of key v) last))
    ]
