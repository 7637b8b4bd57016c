-- What words ask, by what they tell of each key.
use Rattle.std.proofs.Common.{◌≡◌, ◌≢◌, ◌+◌, ◌∷◌, [], ℕ, List, Contains, true, false, Option, Some, None, length, map, unwrap_or, refl, sym, ◌∙◌, subst, arith}
use Rattle.moment_core.specs.declared.line.Dir.{Dir}
use Rattle.moment_core.specs.declared.line.Dir.TheVariants.{Fore}
use Rattle.moment_core.specs.declared.line.Stamp.{Stamp}
use Rattle.span_core.specs.declared.answers.Token.{Token}
use Rattle.token_text.specs.Texts.{Means as IsToken}
use Rattle.moment_text.specs.Literal.{IsStamp}
use Rattle.query_words.specs.declared.commands.Command.{Command}
use Rattle.query_words.specs.declared.commands.Command.TheVariants.{Next, Previous, Current, Closest, Contains as ContainsOf, Walk, Resume, Min, Max, Empty, Count, Duration, Audit, ContainsSet, Intersects, Intersected, Show, Load}
use Rattle.query_words.specs.declared.commands.Key.{Key}
use Rattle.query_words.specs.declared.commands.Key.TheVariants.{At, From, To, Dir as DirOf, Limit, Budget, Token as TokenOf}
use Rattle.query_words.specs.declared.queries.Neighbour.{Neighbour}
use Rattle.query_words.specs.declared.queries.Neighbour.TheVariants as neighbours
use Rattle.query_words.specs.declared.queries.Query.{Query}
use Rattle.query_words.specs.declared.queries.Query.TheVariants.{Near, Walk as Walking, Resume as Resuming, Show as Showing}
use Rattle.query_words.specs.declared.queries.WordsFault.TheVariants.{Bad}
use Rattle.query_words.specs.declared.settings.Settings.{Settings}
use Rattle.query_words.specs.declared.values.Value.{Value}
use Rattle.query_words.specs.declared.values.Value.TheVariants.{Stamp as Stamped, Dir as Directed, Number, Token as Placed}
use Rattle.query_words.specs.Commands.{name_of, is_built, required}
use Rattle.query_words.specs.Neighbours.{command_of, neighbour_of}
use Rattle.query_words.specs.Reading.{Holds, AllFit, dir_in, number_in, stamp_in, token_in, value_at}
use Rattle.query_words.specs.Words.{command_of_query, AreGood, Asks, IsBudget, IsDir, IsLimit, IsDirValue, IsFirstBad, IsNumberValue, IsRefused, IsStampValue, IsTokenValue, IsValue, Lacks, Says, SaysBudget, SaysLimit, SaysOr, Tells, given, by_default, bad, no_command}
use Rattle.query_words.proofs.Positions.{all_good, missing_first}
use Rattle.query_words.proofs.SettingLemmas.{told_none}
use Rattle.query_words.proofs.WordLemmas.{contains_one}

-- what is said of a value is said of what it holds
pub stamp_told : (words : List (List ℕ)) (key : Key) (o : Option Value)
    → Tells words key IsStampValue o → Tells words key IsStamp (stamp_in o)
stamp_told words key None h = h
stamp_told words key (Some (Stamped s)) h = record { value = h.value; given = h.given; is = h.is }
stamp_told words key (Some v) h = absurd h.is

number_told : (words : List (List ℕ)) (key : Key) (Is : List ℕ → ℕ → Type 0) (o : Option Value)
    → Tells words key (IsNumberValue Is) o → Tells words key Is (number_in o)
number_told words key Is None h = h
number_told words key Is (Some (Number n)) h = record {
  value = h.value;
  given = h.given;
  is =
      h.is;
}
number_told words key Is (Some v) h = absurd h.is

dir_told : (words : List (List ℕ)) (key : Key) (o : Option Value) → Tells words key IsDirValue o
    → Tells words key IsDir (dir_in o)
dir_told words key None h = h
dir_told words key (Some (Directed d)) h = record { value = h.value; given = h.given; is = h.is }
dir_told words key (Some v) h = absurd h.is

pub token_told : (words : List (List ℕ)) (key : Key) (o : Option Value)
    → Tells words key IsTokenValue o → Tells words key IsToken (token_in o)
token_told words key None h = h
token_told words key (Some (Placed t)) h = record { value = h.value; given = h.given; is = h.is }
token_told words key (Some v) h = absurd h.is

or_default : {X : Type 0} (words : List (List ℕ)) (key : Key) (Is : List ℕ → X → Type 0)
    (default : X) (o : Option X) → Tells words key Is o → SaysOr words key Is default
    (unwrap_or o default)
or_default words key Is default None lacks = by_default lacks
or_default words key Is default (Some x) says = given x says

-- what the words tell of each key
abbrev pub Told : List (List ℕ) → (Key → Option Value) → Type 0
Told words told = (key : Key) → Tells words key (IsValue key) (told key)

abbrev pub dir_by : (Key → Option Value) → Dir
dir_by told = unwrap_or (dir_in (told DirOf)) Fore

abbrev pub limit_by : (Key → Option Value) → ℕ
limit_by told = unwrap_or (number_in (told Limit)) 1_000

abbrev pub budget_by : (Key → Option Value) → ℕ
budget_by told = unwrap_or (number_in (told Budget)) 100_000_000

limit_said : (words : List (List ℕ)) (told : Key → Option Value) → Told words told
    → SaysLimit words (limit_by told)
limit_said words told each = or_default words Limit IsLimit 1_000 (number_in (told Limit))
    (number_told words Limit IsLimit (told Limit) (each Limit))

budget_said : (words : List (List ℕ)) (told : Key → Option Value) → Told words told
    → SaysBudget words (budget_by told)
budget_said words told each = or_default words Budget IsBudget 100_000_000 (number_in (told Budget))
    (number_told words Budget IsBudget (told Budget) (each Budget))

said : {X : Type 0} (words : List (List ℕ)) (key : Key) (Is : List ℕ → X → Type 0) (o : Option X)
    (x : X) → Tells words key Is o → o ≡ Some x → Says words key Is x
said words key Is o x told e = subst (Tells words key Is) e told

-- the queries that words ask, by what they tell
abbrev pub near_by : Neighbour → Stamp → (Key → Option Value) → Query
near_by side at told = Near side at (budget_by told)

abbrev pub walk_by : (Key → Option Value) → Query
walk_by told = Walking (stamp_in (told From)) (stamp_in (told To)) (dir_by told) (limit_by told)
    (budget_by told)

abbrev pub resume_by : Token → (Key → Option Value) → Query
resume_by token told = Resuming token (limit_by told) (budget_by told)

near_built : (side : Neighbour) → is_built (command_of side) ≡ true
near_built neighbours.Next = refl
near_built neighbours.Previous = refl
near_built neighbours.Current = refl
near_built neighbours.Closest = refl
near_built neighbours.Contains = refl

pub near_needs : (side : Neighbour) → required (command_of side) ≡ At ∷ []
near_needs neighbours.Next = refl
near_needs neighbours.Previous = refl
near_needs neighbours.Current = refl
near_needs neighbours.Closest = refl
near_needs neighbours.Contains = refl

pub built : (query : Query) → is_built (command_of_query query) ≡ true
built (Near side at budget) = near_built side
built (Walking from to dir limit budget) = refl
built (Resuming token limit budget) = refl
built Showing = refl

-- where each word fits, words are good if no key is required, or the one that is required is given
none_needed : (command : Command) (words : List (List ℕ)) → required command ≡ []
    → AllFit command words → AreGood command words
none_needed command words none fit = all_good command words fit
    (λ key needs lacks. absurd
    (nothing key (subst (λ (keys : List Key). Contains keys key) none needs)))
  where
    nothing : (key : Key) → Contains [] key → ⊥
    nothing key (k, less, e) = omega (arith, less)

one_needed : (command : Command) (words : List (List ℕ)) (key : Key) → required command ≡ key ∷ []
    → AllFit command words → ¬ (Lacks words key) → AreGood command words
one_needed command words key one fit has =
    all_good command words fit
    (λ other needs lacks. has
    (subst (Lacks words)
    (contains_one key other (subst (λ (keys : List Key). Contains keys other) one needs)) lacks))

-- and else they are refused at their end
pub needed : (command : Command) (key : Key) → required command ≡ key ∷ []
    → Contains (required command) key
needed command key one = subst (λ (keys : List Key). Contains keys key) (sym one)
    (0, omega arith, refl)

one_missing : {X : Type 0} (command : Command) (words : List (List ℕ)) (key : Key)
    (Is : List ℕ → X → Type 0) (o : Option X) (n : ℕ) → is_built command ≡ true → required command
    ≡ key ∷ [] → AllFit command words
    → Tells words key Is o → o ≡ None → n ≡ length words → IsRefused (name_of command ∷ words)
    (Bad (n + 1))
one_missing command words key Is o n is_built one fit told e size =
    bad command words (n + 1) refl is_built
    (subst (λ m. IsFirstBad command words (m + 1)) (sym size)
    (missing_first command words key fit (needed command key one)
    (told_none words key Is o e told)))

-- good words ask the query of what they tell
pub near_asked : (side : Neighbour) (words : List (List ℕ)) (told : Key → Option Value) (at : Stamp)
    → AreGood (command_of side) words → Told words told → stamp_in (told At) ≡ Some at
    → Asks (name_of (command_of side) ∷ words) (near_by side at told)
near_asked side words told at good each is =
    record {
      later = words;
      is = refl;
      good = good;
      says = (
        said words At IsStamp (stamp_in (told At)) at (stamp_told words At (told At) (each At)) is,
        budget_said words told each,
      );
    }

pub walk_asked : (words : List (List ℕ)) (told : Key → Option Value) → AreGood Walk words
    → Told words told → Asks (name_of Walk ∷ words) (walk_by told)
walk_asked words told good each = record {
  later = words;
  is = refl;
  good = good;
  says = (
    stamp_told words From (told From) (each From),
    stamp_told words To (told To) (each To),
    or_default words DirOf IsDir Fore (dir_in (told DirOf))
        (dir_told words DirOf (told DirOf) (each DirOf)),
    limit_said words told each,
    budget_said words told each,
  );
}

pub resume_asked : (words : List (List ℕ)) (told : Key → Option Value) (token : Token)
    → AreGood Resume words → Told words told → token_in (told TokenOf) ≡ Some token
    → Asks (name_of Resume ∷ words) (resume_by token told)
resume_asked words told token good each is = record {
  later = words;
  is = refl;
  good = good;
  says = (
    said words TokenOf IsToken (token_in (told TokenOf)) token
        (token_told words TokenOf (told TokenOf) (each TokenOf)) is,
    limit_said words told each,
    budget_said words told each,
  );
}

pub near_asks : (side : Neighbour) (words : List (List ℕ)) (s : Settings) (at : Stamp)
    → AllFit (command_of side) words → Holds words s → stamp_in (value_at s At) ≡ Some at
    → Asks (name_of (command_of side) ∷ words) (near_by side at (value_at s))
near_asks side words s at fit held is =
    let says = said words At IsStamp (stamp_in (value_at s At)) at
    (stamp_told words At (value_at s At) (held.each At)) is in
    near_asked side words (value_at s) at (one_needed (command_of side) words At (near_needs side)
    fit (λ lacks. lacks says.value says.given)) held.each is

pub near_lacks_at : (side : Neighbour) (words : List (List ℕ)) (s : Settings) (n : ℕ)
    → AllFit (command_of side) words → Holds words s → stamp_in (value_at s At) ≡ None → n
    ≡ length words → IsRefused (name_of (command_of side) ∷ words) (Bad (n + 1))
near_lacks_at side words s n fit held e size =
    one_missing (command_of side) words At IsStamp (stamp_in (value_at s At)) n (near_built side)
    (near_needs side) fit (stamp_told words At (value_at s At) (held.each At)) e size

pub walk_asks : (words : List (List ℕ)) (s : Settings) → AllFit Walk words → Holds words s
    → Asks (name_of Walk ∷ words) (walk_by (value_at s))
walk_asks words s fit held = walk_asked words (value_at s) (none_needed Walk words refl fit)
    held.each

pub resume_asks : (words : List (List ℕ)) (s : Settings) (token : Token) → AllFit Resume words
    → Holds words s → token_in (value_at s TokenOf) ≡ Some token → Asks (name_of Resume ∷ words)
    (resume_by token (value_at s))
resume_asks words s token fit held is =
    let says = said words TokenOf IsToken (token_in (value_at s TokenOf)) token
    (token_told words TokenOf (value_at s TokenOf) (held.each TokenOf)) is in
    resume_asked words (value_at s) token (one_needed Resume words TokenOf refl fit
    (λ lacks. lacks says.value says.given)) held.each is

pub resume_lacks_token : (words : List (List ℕ)) (s : Settings) (n : ℕ) → AllFit Resume words
    → Holds words s → token_in (value_at s TokenOf) ≡ None → n ≡ length words
    → IsRefused (name_of Resume ∷ words) (Bad (n + 1))
resume_lacks_token words s n fit held e size =
    one_missing Resume words TokenOf IsToken (token_in (value_at s TokenOf)) n refl refl fit
    (token_told words TokenOf (value_at s TokenOf) (held.each TokenOf)) e size

pub show_asked : (words : List (List ℕ)) → AreGood Show words → Asks (name_of Show ∷ words) Showing
show_asked words good = record { later = words; is = refl; good = good; says = tt }

pub show_asks : (words : List (List ℕ)) → AllFit Show words → Asks (name_of Show ∷ words) Showing
show_asks words fit = show_asked words (none_needed Show words refl fit)

pub no_words : {X : Type 0} (bytes : X → List ℕ) (xs : List X) → length xs ≡ 0
    → IsRefused (map bytes xs) (Bad 0)
no_words bytes [] e = no_command (λ command later same. absurd cc)
no_words bytes (x ∷ xs) e = absurd (omega (arith, e))

pub no_name : (words later : List (List ℕ)) (first : List ℕ) → words ≡ first ∷ later
    → ((command : Command) → first ≢ name_of command) → IsRefused words (Bad 0)
no_name words later first e none =
    no_command (λ command rest same. none command (let whole = sym e ∙ same in cc))

pub not_built : (command : Command) → neighbour_of command ≡ None → command ≢ Walk
    → command ≢ Resume → command ≢ Show → is_built command ≡ false
not_built Next e walk resume show = absurd cc
not_built Previous e walk resume show = absurd cc
not_built Current e walk resume show = absurd cc
not_built Closest e walk resume show = absurd cc
not_built ContainsOf e walk resume show = absurd cc
not_built Walk e walk resume show = absurd (walk refl)
not_built Resume e walk resume show = absurd (resume refl)
not_built Show e walk resume show = absurd (show refl)
not_built Min e walk resume show = refl
not_built Max e walk resume show = refl
not_built Empty e walk resume show = refl
not_built Count e walk resume show = refl
not_built Duration e walk resume show = refl
not_built Audit e walk resume show = refl
not_built ContainsSet e walk resume show = refl
not_built Intersects e walk resume show = refl
not_built Intersected e walk resume show = refl
not_built Load e walk resume show = refl
