-- The settings that are read from words.
use Rattle.std.specs.Prelude.{◌≡◌, ◌<◌, ◌++◌, ◌∷◌, ℕ, List, length, get_or, Option, Some, None}
use Rattle.query_words.specs.declared.commands.Command.{Command}
use Rattle.query_words.specs.declared.commands.Key.{Key}
use Rattle.query_words.specs.declared.commands.Key.TheVariants.{At, From, To, Dir as DirOf, Limit, Budget, Token as TokenOf, Seed}
use Rattle.query_words.specs.declared.values.Value.{Value}
use Rattle.query_words.specs.declared.values.Value.TheVariants.{Stamp as Stamped, Dir as Directed, Number, Token as Placed}
use Rattle.moment_core.specs.declared.line.Dir.{Dir}
use Rattle.moment_core.specs.declared.line.Stamp.{Stamp}
use Rattle.span_core.specs.declared.answers.Token.{Token}
use Rattle.query_words.specs.declared.settings.Settings.{Settings}
use Rattle.query_words.specs.Words.{AreInOrder, Fits, Gives, IsValue, Tells}

-- where the value of a key stands
abbrev pub place_of : Key → ℕ
place_of At = 0
place_of From = 1
place_of To = 2
place_of DirOf = 3
place_of Limit = 4
place_of Budget = 5
place_of TokenOf = 6
place_of Seed = 7

abbrev pub value_at : Settings → Key → Option Value
value_at s key = get_or s.values (place_of key) None

-- the settings are those of the words: each key has the value that they say, or they lack it
pub record Holds (words : List (List ℕ)) (s : Settings) : Type 0 where
  pub all : length s.values ≡ 8
  pub once : (key : Key) (v w : List ℕ) → Gives words key v → Gives words key w → v ≡ w
  pub each : (key : Key) → Tells words key (IsValue key) (value_at s key)

abbrev pub stamp_in : Option Value → Option Stamp
stamp_in (Some (Stamped s)) = Some s
stamp_in v = None

abbrev pub AreOrdered : Option Stamp → Option Stamp → Type 0
AreOrdered (Some first) (Some last) = AreInOrder first last
AreOrdered (Some first) None = Unit {0}
AreOrdered None last = Unit {0}

abbrev pub number_in : Option Value → Option ℕ
number_in (Some (Number n)) = Some n
number_in v = None

abbrev pub dir_in : Option Value → Option Dir
dir_in (Some (Directed dir)) = Some dir
dir_in v = None

abbrev pub token_in : Option Value → Option Token
token_in (Some (Placed t)) = Some t
token_in v = None

-- each of the first n words fits
abbrev pub FitBelow : Command → List (List ℕ) → ℕ → Type 0
FitBelow command words n =
    (before : List (List ℕ)) (word : List ℕ) (after : List (List ℕ))
    → words ≡ before ++ word ∷ after
    → length before < n → Fits command before word

-- so does each of them
abbrev pub AllFit : Command → List (List ℕ) → Type 0
AllFit command words = FitBelow command words (length words)
