-- The words of a command line: a command, and what each later word sets.
use Rattle.std.specs.Prelude.{◌≡◌, ◌≢◌, ◌≤ℤ◌, ◌<◌, ◌++◌, ◌∷◌, ℕ, suc, true, false, List, codes, length, Option, Some, None, Result, Ok, Err}
use Rattle.std.specs.Int.{IsInRange}
use Rattle.std.specs.List.{Contains}
use Rattle.std.specs.Str.Parse.{IsNumeral, digits_value}
use Rattle.moment_core.specs.declared.line.Stamp.{Stamp}
use Rattle.moment_text.specs.Literal.{IsStamp}
use Rattle.query_words.specs.declared.commands.Command.{Command}
use Rattle.query_words.specs.declared.commands.Command.TheVariants as commands
use Rattle.query_words.specs.declared.commands.Key.{Key}
use Rattle.query_words.specs.declared.commands.Key.TheVariants.{At, From, To, Dir as DirOf, Limit, Budget, Token as TokenOf, Seed}
use Rattle.query_words.specs.declared.values.Value.{Value}
use Rattle.query_words.specs.declared.values.Value.TheVariants.{Stamp as Stamped, Dir as Directed, Number, Token as Placed}
use Rattle.moment_core.specs.declared.line.Dir.{Dir}
use Rattle.moment_core.specs.declared.line.Dir.TheVariants.{Fore, Back}
use Rattle.query_words.specs.declared.queries.Query.{Query}
use Rattle.query_words.specs.declared.queries.Query.TheVariants.{Near, Walk, Resume, Show}
use Rattle.query_words.specs.Neighbours.{command_of}
use Rattle.query_words.specs.declared.queries.WordsFault.{WordsFault}
use Rattle.query_words.specs.declared.queries.WordsFault.TheVariants.{Unbuilt, Bad}
use Rattle.query_words.specs.Commands.{name_of, required, keys_of, is_built, key_text}
use Rattle.token_text.specs.Texts.{Means as IsToken}

-- the word `key=value`
abbrev pub word_of : Key → List ℕ → List ℕ
word_of key value = key_text key ++ codes "=" ++ value

-- one of the words gives the key this value
abbrev pub Gives : List (List ℕ) → Key → List ℕ → Type 0
Gives words key value = Contains words (word_of key value)

-- no word gives the key a value
abbrev pub Lacks : List (List ℕ) → Key → Type 0
Lacks words key = (value : List ℕ) → ¬ (Gives words key value)

-- decimal digits without a sign, perhaps with zeros in front, of a number in a range
pub record IsNumber (least most : ℕ) (digits : List ℕ) (n : ℕ) : Type 0 where
  pub numeral : IsNumeral 10 digits
  pub value : digits_value 10 digits ≡ n
  pub in_range : IsInRange least most n

abbrev pub IsLimit : List ℕ → ℕ → Type 0
IsLimit = IsNumber 1 1_000_000

abbrev pub IsBudget : List ℕ → ℕ → Type 0
IsBudget = IsNumber 1 1_000_000_000_000

-- any number of 64 bits
abbrev pub IsSeed : List ℕ → ℕ → Type 0
IsSeed = IsNumber 0 18_446_744_073_709_551_615

-- the texts of directions
abbrev pub IsDir : List ℕ → Dir → Type 0
IsDir text Fore = text ≡ codes "fore"
IsDir text Back = text ≡ codes "back"

-- the text is that of a moment, a direction, a number or a token
abbrev pub IsStampValue : List ℕ → Value → Type 0
IsStampValue text (Stamped s) = IsStamp text s
IsStampValue text v = ⊥

abbrev pub IsDirValue : List ℕ → Value → Type 0
IsDirValue text (Directed dir) = IsDir text dir
IsDirValue text v = ⊥

abbrev pub IsNumberValue : (List ℕ → ℕ → Type 0) → List ℕ → Value → Type 0
IsNumberValue Is text (Number n) = Is text n
IsNumberValue Is text v = ⊥

abbrev pub IsTokenValue : List ℕ → Value → Type 0
IsTokenValue text (Placed t) = IsToken text t
IsTokenValue text v = ⊥

-- what a text means as the value of a key
abbrev pub IsValue : Key → List ℕ → Value → Type 0
IsValue At = IsStampValue
IsValue From = IsStampValue
IsValue To = IsStampValue
IsValue DirOf = IsDirValue
IsValue Limit = IsNumberValue IsLimit
IsValue Budget = IsNumberValue IsBudget
IsValue TokenOf = IsTokenValue
IsValue Seed = IsNumberValue IsSeed

-- a word gives the key a value, which says x
pub record Says {X : Type 0} (later : List (List ℕ)) (key : Key) (Is : List ℕ → X → Type 0)
    (x : X) : Type 0 where
  pub value : List ℕ
  pub given : Gives later key value
  pub is : Is value x

-- what the words say of a key, or that they lack it
abbrev pub Tells : {X : Type 0} → List (List ℕ) → Key → (List ℕ → X → Type 0) → Option X → Type 0
Tells later key Is None = Lacks later key
Tells later key Is (Some x) = Says later key Is x

-- what the words say of a key, or the default where they lack it
pub data SaysOr {X : Type 0} (later : List (List ℕ)) (key : Key) (Is : List ℕ → X → Type 0)
    (default : X) : X → Type 0 where
  given : (x : X) → Says later key Is x → SaysOr later key Is default x
  by_default : Lacks later key → SaysOr later key Is default default

-- the second moment is at or after the first, and on its clock
abbrev pub AreInOrder : Stamp → Stamp → Type 0
AreInOrder first last = (first.moment.0 ≤ℤ last.moment.0) × (first.absolute ≡ last.absolute)

-- the ends of a window are in order, where the other one was given before
abbrev pub Agrees : List (List ℕ) → Key → Value → Type 0
Agrees before From (Stamped first) =
    (last : Stamp) → Says before To IsStamp last → AreInOrder first last
Agrees before To (Stamped last) =
    (first : Stamp) → Says before From IsStamp first → AreInOrder first last
Agrees before key v = Unit {0}

-- a text in the key's form, which agrees with what the words before it say
pub record InForm (before : List (List ℕ)) (key : Key) (text : List ℕ) : Type 0 where
  pub value : Value
  pub is : IsValue key text value
  pub agrees : Agrees before key value

-- the word is `key=value` with a key of the command, which no word before it gives, and a value in
-- the key's form
pub record Fits (command : Command) (before : List (List ℕ)) (word : List ℕ) : Type 0 where
  pub key : Key
  pub value : List ℕ
  pub word_is : word ≡ word_of key value
  pub of_command : Contains (keys_of command) key
  pub first : Lacks before key
  pub in_form : InForm before key value

-- The number of a bad word, where the words behind the command are these. The command's word has
-- the number 0. Where a required key is missing, the end is bad.
pub data IsBad (command : Command) (later : List (List ℕ)) : ℕ → Type 0 where
  unfit : (before : List (List ℕ)) (word : List ℕ) (after : List (List ℕ))
      → later ≡ before ++ word ∷ after → ¬ (Fits command before word)
      → IsBad command later (suc (length before))
  missing : (key : Key) → Contains (required command) key → Lacks later key
      → IsBad command later (suc (length later))

pub record IsFirstBad (command : Command) (later : List (List ℕ)) (n : ℕ) : Type 0 where
  pub bad : IsBad command later n
  pub before : (k : ℕ) → k < n → ¬ (IsBad command later k)

abbrev pub AreGood : Command → List (List ℕ) → Type 0
AreGood command later = (n : ℕ) → ¬ (IsBad command later n)

abbrev pub SaysDir : List (List ℕ) → Dir → Type 0
SaysDir later = SaysOr later DirOf IsDir Fore

abbrev pub SaysLimit : List (List ℕ) → ℕ → Type 0
SaysLimit later = SaysOr later Limit IsLimit 1_000

abbrev pub SaysBudget : List (List ℕ) → ℕ → Type 0
SaysBudget later = SaysOr later Budget IsBudget 100_000_000

-- the command that asks a query
abbrev pub command_of_query : Query → Command
command_of_query (Near side at budget) = command_of side
command_of_query (Walk from to dir limit budget) = commands.Walk
command_of_query (Resume token limit budget) = commands.Resume
command_of_query Show = commands.Show

-- what the words say of each key of a query
abbrev pub SayEach : List (List ℕ) → Query → Type 0
SayEach later (Near side at budget) = Says later At IsStamp at × SaysBudget later budget
SayEach later (Walk from to dir limit budget) =
    Tells later From IsStamp from × Tells later To IsStamp to × SaysDir later dir
    × SaysLimit later limit × SaysBudget later budget
SayEach later (Resume token limit budget) =
    Says later TokenOf IsToken token × SaysLimit later limit × SaysBudget later budget
SayEach later Show = Unit {0}

-- The words are those of the query's command, they are good, and they say each key of the query.
pub record Asks (words : List (List ℕ)) (query : Query) : Type 0 where
  pub later : List (List ℕ)
  pub is : words ≡ name_of (command_of_query query) ∷ later
  pub good : AreGood (command_of_query query) later
  pub says : SayEach later query

-- The words are refused with this fault.
pub data IsRefused (words : List (List ℕ)) : WordsFault → Type 0 where
  no_command : ((command : Command) (later : List (List ℕ)) → words ≢ name_of command ∷ later)
      → IsRefused words (Bad 0)
  unbuilt : (command : Command) (later : List (List ℕ)) → words ≡ name_of command ∷ later
      → is_built command ≡ false → IsRefused words Unbuilt
  bad : (command : Command) (later : List (List ℕ)) (n : ℕ) → words ≡ name_of command ∷ later
      → is_built command ≡ true → IsFirstBad command later n → IsRefused words (Bad n)

-- what the words ask, or their fault
abbrev pub AreRead : List (List ℕ) → Result Query WordsFault → Type 0
AreRead words (Ok query) = Asks words query
AreRead words (Err fault) = IsRefused words fault
