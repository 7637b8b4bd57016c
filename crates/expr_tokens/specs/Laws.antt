-- How written tokens are read back.
use Rattle.std.specs.Prelude.{◌≡◌, ℕ, ◌≤◌, ◌<◌, ◌^◌, ◌==◌, ℤ, unsigned_abs, Bool, true, false, ◌&&◌, ◌||◌, List, [], ◌∷◌, ◌++◌, length, Some, Result, Ok, Err}
use Rattle.std.specs.Fmt.{signed_decimal}
use Rattle.std.specs.List.{list_all}
use Rattle.moment_core.specs.Line.{IsCalendarMoment}
use Rattle.moment_core.specs.declared.line.Stamp.{Stamp}
use Rattle.moment_text.specs.Laws.{begins_with_zone}
use Rattle.moment_text.specs.Literal.{literal_of}
use Rattle.expr_tokens.specs.declared.class.Class.TheVariants as classes
use Rattle.expr_tokens.specs.declared.token.Word.{Word}
use Rattle.expr_tokens.specs.Plain.{Token}
use Rattle.expr_tokens.specs.Plain as tokens
use Rattle.expr_tokens.specs.Class.{holds, passes_first}
use Rattle.expr_tokens.specs.Names.{name_of}
use Rattle.expr_tokens.specs.Reading.{begins_digit, sign_of, string_limit, reading_from, alone, tokens_of}

-- tokens, and then those of a rest
abbrev pub before : List Token → Result (List Token) ℕ → Result (List Token) ℕ
before ts (Ok us) = Ok (ts ++ us)
before ts (Err left) = Err left

-- The bytes are read as these tokens, and then the rest is read.
pub record Lexes (bytes : List ℕ) (ts : List Token) (rest : List ℕ) : Type 0 where
  pub reads : (n : ℕ) → length (bytes ++ rest) ≤ n
      → (m : ℕ) × (length rest ≤ m)
      × (alone (reading_from n (bytes ++ rest)) ≡ before ts (alone (reading_from m rest)))

abbrev pub NothingIsRead : Type 0
NothingIsRead = (rest : List ℕ) → Lexes [] [] rest

-- two texts, one behind the other
abbrev pub PartsAreRead : Type 0
PartsAreRead =
    (a b : List ℕ) (ts us : List Token) (rest : List ℕ) → Lexes a ts (b ++ rest) → Lexes b us rest
    → Lexes (a ++ b) (ts ++ us) rest

abbrev pub TextsAreRead : Type 0
TextsAreRead = (text : List ℕ) (ts : List Token) → Lexes text ts [] → tokens_of text ≡ Ok ts

abbrev pub SpacesAreRead : Type 0
SpacesAreRead = (rest : List ℕ) → Lexes (32 ∷ []) [] rest

-- a sign of its own: behind a minus no digit may stand
abbrev pub SignsAreRead : Type 0
SignsAreRead =
    (b : ℕ) (t : Token) (rest : List ℕ) → sign_of b ≡ Some t
    → (b == 45 && begins_digit rest) ≡ false
    → Lexes (b ∷ []) (t ∷ []) rest

-- the name of a word, with no byte of a name behind it
abbrev pub WordsAreRead : Type 0
WordsAreRead =
    (w : Word) (rest : List ℕ) → passes_first (holds classes.Name) rest ≡ false
    → Lexes (name_of w) (tokens.Word w ∷ []) rest

-- bytes that may stand between quotes, at most as many as a string has
abbrev pub StringsAreRead : Type 0
StringsAreRead =
    (quoted rest : List ℕ) → list_all (holds classes.Quoted) quoted ≡ true
    → length quoted ≤ string_limit
    → Lexes (34 ∷ quoted ++ 34 ∷ []) (tokens.Text quoted ∷ []) rest

-- a digit or a minus, which may not stand behind a number
abbrev pub goes_on : List ℕ → Bool
goes_on rest = passes_first (λ b. holds classes.Digit b || b == 45) rest

-- a number of at most 13 digits
abbrev pub NumbersAreRead : Type 0
NumbersAreRead =
    (z : ℤ) (rest : List ℕ) → unsigned_abs z < 10 ^ 13 → goes_on rest ≡ false
    → Lexes (signed_decimal z) (tokens.Number z ∷ []) rest

abbrev pub stamp : ℤ → Bool → Stamp
stamp t absolute = record { moment = record { 0 = t }; absolute = absolute }

-- the literal of a moment of the calendar range, with no Z behind it
abbrev pub MomentsAreRead : Type 0
MomentsAreRead =
    (t : ℤ) (absolute : Bool) (rest : List ℕ) → IsCalendarMoment t → begins_with_zone rest ≡ false
    → Lexes (literal_of t absolute) (tokens.Moment (Some (stamp t absolute)) ∷ []) rest
