-- The longest reading, in plain words.
use Rattle.std.specs.Prelude.{◌≡◌, ℕ, ◌<◌, ◌≤◌, pos, ◌-ℤ◌, Bool, true, false, nat_lt, ◌==◌, List, [], ◌∷◌, ◌++◌, length, Some, None, if◌then◌else◌}
use Rattle.std.specs.List.{list_all}
use Rattle.moment_text.specs.Literal.{is_shaped}
use Rattle.expr_tokens.specs.declared.class.Class.TheVariants.{Letter, Digit, Name, Quoted}
use Rattle.expr_tokens.specs.Plain.{Token}
use Rattle.expr_tokens.specs.Plain as tokens
use Rattle.expr_tokens.specs.Class.{holds}
use Rattle.expr_tokens.specs.Names.{word_of}
use Rattle.expr_tokens.specs.Reading.{Front, digits_of, value_from, named, sign_of, string_limit, token_at}
use Rattle.expr_tokens.specs.Stamps.{stamp_of}

-- 1 to 13 digits
pub record AreDigits (bytes : List ℕ) : Type 0 where
  pub each : list_all (holds Digit) bytes ≡ true
  pub some : 0 < length bytes
  pub most : length bytes ≤ 13

-- The bytes spell this token, and nothing else.
pub data Spells (bytes : List ℕ) (t : Token) : Type 0 where
  moment : is_shaped bytes ≡ true → t ≡ tokens.Moment (stamp_of bytes) → Spells bytes t
  number : AreDigits bytes → t ≡ tokens.Number (pos (value_from 0 bytes)) → Spells bytes t
  negative : (digits : List ℕ) → bytes ≡ 45 ∷ digits → AreDigits digits
      → t ≡ tokens.Number (pos 0 -ℤ pos (value_from 0 digits)) → Spells bytes t
  name : (b : ℕ) (more : List ℕ) → bytes ≡ b ∷ more → holds Letter b ≡ true
      → list_all (holds Name) more ≡ true → t ≡ named bytes (word_of bytes) → Spells bytes t
  text : (quoted : List ℕ) → bytes ≡ 34 ∷ quoted ++ 34 ∷ [] → list_all (holds Quoted) quoted ≡ true
      → length quoted ≤ string_limit → t ≡ tokens.Text quoted → Spells bytes t
  sign : (b : ℕ) → bytes ≡ b ∷ [] → sign_of b ≡ Some t → Spells bytes t

-- more than 13 digits, behind a minus or without one
abbrev pub begins_long_number : ℕ → List ℕ → Bool
begins_long_number b bytes = nat_lt 13 (length (digits_of (if b == 45 then bytes else b ∷ bytes)))

-- The token is spelled by a front of the bytes, the rest stands behind it, and no longer front is
-- one token.
pub record IsLongest (bytes : List ℕ) (t : Token) (rest : List ℕ) : Type 0 where
  pub front : List ℕ
  pub splits : bytes ≡ front ++ rest
  pub spelled : Spells front t
  pub longest : (longer others : List ℕ) (u : Token) → bytes ≡ longer ++ others → Spells longer u
      → length longer ≤ length front

-- What is read at the front is the longest token there. Where a number has too many digits nothing
-- is read, and otherwise nothing is read only where no front is a token.
abbrev pub IsLongestReading : ℕ → List ℕ → Front → Type 0
IsLongestReading b bytes (Some x) =
    IsLongest (b ∷ bytes) x.0 x.1 × (begins_long_number b bytes ≡ false)
IsLongestReading b bytes None =
    (front rest : List ℕ) (t : Token) → b ∷ bytes ≡ front ++ rest → Spells front t
    → begins_long_number b bytes ≡ true

abbrev pub ReadsLongest : Type 0
ReadsLongest = (b : ℕ) (bytes : List ℕ) → IsLongestReading b bytes (token_at b bytes)

-- no bytes spell two tokens
abbrev pub SpellsOne : Type 0
SpellsOne = (bytes : List ℕ) (t u : Token) → Spells bytes t → Spells bytes u → t ≡ u
