-- The tokens of a text, by the longest reading.
use Rattle.std.specs.Prelude.{◌≡◌, ℕ, zero, suc, ◌+◌, ◌-◌, ◌*◌, ◌≤◌, Bool, true, false, ◌&&◌, ◌||◌, nat_le, nat_lt, ◌==◌, List, [], ◌∷◌, length, take, drop, map, Option, Some, None, Result, Ok, Err, if◌then◌else◌}
use Rattle.std.specs.List.{AllZip}
use Rattle.std.specs.Global.{Vec}
use denote.Ref.{Bor}
use Rattle.moment_core.specs.Texts.{with_sign}
use Rattle.moment_text.specs.Literal.{shaped_front}
use Rattle.expr_tokens.specs.declared.class.Class.TheVariants as classes
use Rattle.expr_tokens.specs.declared.fault.TokenFault.{TokenFault}
use Rattle.expr_tokens.specs.declared.fault.TokenFault.TheVariants as faults
use Rattle.moment_core.specs.declared.joining.Op.TheVariants as operators
use Rattle.expr_tokens.specs.declared.token.Word.{Word}
use Rattle.expr_tokens.specs.declared.token.Token.{Token as Placed}
use Rattle.expr_tokens.specs.declared.token.Token.TheVariants as placed
use Rattle.expr_tokens.specs.Plain.{Token, plain}
use Rattle.expr_tokens.specs.Plain as tokens
use Rattle.expr_tokens.specs.Class.{holds, front_of, behind, passes_first}
use Rattle.expr_tokens.specs.Names.{word_of}
use Rattle.expr_tokens.specs.Stamps.{stamp_of}

-- a token at the front, and the bytes behind it; none where no token begins
abbrev pub Front : Type 0
Front = Option (Token × List ℕ)

abbrev pub digits_of : List ℕ → List ℕ
digits_of bytes = front_of (holds classes.Digit) bytes

abbrev pub begins_digit : List ℕ → Bool
begins_digit bytes = passes_first (holds classes.Digit) bytes

-- the number that digits write, behind those that wrote n
unfoldable pub value_from : ℕ → List ℕ → ℕ
value_from n [] = n
value_from n (d ∷ digits) = value_from (10 * n + (d - 48)) digits

-- all the digits, of which at most 13 are a number
unfoldable pub number_at : Bool → List ℕ → Front
number_at minus bytes =
    if nat_le (length (digits_of bytes)) 13
    then Some (
      tokens.Number (with_sign minus (value_from 0 (digits_of bytes))),
      behind (holds classes.Digit) bytes,
    )
    else None

-- a name of the grammar, or another one
abbrev pub named : List ℕ → Option Word → Token
named name None = tokens.Name name
named name (Some w) = tokens.Word w

-- all the bytes of a name
unfoldable pub name_at : List ℕ → Front
name_at bytes =
    Some (
      named (front_of (holds classes.Name) bytes) (word_of (front_of (holds classes.Name) bytes)),
      behind (holds classes.Name) bytes,
    )

-- the bytes, and a quote
unfoldable pub quote_at : List ℕ → List ℕ → Front
quote_at quoted [] = None
quote_at quoted (b ∷ bytes) = if b == 34 then Some (tokens.Text quoted, bytes) else None

-- the most bytes between the quotes of a string
abbrev pub string_limit : ℕ
string_limit = 1024

-- behind a quote: not too many bytes, and a quote
unfoldable pub text_at : List ℕ → Front
text_at bytes =
    if nat_le (length (front_of (holds classes.Quoted) bytes)) string_limit
    then quote_at (front_of (holds classes.Quoted) bytes) (behind (holds classes.Quoted) bytes)
    else None

unfoldable pub sign_of : ℕ → Option Token
sign_of b =
    if b == 40 then Some tokens.Open
    else if b == 41 then Some tokens.Close
    else if b == 123 then Some tokens.LeftBrace
    else if b == 125 then Some tokens.RightBrace
    else if b == 44 then Some tokens.Comma
    else if b == 59 then Some tokens.Semicolon
    else if b == 61 then Some tokens.Equals
    else if b == 124 then Some (tokens.Operator operators.Union)
    else if b == 38 then Some (tokens.Operator operators.Meet)
    else if b == 45 then Some (tokens.Operator operators.Minus)
    else if b == 33 then Some tokens.Exclamation
    else None

abbrev pub with_rest : List ℕ → Option Token → Front
with_rest rest None = None
with_rest rest (Some t) = Some (t, rest)

-- a sign of its own, which leaves the other bytes
abbrev pub sign_at : ℕ → List ℕ → Front
sign_at b bytes = with_rest bytes (sign_of b)

-- a digit, or a minus and a digit
abbrev pub begins_number : ℕ → List ℕ → Bool
begins_number b bytes = holds classes.Digit b || (b == 45 && begins_digit bytes)

-- a number, behind a minus or without one
abbrev pub signed_at : List ℕ → Front
signed_at [] = None
signed_at (b ∷ bytes) = if b == 45 then number_at true bytes else number_at false (b ∷ bytes)

-- a moment literal where one stands there, and otherwise a number
unfoldable pub figures_at : List ℕ → Front
figures_at bytes =
    if nat_lt 0 (shaped_front bytes)
    then Some (
      tokens.Moment (stamp_of (take (shaped_front bytes) bytes)),
      drop (shaped_front bytes) bytes,
    )
    else signed_at bytes

-- what begins with the byte b
unfoldable pub token_at : ℕ → List ℕ → Front
token_at b bytes =
    if holds classes.Letter b then name_at (b ∷ bytes)
    else if b == 34 then text_at bytes
    else if begins_number b bytes then figures_at (b ∷ bytes)
    else sign_at b bytes

-- tokens, each with how many bytes are left at its first one; or how many are left where no token
-- begins
abbrev pub Found : Type 0
Found = Result (List (Token × ℕ)) ℕ

abbrev pub with_token : Token × ℕ → Found → Found
with_token x (Ok found) = Ok (x ∷ found)
with_token x (Err left) = Err left

-- what stands at the front, and then what stands in the rest
abbrev pub and_then : ℕ → Front → (List ℕ → Found) → Found
and_then left None others = Err left
and_then left (Some x) others = with_token (x.0, left) (others x.1)

-- the tokens in so many steps, of which a text needs no more than it has bytes
unfoldable pub reading_from : ℕ → List ℕ → Found
reading_from zero bytes = Ok []
reading_from (suc n) [] = Ok []
reading_from (suc n) (b ∷ bytes) =
    if holds classes.Blank b then reading_from n bytes
    else and_then (suc (length bytes)) (token_at b bytes) (reading_from n)

-- The tokens of a text, each with how many bytes are left at its first one. A fault is told by how
-- many bytes are left where no token begins.
unfoldable pub reading_of : List ℕ → Found
reading_of text = reading_from (length text) text

abbrev pub alone : Found → Result (List Token) ℕ
alone (Ok found) = Ok (map (λ (x : Token × ℕ). x.0) found)
alone (Err left) = Err left

-- the tokens of a text
unfoldable pub tokens_of : List ℕ → Result (List Token) ℕ
tokens_of text = alone (reading_of text)

-- where the token carries a place, so many bytes of the text are left there
abbrev pub LeavesAt : ℕ → ℕ → Placed → Type 0
LeavesAt total left (placed.Word w place) = place + left ≡ total
LeavesAt total left (placed.Moment stamp place) = place + left ≡ total
LeavesAt total left t = Unit {0}

-- a token as it was found in a text of so many bytes
pub record IsFound (total : ℕ) (t : Placed) (found : Token × ℕ) : Type 0 where
  pub same : plain t ≡ found.0
  pub place : LeavesAt total found.1 t

pub record AreFound (text : List ℕ) (ts : List Placed) : Type 0 where
  pub found : List (Token × ℕ)
  pub read : reading_of text ≡ Ok found
  pub each : AllZip (IsFound (length text)) ts found

-- What a reader returned is what the tokens are, unless memory ran out.
abbrev pub IsReading : List ℕ → Result (Vec Placed) TokenFault → Type 0
IsReading text (Ok v) = AreFound text v.items
IsReading text (Err faults.Memory) = Unit {0}
IsReading text (Err (faults.Token byte)) =
    (left : ℕ) × (reading_of text ≡ Err left) × (byte + left ≡ length text)

-- what a function found at the front, with the bytes behind it
abbrev pub GivesFront : Option (Placed × Bor (List ℕ)) → Front → Type 0
GivesFront None front = front ≡ None
GivesFront (Some x) front = front ≡ Some (plain x.0, x.1.now)

-- its place is where those bytes are left
abbrev pub IsPlacedFront : Option (Placed × Bor (List ℕ)) → ℕ → ℕ → Type 0
IsPlacedFront None total left = Unit {0}
IsPlacedFront (Some x) total left = LeavesAt total left x.0

abbrev pub IsShorterFront : Option (Placed × Bor (List ℕ)) → List ℕ → Type 0
IsShorterFront None bytes = Unit {0}
IsShorterFront (Some x) bytes = length x.1.now ≤ length bytes
