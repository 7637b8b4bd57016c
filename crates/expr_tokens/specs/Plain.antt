-- Tokens as the grammar sees them: without where their bytes lie, in memory or in the text.
use Rattle.std.specs.Prelude.{ℕ, ℤ, List, map, Option}
use Rattle.moment_core.specs.declared.line.Stamp.{Stamp}
use Rattle.moment_core.specs.declared.joining.Op.{Op}
use Rattle.expr_tokens.specs.declared.token.Word.{Word as TheWord}
use Rattle.expr_tokens.specs.declared.token.Token.{Token as Placed}
use Rattle.expr_tokens.specs.declared.token.Token.TheVariants as placed

pub data Token : Type 0 where
  Open : Token
  Close : Token
  LeftBrace : Token
  RightBrace : Token
  Comma : Token
  Semicolon : Token
  Equals : Token
  Exclamation : Token
  Operator : (op : Op) → Token
  Number : (n : ℤ) → Token
  Word : (w : TheWord) → Token
  Name : (bytes : List ℕ) → Token
  Text : (bytes : List ℕ) → Token
  Moment : (stamp : Option Stamp) → Token

abbrev pub plain : Placed → Token
plain placed.Open = Open
plain placed.Close = Close
plain placed.LeftBrace = LeftBrace
plain placed.RightBrace = RightBrace
plain placed.Comma = Comma
plain placed.Semicolon = Semicolon
plain placed.Equals = Equals
plain placed.Exclamation = Exclamation
plain (placed.Operator op) = Operator op
plain (placed.Number n) = Number n
plain (placed.Word w place) = Word w
plain (placed.Name bytes) = Name bytes.now
plain (placed.Text bytes) = Text bytes.now
plain (placed.Moment stamp place) = Moment stamp

abbrev pub plains : List Placed → List Token
plains ts = map plain ts
