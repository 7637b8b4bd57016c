-- The calls that take an expression: their names, and what a call makes of one expression.
use Rattle.std.specs.Prelude.{ℤ, Bool, true, false, List, [], ◌∷◌, Option, Some, None}
use Rattle.moment_core.specs.declared.joining.UnaryOp.{UnaryOp}
use Rattle.moment_core.specs.declared.joining.UnaryOp.TheVariants.{Not, During, Starts, Ends, Shift}
use Rattle.expr_tokens.specs.declared.token.Word.{Word}
use Rattle.expr_tokens.specs.declared.token.Word.TheVariants as words
use Rattle.expr_tokens.specs.Plain.{Token}
use Rattle.expr_tokens.specs.Plain as tokens

abbrev pub takes_expression : Word → Bool
takes_expression words.During = true
takes_expression words.Pairs = true
takes_expression words.Starts = true
takes_expression words.Ends = true
takes_expression words.Shift = true
takes_expression w = false

-- what the call of this name makes of one expression, with the number behind it if there is one
abbrev pub unary_named : Word → Option ℤ → Option UnaryOp
unary_named words.During (Some n) = Some (During n)
unary_named words.Starts None = Some Starts
unary_named words.Ends None = Some Ends
unary_named words.Shift (Some n) = Some (Shift n)
unary_named w number = None

-- the name of the operator's call, and its number if there is one; the inverse has a sign
abbrev pub call_of : UnaryOp → Option (Word × Option ℤ)
call_of Not = None
call_of (During n) = Some (words.During, Some n)
call_of Starts = Some (words.Starts, None)
call_of Ends = Some (words.Ends, None)
call_of (Shift n) = Some (words.Shift, Some n)

-- [ "," number ] ")"
abbrev pub number_end_tokens : Option ℤ → List Token
number_end_tokens None = tokens.Close ∷ []
number_end_tokens (Some n) = tokens.Comma ∷ tokens.Number n ∷ tokens.Close ∷ []
