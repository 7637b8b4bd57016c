-- Calls of the grammar that aren't built.
use Rattle.std.specs.Prelude.{Bool, true, false, ◌&&◌, ◌||◌, List, [], ◌∷◌}
use Rattle.expr_tokens.specs.declared.token.Word.{Word}
use Rattle.expr_tokens.specs.declared.token.Word.TheVariants.{Event, Zoned, ZonedFirst}
use Rattle.expr_tokens.specs.Plain.{Token}
use Rattle.expr_tokens.specs.Plain as tokens

-- the names of these calls
abbrev pub is_unbuilt : Word → Bool
is_unbuilt Event = true
is_unbuilt Zoned = true
is_unbuilt ZonedFirst = true
is_unbuilt w = false

abbrev pub names_unbuilt : Token → Bool
names_unbuilt (tokens.Word w) = is_unbuilt w
names_unbuilt t = false

abbrev pub is_bracket : Token → Bool
is_bracket tokens.Open = true
is_bracket t = false

abbrev pub begins_bracket : List Token → Bool
begins_bracket [] = false
begins_bracket (t ∷ ts) = is_bracket t

-- some such name stands directly before a round bracket
unfoldable pub calls_unbuilt : List Token → Bool
calls_unbuilt [] = false
calls_unbuilt (t ∷ ts) = (names_unbuilt t && begins_bracket ts) || calls_unbuilt ts
