-- Reading the front of a text.
use Rattle.std.proofs.Common.{◌≡◌, ◌≤◌, ℕ, List, [], length, arith, sym, ◌∙◌, Option, Some, None}
use Rattle.std.proofs.lemmas.Grind.{common_steps}
use Rattle.std.specs.Io.KnownBytes.{Consumes, IsAtEnd}
use Rattle.set_query.specs.Effects.{IsFront}

-- the source came to its end
pub ended : (a b c : Option (List ℕ)) (bytes : List ℕ) (room : ℕ) → Consumes a b bytes → IsAtEnd b
    → Consumes b c [] → length bytes ≤ room → IsFront room a c bytes
ended None b c bytes room h e k l = tt
ended (Some text) None c bytes room h e k l = absurd h
ended (Some text) (Some rest) None bytes room h e k l = absurd k
ended (Some text) (Some rest) (Some last) bytes room h e k l =
    let none : last ≡ [] = sym k ∙ e in
    let all : text ≡ bytes = grind (arith, common_steps) in
    (grind (arith, common_steps), grind (arith, common_steps))

-- or the room was filled
pub filled : (a b : Option (List ℕ)) (bytes : List ℕ) (room : ℕ) → Consumes a b bytes → length bytes
    ≡ room → IsFront room a b bytes
filled None b bytes room h l = tt
filled (Some text) None bytes room h l = absurd h
filled (Some text) (Some rest) bytes room h l =
    (grind (arith, common_steps), grind (arith, common_steps))
