-- Looking for a call that isn't built, token by token.
use Rattle.std.proofs.Common.{◌≡◌, ℕ, ◌+◌, ◌<◌, ◌≤◌, Bool, false, ◌&&◌, ◌||◌, List, [], ◌∷◌, length, drop, get_or, add-one, drop-cons}
use Rattle.std.proofs.lemmas.List.{drop_all}
use Rattle.expr_tokens.specs.declared.token.Token.{Token as Placed}
use Rattle.expr_tokens.specs.declared.token.Token.TheVariants as placed
use Rattle.expr_tokens.specs.Plain.{Token, plain, plains}
use Rattle.expr_text.specs.Calls.{begins_bracket, calls_unbuilt, is_bracket, names_unbuilt}
use Rattle.std.proofs.Math.Bool.{and_comm}

-- what is left to look at, where the token before the rest may be such a name
abbrev pub calls_left : Bool → List Token → Bool
calls_left named ts = (begins_bracket ts && named) || calls_unbuilt ts

past_token : (named : Bool) (t : Token) (ts : List Token) (total : Bool) → (is_bracket t && named)
    ≡ false → calls_left named (t ∷ ts) ≡ total → calls_left (names_unbuilt t) ts ≡ total
unfolding calls_unbuilt
past_token named t ts total none left = rw (and_comm (begins_bracket ts) (names_unbuilt t))
    (rw none at left)

pub past_place : (ts : List Placed) (i : ℕ) (named total : Bool) → i < length ts
    → (is_bracket (plain (get_or ts i placed.Open)) && named) ≡ false
    → calls_left named (plains (drop i ts)) ≡ total
    → calls_left (names_unbuilt (plain (get_or ts i placed.Open))) (plains (drop (i + 1) ts))
    ≡ total
past_place ts i named total lt none left =
    let one : drop i ts ≡ get_or ts i placed.Open ∷ drop (i + 1) ts =
    rw add-one (drop-cons ts i placed.Open lt) in
    past_token named (plain (get_or ts i placed.Open)) (plains (drop (i + 1) ts)) total none
    (rw one at left)

pub nothing_left : (ts : List Placed) (i : ℕ) (named total : Bool) → length ts ≤ i
    → calls_left named (plains (drop i ts)) ≡ total → false ≡ total
unfolding calls_unbuilt
nothing_left ts i named total le left = let none : drop i ts ≡ [] = drop_all i ts le in
    rw none at left
