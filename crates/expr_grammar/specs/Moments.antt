-- How reading a list of moments goes on.
use Rattle.std.specs.Prelude.{◌≡◌, List, [], Option, Some, None}
use denote.Ref.{Bor}
use Rattle.moment_core.specs.declared.line.Stamp.{Stamp}
use Rattle.expr_tokens.specs.declared.token.Token.{Token as Placed}
use Rattle.expr_tokens.specs.Plain.{Token, plains}
use Rattle.expr_grammar.specs.Parsing.{moments_at, moments_end_at, with_first}

abbrev pub IsNextMoment : List Token → Option (Option Stamp × Bor (List Placed)) → Type 0
IsNextMoment ts (Some x) = moments_at ts ≡ with_first x.0 (moments_at (plains x.1.now))
IsNextMoment ts None = moments_at ts ≡ moments_end_at [] ts
