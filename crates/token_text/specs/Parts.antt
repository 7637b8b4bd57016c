-- The parts that a text of a token has.
use Rattle.std.specs.Prelude.{◌≡◌, ℕ, ◌==◌, pos, ◌+ℤ◌, ◌-ℤ◌, ◌≤ℤ◌, Bool, not, List, Option, Some, None}
use Rattle.std.specs.List.{list_all}
use Rattle.std.specs.Fmt.{signed_decimal}
use Rattle.moment_core.specs.Line.{position_of}
use Rattle.moment_core.specs.declared.line.Pos.{Pos}
use Rattle.moment_core.specs.declared.line.TheConstants.{LOW, HIGH}
use Rattle.span_core.specs.declared.answers.Token.{Token}
use Rattle.token_text.specs.Texts.{begun_text, dir_text}

-- a position of the calendar range, or the one right before or after it
abbrev pub IsNearRange : Pos → Type 0
IsNearRange p = ((position_of LOW -ℤ pos 1) ≤ℤ p.0) × (p.0 ≤ℤ (position_of HIGH +ℤ pos 1))

abbrev pub IsNearIfGiven : Option Pos → Type 0
IsNearIfGiven None = Unit {0}
IsNearIfGiven (Some p) = IsNearRange p

abbrev pub is_colon : ℕ → Bool
is_colon b = b == 58

abbrev pub lacks_colon : List ℕ → Bool
lacks_colon text = list_all (λ b. not (is_colon b)) text

-- the texts of a token's parts
pub record ArePieces (t : Token) (first second third fourth : List ℕ) : Type 0 where
  pub dir : first ≡ dir_text t.dir
  pub place : second ≡ signed_decimal t.place.0
  pub begun : third ≡ begun_text t.begun
  pub end : fourth ≡ signed_decimal t.end.0
