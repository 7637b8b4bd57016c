-- The texts of tokens.
use Rattle.span_core.specs.Tokens.{IsFit}
use Rattle.std.specs.Prelude.{◌≡◌, ℕ, List, ◌++◌, codes, Option, Some, None}
use Rattle.std.specs.Fmt.{signed_decimal}
use Rattle.moment_core.specs.declared.line.Dir.{Dir}
use Rattle.moment_core.specs.declared.line.Dir.TheVariants.{Fore, Back}
use Rattle.moment_core.specs.declared.line.Pos.{Pos}
use Rattle.span_core.specs.declared.answers.Token.{Token}

abbrev pub dir_text : Dir → List ℕ
dir_text Fore = codes "fore"
dir_text Back = codes "back"

abbrev pub begun_text : Option Pos → List ℕ
begun_text None = codes "-"
begun_text (Some p) = signed_decimal p.0

-- two texts with a colon between them
abbrev pub with_colon : List ℕ → List ℕ → List ℕ
with_colon before after = before ++ codes ":" ++ after

-- four parts with colons between them, the numbers in decimal without leading zeros
abbrev pub token_text : Token → List ℕ
token_text t =
    with_colon (dir_text t.dir)
    (with_colon (signed_decimal t.place.0)
    (with_colon (begun_text t.begun) (signed_decimal t.end.0)))

-- the text of a token from which a walk can go on
abbrev pub Means : List ℕ → Token → Type 0
Means text t = (text ≡ token_text t) × IsFit t
