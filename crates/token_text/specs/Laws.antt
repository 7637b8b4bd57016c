-- The laws of the texts of tokens.
use Rattle.std.specs.Prelude.{◌≡◌, ℕ, List}
use Rattle.span_core.specs.declared.answers.Token.{Token}
use Rattle.token_text.specs.Texts.{Means}

-- a text means at most one token
abbrev pub TextsTellTokensApart : Type 0
TextsTellTokensApart = (text : List ℕ) (s t : Token) → Means text s → Means text t → s ≡ t
