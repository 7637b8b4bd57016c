-- Signs as they are read, from the laws of written tokens.
use Rattle.std.proofs.Common.{ℕ, List, [], ◌∷◌, refl}
use Rattle.moment_core.specs.declared.joining.Op.TheVariants.{Union, Meet, Minus}
use Rattle.expr_tokens.specs.Laws.{Lexes, MomentsAreRead, NothingIsRead, NumbersAreRead, PartsAreRead, SignsAreRead, SpacesAreRead, StringsAreRead, TextsAreRead, WordsAreRead}
use Rattle.expr_tokens.specs.Plain as tokens
use Rattle.expr_tokens.specs.Reading.{sign_of}

pub record Writing : Type 0 where
  pub nothing : NothingIsRead
  pub parts : PartsAreRead
  pub texts : TextsAreRead
  pub spaces : SpacesAreRead
  pub signs : SignsAreRead
  pub words : WordsAreRead
  pub strings : StringsAreRead
  pub numbers : NumbersAreRead
  pub moments : MomentsAreRead

module _ (w : Writing) where
  pub Lexes-open : (rest : List ℕ) → Lexes (40 ∷ []) (tokens.Open ∷ []) rest
  unfolding sign_of
  Lexes-open rest = w.signs 40 tokens.Open rest refl refl

  pub Lexes-close : (rest : List ℕ) → Lexes (41 ∷ []) (tokens.Close ∷ []) rest
  unfolding sign_of
  Lexes-close rest = w.signs 41 tokens.Close rest refl refl

  pub Lexes-left_brace : (rest : List ℕ) → Lexes (123 ∷ []) (tokens.LeftBrace ∷ []) rest
  unfolding sign_of
  Lexes-left_brace rest = w.signs 123 tokens.LeftBrace rest refl refl

  pub Lexes-right_brace : (rest : List ℕ) → Lexes (125 ∷ []) (tokens.RightBrace ∷ []) rest
  unfolding sign_of
  Lexes-right_brace rest = w.signs 125 tokens.RightBrace rest refl refl

  pub Lexes-comma : (rest : List ℕ) → Lexes (44 ∷ []) (tokens.Comma ∷ []) rest
  unfolding sign_of
  Lexes-comma rest = w.signs 44 tokens.Comma rest refl refl

  pub Lexes-semicolon : (rest : List ℕ) → Lexes (59 ∷ []) (tokens.Semicolon ∷ []) rest
  unfolding sign_of
  Lexes-semicolon rest = w.signs 59 tokens.Semicolon rest refl refl

  pub Lexes-exclamation : (rest : List ℕ) → Lexes (33 ∷ []) (tokens.Exclamation ∷ []) rest
  unfolding sign_of
  Lexes-exclamation rest = w.signs 33 tokens.Exclamation rest refl refl

  pub Lexes-equals : (rest : List ℕ) → Lexes (61 ∷ []) (tokens.Equals ∷ []) rest
  unfolding sign_of
  Lexes-equals rest = w.signs 61 tokens.Equals rest refl refl

  pub Lexes-union : (rest : List ℕ) → Lexes (124 ∷ []) (tokens.Operator Union ∷ []) rest
  unfolding sign_of
  Lexes-union rest = w.signs 124 (tokens.Operator Union) rest refl refl

  pub Lexes-meet : (rest : List ℕ) → Lexes (38 ∷ []) (tokens.Operator Meet ∷ []) rest
  unfolding sign_of
  Lexes-meet rest = w.signs 38 (tokens.Operator Meet) rest refl refl

  -- before a space
  pub Lexes-minus : (rest : List ℕ) → Lexes (45 ∷ []) (tokens.Operator Minus ∷ []) (32 ∷ rest)
  unfolding sign_of
  Lexes-minus rest = w.signs 45 (tokens.Operator Minus) (32 ∷ rest) refl refl
