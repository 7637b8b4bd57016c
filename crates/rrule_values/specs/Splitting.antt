-- Texts with a sign between each two.
use Rattle.std.specs.Prelude.{ℕ, ◌==◌, Bool, not, List, ◌∷◌}
use Rattle.std.specs.List.{slice_split}

-- what stands between the signs
abbrev pub split_at : ℕ → List ℕ → List (List ℕ)
split_at sign bytes = slice_split (λ b. b == sign) bytes

-- a byte that isn't the sign
abbrev pub is_other : ℕ → ℕ → Bool
is_other sign b = not (b == sign)

-- a text behind the sign
abbrev pub behind : ℕ → List ℕ → List ℕ
behind sign text = sign ∷ text
