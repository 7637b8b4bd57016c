-- Runs of bytes of one class.
use Rattle.std.specs.Prelude.{◌≡◌, ℕ, ◌≤◌, Bool, true, false, not, ◌&&◌, ◌||◌, nat_le, ◌==◌, List, [], ◌∷◌, length, drop, if◌then◌else◌}
use Rattle.expr_tokens.specs.declared.class.Class.{Class}
use Rattle.expr_tokens.specs.declared.class.Class.TheVariants.{Letter, Digit, Name, Quoted, Blank}

-- a to z; 0 to 9; what a name may go on with; what may stand between quotes; space, tab, line feed
-- and carriage return
abbrev pub holds : Class → ℕ → Bool
holds Letter b = nat_le 97 b && nat_le b 122
holds Digit b = nat_le 48 b && nat_le b 57
holds Name b = (nat_le 97 b && nat_le b 122) || (nat_le 48 b && nat_le b 57) || b == 95
holds Quoted b = nat_le 32 b && nat_le b 126 && not (b == 34)
holds Blank b = b == 32 || b == 9 || b == 10 || b == 13

-- the longest front whose bytes all pass, and the bytes behind it
unfoldable pub front_of : (ℕ → Bool) → List ℕ → List ℕ
front_of p [] = []
front_of p (b ∷ bytes) = if p b then b ∷ front_of p bytes else []

unfoldable pub behind : (ℕ → Bool) → List ℕ → List ℕ
behind p [] = []
behind p (b ∷ bytes) = if p b then behind p bytes else b ∷ bytes

-- whether there is a first byte, and it passes
abbrev pub passes_first : (ℕ → Bool) → List ℕ → Bool
passes_first p [] = false
passes_first p (b ∷ bytes) = p b

-- the rest is shorter than the bytes, where the first one passes
abbrev pub GoesPast : Class → List ℕ → List ℕ → Type 0
GoesPast class bytes rest =
    passes_first (holds class) bytes ≡ true → length rest ≤ length (drop 1 bytes)
