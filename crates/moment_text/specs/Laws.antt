-- The laws of literals.
use Rattle.std.specs.Prelude.{◌≡◌, ◌<◌, ◌≤◌, ℕ, ◌==◌, ℤ, Bool, true, false, List, [], ◌∷◌, ◌++◌, length, take}
use Rattle.std.specs.Int.{IsInRange}
use Rattle.moment_core.specs.Line.{IsWorkingMoment}
use Rattle.moment_text.specs.Literal.{form_of, has_form, literal_of, is_shaped, shaped_front}

abbrev pub LiteralsAreShaped : Type 0
LiteralsAreShaped = (t : ℤ) (absolute : Bool) → is_shaped (literal_of t absolute) ≡ true

abbrev pub LiteralsAreShort : Type 0
LiteralsAreShort = (t : ℤ) (absolute : Bool) → IsInRange 19 21 (length (literal_of t absolute))

-- no two moments of the working range, absolute or floating, have one literal
abbrev pub LiteralsTellMomentsApart : Type 0
LiteralsTellMomentsApart =
    (t other : ℤ) (absolute also : Bool) → IsWorkingMoment t → IsWorkingMoment other
    → literal_of t absolute ≡ literal_of other also → (t ≡ other) × (absolute ≡ also)

-- the first n bytes have the shape, unless n is 0, and no longer front has it
pub record IsLongestFront (bytes : List ℕ) (n : ℕ) : Type 0 where
  pub within : n ≤ length bytes
  pub shaped : 0 < n → is_shaped (take n bytes) ≡ true
  pub longest : (k : ℕ) → n < k → k ≤ length bytes → is_shaped (take k bytes) ≡ false

abbrev pub FrontsAreLongest : Type 0
FrontsAreLongest = (bytes : List ℕ) → IsLongestFront bytes (shaped_front bytes)

abbrev pub begins_with_zone : List ℕ → Bool
begins_with_zone [] = false
begins_with_zone (b ∷ bytes) = b == 90

-- what stands behind a shaped text doesn't belong to it, unless it is a Z
abbrev pub ShapesEnd : Type 0
ShapesEnd =
    (text rest : List ℕ) → is_shaped text ≡ true → begins_with_zone rest ≡ false
    → shaped_front (text ++ rest) ≡ length text

-- a shaped text has one of the four forms
abbrev pub ShapedTextsHaveForms : Type 0
ShapedTextsHaveForms =
    (text : List ℕ) → is_shaped text ≡ true
    → (signed : Bool) × (absolute : Bool) × (has_form (form_of signed absolute) text ≡ true)

-- a text is as long as the form that it has
abbrev pub FormsTellLengths : Type 0
FormsTellLengths = (form text : List ℕ) → has_form form text ≡ true → length text ≡ length form
