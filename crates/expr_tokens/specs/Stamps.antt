-- The moment that a literal names.
use Rattle.std.specs.Prelude.{ℕ, zero, suc, pos, ◌+ℤ◌, Bool, true, false, List, [], ◌∷◌, find, Option}
use Rattle.std.specs.Str.{bytes_eq}
use Rattle.moment_core.specs.declared.line.Stamp.{Stamp}
use Rattle.moment_core.specs.declared.line.TheConstants.{LOW, WIDTH}
use Rattle.moment_text.specs.Literal.{literal_of}

-- the moment so many seconds after the calendar range begins, absolute or floating
abbrev pub stamp_after : ℕ → Bool → Stamp
stamp_after n absolute = record { moment = record { 0 = LOW +ℤ pos n }; absolute = absolute }

-- the first n moments of the calendar range, each floating and absolute
unfoldable pub stamps : ℕ → List Stamp
stamps zero = []
stamps (suc n) = stamp_after n false ∷ stamp_after n true ∷ stamps n

abbrev pub is_literal : List ℕ → Stamp → Bool
is_literal text s = bytes_eq text (literal_of s.moment.0 s.absolute)

-- the one of the calendar range whose literal the text is
unfoldable pub stamp_of : List ℕ → Option Stamp
stamp_of text = find (is_literal text) (stamps WIDTH)
