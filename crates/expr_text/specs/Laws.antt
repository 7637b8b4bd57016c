-- The laws of reading texts.
use Rattle.std.specs.Prelude.{◌≡◌, ◌<◌, ◌≤◌, ℕ, List, length, Option, Some, None, Result, Ok, Err}
use Rattle.expr_tree.specs.Tree.{Rule, Listed, Field, Ical, Tree, Empty, Spanned, Ruled, Joined, Pairs, Unary, Trees}
use Rattle.expr_text.specs.Accepted.{IsRead}
use Rattle.expr_tree.specs.WellFormed.{AreWellFormed}
use Rattle.expr_text.specs.declared.fault.TheConstants.{LONGEST}
use Rattle.expr_text.specs.Fault.{Fault}
use Rattle.expr_text.specs.Fault as faults
use Rattle.expr_text.specs.Faults.{sort_fault}
use Rattle.expr_print.specs.Printing.{print_program}
use Rattle.expr_tokens.specs.Reading.{string_limit}
use Rattle.rrule_text.specs.Writing.{text_of}

-- each text is read as trees, or has a fault
abbrev pub ReadingsExist : Type 0
ReadingsExist = (text : List ℕ) → (r : Result Trees Fault) × IsRead text r

abbrev pub ReadingsAreUnique : Type 0
ReadingsAreUnique =
    (text : List ℕ) (r s : Result Trees Fault) → IsRead text r → IsRead text s → r ≡ s

-- what a text is read as
abbrev pub AcceptedAreWellFormed : Type 0
AcceptedAreWellFormed = (text : List ℕ) (p : Trees) → IsRead text (Ok p) → AreWellFormed p

abbrev pub AcceptedHaveSorts : Type 0
AcceptedHaveSorts = (text : List ℕ) (p : Trees) → IsRead text (Ok p) → sort_fault p ≡ None

abbrev pub LongTextsAreRefused : Type 0
LongTextsAreRefused = (text : List ℕ) → LONGEST < length text → IsRead text (Err faults.Long)

-- the written forms of rules of RFC 5545 fit between quotes
abbrev pub HasShortStrings : Tree Rule → Type 0
HasShortStrings Empty = Unit {0}
HasShortStrings (Spanned bounds low high) = Unit {0}
HasShortStrings (Ruled (Listed stamps)) = Unit {0}
HasShortStrings (Ruled (Field rule)) = Unit {0}
HasShortStrings (Ruled (Ical rule)) = length (text_of rule) ≤ string_limit
HasShortStrings (Joined op a b) = HasShortStrings a × HasShortStrings b
HasShortStrings (Pairs a b) = HasShortStrings a × HasShortStrings b
HasShortStrings (Unary op a) = HasShortStrings a

abbrev pub HasShortSecond : Option (Tree Rule) → Type 0
HasShortSecond None = Unit {0}
HasShortSecond (Some t) = HasShortStrings t

-- the printed form of well-formed trees that have a sort is read as those trees, where neither it
-- nor a string in it is too long
abbrev pub PrintedFormsAreRead : Type 0
PrintedFormsAreRead =
    (p : Trees) → AreWellFormed p → HasShortStrings p.first × HasShortSecond p.second
    → sort_fault p ≡ None → length (print_program p) ≤ LONGEST
    → IsRead (print_program p) (Ok p)
