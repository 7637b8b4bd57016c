-- The first span without a position, over two lists of spans one behind the other.
use Rattle.std.proofs.Common.{◌≡◌, ℕ, List, [], ◌∷◌, ◌++◌, length, refl, arith, length-append}
use Rattle.std.specs.List.{AllByRecursion}
use Rattle.span_core.specs.declared.bounds.Bound.{Bound}
use Rattle.expr_grammar.specs.declared.syntax.SyntaxTree.{SyntaxTree}
use Rattle.expr_grammar.specs.declared.syntax.SyntaxTree.TheVariants as trees
use Rattle.expr_grammar.specs.Syntax.{form_of, places_of}
use Rattle.expr_text.specs.Faults.{FirstVacant, here, later, HasPosition, spans_of}

pub vacant_front : (ss us : List (Bound × Bound)) (ps qs : List ℕ) (byte : ℕ)
    → FirstVacant ss ps byte → FirstVacant (ss ++ us) (ps ++ qs) byte
vacant_front ss us ps qs byte (here s others place places vacant) = here s (others ++ us) place
    (places ++ qs) vacant
vacant_front ss us ps qs byte (later s others place places _ held found) = later s (others ++ us)
    place (places ++ qs) byte held (vacant_front others us places qs byte found)

pub vacant_behind : (ss us : List (Bound × Bound)) (ps qs : List ℕ) (byte : ℕ) → length ps
    ≡ length ss → AllByRecursion HasPosition ss → FirstVacant us qs byte → FirstVacant (ss ++ us)
    (ps ++ qs) byte
vacant_behind [] us [] qs byte e held found = found
vacant_behind [] us (p ∷ ps) qs byte e held found = absurd (omega (arith, e))
vacant_behind (s ∷ ss) us [] qs byte e held found = absurd (omega (arith, e))
vacant_behind (s ∷ ss) us (p ∷ ps) qs byte e held found = later s (ss ++ us) p (ps ++ qs) byte
    held.0 (vacant_behind ss us ps qs byte (omega (arith, e)) held.1 found)

-- each span has a place
pub placed_spans : (t : SyntaxTree) → length (places_of t) ≡ length (spans_of (form_of t))
placed_spans trees.Empty = refl
placed_spans (trees.List v) = refl
placed_spans (trees.Span place low high) = refl
placed_spans (trees.Rule freq v) = refl
placed_spans (trees.Rrule v start) = refl
placed_spans (trees.Unary' op x a) = placed_spans a
placed_spans (trees.Binary' op x a y b) =
    omega (
      arith,
      length-append (places_of a) (places_of b),
      length-append (spans_of (form_of a))
          (spans_of (form_of b)),
      placed_spans a,
      placed_spans b,
    )
