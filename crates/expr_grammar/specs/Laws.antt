-- The laws of the grammar.
use Rattle.std.specs.Prelude.{◌≡◌, ◌⊎◌, List}
use Rattle.std.specs.List.{AllByRecursion}
use Rattle.expr_tokens.specs.Plain.{Token}
use Rattle.expr_grammar.specs.Form.{Forms}
use Rattle.expr_grammar.specs.Grammar.{SpellNothing, Spells}
use Rattle.expr_grammar.specs.Made.{HasMoment, IsDated, AreMade}
use Rattle.expr_grammar.specs.Nesting.{IsPrintable, spelled_program}
use Rattle.expr_grammar.specs.Spans.{all_names, all_spans_in}

-- no tokens spell two programs
abbrev pub SpellOne : Type 0
SpellOne = (p q : Forms) (ts : List Token) → Spells p ts → Spells q ts → p ≡ q

-- tokens spell a program, or they spell none
abbrev pub SpellOrNot : Type 0
SpellOrNot = (ts : List Token) → ((p : Forms) × Spells p ts) ⊎ SpellNothing ts

-- where each literal among the tokens names a moment, each one of the program does
abbrev pub MomentsAreKept : Type 0
MomentsAreKept =
    (p : Forms) (ts : List Token) → Spells p ts → AllByRecursion (HasMoment IsDated) ts
    → AreMade IsDated p

-- as many names `span` stand among the tokens as there are spans in the program
abbrev pub SpansAreNamed : Type 0
SpansAreNamed = (p : Forms) (ts : List Token) → Spells p ts → all_names ts ≡ all_spans_in p

-- the tokens of the printed form spell the program
abbrev pub PrintedIsSpelled : Type 0
PrintedIsSpelled = (p : Forms) → IsPrintable p → Spells p (spelled_program p)
