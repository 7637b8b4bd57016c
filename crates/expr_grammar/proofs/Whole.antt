-- The clauses of the reader, from what reading gives.
use Rattle.std.proofs.Common.{◌≡◌, ◌⊎◌, inl, inr, List, Option, Some, None, Result, Ok, Err, refl}
use Rattle.std.specs.Prelude.{IfOk, IsErrOf}
use Rattle.expr_tokens.specs.Plain.{Token}
use Rattle.expr_grammar.specs.declared.fault.ParseFault.{ParseFault}
use Rattle.expr_grammar.specs.declared.fault.ParseFault.TheVariants as faults
use Rattle.expr_grammar.specs.declared.syntax.SyntaxTrees.{SyntaxTrees}
use Rattle.expr_grammar.specs.Form.{Forms}
use Rattle.expr_grammar.specs.Syntax.{forms_of}
use Rattle.expr_grammar.specs.Grammar.{Spells}
use Rattle.expr_grammar.specs.Laws.{SpellOrNot}
use Rattle.expr_grammar.specs.Parsing.{Gives, program_at}
use Rattle.expr_grammar.proofs.Soundness.{program_sound}
use Rattle.expr_grammar.proofs.Completeness.{program_complete}

pub is_found : (ts : List Token) (r : Result SyntaxTrees ParseFault)
    → Gives forms_of r (program_at ts) → IfOk r (λ p. Spells (forms_of p) ts)
is_found ts (Ok p) given = program_sound ts (forms_of p) given
is_found ts (Err e) given = tt

pub is_syntax : (ts : List Token) (r : Result SyntaxTrees ParseFault)
    → Gives forms_of r (program_at ts) → IsErrOf r faults.Syntax → (p : Forms) → Spells p ts → ⊥
is_syntax ts (Ok p) given e q spelled = cc
is_syntax ts (Err faults.Memory) given e q spelled = cc
is_syntax ts (Err faults.Syntax) given e q spelled = let h = program_complete q ts spelled in cc

pub spell_or_not : SpellOrNot
spell_or_not ts = by_reading (program_at ts) refl
  where
    by_reading : (o : Option Forms) → program_at ts ≡ o → ((p : Forms) × Spells p ts)
        ⊎ ((p : Forms) → Spells p ts → ⊥)
    by_reading (Some p) e = inl (p, program_sound ts p e)
    by_reading None e = inr (λ p spelled. let d = program_complete p ts spelled in absurd cc)
