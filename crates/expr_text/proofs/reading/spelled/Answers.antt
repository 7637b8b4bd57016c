use Rattle.std.proofs.Common.{rules, sym, subst, ◌∙◌}
use Rattle.expr_grammar.specs.Form.{Forms}
use Rattle.expr_grammar.specs.Grammar.{Spells}
use Rattle.expr_grammar.specs.Syntax.{forms_of}
use Rattle.expr_text.specs.Accepted.{IsSpelled, spelled, unless_unbuilt, unspelled}
use Rattle.phases.specs.Phases.{By, fails, goes_on}
use Rattle.expr_text.specs.Fault as faults
use Rattle.expr_text.specs.Phases.{told}
use Rattle.expr_text.specs.Sorted.{trees_of_sorted}
use Rattle.phases.specs.Laws.{passes}
use Rattle.expr_text.proofs.Places.{built_tokens, kinds_same, unbuilt_tokens}
use Rattle.expr_text.proofs.reading.spelled.Goals as goal

pub returns-then-calls_unbuilt-clause-answer : goal.returns-then-calls_unbuilt-clause-answer
returns-then-calls_unbuilt-clause-answer c = λ found are.
    fails faults.Unbuilt (unbuilt_tokens c.args.tokens.now found are (sym c.calls_unbuilt.ensures
    ∙ c.if-calls_unbuilt.true))

pub returns-in-Ok-clause-answer : goal.returns-in-Ok-clause-answer
returns-in-Ok-clause-answer c = λ found are.
    let p = forms_of c.in-Ok.trees in
    let spells = subst (Spells p) (kinds_same c.args.tokens.now found are)
    c.in-Ok.ensures.spelled in
    passes (By unless_unbuilt) _ found found (told trees_of_sorted c.dated.result)
    (built_tokens c.args.tokens.now found are (sym c.calls_unbuilt.ensures
    ∙ c.if-calls_unbuilt.false))
    (passes IsSpelled _ found (record { tokens = found; forms = p })
    (told trees_of_sorted c.dated.result) (spelled p spells) (c.dated.ensures.answer found are))

pub returns-in-Err-Syntax-clause-answer : goal.returns-in-Err-Syntax-clause-answer
returns-in-Err-Syntax-clause-answer c = λ found are.
    goes_on found _ (built_tokens c.args.tokens.now found are (sym c.calls_unbuilt.ensures
    ∙ c.if-calls_unbuilt.false))
    (fails faults.Syntax
    (unspelled (λ (p : Forms) s. c.in-Err-Syntax.ensures.syntax (search rules) p
    (subst (Spells p) (sym (kinds_same c.args.tokens.now found are)) s))))
