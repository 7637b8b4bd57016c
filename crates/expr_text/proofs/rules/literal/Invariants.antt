use Rattle.std.proofs.Common.{◌≡◌, drop, map}
use Rattle.expr_grammar.specs.Syntax.{field_form}
use Rattle.expr_text.specs.Rules.{literal_in}
use Rattle.expr_text.proofs.rules.literal.Given as goal

abbrev pub invariant-loop-field : goal.invariant-loop-field
invariant-loop-field l = literal_in (map field_form (drop l.field-index l.fields))
    ≡ literal_in (map field_form l.fields)
