use Rattle.std.proofs.Common.{◌≡◌, drop, map}
use Rattle.expr_grammar.specs.Syntax.{field_form}
use Rattle.expr_text.specs.Rules.{numbers_of}
use Rattle.expr_text.proofs.rules.numbers.Given as goal

abbrev pub invariant-loop-field : goal.invariant-loop-field
invariant-loop-field l = numbers_of l.key (map field_form (drop l.field-index l.fields))
    ≡ numbers_of l.key (map field_form l.fields)
