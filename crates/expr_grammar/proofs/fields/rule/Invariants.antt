use Rattle.std.proofs.Common.{◌≡◌, ◌≤◌, length, map}
use Rattle.expr_tokens.specs.Plain.{plains}
use Rattle.expr_grammar.specs.Syntax.{field_form, span_places}
use Rattle.expr_grammar.specs.Parsing.{rule_at}
use Rattle.expr_grammar.proofs.FieldLoop.{FieldsGoOn}
use Rattle.expr_grammar.proofs.fields.rule.Given as goal

abbrev pub invariant-fields : goal.invariant-fields
invariant-fields l = record {
  read : FieldsGoOn l.freq (map field_form l.fields.items) (plains l.rest)
      (rule_at (plains l.fn.tokens));
  places : span_places l.fn.tokens ≡ span_places l.rest;
  within : length l.rest ≤ length l.fn.tokens;
}

abbrev pub decreases-fields : goal.decreases-fields
decreases-fields l = length l.rest
