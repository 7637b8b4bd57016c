use Rattle.std.proofs.Common.{◌≡◌, ◌<◌, length}
use Rattle.expr_tokens.specs.Plain.{plains}
use Rattle.expr_grammar.specs.Syntax.{span_places}
use Rattle.expr_grammar.specs.Parsing.{more_at, values_at, with_key}
use Rattle.expr_grammar.proofs.fields.values.Given as goal

abbrev pub invariant-numbers : goal.invariant-numbers
invariant-numbers l = record {
  read : with_key l.key (more_at l.found.items (plains l.rest)) ≡ values_at (plains l.fn.tokens);
  places : span_places l.fn.tokens ≡ span_places l.rest;
  within : length l.rest < length l.fn.tokens;
}

abbrev pub decreases-numbers : goal.decreases-numbers
decreases-numbers l = length l.rest
