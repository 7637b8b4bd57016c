use Rattle.std.proofs.Common.{◌≡◌, ◌≤◌, length}
use Rattle.expr_tokens.specs.Plain.{plains}
use Rattle.expr_grammar.specs.Syntax.{span_places}
use Rattle.expr_grammar.specs.Parsing.{moments_at, list_at}
use Rattle.expr_grammar.proofs.Loop.{with_front}
use Rattle.expr_grammar.proofs.parser.moments.Given as goal

abbrev pub invariant-moments : goal.invariant-moments
invariant-moments l = record {
  read : with_front l.found.items (moments_at (plains l.rest)) ≡ list_at (plains l.fn.tokens);
  places : span_places l.fn.tokens ≡ span_places l.rest;
  within : length l.rest ≤ length l.fn.tokens;
}

abbrev pub decreases-moments : goal.decreases-moments
decreases-moments l = length l.rest
