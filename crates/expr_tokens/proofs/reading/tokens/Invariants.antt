use Rattle.std.proofs.Common.{◌≤◌, length}
use Rattle.expr_tokens.specs.Reading.{reading_of}
use Rattle.expr_tokens.proofs.Lexing.{Kept}
use Rattle.expr_tokens.proofs.reading.tokens.Given as goal

abbrev pub invariant-tokens : goal.invariant-tokens
invariant-tokens l = record {
  kept : Kept (length l.text) l.found.items l.rest (reading_of l.text);
  shorter : length l.rest ≤ length l.text;
}

abbrev pub decreases-tokens : goal.decreases-tokens
decreases-tokens l = length l.rest
