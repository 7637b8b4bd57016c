use Rattle.std.proofs.Common.{◌≡◌, ◌+◌, ◌*◌, ◌≤◌, ◌++◌, length}
use Rattle.expr_grammar.specs.Syntax.{form_of, places_of, span_places}
use Rattle.expr_grammar.specs.Parsing.{rank, atom_at, operand_at, chain_at}
use Rattle.expr_tokens.specs.Plain.{plains}
use Rattle.expr_grammar.proofs.Loop.{GoesOn}
use Rattle.expr_grammar.proofs.parser.+expression.Given as goal

abbrev pub decreases-atom : goal.decreases-atom
decreases-atom l = 12 * l.depth

abbrev pub decreases-operand : goal.decreases-operand
decreases-operand l = 12 * l.depth + 2 * rank l.op + 1

abbrev pub decreases-chain : goal.decreases-chain
decreases-chain l = 12 * l.depth + 2 * rank l.op + 2

abbrev pub decreases-pairs_end : goal.decreases-pairs_end
decreases-pairs_end l = 12 * l.depth + 7

abbrev pub decreases-call_end : goal.decreases-call_end
decreases-call_end l = 12 * l.depth + 8

abbrev pub decreases-call : goal.decreases-call
decreases-call l = 12 * l.depth + 9

abbrev pub decreases-nested : goal.decreases-nested
decreases-nested l = 12 * l.depth + 10

abbrev pub invariant-chain-operands : goal.invariant-chain-operands
invariant-chain-operands l = record {
  read : GoesOn (operand_at (atom_at l.depth) l.op) l.op (form_of l.left) (plains l.rest)
      (chain_at (operand_at (atom_at l.depth) l.op) l.op (plains l.fn.tokens));
  places : span_places l.fn.tokens ≡ places_of l.left ++ span_places l.rest;
  within : length l.rest ≤ length l.fn.tokens;
}

abbrev pub decreases-chain-operands : goal.decreases-chain-operands
decreases-chain-operands l = length l.rest
