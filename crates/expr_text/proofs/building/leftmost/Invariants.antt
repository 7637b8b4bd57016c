use Rattle.std.proofs.Common.{◌≡◌}
use Rattle.expr_grammar.specs.Made.{IsDated, IsMade}
use Rattle.expr_grammar.specs.Syntax.{form_of, places_of}
use Rattle.expr_text.specs.Making.{form_around, places_around}
use Rattle.expr_text.proofs.building.leftmost.Given as goal

abbrev pub invariant-left : goal.invariant-left
invariant-left l = record {
  whole : form_around l.steps.items (form_of l.left) ≡ form_of l.fn.tree;
  whole_places : places_around l.steps.items (places_of l.left) ≡ places_of l.fn.tree;
  dated : IsMade IsDated (form_of l.left);
}
