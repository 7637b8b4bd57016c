use Rattle.std.proofs.Common.{length}
use Rattle.expr_grammar.specs.Syntax.{form_of, places_of}
use Rattle.expr_text.specs.Making.{Reaches}
use Rattle.expr_text.proofs.Making.{size_of}
use Rattle.expr_text.proofs.building.+make.Given as goal

abbrev pub decreases-make : goal.decreases-make
decreases-make l = size_of (form_of l.tree.now)

abbrev pub invariant-steps : goal.invariant-steps
invariant-steps l = Reaches (form_of l.fn.tree) (places_of l.fn.tree) l.made l.steps.items

abbrev pub decreases-steps : goal.decreases-steps
decreases-steps l = length l.steps.items
