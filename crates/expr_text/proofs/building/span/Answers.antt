use Rattle.std.proofs.Common.{rules, []}
use Rattle.expr_text.specs.Faults.{here}
use Rattle.expr_text.specs.Trees.{bound_of}
use Rattle.expr_text.proofs.building.span.Goals as goal

pub returns-in-Err-clause-made : goal.returns-in-Err-clause-made
returns-in-Err-clause-made c =
    here (bound_of c.args.low, bound_of c.args.high) [] c.args.place []
    (rw (c.bound.ensures, c.bound-2.ensures) at (c.in-Err.ensures.empty.0 (search rules)))
