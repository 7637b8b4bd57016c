use Rattle.std.proofs.Common.{arith}
use Rattle.lowered_tree.proofs.nodes.Node.+lower.Goals as goal

pub lower_joined-lower-requires-2 : goal.lower_joined-lower-requires-2
lower_joined-lower-requires-2 t c = (omega (arith, c.decreases), c.requires.b)

pub lower_pairs-lower-requires-2 : goal.lower_pairs-lower-requires-2
lower_pairs-lower-requires-2 t c = (omega (arith, c.decreases), c.requires.b)

pub lower-returns-in-Minus-clause-meant : goal.lower-returns-in-Minus-clause-meant
lower-returns-in-Minus-clause-meant t c =
    rw (c.in-Minus.is, ← c.deref-in-Minus.ensures, ← c.deref-in-Minus-2.ensures)
    c.lower_joined-in-Minus.ensures.meant
