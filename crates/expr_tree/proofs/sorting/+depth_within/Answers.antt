use Rattle.expr_tree.proofs.Sizes.{depth_of-positive, none_within}
use Rattle.expr_tree.specs.Sorts.{depth_of}
use Rattle.expr_tree.specs.Tree.{tree_of}
use Rattle.expr_tree.proofs.sorting.+depth_within.Goals as goal

pub returns-then-limit-eq0 : goal.returns-then-limit-eq0
returns-then-limit-eq0 t c =
    none_within (depth_of (tree_of c.args.e.now)) c.args.limit (depth_of-positive
    (tree_of c.args.e.now)) c.if-limit-eq0.true
