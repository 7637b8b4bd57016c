use Rattle.expr_tree.proofs.KindLemmas.{moments_have_no_open_second, sorted_are_sound}
use Rattle.expr_tree.proofs.Sizes.{nodes_of-sorted, reach_of-sorted}
use Rattle.expr_tree.proofs.laws.tree_laws.Goals as goal

pub returns-clause-moments : goal.returns-clause-moments
returns-clause-moments c = moments_have_no_open_second

pub returns-clause-reach : goal.returns-clause-reach
returns-clause-reach c = reach_of-sorted

pub returns-clause-sound : goal.returns-clause-sound
returns-clause-sound c = sorted_are_sound

pub returns-clause-small : goal.returns-clause-small
returns-clause-small c = nodes_of-sorted
