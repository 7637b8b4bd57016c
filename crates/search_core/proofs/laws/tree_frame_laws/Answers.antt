use Rattle.search_core.proofs.Framing.{tree_period, tree_repeats}
use Rattle.search_core.proofs.Unary.{moves_within_reach}
use Rattle.search_core.proofs.laws.tree_frame_laws.Goals as goal

pub returns-clause-period : goal.returns-clause-period
returns-clause-period c = tree_period c.frame_laws.ensures.period

pub returns-clause-repeats : goal.returns-clause-repeats
returns-clause-repeats c =
    tree_repeats c.frame_laws.ensures.constant c.frame_laws.ensures.join
    c.frame_laws.ensures.period
    c.bound_laws.ensures.low c.bound_laws.ensures.high c.member_laws.ensures.during
    c.member_laws.ensures.pairs

pub returns-clause-moves : goal.returns-clause-moves
returns-clause-moves c = moves_within_reach
