use Rattle.expr_tree.specs.Members.{is_member}
use Rattle.walk_core.proofs.Ranging.{place_in_range}
use Rattle.walk_core.proofs.laws.ample_step_laws.Goals as goal

pub returns-clause-ample : goal.returns-clause-ample
returns-clause-ample c tree t budget reach fit ample dir place is =
    c.ample_laws.ensures.ample tree dir place budget reach
    (place_in_range (is_member tree) t dir place fit is) ample

pub returns-clause-enough : goal.returns-clause-enough
returns-clause-enough c tree t budget fit above dir place is =
    c.ample_laws.ensures.enough tree dir place budget (place_in_range (is_member tree) t dir place
    fit is) (above dir place is)
