use Rattle.lowered_tree.proofs.Lawfulness.{are_lawful}
use Rattle.lowered_tree.proofs.laws.lawful_laws.Goals as goal

pub returns : goal.returns
returns c = are_lawful c.frame_laws.ensures.constant c.field_laws.ensures c.ical_laws.ensures
