use Rattle.walk_core.proofs.Endless.{walk_holds}
use Rattle.walk_core.proofs.Taking.{honest_window, window_fits, window_items}
use Rattle.walk_core.proofs.laws.step_laws.Goals as goal

pub returns-clause-begin : goal.returns-clause-begin
returns-clause-begin c set window w dir low high = (
  window_fits w dir low high,
  honest_window set w dir,
  λ runs. window_items set window w dir runs,
)

pub returns-clause-hold : goal.returns-clause-hold
returns-clause-hold c tree budget t next item lawful fit honest is =
    walk_holds c.answer_laws.ensures.run c.endless_laws.ensures.items tree lawful
    c.endless_laws.ensures.none budget t next item fit honest is
