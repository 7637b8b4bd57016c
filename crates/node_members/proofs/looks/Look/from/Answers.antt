use Rattle.std.proofs.Common.{refl}
use Rattle.node_members.proofs.Looking.{look}
use Rattle.node_members.proofs.looks.Look.from.Goals as goal

pub returns-clause-start : goal.returns-clause-start
returns-clause-start c event candidate =
    look event candidate c.args.p.0 (record { place = c.args.p; passed = 0 }) refl refl
