use Rattle.std.proofs.Common.{sym, ◌∙◌}
use Rattle.node_turns.proofs.Turning.{crossing_turns}
use Rattle.node_turns.proofs.turns.crossing.Goals as goal

pub returns-then-not-is_past-clause-turn : goal.returns-then-not-is_past-clause-turn
returns-then-not-is_past-clause-turn c =
    crossing_turns c.args.first.0 c.args.p.0 c.args.end.0 c.args.dir _ c.crossed-place.ensures
    (sym c.is_past.ensures ∙ c.if-is_past.true) (sym c.is_past-then-is_past.ensures
    ∙ c.if-not-is_past.true)
