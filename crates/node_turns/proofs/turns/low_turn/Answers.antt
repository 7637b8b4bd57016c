use Rattle.std.proofs.Common.{sym}
use Rattle.search_core.specs.Candidates.{is_bound_at}
use Rattle.node_turns.proofs.Turning.{StandsIfCounted-more, bound_stands, low_turns, moment_stands}
use Rattle.node_turns.proofs.turns.low_turn.Goals as goal

pub returns-in-Some-clause-counts : goal.returns-in-Some-clause-counts
returns-in-Some-clause-counts c =
    StandsIfCounted-more (moment_stands c.in-Some.first.0) (is_bound_at c.args.low) c.args.dir
    c.crossing.result
    (bound_stands c.args.low c.in-Some.first (sym c.in-Some.ensures.value))
    c.crossing.ensures.counts

pub returns-in-Some-clause-turn : goal.returns-in-Some-clause-turn
returns-in-Some-clause-turn c =
    low_turns c.bound_laws.ensures.low c.args.low c.in-Some.first c.args.p.0 c.args.end.0 c.args.dir
    c.crossing.result
    (sym c.in-Some.ensures.value) c.crossing.ensures.turn
