use Rattle.std.proofs.Common.{sym, ap, ◌∙◌}
use Rattle.search_core.specs.Candidates.{is_bound_at}
use Rattle.node_turns.proofs.Turning.{StandsIfCounted-more, end_stands, high_turns, moment_stands}
use Rattle.node_turns.proofs.turns.high_turn.Goals as goal

pub returns-in-Some-clause-turn : goal.returns-in-Some-clause-turn
returns-in-Some-clause-turn c =
    high_turns c.bound_laws.ensures.high c.args.high c.in-Some.last c.one_after.result.0 c.args.p.0
    c.args.end.0 c.args.dir c.crossing.result
    (sym c.in-Some.ensures.value) c.one_after.ensures c.crossing.ensures.turn

pub returns-in-Some-clause-counts : goal.returns-in-Some-clause-counts
returns-in-Some-clause-counts c =
    StandsIfCounted-more (moment_stands c.one_after.result.0) (is_bound_at c.args.high) c.args.dir
    c.crossing.result
    (λ q h. end_stands c.args.high c.in-Some.last (sym c.in-Some.ensures.value) q
    (ap (λ z. moment_stands z q) (sym c.one_after.ensures) ∙ h))
    c.crossing.ensures.counts
