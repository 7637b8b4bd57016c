use Rattle.std.proofs.Common.{◌&&◌}
use Rattle.span_core.specs.Bounds.{ends_after, reaches}
use Rattle.search_core.specs.Candidates.{is_bound_at}
use Rattle.node_turns.proofs.Turning.{Follows-op}
use Rattle.node_turns.proofs.turns.span_turn.Goals as goal

pub returns-clause-turn : goal.returns-clause-turn
returns-clause-turn c =
    rw (← c.low.ensures.value, ← c.high.ensures.value)
    (c.nearer.ensures.turn (reaches c.low.result) (ends_after c.high.result)
    (λ q. reaches c.low.result q && ends_after c.high.result q) c.args.p.0 c.args.end.0
    (Follows-op (λ x y. x && y) (reaches c.low.result) (ends_after c.high.result) c.args.dir
    c.args.p.0)
    c.low_turn-low.ensures.turn c.high_turn-high.ensures.turn)

pub returns-clause-counts : goal.returns-clause-counts
returns-clause-counts c =
    rw (← c.low.ensures.value, ← c.high.ensures.value)
    (c.nearer.ensures.counts (is_bound_at c.low.result) (is_bound_at c.high.result)
    c.low_turn-low.ensures.counts c.high_turn-high.ensures.counts)
