use Rattle.node_turns.proofs.Turning.{first_turn, nearer_turns, other_turn}
use Rattle.node_turns.proofs.turns.nearer.Goals as goal

pub returns-in-Some-Some-clause-turn : goal.returns-in-Some-Some-clause-turn
returns-in-Some-Some-clause-turn c f g h p end follows r s =
    rw c.nearer_turn.ensures
    (nearer_turns f g h c.args.dir p end follows c.in-Some-Some.near c.in-Some-Some.other
    (rw c.in-Some-Some.is-0 at r) (rw c.in-Some-Some.is-1 at s))

pub returns-in-Some-None-clause-turn : goal.returns-in-Some-None-clause-turn
returns-in-Some-None-clause-turn c f g h p end follows r s =
    first_turn f g h c.args.dir p end follows c.in-Some-None.near (rw c.in-Some-None.is-0 at r)
    (rw c.in-Some-None.is-1 at s)

pub returns-in-None-default-clause-turn : goal.returns-in-None-default-clause-turn
returns-in-None-default-clause-turn c f g h p end follows r s =
    other_turn f g h c.args.dir p end follows c.args.b (rw c.in-None-default.is-0 at r) s
