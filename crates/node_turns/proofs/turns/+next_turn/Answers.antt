use Rattle.std.proofs.Common.{◌||◌, ◌-ℤ◌, arith, not, refl, rules, subst, sym}
use Rattle.std.proofs.lemmas.Int.{to_z-of_z}
use mir.Syntax.{w64}
use mir.Val.{SFits}
use Rattle.moment_core.specs.Joining.{joined}
use Rattle.moment_core.specs.Line.{position_of}
use Rattle.moment_core.specs.declared.joining.UnaryOp.TheVariants.{During, Ends, Starts}
use Rattle.expr_tree.specs.Members.{is_member}
use Rattle.expr_tree.specs.Sorts.{reach_of}
use Rattle.expr_tree.specs.Sound.{IsSound}
use Rattle.expr_tree.specs.Tree.{Pairs, Unary}
use Rattle.search_core.specs.Candidates.{is_candidate}
use Rattle.search_core.specs.LookingBack.{either}
use Rattle.lowered_tree.specs.Nodes.{meant_of_node}
use Rattle.node_turns.specs.Room.{HasRoom}
use Rattle.node_turns.proofs.Edges.{edge_counts, edge_none, edge_small, edge_some, ends_edge, starts_edge}
use Rattle.node_turns.proofs.Moving.{Follows-during, Follows-pairs, moved_counts, moved_none, moved_some}
use Rattle.node_turns.proofs.Rooms.{room_earlier, room_small, room_turn}
use Rattle.node_turns.proofs.Turning.{Follows-op, IsTurn-apart}
use Rattle.node_turns.proofs.turns.+next_turn.Goals as goal

pub edge_turn-returns-in-Some-clause-turn : goal.edge_turn-returns-in-Some-clause-turn
edge_turn-returns-in-Some-clause-turn g t c = λ h edge.
    let a = meant_of_node c.args.a.now in
    rw c.edge_up_to.ensures
    (edge_some (is_member a) h c.args.dir c.args.p.0 c.open_before.result.0 c.next.result.0
    c.in-Some.turn c.edge_at.result c.args.end edge
    c.open_before.ensures c.edge_at.ensures c.in-Some.ensures.turn)

pub edge_turn-returns-in-Some-clause-counts : goal.edge_turn-returns-in-Some-clause-counts
edge_turn-returns-in-Some-clause-counts g t c =
    let a = meant_of_node c.args.a.now in
    rw c.edge_up_to.ensures
    (edge_counts (is_candidate a) c.args.dir c.args.p.0 c.in-Some.turn c.edge_at.result c.args.end
    c.edge_at.ensures c.in-Some.ensures.counts)

pub edge_turn-returns-in-None-clause-turn : goal.edge_turn-returns-in-None-clause-turn
edge_turn-returns-in-None-clause-turn g t c = λ h edge.
    let a = meant_of_node c.args.a.now in
    edge_none (is_member a) h c.args.dir c.args.p.0 c.open_before.result.0 c.args.end.0
    c.next.result.0 edge
    c.open_before.ensures c.next.ensures c.in-None.ensures.turn

pub shifted_turn-returns-in-Some-clause-turn : goal.shifted_turn-returns-in-Some-clause-turn
shifted_turn-returns-in-Some-clause-turn g t c =
    let a = meant_of_node c.args.a.now in
    let fits = c.ranges.seconds in
    let turn = rw (c.earlier.ensures, c.earlier-2.ensures) at c.in-Some.ensures.turn in
    moved_some (is_member a) c.args.dir c.args.p.0 c.args.end.0 c.args.seconds c.in-Some.turn
    (record { place = c.later.result; counts = c.in-Some.turn.counts })
    (simp to_z-of_z at c.later.ensures) (simp to_z-of_z at turn)

pub shifted_turn-returns-in-Some-clause-counts : goal.shifted_turn-returns-in-Some-clause-counts
shifted_turn-returns-in-Some-clause-counts g t c =
    let a = meant_of_node c.args.a.now in
    let fits = c.ranges.seconds in
    moved_counts (is_candidate a) c.args.dir c.args.seconds c.in-Some.turn
    (record { place = c.later.result; counts = c.in-Some.turn.counts })
    (simp to_z-of_z at c.later.ensures) refl c.in-Some.ensures.counts

pub shifted_turn-returns-in-None-clause-turn : goal.shifted_turn-returns-in-None-clause-turn
shifted_turn-returns-in-None-clause-turn g t c =
    let a = meant_of_node c.args.a.now in
    let fits = c.ranges.seconds in
    let turn = rw (c.earlier.ensures, c.earlier-2.ensures) at c.in-None.ensures.turn in
    moved_none (is_member a) c.args.dir c.args.p.0 c.args.end.0 c.args.seconds
    (simp to_z-of_z at turn)

pub either_turn-returns-clause-turn : goal.either_turn-returns-clause-turn
either_turn-returns-clause-turn g t c = λ h follows.
    let a = meant_of_node c.args.a.now in
    let b = meant_of_node c.args.b.now in
    c.nearer.ensures.turn (is_member a) (is_member b) h c.args.p.0 c.args.end.0 follows
    c.next_turn-near.ensures.turn c.next_turn-other.ensures.turn

pub either_turn-returns-clause-either : goal.either_turn-returns-clause-either
either_turn-returns-clause-either g t c =
    let f = is_member (meant_of_node c.args.a.now) in
    let h = is_member (meant_of_node c.args.b.now) in
    c.nearer.ensures.turn f h (either f h) c.args.p.0 c.args.end.0
    (Follows-op (λ x y. x || y) f h c.args.dir c.args.p.0)
    c.next_turn-near.ensures.turn c.next_turn-other.ensures.turn

pub either_turn-returns-clause-counts : goal.either_turn-returns-clause-counts
either_turn-returns-clause-counts g t c =
    c.nearer.ensures.counts (is_candidate (meant_of_node c.args.a.now))
    (is_candidate (meant_of_node c.args.b.now))
    c.next_turn-near.ensures.counts c.next_turn-other.ensures.counts

pub next_turn-returns-in-Joined-clause-turn : goal.next_turn-returns-in-Joined-clause-turn
next_turn-returns-in-Joined-clause-turn g t c =
    let a = meant_of_node c.deref.result.now in
    let b = meant_of_node c.deref-in-Joined.result.now in
    rw (c.in-Joined.is, ← c.deref.ensures, ← c.deref-in-Joined.ensures)
    (c.either_turn.ensures.turn (λ q. joined c.in-Joined.field-0 (is_member a q) (is_member b q))
    (Follows-op (joined c.in-Joined.field-0) (is_member a) (is_member b) c.args.dir c.args.p.0))

pub unary_turn-returns-in-Not-clause-turn : goal.unary_turn-returns-in-Not-clause-turn
unary_turn-returns-in-Not-clause-turn g t c =
    let a = meant_of_node c.args.a.now in
    rw c.in-Not.is (IsTurn-apart not (is_member a) c.args.dir c.args.p.0 c.args.end.0
    c.next_turn.result c.next_turn.ensures.turn)

pub unary_turn-returns-in-During-clause-turn : goal.unary_turn-returns-in-During-clause-turn
unary_turn-returns-in-During-clause-turn g t c =
    let a = meant_of_node c.args.a.now in
    let d = c.in-During.seconds in
    let fits : SFits w64 d = search rules in
    let sound : IsSound (Unary (During d) a) = rw (c.in-During.is) at c.requires.sound in
    rw c.in-During.is
    (c.nearer.ensures.turn (is_member a) (λ q. is_member a (q -ℤ position_of d))
    (is_member (Unary (During d) a)) c.args.p.0 c.args.end.0
    (Follows-during c.member_laws.ensures.during (is_member a) d c.args.dir c.args.p.0
    (sound.1 refl))
    c.next_turn-near.ensures.turn (simp to_z-of_z at c.shifted_turn-other.ensures.turn))

pub next_turn-returns-in-Pairs-clause-turn : goal.next_turn-returns-in-Pairs-clause-turn
next_turn-returns-in-Pairs-clause-turn g t c =
    let a = meant_of_node c.deref-in-Pairs.result.now in
    let b = meant_of_node c.deref-in-Pairs-2.result.now in
    let sound : IsSound (Pairs a b) =
    rw (c.deref-in-Pairs.ensures, c.deref-in-Pairs-2.ensures) (rw (c.in-Pairs.is) at
    c.requires.sound) in
    rw (c.in-Pairs.is, ← c.deref-in-Pairs.ensures, ← c.deref-in-Pairs-2.ensures)
    (c.either_turn-in-Pairs.ensures.turn (is_member (Pairs a b))
    (Follows-pairs c.member_laws.ensures.pairs (is_member a) (is_member b) c.args.dir c.args.p.0
    sound.1.0 sound.1.1))

pub unary_turn-returns-in-Starts-clause-turn : goal.unary_turn-returns-in-Starts-clause-turn
unary_turn-returns-in-Starts-clause-turn g t c =
    let a = meant_of_node c.args.a.now in
    rw c.in-Starts.is (c.edge_turn.ensures.turn (is_member (Unary Starts a))
    (starts_edge (is_member a)))

pub unary_turn-returns-in-Ends-clause-turn : goal.unary_turn-returns-in-Ends-clause-turn
unary_turn-returns-in-Ends-clause-turn g t c =
    let a = meant_of_node c.args.a.now in
    rw c.in-Ends.is (c.edge_turn-in-Ends.ensures.turn (is_member (Unary Ends a))
    (ends_edge (is_member a)))

pub edge_turn-edge_at-requires-clause-q : goal.edge_turn-edge_at-requires-clause-q
edge_turn-edge_at-requires-clause-q g t c =
    let a = meant_of_node c.args.a.now in
    edge_small (is_member a) c.args.dir c.args.p.0 c.open_before.result.0 c.args.end.0
    c.next.result.0 (reach_of a) c.in-Some.turn
    c.requires.here c.requires.there c.open_before.ensures c.next.ensures c.in-Some.ensures.turn

pub unary_turn-returns-in-During-clause-counts : goal.unary_turn-returns-in-During-clause-counts
unary_turn-returns-in-During-clause-counts g t c =
    let a = meant_of_node c.args.a.now in
    let d = c.in-During.seconds in
    let fits : SFits w64 d = search rules in
    rw c.in-During.is
    (c.nearer.ensures.counts (is_candidate a) (λ q. is_candidate a (q -ℤ position_of d))
    c.next_turn-near.ensures.counts (simp to_z-of_z at c.shifted_turn-other.ensures.counts))

pub shifted_turn-next_turn-requires : goal.shifted_turn-next_turn-requires
shifted_turn-next_turn-requires g t c = λ κs alive.
    let n = reach_of (meant_of_node c.args.a.now) in
    let fits = c.ranges.seconds in
    let here : HasRoom n c.earlier.result.0 =
    subst (HasRoom n) (sym (simp to_z-of_z at c.earlier.ensures))
    (room_earlier n c.args.seconds c.args.p.0
    c.requires.here) in
    let there : HasRoom n c.earlier-2.result.0 =
    subst (HasRoom n) (sym (simp to_z-of_z at c.earlier-2.ensures))
    (room_earlier n c.args.seconds c.args.end.0
    c.requires.there) in
    (omega (arith, c.decreases), (alive, (c.requires.sound, (here, there))))

pub shifted_turn-later-requires-clause-p : goal.shifted_turn-later-requires-clause-p
shifted_turn-later-requires-clause-p g t c =
    let a = meant_of_node c.args.a.now in
    let n = reach_of a in
    let fits = c.ranges.seconds in
    let here : HasRoom n c.earlier.result.0 =
    subst (HasRoom n) (sym (simp to_z-of_z at c.earlier.ensures))
    (room_earlier n c.args.seconds c.args.p.0
    c.requires.here) in
    let there : HasRoom n c.earlier-2.result.0 =
    subst (HasRoom n) (sym (simp to_z-of_z at c.earlier-2.ensures))
    (room_earlier n c.args.seconds c.args.end.0
    c.requires.there) in
    room_small n c.in-Some.turn.place.0 (room_turn (is_member a) c.args.dir c.earlier.result.0
    c.earlier-2.result.0 c.in-Some.turn n here there c.in-Some.ensures.turn)
