use Rattle.std.proofs.Common.{arith, subst, sym, ◌≡◌, ◌<ℤ◌, ℤ, pos, ◌-ℤ◌}
use Rattle.std.proofs.lemmas.Int.{ints, to_z-of_z}
use Rattle.expr_tree.specs.Members.{is_member}
use Rattle.expr_tree.specs.Sorts.{reach_of}
use Rattle.search_core.specs.Candidates.{is_candidate}
use Rattle.lowered_tree.specs.Nodes.{meant_of_node}
use Rattle.node_members.specs.Looking.{IsLookFrom}
use Rattle.node_members.proofs.Looking.{during_out, during_stop, look_end, look_on}
use Rattle.node_members.proofs.Rooms.{room_back, room_works}
use Rattle.node_members.proofs.looks.during_next.Goals as goal

pub returns-then-budget-look-clause-looked : goal.returns-then-budget-look-clause-looked
returns-then-budget-look-clause-looked g c =
    let within = c.requires.look.1 in
    during_stop c.member_laws.ensures.during c.due_laws.ensures.during
    c.candidate_laws.ensures.places (meant_of_node c.args.a.now) c.args.seconds c.args.p.0
    c.args.look c.args.number c.args.budget c.requires.look.0 (omega (arith, ints))
    c.requires.none c.if-budget-look.true

pub next_turn-requires-clause-here : goal.next_turn-requires-clause-here
next_turn-requires-clause-here g c =
    let l = c.requires.look.0 in
    let at : c.args.look.place.0 ≡ c.args.p.0 -ℤ pos l.0 = l.1.place in
    let within = c.requires.look.1 in
    room_back (reach_of (meant_of_node c.args.a.now)) c.args.seconds c.args.p.0
    c.args.look.place.0 c.requires.room (omega (arith, ints)) (omega (arith, ints))

pub next_turn-requires-clause-there : goal.next_turn-requires-clause-there
next_turn-requires-clause-there g c =
    let l = c.requires.look.0 in
    let at : c.args.look.place.0 ≡ c.args.p.0 -ℤ pos l.0 = l.1.place in
    let within = c.requires.look.1 in
    let end = c.earliest-end.ensures in
    room_back (reach_of (meant_of_node c.args.a.now)) c.args.seconds c.args.p.0
    c.earliest-end.result.0 c.requires.room (omega (arith, ints)) (omega (arith, ints))

pub past-requires-clause-turn : goal.past-requires-clause-turn
past-requires-clause-turn g c =
    let a = meant_of_node c.args.a.now in
    let l = c.requires.look.0 in
    let at : c.args.look.place.0 ≡ c.args.p.0 -ℤ pos l.0 = l.1.place in
    let end = c.earliest-end.ensures in
    let there = c.in-Some.ensures.turn.1.place in
    let within = c.in-Some.ensures.turn.1.within in
    room_works (reach_of a) c.in-Some.turn.place.0
    (room_back (reach_of a) c.args.seconds c.args.p.0 c.in-Some.turn.place.0 c.requires.room
    (omega (arith, ints)) (omega (arith, ints)))

pub returns-in-Some-clause-looked : goal.returns-in-Some-clause-looked
returns-in-Some-clause-looked g c =
    let a = meant_of_node c.args.a.now in
    let N : ℤ → Type 0 =
    λ end. IsLookFrom (is_member a) (is_candidate a) c.args.p.0 end c.past.result
    × (c.past.result.place.0 <ℤ c.args.look.place.0) in
    let fits = c.ranges.seconds in
    subst N (simp to_z-of_z at c.earliest-end.ensures)
    (look_on (is_member a) (is_candidate a) c.args.p.0 c.earliest-end.result.0 c.args.look
    c.past.result c.in-Some.turn c.requires.look.0 c.requires.none c.in-Some.ensures.turn
    c.in-Some.ensures.counts c.past.ensures.place c.past.ensures.few)

pub returns-in-None-clause-looked : goal.returns-in-None-clause-looked
returns-in-None-clause-looked g c =
    let a = meant_of_node c.args.a.now in
    let fits = c.ranges.seconds in
    let end = simp to_z-of_z at c.earliest-end.ensures in
    sym (during_out c.member_laws.ensures.during c.due_laws.ensures.during
    c.candidate_laws.ensures.places (is_member a) c.args.seconds c.args.p.0
    (λ z low high. look_end (is_member a) (is_candidate a) c.args.p.0 c.earliest-end.result.0
    c.args.look c.requires.look.0 c.requires.none c.in-None.ensures.turn z (omega (arith, ints))
    high))
