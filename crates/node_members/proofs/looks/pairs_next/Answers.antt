use Rattle.std.proofs.Common.{arith, sym, ◌≡◌, pos, ◌+◌, ◌-ℤ◌}
use Rattle.std.proofs.lemmas.Int.{ints}
use Rattle.moment_core.specs.Line.{position_of}
use Rattle.moment_core.specs.declared.line.TheConstants.{LOW}
use Rattle.expr_tree.specs.Members.{is_member}
use Rattle.expr_tree.specs.Sorts.{reach_of}
use Rattle.lowered_tree.specs.Nodes.{meant_of_node}
use Rattle.node_members.specs.Looking.{candidate_of_either, in_either}
use Rattle.node_members.proofs.Looking.{look_end, look_on, pairs_out, pairs_stop}
use Rattle.node_members.proofs.Rooms.{room_left, room_low, room_works}
use Rattle.node_members.proofs.looks.pairs_next.Goals as goal

pub returns-then-budget-look-clause-looked : goal.returns-then-budget-look-clause-looked
returns-then-budget-look-clause-looked g c =
    pairs_stop c.member_laws.ensures.pairs c.due_laws.ensures.pairs c.candidate_laws.ensures.places
    (meant_of_node c.args.opens.now) (meant_of_node c.args.closes.now) c.args.p.0
    c.args.look c.args.number c.args.budget c.requires.look.0 c.requires.look.1 c.requires.none
    c.if-budget-look.true

pub past-requires-clause-turn : goal.past-requires-clause-turn
past-requires-clause-turn g c =
    let a = meant_of_node c.args.opens.now in
    let b = meant_of_node c.args.closes.now in
    let place = c.args.look.place.0 in
    let l = c.requires.look.0 in
    let at : place ≡ c.args.p.0 -ℤ pos l.0 = l.1.place in
    let turn = c.in-Some.ensures.either in
    let there : c.in-Some.turn.place.0 ≡ place -ℤ pos (turn.0 + 1) = turn.1.place in
    let room = room_left (reach_of a) (reach_of b) c.args.p.0 c.requires.room in
    room_works (reach_of a) c.in-Some.turn.place.0
    (c.room_laws.ensures.between (reach_of a) (position_of LOW) c.args.p.0 c.in-Some.turn.place.0
    (room_low (reach_of a) room.0) room turn.1.within (omega (arith, ints)))

pub returns-in-Some-clause-looked : goal.returns-in-Some-clause-looked
returns-in-Some-clause-looked g c =
    let a = meant_of_node c.args.opens.now in
    let b = meant_of_node c.args.closes.now in
    look_on (in_either a b) (candidate_of_either a b) c.args.p.0 (position_of LOW) c.args.look
    c.past.result c.in-Some.turn c.requires.look.0 c.requires.none c.in-Some.ensures.either
    c.in-Some.ensures.counts c.past.ensures.place c.past.ensures.few

pub returns-in-None-clause-looked : goal.returns-in-None-clause-looked
returns-in-None-clause-looked g c =
    let a = meant_of_node c.args.opens.now in
    let b = meant_of_node c.args.closes.now in
    sym (pairs_out c.member_laws.ensures.pairs c.due_laws.ensures.pairs
    c.candidate_laws.ensures.places (is_member a) (is_member b) c.args.p.0
    (look_end (in_either a b) (candidate_of_either a b) c.args.p.0 (position_of LOW) c.args.look
    c.requires.look.0 c.requires.none c.in-None.ensures.either))
