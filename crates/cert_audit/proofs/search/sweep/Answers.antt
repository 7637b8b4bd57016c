use Rattle.std.proofs.Common.{arith}
use Rattle.expr_tree.specs.Members.{is_member}
use Rattle.cert_audit.specs.Lowered.{frame_of_ready, meant_of_ready}
use Rattle.cert_audit.proofs.Sweeping.{IsAnswer-found, at_start, changes, end_is, in_range, kept, nothing_differs, steps_left-falls, stops, stops_here, stops_there, turn_in_range, turned, visit, works_in_range}
use Rattle.cert_audit.proofs.search.sweep.Goals as goal

pub turns-init : goal.turns-init
turns-init g c = record {
  visited = at_start (meant_of_ready c.args.r.now) c.args.dir c.args.p.0 c.search_end-end.result.0
      (end_is c.window_laws.ensures.lie (frame_of_ready c.args.r.now) c.window_of-window.result
      c.args.dir c.args.p.0 c.search_end-end.result.0
      c.requires.range c.window_of-window.ensures c.search_end-end.ensures).0;
  room = omega (arith, c.requires.budget);
  counted = c.holds.ensures.counted;
}

pub returns-in_default-clause-answer : goal.returns-in_default-clause-answer
returns-in_default-clause-answer g c =
    IsAnswer-found (meant_of_ready c.args.r.now) c.args.dir c.args.p.0 c.args.budget
    c.without_change.result
    (nothing_differs c.window_laws.ensures.keep c.tree_frame_laws.ensures.period
    c.tree_frame_laws.ensures.repeats (meant_of_ready c.args.r.now)
    c.args.r.now.searchable.lawful c.window_of-window.result c.args.dir c.args.p.0
    c.search_end-end.result.0
    c.turns.place.0 c.turns.passed c.without_change.result c.window_of-window.ensures
    c.search_end-end.ensures
    c.turns.invariant.visited c.in_default.ensures.turn c.without_change.ensures)

pub returns-then-there-here-clause-answer : goal.returns-then-there-here-clause-answer
returns-then-there-here-clause-answer g c = (
  changes (meant_of_ready c.args.r.now) c.args.dir c.args.p.0 c.search_end-end.result.0
      c.turns.place.0 c.turns.passed c.in-Some.turn
      c.turns.invariant.visited c.in-Some.ensures.turn
      (turned c.in-Ok-holds.there c.in-Ok.here (is_member (meant_of_ready c.args.r.now)
      c.in-Some.turn.place.0) (is_member (meant_of_ready c.args.r.now) c.args.p.0)
      c.in-Ok-holds.ensures.value c.in-Ok.ensures.value c.if-there-here.true),
  turn_in_range (meant_of_ready c.args.r.now) c.args.dir c.args.p.0 c.search_end-end.result.0
      c.turns.place.0 c.turns.passed c.in-Some.turn
      c.turns.invariant.visited c.in-Some.ensures.turn c.requires.range
      (end_is c.window_laws.ensures.lie (frame_of_ready c.args.r.now) c.window_of-window.result
      c.args.dir c.args.p.0 c.search_end-end.result.0
      c.requires.range c.window_of-window.ensures c.search_end-end.ensures).1,
)

pub with_candidate-passed-requires-clause-room : goal.with_candidate-passed-requires-clause-room
with_candidate-passed-requires-clause-room g c =
    omega (arith, c.turns.invariant.room, c.ranges.budget)

pub with_candidate-passed-requires-clause-turn : goal.with_candidate-passed-requires-clause-turn
with_candidate-passed-requires-clause-turn g c =
    works_in_range c.in-Some.turn.place.0
    (turn_in_range (meant_of_ready c.args.r.now) c.args.dir c.args.p.0 c.search_end-end.result.0
    c.turns.place.0 c.turns.passed c.in-Some.turn
    c.turns.invariant.visited c.in-Some.ensures.turn c.requires.range
    (end_is c.window_laws.ensures.lie (frame_of_ready c.args.r.now) c.window_of-window.result
    c.args.dir c.args.p.0 c.search_end-end.result.0
    c.requires.range c.window_of-window.ensures c.search_end-end.ensures).1)

pub returns-then-budget-passed-clause-answer : goal.returns-then-budget-passed-clause-answer
returns-then-budget-passed-clause-answer g c =
    stops c.candidate_laws.ensures.places (meant_of_ready c.args.r.now) c.window_of-window.result
    c.args.dir c.args.p.0 c.search_end-end.result.0 c.with_candidate-passed.result c.args.budget
    c.in-Some.turn.place
    c.window_of-window.ensures c.search_end-end.ensures
    (visit (meant_of_ready c.args.r.now) c.args.dir c.args.p.0 c.search_end-end.result.0
    c.turns.place.0 c.turns.passed c.with_candidate-passed.result c.in-Some.turn
    c.turns.invariant.visited c.in-Some.ensures.turn c.in-Some.ensures.counts
    (kept c.in-Ok-holds.there c.in-Ok.here (is_member (meant_of_ready c.args.r.now)
    c.in-Some.turn.place.0) (is_member (meant_of_ready c.args.r.now) c.args.p.0)
    c.in-Ok-holds.ensures.value c.in-Ok.ensures.value c.if-there-here.false)
    c.with_candidate-passed.ensures.few)
    c.requires.budget c.if-budget-passed.true
    (turn_in_range (meant_of_ready c.args.r.now) c.args.dir c.args.p.0 c.search_end-end.result.0
    c.turns.place.0 c.turns.passed c.in-Some.turn
    c.turns.invariant.visited c.in-Some.ensures.turn c.requires.range
    (end_is c.window_laws.ensures.lie (frame_of_ready c.args.r.now) c.window_of-window.result
    c.args.dir c.args.p.0 c.search_end-end.result.0
    c.requires.range c.window_of-window.ensures c.search_end-end.ensures).1)

pub returns-in-Err-clause-answer : goal.returns-in-Err-clause-answer
returns-in-Err-clause-answer g c =
    stops_here (meant_of_ready c.args.r.now) c.window_of-window.result c.args.dir c.args.p.0
    c.search_end-end.result.0 c.args.budget c.in-Err.stop
    c.window_of-window.ensures c.search_end-end.ensures
    (end_is c.window_laws.ensures.lie (frame_of_ready c.args.r.now) c.window_of-window.result
    c.args.dir c.args.p.0 c.search_end-end.result.0
    c.requires.range c.window_of-window.ensures c.search_end-end.ensures).0
    c.in-Err.ensures.due

pub returns-in-Err-holds-clause-answer : goal.returns-in-Err-holds-clause-answer
returns-in-Err-holds-clause-answer g c =
    stops_there (meant_of_ready c.args.r.now) c.window_of-window.result c.args.dir c.args.p.0
    c.search_end-end.result.0 c.turns.place.0 c.turns.passed c.args.budget c.in-Some.turn
    c.in-Err-holds.stop
    c.window_of-window.ensures c.search_end-end.ensures c.turns.invariant.visited
    c.in-Some.ensures.turn c.in-Err-holds.ensures.due

pub turns-smaller : goal.turns-smaller
turns-smaller g c =
    steps_left-falls c.args.dir c.turns.place.0 c.in-Some.turn.place.0 c.search_end-end.result.0
    c.in-Some.ensures.turn.0
    c.in-Some.ensures.turn.1.place c.in-Some.ensures.turn.1.within

pub turns-preserved : goal.turns-preserved
turns-preserved g c = record {
  visited =
      visit (meant_of_ready c.args.r.now) c.args.dir c.args.p.0 c.search_end-end.result.0
      c.turns.place.0 c.turns.passed c.with_candidate-passed.result c.in-Some.turn
      c.turns.invariant.visited c.in-Some.ensures.turn c.in-Some.ensures.counts
      (kept c.in-Ok-holds.there c.in-Ok.here (is_member (meant_of_ready c.args.r.now)
      c.in-Some.turn.place.0) (is_member (meant_of_ready c.args.r.now) c.args.p.0)
      c.in-Ok-holds.ensures.value c.in-Ok.ensures.value c.if-there-here.false)
      c.with_candidate-passed.ensures.few;
  room = c.if-budget-passed.false;
  counted =
      omega (
        arith,
        c.turns.invariant.counted,
        c.next_turn.ensures.counted,
        c.holds-in-turns.ensures.counted,
      );
}

pub holds-requires-in-turns-clause-range : goal.holds-requires-in-turns-clause-range
holds-requires-in-turns-clause-range g c =
    turn_in_range (meant_of_ready c.args.r.now) c.args.dir c.args.p.0 c.search_end-end.result.0
    c.turns.place.0 c.turns.passed c.in-Some.turn
    c.turns.invariant.visited c.in-Some.ensures.turn c.requires.range
    (end_is c.window_laws.ensures.lie (frame_of_ready c.args.r.now) c.window_of-window.result
    c.args.dir c.args.p.0 c.search_end-end.result.0
    c.requires.range c.window_of-window.ensures c.search_end-end.ensures).1

pub next_turn-requires-clause-here : goal.next_turn-requires-clause-here
next_turn-requires-clause-here g c =
    let v = c.turns.invariant.visited in
    in_range c.args.dir c.args.p.0 c.search_end-end.result.0 c.turns.place.0 v.0 c.requires.range
    (end_is c.window_laws.ensures.lie (frame_of_ready c.args.r.now) c.window_of-window.result
    c.args.dir c.args.p.0 c.search_end-end.result.0
    c.requires.range c.window_of-window.ensures c.search_end-end.ensures).1 v.1.place_is v.1.within

pub next_turn-requires-clause-there : goal.next_turn-requires-clause-there
next_turn-requires-clause-there g c =
    (end_is c.window_laws.ensures.lie (frame_of_ready c.args.r.now) c.window_of-window.result
    c.args.dir c.args.p.0 c.search_end-end.result.0
    c.requires.range c.window_of-window.ensures c.search_end-end.ensures).1
