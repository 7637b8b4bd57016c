use Rattle.std.proofs.Common.{rules, ◌≡◌, ◌+◌}
use Rattle.node_turns.specs.Turns.{passed_by}
use Rattle.node_turns.proofs.Passing.{passed_on}
use Rattle.node_turns.proofs.turns.with_candidate.Goals as goal

pub returns-then-is_past-clause-few : goal.returns-then-is_past-clause-few
returns-then-is_past-clause-few c candidate n far =
    let a = c.args in
    let is : a.passed + 1 ≡ passed_by a.passed a.dir a.p.0 a.place.0 a.turn = search rules in
    passed_on c.counting_laws.ensures.one c.counting_laws.ensures.parts
    c.counting_laws.ensures.wider candidate a.dir a.p.0 a.place.0 a.passed (a.passed + 1) n far
    a.turn is

pub returns-else-turn-clause-few : goal.returns-else-turn-clause-few
returns-else-turn-clause-few c candidate n far =
    let a = c.args in
    let is : a.passed ≡ passed_by a.passed a.dir a.p.0 a.place.0 a.turn = search rules in
    passed_on c.counting_laws.ensures.one c.counting_laws.ensures.parts
    c.counting_laws.ensures.wider candidate a.dir a.p.0 a.place.0 a.passed a.passed n far
    a.turn is
