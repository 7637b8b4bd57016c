use Rattle.std.proofs.Common.{arith, refl, sym, ◌∙◌, ◌≡◌, ◌+◌, pos, ◌-ℤ◌}
use Rattle.std.proofs.lemmas.Int.{ints, to_z-of_z}
use Rattle.expr_tree.specs.Members.{is_member}
use Rattle.search_core.specs.Due.{IsDueAt}
use Rattle.lowered_tree.specs.Nodes.{meant_of_node}
use Rattle.node_members.proofs.Looking.{during_in, during_inner}
use Rattle.node_members.proofs.looks.during_look.Goals as goal

pub returns-in-Ok-true-clause-looked : goal.returns-in-Ok-true-clause-looked
returns-in-Ok-true-clause-looked g c =
    let a = meant_of_node c.args.a.now in
    let l = c.requires.look.0 in
    let at : c.args.look.place.0 ≡ c.args.p.0 -ℤ pos l.0 = l.1.place in
    let low = c.requires.look.1 in
    let here : c.in-Ok-true.field-0 ≡ is_member a c.args.look.place.0 =
    rw c.in-Ok-true.is at c.requires.here in
    sym (during_in c.member_laws.ensures.during c.due_laws.ensures.during
    c.candidate_laws.ensures.places (is_member a) c.args.seconds
    c.args.p.0 c.args.look.place.0 (c.requires.sound.1 refl)
    (omega (arith, ints)) (omega (arith, ints)) (sym here ∙ c.in-Ok-true.field-0-test))

pub during_next-requires-clause-none : goal.during_next-requires-clause-none
during_next-requires-clause-none g c =
    let here : c.in-Ok-false.field-0 ≡ is_member (meant_of_node c.args.a.now) c.args.look.place.0 =
    rw c.in-Ok-false.is at c.requires.here in
    sym here ∙ c.in-Ok-false.field-0-test

pub returns-in-Ok-false-clause-looked : goal.returns-in-Ok-false-clause-looked
returns-in-Ok-false-clause-looked g c =
    let fits = c.ranges.seconds in
    simp to_z-of_z at c.during_next.ensures.looked

pub returns-in-Err-clause-looked : goal.returns-in-Err-clause-looked
returns-in-Err-clause-looked g c =
    let a = meant_of_node c.args.a.now in
    let low = c.requires.look.1 in
    let due : IsDueAt a (c.args.number + 1) c.args.budget c.in-Err.stop c.args.look.place.0 =
    rw c.in-Err.is at c.requires.here in
    during_inner c.member_laws.ensures.during c.due_laws.ensures.during
    c.candidate_laws.ensures.places a c.args.seconds c.args.p.0 c.args.look c.args.number
    c.args.budget c.in-Err.stop c.requires.look.0 (omega (arith, ints)) due
