use Rattle.std.proofs.Common.{inr, sym, ◌∙◌, ◌≡◌, ◌+◌}
use Rattle.std.proofs.lemmas.Bool.{or_from}
use Rattle.expr_tree.specs.Members.{is_member}
use Rattle.expr_tree.specs.Sorts.{nodes_of}
use Rattle.search_core.specs.Due.{IsDueAt}
use Rattle.lowered_tree.specs.Nodes.{meant_of_node}
use Rattle.node_members.specs.Looking.{candidate_of_either}
use Rattle.node_members.proofs.Looking.{pairs_closed, pairs_inner}
use Rattle.node_members.proofs.looks.pairs_look.Goals as goal

pub returns-in-Ok-true-clause-looked : goal.returns-in-Ok-true-clause-looked
returns-in-Ok-true-clause-looked g c =
    let a = meant_of_node c.args.opens.now in
    let b = meant_of_node c.args.closes.now in
    let here : c.in-Ok-true.field-0 ≡ is_member b c.args.look.place.0 =
    rw c.in-Ok-true.is at c.requires.here in
    sym (pairs_closed c.member_laws.ensures.pairs c.due_laws.ensures.pairs
    c.candidate_laws.ensures.places (is_member a) (is_member b) (candidate_of_either a b)
    c.args.p.0 c.args.look c.requires.sound.1.1 c.requires.look.0 c.requires.opened (sym here ∙ c.in-Ok-true.field-0-test))

pub pairs_next-requires-clause-none : goal.pairs_next-requires-clause-none
pairs_next-requires-clause-none g c =
    let place = c.args.look.place.0 in
    let here : c.in-Ok-false.field-0 ≡ is_member (meant_of_node c.args.closes.now) place =
    rw c.in-Ok-false.is at c.requires.here in
    or_from (is_member (meant_of_node c.args.opens.now) place)
    (is_member (meant_of_node c.args.closes.now) place) c.requires.opened
    (sym here ∙ c.in-Ok-false.field-0-test)

pub returns-in-Ok-false-clause-looked : goal.returns-in-Ok-false-clause-looked
returns-in-Ok-false-clause-looked g c = c.pairs_next.ensures.looked

pub returns-in-Err-clause-looked : goal.returns-in-Err-clause-looked
returns-in-Err-clause-looked g c =
    let a = meant_of_node c.args.opens.now in
    let b = meant_of_node c.args.closes.now in
    let due : IsDueAt b (c.args.number + 1 + nodes_of a) c.args.budget c.in-Err.stop
    c.args.look.place.0 = rw c.in-Err.is at c.requires.here in
    pairs_inner c.member_laws.ensures.pairs c.due_laws.ensures.pairs
    c.candidate_laws.ensures.places a b c.args.p.0 c.args.look c.args.number c.args.budget
    c.in-Err.stop c.requires.look.0 c.requires.look.1 (inr due)
