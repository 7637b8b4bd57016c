use Rattle.std.proofs.Common.{inl, sym, ◌∙◌, ◌≡◌, ◌+◌}
use Rattle.expr_tree.specs.Members.{is_member}
use Rattle.search_core.specs.Due.{IsDueAt}
use Rattle.lowered_tree.specs.Nodes.{meant_of_node}
use Rattle.node_members.specs.Looking.{candidate_of_either}
use Rattle.node_members.proofs.Looking.{pairs_in, pairs_inner}
use Rattle.node_members.proofs.looks.pairs_open.Goals as goal

pub returns-in-Ok-true-clause-told : goal.returns-in-Ok-true-clause-told
returns-in-Ok-true-clause-told c =
    let a = meant_of_node c.args.opens.now in
    let b = meant_of_node c.args.closes.now in
    let here : c.in-Ok-true.field-0 ≡ is_member a c.args.look.place.0 =
    rw c.in-Ok-true.is at c.requires.here in
    sym (pairs_in c.member_laws.ensures.pairs c.due_laws.ensures.pairs
    c.candidate_laws.ensures.places (is_member a) (is_member b) (candidate_of_either a b)
    c.args.p.0 c.args.look c.requires.sound.1.0 c.requires.look.0 c.requires.look.1 (sym here ∙ c.in-Ok-true.field-0-test))

pub returns-in-Ok-false-clause-none : goal.returns-in-Ok-false-clause-none
returns-in-Ok-false-clause-none c =
    let here : c.in-Ok-false.field-0 ≡ is_member (meant_of_node c.args.opens.now) c.args.look.place.0 =
    rw c.in-Ok-false.is at c.requires.here in
    sym here ∙ c.in-Ok-false.field-0-test

pub returns-in-Err-clause-told : goal.returns-in-Err-clause-told
returns-in-Err-clause-told c =
    let a = meant_of_node c.args.opens.now in
    let b = meant_of_node c.args.closes.now in
    let due : IsDueAt a (c.args.number + 1) c.args.budget c.in-Err.stop c.args.look.place.0 =
    rw c.in-Err.is at c.requires.here in
    pairs_inner c.member_laws.ensures.pairs c.due_laws.ensures.pairs
    c.candidate_laws.ensures.places a b c.args.p.0 c.args.look c.args.number c.args.budget
    c.in-Err.stop c.requires.look.0 c.requires.look.1 (inl due)
