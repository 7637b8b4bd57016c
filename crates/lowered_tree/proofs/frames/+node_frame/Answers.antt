use Rattle.std.proofs.Common.{◌≡◌, ◌∙◌, ap, arith, ◌^◌, ◌≤◌, ◌≤ℤ◌, pos}
use Rattle.std.proofs.lemmas.Int.{ints}
use Rattle.moment_core.specs.declared.line.TheConstants.{REACH}
use Rattle.expr_tree.specs.Sorts.{nodes_of, reach_of}
use Rattle.expr_tree.specs.Tree.{Pairs, Unary}
use Rattle.search_core.specs.Lawful.{AreLawful}
use Rattle.search_core.specs.TreeFrames.{frame_of_tree, join_framed}
use Rattle.lowered_tree.specs.Nodes.{meant_of_node}
use Rattle.lowered_tree.proofs.Nearness.{ends_below, joined_below}
use Rattle.lowered_tree.proofs.frames.+node_frame.Goals as goal

pub moved-requires-clause-ends : goal.moved-requires-clause-ends
moved-requires-clause-ends t c =
    let a = meant_of_node c.deref-in-Unary.result.now in
    let law : AreLawful (Unary c.in-Unary.op a) =
    rw (c.deref-in-Unary.ensures) (rw (c.in-Unary.is) at c.requires.lawful) in
    let few : nodes_of (Unary c.in-Unary.op a) ≤ 2 ^ 12 =
    rw (c.deref-in-Unary.ensures) (rw (c.in-Unary.is) at c.requires.small) in
    let near : pos (reach_of (Unary c.in-Unary.op a)) ≤ℤ REACH =
    rw (c.deref-in-Unary.ensures) (rw (c.in-Unary.is) at c.requires.reach) in
    ends_below c.tree_frame_laws.ensures.period c.tree_frame_laws.ensures.moves a
    c.node_frame-in-Unary.result law c.node_frame-in-Unary.ensures.modest
    (omega (arith, few)) (omega (arith, ints, near)) c.node_frame-in-Unary.ensures.value

pub moved-requires-clause-lo : goal.moved-requires-clause-lo
moved-requires-clause-lo t c =
    let a = meant_of_node c.deref-in-Unary.result.now in
    let near : pos (reach_of (Unary c.in-Unary.op a)) ≤ℤ REACH =
    rw (c.deref-in-Unary.ensures) (rw (c.in-Unary.is) at c.requires.reach) in
    let far = c.tree_frame_laws.ensures.moves c.in-Unary.op in
    let move = c.lo_moves.ensures in
    omega (arith, ints, near, far.0, move)

pub moved-requires-clause-hi : goal.moved-requires-clause-hi
moved-requires-clause-hi t c =
    let a = meant_of_node c.deref-in-Unary.result.now in
    let near : pos (reach_of (Unary c.in-Unary.op a)) ≤ℤ REACH =
    rw (c.deref-in-Unary.ensures) (rw (c.in-Unary.is) at c.requires.reach) in
    let far = c.tree_frame_laws.ensures.moves c.in-Unary.op in
    let move = c.hi_moves.ensures in
    omega (arith, ints, near, far.1, move)

pub opened-requires-clause-ends : goal.opened-requires-clause-ends
opened-requires-clause-ends t c =
    let a = meant_of_node c.deref-in-Pairs.result.now in
    let b = meant_of_node c.deref-in-Pairs-2.result.now in
    let law : AreLawful (Pairs a b) =
    rw (c.deref-in-Pairs.ensures, c.deref-in-Pairs-2.ensures) (rw (c.in-Pairs.is) at
    c.requires.lawful) in
    let few : nodes_of (Pairs a b) ≤ 2 ^ 12 =
    rw (c.deref-in-Pairs.ensures, c.deref-in-Pairs-2.ensures) (rw (c.in-Pairs.is) at
    c.requires.small) in
    let near : pos (reach_of (Pairs a b)) ≤ℤ REACH =
    rw (c.deref-in-Pairs.ensures, c.deref-in-Pairs-2.ensures) (rw (c.in-Pairs.is) at
    c.requires.reach) in
    let value : c.join_framed-in-Pairs.result ≡ join_framed (frame_of_tree a) (frame_of_tree b) =
    c.join_framed-in-Pairs.ensures ∙ ap (λ o. join_framed o c.node_frame-in-Pairs-2.result)
    c.node_frame-in-Pairs.ensures.value
    ∙ ap (join_framed (frame_of_tree a)) c.node_frame-in-Pairs-2.ensures.value in
    rw value (joined_below c.tree_frame_laws.ensures.period c.tree_frame_laws.ensures.moves a b
    law.0 law.1
    c.node_frame-in-Pairs.ensures.modest c.node_frame-in-Pairs-2.ensures.modest few near)

pub returns-in-Joined-clause-value : goal.returns-in-Joined-clause-value
returns-in-Joined-clause-value t c =
    let a = meant_of_node c.deref.result.now in
    rw (c.in-Joined.is, ← c.deref.ensures, ← c.deref-in-Joined.ensures)
    (c.join_framed.ensures
    ∙ ap (λ o. join_framed o c.node_frame-in-Joined.result) c.node_frame.ensures.value
    ∙ ap (join_framed (frame_of_tree a)) c.node_frame-in-Joined.ensures.value)
