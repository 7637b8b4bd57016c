use Rattle.std.proofs.Common.{rules, ℕ, ◌+◌, ◌≡◌, arith, subst, sym, ◌∙◌, ◌-ℤ◌, pos}
use Rattle.std.proofs.lemmas.Int.{ints, to_z-of_z}
use mir.Syntax.{w64}
use mir.Val.{SFits}
use Rattle.expr_tree.specs.Sorts.{nodes_of, reach_of}
use Rattle.lowered_tree.specs.Nodes.{meant_of_node}
use Rattle.node_members.specs.Looking.{IsAskedAt}
use Rattle.node_members.proofs.Joining.{decided, seconded, told_ends, told_not, told_shift, told_starts, told_within, told_without}
use Rattle.node_members.proofs.Rooms.{room_back, room_between, room_left, room_right}
use Rattle.node_members.proofs.asking.+asked.Goals as goal

pub asked-returns-in-Joined-clause-answer : goal.asked-returns-in-Joined-clause-answer
asked-returns-in-Joined-clause-answer g t c =
    rw (c.in-Joined.is, ← c.deref.ensures, ← c.deref-in-Joined.ensures)
    c.asked_joined.ensures.answer

pub asked-returns-in-Pairs-clause-answer : goal.asked-returns-in-Pairs-clause-answer
asked-returns-in-Pairs-clause-answer g t c =
    rw (c.in-Pairs.is, ← c.deref-in-Pairs.ensures, ← c.deref-in-Pairs-2.ensures)
    c.asked_pairs.ensures.answer

pub asked-returns-in-Unary-clause-answer : goal.asked-returns-in-Unary-clause-answer
asked-returns-in-Unary-clause-answer g t c =
    rw (c.in-Unary.is, ← c.deref-in-Unary.ensures) c.asked_unary.ensures.answer

pub asked_joined-returns-then-is_decided-clause-answer
    : goal.asked_joined-returns-then-is_decided-clause-answer
asked_joined-returns-then-is_decided-clause-answer g t c =
    decided (meant_of_node c.args.a.now) (meant_of_node c.args.b.now) c.args.number c.args.budget
    c.args.p.0 c.args.op c.asked-first.result c.asked-first.ensures.answer
    (sym c.is_decided.ensures ∙ c.if-is_decided.true)

pub asked_joined-returns-clause-answer : goal.asked_joined-returns-clause-answer
asked_joined-returns-clause-answer g t c =
    let a = meant_of_node c.args.a.now in
    let b = meant_of_node c.args.b.now in
    let N : ℕ → Type 0 =
    λ n. IsAskedAt b n c.args.budget c.args.p.0 c.asked-second.result in
    let number : c.args.number + c.node_count.result + 1 ≡ c.args.number + 1 + nodes_of a =
    omega (arith, c.node_count.ensures) in
    rw c.with_second.ensures
    (seconded a b c.args.number c.args.budget c.args.p.0 c.args.op c.asked-first.result
    c.asked-second.result c.asked-first.ensures.answer
    (sym c.is_decided.ensures ∙ c.if-is_decided.false)
    (subst N number c.asked-second.ensures.answer))

pub asked_unary-returns-in-Not-clause-answer : goal.asked_unary-returns-in-Not-clause-answer
asked_unary-returns-in-Not-clause-answer g t c =
    rw (c.in-Not.is, c.negated.ensures)
    (told_not (meant_of_node c.args.a.now) c.args.number c.args.budget c.args.p.0 c.asked.result
    c.asked.ensures.answer)

pub asked_unary-returns-in-During-clause-answer : goal.asked_unary-returns-in-During-clause-answer
asked_unary-returns-in-During-clause-answer g t c =
    let fits : SFits w64 c.in-During.seconds = search rules in
    rw c.in-During.is (simp to_z-of_z at c.asked_during.ensures.answer)

pub asked_unary-returns-in-Starts-clause-answer : goal.asked_unary-returns-in-Starts-clause-answer
asked_unary-returns-in-Starts-clause-answer g t c =
    rw c.in-Starts.is
    (told_starts (meant_of_node c.args.a.now) c.args.number c.args.budget c.args.p.0
    c.asked_edge.result (rw (← c.one_before.ensures, ← c.one_after.ensures)
    c.asked_edge.ensures.answer))

pub asked_unary-returns-in-Ends-clause-answer : goal.asked_unary-returns-in-Ends-clause-answer
asked_unary-returns-in-Ends-clause-answer g t c =
    rw c.in-Ends.is
    (told_ends (meant_of_node c.args.a.now) c.args.number c.args.budget c.args.p.0
    c.asked_edge-in-Ends.result
    (rw (← c.one_after-in-Ends.ensures, ← c.one_before-in-Ends.ensures)
    c.asked_edge-in-Ends.ensures.answer))

pub asked_unary-returns-in-Shift-clause-answer : goal.asked_unary-returns-in-Shift-clause-answer
asked_unary-returns-in-Shift-clause-answer g t c =
    let fits : SFits w64 c.in-Shift.seconds = search rules in
    rw c.in-Shift.is
    (told_shift (meant_of_node c.args.a.now) c.args.number c.args.budget c.args.p.0
    c.in-Shift.seconds c.asked-in-Shift.result
    (rw (← (simp to_z-of_z at c.earlier.ensures)) c.asked-in-Shift.ensures.answer))

pub asked_edge-returns-in-Ok-true-clause-answer : goal.asked_edge-returns-in-Ok-true-clause-answer
asked_edge-returns-in-Ok-true-clause-answer g t c =
    rw c.negated.ensures
    (told_without (meant_of_node c.args.a.now) (c.args.number + 1) c.args.budget c.args.p.0
    c.args.without.0 c.args.within.0 c.asked-in-Ok-true.result
    (sym c.is_moment.ensures ∙ c.if-not-is_moment.false)
    (sym c.in-Ok-true.field-0-test ∙ c.in-Ok-true.ensures.answer) c.requires.beside.0
    c.asked-in-Ok-true.ensures.answer)

pub asked_edge-returns-in-Ok-false-clause-answer : goal.asked_edge-returns-in-Ok-false-clause-answer
asked_edge-returns-in-Ok-false-clause-answer g t c =
    told_within (meant_of_node c.args.a.now) (c.args.number + 1) c.args.budget c.args.p.0
    c.args.without.0 c.args.within.0 c.asked-in-Ok-false.result
    (sym c.is_moment.ensures ∙ c.if-not-is_moment.false)
    (sym c.in-Ok-false.field-0-test ∙ c.in-Ok-false.ensures.answer) c.requires.beside.1
    c.asked-in-Ok-false.ensures.answer

pub asked_edge-returns-in-Err-clause-answer : goal.asked_edge-returns-in-Err-clause-answer
asked_edge-returns-in-Err-clause-answer g t c =
    (c.args.p.0, (omega (arith, ints), omega (arith, ints)), c.in-Err.ensures.answer)

pub asked_during-returns-in_default-clause-answer
    : goal.asked_during-returns-in_default-clause-answer
asked_during-returns-in_default-clause-answer g t c =
    let fits = c.ranges.seconds in
    sym (simp to_z-of_z at c.in_default.ensures.none)

pub asked_during-back-init : goal.asked_during-back-init
asked_during-back-init g t c =
    record { looked = c.in-Some.ensures.some; counted = omega arith }

pub asked_during-asked-here-requires : goal.asked_during-asked-here-requires
asked_during-asked-here-requires g t c = λ κs alive.
    let a = meant_of_node c.args.a.now in
    let l = c.back.invariant.looked.0 in
    let at : c.back.look.place.0 ≡ c.args.p.0 -ℤ pos l.0 = l.1.place in
    let above = c.back.invariant.looked.1 in (
      omega (arith, c.decreases),
      (
        alive,
        (
          c.requires.sound.0,
          (
            room_back (reach_of a) c.args.seconds c.args.p.0
                c.back.look.place.0 c.requires.room (omega (arith, ints)) (omega (arith, ints)),
            c.requires.small,
          ),
        ),
      ),
    )

pub asked_during-returns-in-Told-clause-answer : goal.asked_during-returns-in-Told-clause-answer
asked_during-returns-in-Told-clause-answer g t c =
    let fits = c.ranges.seconds in
    simp to_z-of_z at c.in-Told.ensures.looked

pub asked_during-back-preserved : goal.asked_during-back-preserved
asked_during-back-preserved g t c =
    record {
      looked = c.in-Next.ensures.looked.0;
      counted =
          omega (
            arith,
            c.back.invariant.counted,
            c.asked-here.ensures.counted,
            c.during_look.ensures.counted,
          );
    }

pub asked_during-back-smaller : goal.asked_during-back-smaller
asked_during-back-smaller g t c =
    let fits = c.ranges.seconds in
    let next = simp to_z-of_z at c.in-Next.ensures.looked in
    let within = next.0.1 in
    let before = next.1 in
    omega (arith, ints)

pub asked_pairs-returns-in_default-clause-answer
    : goal.asked_pairs-returns-in_default-clause-answer
asked_pairs-returns-in_default-clause-answer g t c = sym c.in_default.ensures.none

pub asked_pairs-back-init : goal.asked_pairs-back-init
asked_pairs-back-init g t c = record {
  looked = c.in-Some.ensures.some;
  counted = omega arith;
}

pub asked_pairs-asked-opened-requires : goal.asked_pairs-asked-opened-requires
asked_pairs-asked-opened-requires g t c = λ κs alive.
    let a = meant_of_node c.args.opens.now in
    let b = meant_of_node c.args.closes.now in
    let l = c.back.invariant.looked.0 in
    let at : c.back.look.place.0 ≡ c.args.p.0 -ℤ pos l.0 = l.1.place in (
      omega (arith, c.decreases),
      (
        alive,
        (
          c.requires.sound.0.0,
          (
            room_between (reach_of a) c.args.p.0 c.back.look.place.0
                (room_left (reach_of a) (reach_of b) c.args.p.0 c.requires.room)
                c.back.invariant.looked.1 (omega (arith, ints)),
            omega (arith, c.requires.small),
          ),
        ),
      ),
    )

pub asked_pairs-pairs_open-requires-clause-here : goal.asked_pairs-pairs_open-requires-clause-here
asked_pairs-pairs_open-requires-clause-here g t c = c.asked-opened.ensures.answer

pub asked_pairs-asked-closed-requires : goal.asked_pairs-asked-closed-requires
asked_pairs-asked-closed-requires g t c = λ κs alive.
    let a = meant_of_node c.args.opens.now in
    let b = meant_of_node c.args.closes.now in
    let l = c.back.invariant.looked.0 in
    let at : c.back.look.place.0 ≡ c.args.p.0 -ℤ pos l.0 = l.1.place in (
      omega (arith, c.decreases),
      (
        alive,
        (
          c.requires.sound.0.1,
          (
            room_between (reach_of b) c.args.p.0 c.back.look.place.0
                (room_right (reach_of a) (reach_of b) c.args.p.0 c.requires.room)
                c.back.invariant.looked.1 (omega (arith, ints)),
            omega (arith, c.requires.small, c.node_count.ensures),
          ),
        ),
      ),
    )

pub asked_pairs-returns-in-Told-clause-answer : goal.asked_pairs-returns-in-Told-clause-answer
asked_pairs-returns-in-Told-clause-answer g t c = c.in-Told.ensures.looked

pub asked_pairs-back-preserved : goal.asked_pairs-back-preserved
asked_pairs-back-preserved g t c = record {
  looked = c.in-Next.ensures.looked.0;
  counted =
      omega (
        arith,
        c.back.invariant.counted,
        c.asked-opened.ensures.counted,
        c.asked-closed.ensures.counted,
        c.pairs_look.ensures.counted,
      );
}

pub asked_pairs-back-smaller : goal.asked_pairs-back-smaller
asked_pairs-back-smaller g t c =
    let within = c.in-Next.ensures.looked.0.1 in
    let before = c.in-Next.ensures.looked.1 in
    omega (arith, ints)
