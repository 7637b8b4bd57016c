use Rattle.std.proofs.Common.{inr, refl}
use Rattle.plan_core.specs.Plans.{meant_of_plan, members_of_plan, window_of_plan}
use Rattle.run_search.proofs.Stretching.{cut_by_change, first_at_change, none_if_same, not_if_false, own_in_range, same_if_change_past, same_if_cut, same_if_stays, stop_from, why_edge, why_never}
use Rattle.run_search.proofs.finding.first_past_gap.Goals as goal

pub returns-then-is_up_to-clause-answer : goal.returns-then-is_up_to-clause-answer
returns-then-is_up_to-clause-answer g c = (
  first_at_change (members_of_plan c.args.plan.now) c.args.dir c.args.p.0 c.in-At.q.0 c.args.end.0
      c.requires.gap c.in-At.ensures.answer.0 (c.is_up_to.ensures.0 c.if-is_up_to.true),
  inr (c.in-At.q.0, c.in-At.ensures.answer.0, c.in-At.ensures.answer.1, inr refl),
)

pub returns-else-is_up_to-clause-answer : goal.returns-else-is_up_to-clause-answer
returns-else-is_up_to-clause-answer g c =
    let isnt = not_if_false c.is_up_to.result c.is_up_to.ensures c.if-is_up_to.false in (
      none_if_same (members_of_plan c.args.plan.now) c.args.dir c.args.p.0 c.args.end.0
          c.requires.gap
          (same_if_change_past (members_of_plan c.args.plan.now) c.args.dir c.args.p.0 c.in-At.q.0
          c.args.end.0
          c.in-At.ensures.answer.0 isnt),
      inr (cut_by_change c.args.dir c.in-At.q.0 c.args.end.0 c.in-At.ensures.answer.1 isnt),
    )

pub returns-in-None-clause-answer : goal.returns-in-None-clause-answer
returns-in-None-clause-answer g c = (
  none_if_same (members_of_plan c.args.plan.now) c.args.dir c.args.p.0 c.args.end.0 c.requires.gap
      (same_if_stays (members_of_plan c.args.plan.now) c.args.dir c.args.p.0 c.args.end.0
      c.requires.range
      c.requires.end c.in-None.ensures.answer.0),
  why_never (members_of_plan c.args.plan.now) (window_of_plan c.args.plan.now) c.args.dir
      c.args.p.0 c.args.end.0 c.in-None.window c.why.result c.requires.within
      c.in-None.ensures.answer c.why.ensures,
)

pub returns-in-Edge-clause-answer : goal.returns-in-Edge-clause-answer
returns-in-Edge-clause-answer g c = (
  none_if_same (members_of_plan c.args.plan.now) c.args.dir c.args.p.0 c.args.end.0 c.requires.gap
      (same_if_stays (members_of_plan c.args.plan.now) c.args.dir c.args.p.0 c.args.end.0
      c.requires.range
      c.requires.end c.in-Edge.ensures.answer.0),
  why_edge (members_of_plan c.args.plan.now) (window_of_plan c.args.plan.now) c.args.dir
      c.args.p.0 c.args.end.0 c.why-in-Edge.result c.requires.within c.in-Edge.ensures.answer
      c.why-in-Edge.ensures,
)

pub returns-then-is_cut-clause-answer : goal.returns-then-is_cut-clause-answer
returns-then-is_cut-clause-answer g c = (
  none_if_same (members_of_plan c.args.plan.now) c.args.dir c.args.p.0 c.args.end.0 c.requires.gap
      (same_if_cut c.due_laws.ensures.numbered (meant_of_plan c.args.plan.now) c.args.dir c.args.p.0
      c.args.end.0 c.args.budget c.in-Budget.stop c.in-Budget.ensures.answer
      (c.is_cut.ensures.search c.if-is_cut.true) (c.is_cut.ensures.cut c.if-is_cut.true)),
  inr (c.is_cut.ensures.end c.if-is_cut.true),
)

pub returns-else-is_cut-clause-answer : goal.returns-else-is_cut-clause-answer
returns-else-is_cut-clause-answer g c = (
  λ e. c.requires.gap,
  stop_from c.due_laws.ensures.numbered (meant_of_plan c.args.plan.now) c.args.dir c.args.p.0
      c.args.end.0 c.args.budget c.in-Budget.stop
      c.in-Budget.ensures.answer (c.is_cut.ensures.due c.if-is_cut.false),
)

pub is_cut-requires : goal.is_cut-requires
is_cut-requires g c =
    own_in_range c.due_laws.ensures.numbered (meant_of_plan c.args.plan.now) c.args.dir c.args.p.0
    c.args.budget c.in-Budget.stop
    c.in-Budget.ensures.answer
