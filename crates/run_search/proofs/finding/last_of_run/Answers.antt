use Rattle.plan_core.specs.Plans.{meant_of_plan, members_of_plan}
use Rattle.run_search.proofs.Stretching.{ends_at_change, ends_with_end, not_if_false, own_in_range, same_if_change_past, same_if_cut, same_if_stays, stop_from}
use Rattle.run_search.proofs.finding.last_of_run.Goals as goal

pub returns-then-is_up_to-clause-last : goal.returns-then-is_up_to-clause-last
returns-then-is_up_to-clause-last g c =
    ends_at_change (members_of_plan c.args.plan.now) c.args.dir c.args.p.0 c.in-At.q.0 c.args.end.0
    c.one_back.result.0
    c.requires.member c.in-At.ensures.answer.0 (c.is_up_to.ensures.0 c.if-is_up_to.true)
    c.one_back.ensures

pub returns-else-is_up_to-clause-last : goal.returns-else-is_up_to-clause-last
returns-else-is_up_to-clause-last g c =
    ends_with_end (members_of_plan c.args.plan.now) c.args.dir c.args.p.0 c.args.end.0
    c.requires.member c.requires.within
    (same_if_change_past (members_of_plan c.args.plan.now) c.args.dir c.args.p.0 c.in-At.q.0
    c.args.end.0
    c.in-At.ensures.answer.0 (not_if_false c.is_up_to.result c.is_up_to.ensures
    c.if-is_up_to.false))

pub returns-in-None-clause-last : goal.returns-in-None-clause-last
returns-in-None-clause-last g c =
    ends_with_end (members_of_plan c.args.plan.now) c.args.dir c.args.p.0 c.args.end.0
    c.requires.member c.requires.within
    (same_if_stays (members_of_plan c.args.plan.now) c.args.dir c.args.p.0 c.args.end.0
    c.requires.range c.requires.end
    c.in-None.ensures.answer.0)

pub returns-in-Edge-clause-last : goal.returns-in-Edge-clause-last
returns-in-Edge-clause-last g c =
    ends_with_end (members_of_plan c.args.plan.now) c.args.dir c.args.p.0 c.args.end.0
    c.requires.member c.requires.within
    (same_if_stays (members_of_plan c.args.plan.now) c.args.dir c.args.p.0 c.args.end.0
    c.requires.range c.requires.end
    c.in-Edge.ensures.answer.0)

pub returns-then-is_cut-clause-last : goal.returns-then-is_cut-clause-last
returns-then-is_cut-clause-last g c =
    ends_with_end (members_of_plan c.args.plan.now) c.args.dir c.args.p.0 c.args.end.0
    c.requires.member c.requires.within
    (same_if_cut c.due_laws.ensures.numbered (meant_of_plan c.args.plan.now) c.args.dir c.args.p.0
    c.args.end.0
    c.args.budget c.in-Budget.stop c.in-Budget.ensures.answer (c.is_cut.ensures.search
    c.if-is_cut.true) (c.is_cut.ensures.cut c.if-is_cut.true))

pub returns-else-is_cut-clause-stop : goal.returns-else-is_cut-clause-stop
returns-else-is_cut-clause-stop g c =
    stop_from c.due_laws.ensures.numbered (meant_of_plan c.args.plan.now) c.args.dir c.args.p.0
    c.args.end.0 c.args.budget c.in-Budget.stop
    c.in-Budget.ensures.answer (c.is_cut.ensures.due c.if-is_cut.false)

pub is_cut-requires : goal.is_cut-requires
is_cut-requires g c =
    own_in_range c.due_laws.ensures.numbered (meant_of_plan c.args.plan.now) c.args.dir c.args.p.0
    c.args.budget c.in-Budget.stop
    c.in-Budget.ensures.answer
