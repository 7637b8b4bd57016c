use Rattle.std.proofs.Common.{◌≡◌, ◌∙◌, sym, subst, ℤ, IfErr, IfOk}
use Rattle.moment_core.specs.Sets.{IsUpTo, ahead}
use Rattle.stored_pair.specs.Meanings.{Meaning}
use Rattle.expr_tree.specs.Members.{is_member}
use Rattle.expr_tree.specs.Tree.{Tree}
use Rattle.search_core.specs.Due.{IsDue}
use Rattle.plan_core.specs.Plans.{meant_of_plan, members_of_plan}
use Rattle.run_search.specs.Places.{IsStopFrom}
use Rattle.run_search.specs.Runs.{IsFirstRun}
use Rattle.walk_core.proofs.Order.{one_on}
use Rattle.walk_core.proofs.Stepping.{apart_if_not, ends_here, gap_before, goes_on_past, open_stop_of_node, open_stop_past, same_if_equal}
use Rattle.walk_core.proofs.steps.last_past.Goals as goal
use Rattle.std.proofs.lemmas.Result.{IfErr-weaker, IfOk-weaker}

pub returns-then-eq-clause-stop : goal.returns-then-eq-clause-stop
returns-then-eq-clause-stop g c =
    let P : Tree Meaning → Type 0 =
    λ t. IfErr c.last_of_run.result (λ s. IsStopFrom (is_member t) (IsDue t) c.args.t.dir
    c.in-At.first.0 c.args.t.end.0 c.args.budget s) in
    let Q : ℤ → Type 0 = λ z. IsUpTo c.args.t.dir c.args.t.end.0 z in
    let same : c.in-At.first.0 ≡ c.args.next.0 = same_if_equal c.eq.result c.in-At.first.0
    c.args.next.0 c.eq.ensures c.if-eq.true in
    IfErr-weaker c.last_of_run.result _ _
    (λ s h. open_stop_past (meant_of_plan c.args.plan.now) c.args.t c.in-At.first.0 c.args.budget s
    (same ∙ c.requires.next)
    c.in-At.ensures.answer.0.member c.in-At.ensures.answer.1 (subst Q (sym same) c.requires.within)
    h)
    (subst P c.first_past_gap.ensures.same c.last_of_run.ensures.stop)

pub returns-then-eq-clause-last : goal.returns-then-eq-clause-last
returns-then-eq-clause-last g c =
    let P : Tree Meaning → Type 0 =
    λ t. IfOk c.last_of_run.result (λ far. IsFirstRun (is_member t) c.args.t.dir c.in-At.first.0
    c.args.t.end.0 c.in-At.first.0 far.0) in
    let same : c.in-At.first.0 ≡ c.args.next.0 = same_if_equal c.eq.result c.in-At.first.0
    c.args.next.0 c.eq.ensures c.if-eq.true in
    IfOk-weaker c.last_of_run.result _ _
    (λ far r. goes_on_past (members_of_plan c.args.plan.now) c.args.t.dir c.args.t.place.0
    c.in-At.first.0 c.args.t.end.0 far.0 (same ∙ c.requires.next) r)
    (subst P c.first_past_gap.ensures.same c.last_of_run.ensures.last)

pub returns-else-eq-clause-last : goal.returns-else-eq-clause-last
returns-else-eq-clause-last g c =
    let set = members_of_plan c.args.plan.now in
    ends_here set c.args.t.dir c.args.t.place.0 c.args.t.end.0 c.requires.place_within
    (gap_before set c.args.t.dir c.args.t.place.0 c.args.t.end.0 c.in-At.first.0 c.requires.gap
    c.in-At.ensures.answer.0
    (λ e. apart_if_not c.eq.result c.in-At.first.0 c.args.next.0 c.eq.ensures c.if-eq.false
    (e ∙ sym c.requires.next)))

pub returns-in-Done-clause-last : goal.returns-in-Done-clause-last
returns-in-Done-clause-last g c =
    let next : ℤ = ahead c.args.t.dir c.args.t.place.0 1 in
    let Q : ℤ → Type 0 = λ z. IsUpTo c.args.t.dir c.args.t.end.0 z in
    ends_here (members_of_plan c.args.plan.now) c.args.t.dir c.args.t.place.0 c.args.t.end.0
    c.requires.place_within
    (c.in-Done.ensures.answer.0 next (one_on c.args.t.dir c.args.t.place.0)
    (subst Q c.requires.next c.requires.within))

pub returns-then-stop-eq0-clause-last : goal.returns-then-stop-eq0-clause-last
returns-then-stop-eq0-clause-last g c =
    let next : ℤ = ahead c.args.t.dir c.args.t.place.0 1 in
    let own = c.in-Stopped.ensures.answer.1.1 c.if-stop-eq0.true in
    ends_here (members_of_plan c.args.plan.now) c.args.t.dir c.args.t.place.0 c.args.t.end.0
    c.requires.place_within
    (own.2 next (one_on c.args.t.dir c.args.t.place.0) own.0 ∙ c.requires.gap)

pub returns-else-stop-eq0-clause-stop : goal.returns-else-stop-eq0-clause-stop
returns-else-stop-eq0-clause-stop g c =
    open_stop_of_node (meant_of_plan c.args.plan.now) c.args.t c.args.budget c.in-Stopped.stop
    c.requires.place_within
    c.in-Stopped.ensures.answer.1.0.0 c.if-stop-eq0.false
