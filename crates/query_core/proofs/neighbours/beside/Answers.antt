use Rattle.std.proofs.Common.{subst, sym, ℤ}
use Rattle.moment_core.specs.Line.{IsCalendarPosition}
use Rattle.moment_core.specs.declared.line.Dir.TheVariants.{Back, Fore}
use Rattle.moment_core.proofs.LineLaws.{position_in_range}
use Rattle.stored_pair.specs.Meanings.{Meaning}
use Rattle.expr_tree.specs.Members.{is_member}
use Rattle.expr_tree.specs.Tree.{Tree}
use Rattle.search_core.specs.Due.{IsDue}
use Rattle.plan_core.specs.Plans.{due_of_plan, members_of_plan, window_of, window_of_plan}
use Rattle.run_search.specs.Places.{IsStopAt, PlacesWithin}
use Rattle.query_core.specs.Neighbours.{IsNextPast}
use Rattle.query_core.proofs.Places.{stop_beside}
use Rattle.query_core.proofs.neighbours.beside.Goals as goal

pub past_gap-requires-in-Ok-clause-range : goal.past_gap-requires-in-Ok-clause-range
past_gap-requires-in-Ok-clause-range g c =
    let P : ℤ → Type 0 = λ z. IsCalendarPosition z in
    subst P (sym c.of-p.ensures) (position_in_range c.args.at.0 c.requires.range)

pub returns-in-Ok-past_gap-clause-answer : goal.returns-in-Ok-past_gap-clause-answer
returns-in-Ok-past_gap-clause-answer g c =
    let B : ℤ → Type 0 =
    λ z. IsNextPast (members_of_plan c.args.plan.now) (window_of_plan c.args.plan.now) Back z
    c.in-Ok.before in
    let A : ℤ → Type 0 =
    λ z. IsNextPast (members_of_plan c.args.plan.now) (window_of_plan c.args.plan.now) Fore z
    c.in-Ok-past_gap.after in
    let P : Tree Meaning → Type 0 =
    λ t. IsNextPast (is_member t) (window_of t) Fore c.of-p.result.0 c.in-Ok-past_gap.after in (
      c.in-Ok.before,
      c.in-Ok-past_gap.after,
      subst B c.of-p.ensures c.in-Ok.ensures.answer,
      subst A c.of-p.ensures (subst P c.past_gap.ensures.same c.in-Ok-past_gap.ensures.answer),
      c.closer_of.ensures,
    )

pub returns-in-Err-past_gap-clause-stop : goal.returns-in-Err-past_gap-clause-stop
returns-in-Err-past_gap-clause-stop g c =
    let S : ℤ → Type 0 =
    λ z. IsStopAt (PlacesWithin (members_of_plan c.args.plan.now) Fore 1 z)
    (due_of_plan c.args.plan.now) c.args.budget c.in-Err-past_gap.stop in
    let P : Tree Meaning → Type 0 =
    λ t. IsStopAt (PlacesWithin (is_member t) Fore 1 c.of-p.result.0) (IsDue t) c.args.budget
    c.in-Err-past_gap.stop in
    stop_beside (members_of_plan c.args.plan.now) (due_of_plan c.args.plan.now) Fore c.args.at.0
    c.args.budget c.in-Err-past_gap.stop
    (subst S c.of-p.ensures (subst P c.past_gap.ensures.same c.in-Err-past_gap.ensures.stop))

pub returns-in-Err-clause-stop : goal.returns-in-Err-clause-stop
returns-in-Err-clause-stop g c =
    let S : ℤ → Type 0 =
    λ z. IsStopAt (PlacesWithin (members_of_plan c.args.plan.now) Back 1 z)
    (due_of_plan c.args.plan.now) c.args.budget c.in-Err.stop in
    stop_beside (members_of_plan c.args.plan.now) (due_of_plan c.args.plan.now) Back c.args.at.0
    c.args.budget c.in-Err.stop
    (subst S c.of-p.ensures c.in-Err.ensures.stop)
