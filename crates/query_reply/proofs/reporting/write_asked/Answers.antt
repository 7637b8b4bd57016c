use Rattle.std.proofs.Common.{rules, ◌≡◌}
use Rattle.search_core.specs.Due.{IsDue}
use Rattle.expr_tree.specs.Members.{is_member}
use Rattle.moment_core.specs.Line.{position_of}
use Rattle.moment_core.specs.declared.line.Dir.TheVariants.{Fore, Back}
use Rattle.plan_core.specs.Plans.{meant_of_plan, window_of}
use Rattle.query_core.specs.Answering.{PlacesOfClosest, PlacesOfCurrent, PlacesOfNext}
use Rattle.query_core.specs.Endless.{IsForEver, IsForEverClosest, IsForEverCurrent}
use Rattle.query_core.specs.Neighbours.{IsClosestRun, IsCurrentRun, IsNextRun}
use Rattle.query_reply.specs.Report.{Outcome, tested, told, told_test}
use Rattle.query_reply.proofs.PreparingLemmas.{searched_by, written_as}
use Rattle.query_reply.proofs.reporting.write_asked.Goals as goal

pub returns-in-Next-clause-outcome : goal.returns-in-Next-clause-outcome
returns-in-Next-clause-outcome g c =
    let s = c.args.search.now in
    let t = meant_of_plan s.plan in
    let at = s.at.0 in
    let near = c.next-near.result in
    record {
      outcome = told s.kind s.clock near;
      as_asked =
          rw c.in-Next.is (searched_by (IsNextRun (is_member t) (window_of t) Fore at)
          (IsForEver (is_member t) Fore (position_of at)) (PlacesOfNext (is_member t) Fore at)
          (IsDue t)
          s.kind s.clock s.budget near c.next-near.ensures.answer c.next-near.ensures.for_ever
          c.next-near.ensures.complete);
      written = c.write_near.ensures;
    }

pub returns-in-Previous-clause-outcome : goal.returns-in-Previous-clause-outcome
returns-in-Previous-clause-outcome g c =
    let s = c.args.search.now in
    let t = meant_of_plan s.plan in
    let at = s.at.0 in
    let near = c.previous-near.result in
    record {
      outcome = told s.kind s.clock near;
      as_asked =
          rw c.in-Previous.is (searched_by (IsNextRun (is_member t) (window_of t) Back at)
          (IsForEver (is_member t) Back (position_of at)) (PlacesOfNext (is_member t) Back at)
          (IsDue t)
          s.kind s.clock s.budget near c.previous-near.ensures.answer
          c.previous-near.ensures.for_ever c.previous-near.ensures.complete);
      written = c.write_near-in-Previous.ensures;
    }

pub returns-in-Current-clause-outcome : goal.returns-in-Current-clause-outcome
returns-in-Current-clause-outcome g c =
    let s = c.args.search.now in
    let t = meant_of_plan s.plan in
    let at = s.at.0 in
    let near = c.current-near.result in
    record {
      outcome = told s.kind s.clock near;
      as_asked =
          rw c.in-Current.is (searched_by (IsCurrentRun (is_member t) (window_of t) at)
          (IsForEverCurrent (is_member t) at) (PlacesOfCurrent (is_member t) at) (IsDue t)
          s.kind s.clock s.budget near c.current-near.ensures.answer c.current-near.ensures.for_ever
          c.current-near.ensures.complete);
      written = c.write_near-in-Current.ensures;
    }

pub returns-in-Closest-clause-outcome : goal.returns-in-Closest-clause-outcome
returns-in-Closest-clause-outcome g c =
    let s = c.args.search.now in
    let t = meant_of_plan s.plan in
    let at = s.at.0 in
    let near = c.closest-near.result in
    record {
      outcome = told s.kind s.clock near;
      as_asked =
          rw c.in-Closest.is (searched_by (IsClosestRun (is_member t) (window_of t) at)
          (IsForEverClosest (is_member t) at) (PlacesOfClosest (is_member t) at) (IsDue t)
          s.kind s.clock s.budget near c.closest-near.ensures.answer c.closest-near.ensures.for_ever
          c.closest-near.ensures.complete);
      written = c.write_near-in-Closest.ensures;
    }

pub returns-in-Contains-clause-outcome : goal.returns-in-Contains-clause-outcome
returns-in-Contains-clause-outcome g c =
    let s = c.args.search.now in
    let t = meant_of_plan s.plan in
    let test = c.contains-test.result in
    let o : Outcome = told_test test in
    let line : c.bytes.result.now ≡ o.bytes = search rules in
    record {
      outcome = o;
      as_asked = rw c.in-Contains.is (tested test c.contains-test.ensures.value);
      written = written_as o c.status_of_test.result c.bytes.result.now
          c.status_of_test.ensures.value line c.put.ensures;
    }
