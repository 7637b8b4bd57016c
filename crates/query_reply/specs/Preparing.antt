-- What is put together before anything is written.
use Rattle.std.specs.Prelude.{◌≡◌, ℕ, List, Result, Ok, Err, option_map}
use Rattle.lowered_tree.specs.Settling.{AreSettled, IsFirstUnsettled}
use Rattle.lowered_tree.specs.declared.faults.PlanFault.{PlanFault}
use Rattle.lowered_tree.specs.declared.faults.PlanFault.TheVariants as plans
use Rattle.expr_text.specs.Sorted.{trees_of_sorted}
use Rattle.expr_text.specs.declared.sorted.SortedProgram.{SortedProgram}
use Rattle.expr_text.specs.declared.sorted.SortedSet.{SortedSet}
use Rattle.expr_tree.specs.Tree.{Rule, Tree, meant_of}
use Rattle.expr_tree.specs.declared.sorting.Sort.{Sort}
use Rattle.ical_rules.specs.declared.outcome.Unsettled.{Unsettled}
use Rattle.moment_core.specs.declared.line.Clock.{Clock}
use Rattle.plan_core.specs.Plans.{meant_of_plan}
use Rattle.query_words.specs.declared.queries.Query.{Query}
use Rattle.span_core.specs.declared.answers.Token.{Token}
use Rattle.stored_pair.specs.Meanings.{Entries}
use Rattle.report_text.specs.Refusals.{IsPrintable}
use Rattle.report_text.specs.declared.refusals.Refusal.{Refusal}
use Rattle.report_text.specs.declared.refusals.Refusal.TheVariants as refusals
use Rattle.query_reply.specs.declared.preparing.Report.{Report}
use Rattle.query_reply.specs.declared.preparing.Report.TheVariants as reports
use Rattle.query_reply.specs.declared.searching.Search.{Search}
use Rattle.query_reply.specs.declared.walking.Walking.{Walking}
use Rattle.query_reply.specs.declared.preparing.Unready.{Unready}
use Rattle.query_reply.specs.declared.preparing.Unready.TheVariants as unready
use Rattle.query_reply.specs.Reading.{Fits, IsMeant, Reading, OnClock, Settles, Sorts}
use Rattle.query_reply.specs.Report.{IsReply, IsAskedBy, IsReportOf, IsWalkOf, Outcome, refused_by}

abbrev pub sort_of_set : SortedSet → Sort
sort_of_set s = s.sort

abbrev pub sorts_of : SortedProgram → Sorts
sorts_of p = record { first = p.first.sort; second = option_map sort_of_set p.second }

-- what a text is read as, by the program
abbrev pub reading_of : SortedProgram → Reading
reading_of p = record { trees = trees_of_sorted p; sorts = sorts_of p }

-- a refusal that can be printed, or want of memory
abbrev pub IsUnready : (Refusal → Type 0) → Unready → Type 0
IsUnready Is (unready.Refused refusal) = IsPrintable refusal × Is refusal
IsUnready Is unready.Memory = Unit {0}

-- why there is no report where there is no plan
abbrev pub unready_of : PlanFault → Unready
unready_of (plans.Settle passed at) = unready.Refused (refusals.Settle passed at)
unready_of plans.Memory = unready.Memory

abbrev pub GivesMeant : List ℕ → Result SortedProgram Unready → Type 0
GivesMeant text (Ok p) = IsMeant text (Ok (reading_of p))
GivesMeant text (Err e) = IsUnready (λ refusal. IsMeant text (Err refusal)) e

-- the clock of a reading, or its refusal
abbrev pub clocked : Reading → Result Clock Refusal → Result OnClock Refusal
clocked reading (Ok clock) = Ok (record { reading = reading; clock = clock })
clocked reading (Err refusal) = Err refusal

abbrev pub GivesClock : Query → Reading → Result Clock Refusal → Type 0
GivesClock query reading r = Fits query reading (clocked reading r)

-- the outcomes that a search may have
abbrev pub Finds : Search → Outcome → Type 0
Finds s = IsAskedBy (meant_of_plan s.plan) s.side s.kind s.clock s.at.0 s.budget

-- the outcomes that a walk may have
abbrev pub Walks : Walking → Outcome → Type 0
Walks w = IsWalkOf (meant_of_plan w.plan) w.kind w.clock w.from w.limit w.budget

-- the outcomes that a report may have
abbrev pub Reports : Report → Outcome → Type 0
Reports (reports.Printed v) o = o ≡ record { status = 0; bytes = v.items }
Reports (reports.Near search) o = Finds search o
Reports (reports.Walk walking) o = Walks walking o

-- the refusal of the first count of a tree that isn't settled
abbrev pub IsUnsettledIn : Tree Rule → Refusal → Type 0
IsUnsettledIn t refusal =
    (u : Unsettled) × IsFirstUnsettled t u × (refusal ≡ refusals.Settle u.passed u.at)

abbrev pub on : Reading → Clock → OnClock
on reading clock = record { reading = reading; clock = clock }

-- a report of the command over a reading whose counts are settled, or the refusal of the first one
-- that isn't
abbrev pub GivesReport : Entries → Query → Reading → Clock → Result Report Unready → Type 0
GivesReport entries query reading clock (Ok report) =
    Settles query (on reading clock) (Ok (on reading clock))
    × ((o : Outcome) → Reports report o → IsReportOf entries query reading clock o)
GivesReport entries query reading clock (Err e) =
    IsUnready (λ refusal. Settles query (on reading clock) (Err refusal)) e

-- a walk over the first tree of a reading whose counts are settled, or the refusal of the first one
-- that isn't
abbrev pub GivesWalk : Entries → Reading → Clock → Token → ℕ → ℕ → Result Report Unready → Type 0
GivesWalk entries reading clock t limit budget (Ok report) =
    AreSettled reading.trees.first
    × ((o : Outcome) → Reports report o
    → IsWalkOf (meant_of entries reading.trees.first) reading.sorts.first.kind clock t limit
    budget o)
GivesWalk entries reading clock t limit budget (Err e) =
    IsUnready (IsUnsettledIn reading.trees.first) e

-- a report that answers the query, or its refusal
abbrev pub Prepares : Entries → Query → List ℕ → Result Report Unready → Type 0
Prepares entries query text (Ok report) =
    (o : Outcome) → Reports report o → IsReply entries query text o
Prepares entries query text (Err e) =
    IsUnready (λ refusal. IsReply entries query text (refused_by refusal)) e
