-- From what is prepared to the outcome.
use Rattle.std.proofs.Common.{◌≡◌, ℕ, ℤ, List, subst, Option, Some, None, option_map, Result, Ok, Err, refl, sym, ap, ◌∙◌, IfSome, true, false, inl, is_ok}
use Rattle.cert_audit.specs.Lowered.{CanBeReady}
use Rattle.lowered_tree.specs.Settling.{AreSettled, IsFaultOf, IsFirstUnsettled}
use Rattle.lowered_tree.specs.declared.faults.PlanFault.{PlanFault}
use Rattle.lowered_tree.specs.declared.faults.PlanFault.TheVariants as plans
use Rattle.ical_rules.specs.declared.outcome.Unsettled.{Unsettled}
use Rattle.moment_core.specs.Line.{IsWorkingMoment}
use Rattle.expr_text.specs.Accepted.{IsRead}
use Rattle.expr_text.specs.Fault.{Fault}
use Rattle.phases.specs.Phases.{By, fails, goes_on}
use Rattle.expr_print.specs.Printing.{print_program}
use Rattle.report_text.specs.Lines.{with_line_feed}
use Rattle.moment_core.specs.declared.line.Dir.{Dir}
use Rattle.expr_text.specs.Sorted.{HasSort, HaveSorts, HasSecondSort, tree_of_set, trees_of_sorted}
use Rattle.expr_text.specs.declared.sorted.SortedProgram.{SortedProgram}
use Rattle.expr_text.specs.declared.sorted.SortedSet.{SortedSet}
use Rattle.expr_tree.specs.Tree.{Rule, Tree, Trees, meant_of}
use Rattle.expr_tree.specs.WellFormed.{IsWellFormed}
use Rattle.expr_tree.specs.declared.tree.Kind.{Kind}
use Rattle.moment_core.specs.Clocks.{one_clock}
use Rattle.moment_core.specs.declared.line.Clock.{Clock}
use Rattle.query_core.specs.Answering.{AnswersOrStops, IsAnswered}
use Rattle.run_search.specs.Places.{IsAmpleAt}
use Rattle.query_words.specs.declared.queries.Query.{Query}
use Rattle.report_text.specs.Refusals.{IsPrintable}
use Rattle.report_text.specs.declared.refusals.Refusal.{Refusal}
use Rattle.report_text.specs.declared.refusals.Refusal.TheVariants as refusals
use Rattle.span_core.specs.declared.answers.Near.{Near}
use Rattle.span_core.specs.declared.answers.Stop.{Stop}
use Rattle.span_core.specs.declared.answers.Token.{Token}
use Rattle.stored_pair.specs.Meanings.{Entries}
use Rattle.span_core.specs.declared.answers.Near.TheVariants as nears
use Rattle.outside_core.specs.declared.writes.Sink.{Ghosts as Sink}
use Rattle.query_reply.specs.Effects.{IsWritten}
use Rattle.query_reply.specs.Reading.{AreSecondSorts, AreSettledFor, AreSorts, IsMeant, IsUnsettledFor, OnClock, Reading, Settles, faulty, on_clock, sets_clock, settled, takes, unless_clock, unsettled, words_clock}
use Rattle.query_reply.specs.Preparing.{GivesClock, GivesReport, GivesWalk, IsUnready, IsUnsettledIn, Prepares, clocked, on, reading_of, sort_of_set, sorts_of, unready_of}
use Rattle.query_reply.specs.declared.preparing.Report.{Report}
use Rattle.query_reply.specs.declared.preparing.Unready.{Unready}
use Rattle.query_reply.specs.declared.preparing.Unready.TheVariants as unready
use Rattle.query_reply.specs.Refusals.{text_refusal}
use Rattle.query_reply.specs.Report.{Outcome, IsPrinted, IsReportOf, IsSearched, IsWalkOf, answered, answers, printed, refused, replied, stops, told}

-- a program's sorts are those of its trees
second_sorts : (o : Option SortedSet) → HasSecondSort o → AreSecondSorts (option_map tree_of_set o)
    (option_map sort_of_set o)
second_sorts None h = tt
second_sorts (Some s) h = h

pub are_sorts : (p : SortedProgram) → HaveSorts p → AreSorts (trees_of_sorted p) (sorts_of p)
are_sorts p h = (h.0, second_sorts p.second h.1)

-- a set of a text can be made ready
pub can_be_ready : (s : SortedSet) → IsWellFormed (tree_of_set s) → HasSort s
    → CanBeReady (tree_of_set s)
can_be_ready s h e = record { well_formed = h; sorted = inl (ap is_ok e) }

-- a fault that refuses is the text's
pub fault_meant : (text : List ℕ) (o : Option Fault) (refusal : Refusal) → option_map text_refusal o
    ≡ Some refusal → IfSome (option_map (λ f. Err f) o) (IsRead text) → IsMeant text (Err refusal)
fault_meant text None refusal e h = absurd cc
fault_meant text (Some fault) refusal e h = subst (λ (x : Refusal). IsMeant text (Err x))
    (let same : text_refusal fault ≡ refusal = cc in same) (faulty fault h)

-- what is reported of a reading is the reply
pub replies : (entries : Entries) (query : Query) (text : List ℕ) (reading : Reading)
    (clock : Clock) (r : Result Report Unready) → IsMeant text (Ok reading)
    → GivesClock query reading (Ok clock) → GivesReport entries query reading clock r
    → Prepares entries query text r
replies entries query text reading clock (Ok report) meant fits h =
    let x = on reading clock in
    λ o reports. replied x o (goes_on reading (Ok x) meant (goes_on x (Ok x) fits h.0))
    (h.1 o reports)
replies entries query text reading clock (Err (unready.Refused refusal)) meant fits h = (
  h.0,
  refused refusal
      (goes_on reading (Err refusal) meant (goes_on (on reading clock) (Err refusal) fits h.1)),
)
replies entries query text reading clock (Err unready.Memory) meant fits h = tt

pub not_meant : (entries : Entries) (query : Query) (text : List ℕ) (e : Unready)
    → IsUnready (λ refusal. IsMeant text (Err refusal)) e → Prepares entries query text (Err e)
not_meant entries query text (unready.Refused refusal) h =
    (h.0, refused refusal (fails refusal h.1))
not_meant entries query text unready.Memory h = tt

pub not_fitting : (entries : Entries) (query : Query) (text : List ℕ) (reading : Reading)
    (refusal : Refusal) → IsPrintable refusal → IsMeant text (Ok reading) → GivesClock query reading
    (Err refusal) → Prepares entries query text (Err (unready.Refused refusal))
not_fitting entries query text reading refusal printable meant fits =
    (printable, refused refusal (goes_on reading (Err refusal) meant (fails refusal fits)))

-- what a search gives is its outcome
pub searched_by : (run ever : Near → Type 0) (places : Dir → ℤ → Type 0) (due : Dir → ℤ → ℕ → Stop
    → Type 0) (kind : Kind) (clock : Clock) (budget : ℕ) (near : Near)
    → AnswersOrStops run places due budget near → ever near
    → (IsAmpleAt places due budget → IsAnswered near)
    → IsSearched (λ n. run n × ever n) places due kind clock budget (told kind clock near)
searched_by run ever places due kind clock budget (nears.Found r) is holds ample =
    answers (nears.Found r) (is, holds)
searched_by run ever places due kind clock budget (nears.None w) is holds ample =
    answers (nears.None w) (is, holds)
searched_by run ever places due kind clock budget nears.Edge is holds ample =
    answers nears.Edge (is, holds)
searched_by run ever places due kind clock budget (nears.Budget s) is holds ample = stops s is ample

pub written_as : {K : Type 0} {sink : Sink K} {old new : K} {result : ℕ} (o : Outcome) (status : ℕ)
    (line : List ℕ) → status ≡ o.status → line ≡ o.bytes → IsWritten sink old new
    (record { status = status; bytes = line }) result → IsWritten sink old new o result
written_as {K} {sink} {old} {new} {result} o status line same is w =
    subst (λ bytes. IsWritten sink old new (record { status = o.status; bytes = bytes }) result) is
    (subst (λ n. IsWritten sink old new (record { status = n; bytes = line }) result) same w)

-- the command doesn't take so many expressions
pub not_taken : (query : Query) (p : SortedProgram) → takes query (trees_of_sorted p).second ≡ false
    → GivesClock query (reading_of p) (Err refusals.Two)
not_taken query p e = fails refusals.Two (rw e refl)

-- it does, and the clocks are one or differ
pub taken : (query : Query) (p : SortedProgram) (r : Result Clock Refusal)
    → takes query (trees_of_sorted p).second ≡ true → By (unless_clock query) (reading_of p)
    (clocked (reading_of p) r) → GivesClock query (reading_of p) r
taken query p r e clock = goes_on (reading_of p) (clocked (reading_of p) r) (rw e refl) clock

pub one_clock_of : (query : Query) (p : SortedProgram) (clock : Clock)
    → one_clock (sets_clock (sorts_of p)) (words_clock query) ≡ Some clock → By (unless_clock query)
    (reading_of p) (clocked (reading_of p) (Ok clock))
one_clock_of query p clock e = ap (on_clock (reading_of p)) (sym e)

pub no_clock_of : (query : Query) (p : SortedProgram) → one_clock (sets_clock (sorts_of p))
    (words_clock query) ≡ None → By (unless_clock query) (reading_of p)
    (clocked (reading_of p) (Err refusals.Clock))
no_clock_of query p e = ap (on_clock (reading_of p)) (sym e)

pub printed_as : (trees : Trees) (bytes : List ℕ) (o : Outcome) → bytes
    ≡ with_line_feed (print_program trees) → o ≡ record { status = 0; bytes = bytes }
    → IsPrinted trees o
printed_as trees bytes o e is =
    let same : o ≡ answered (print_program trees) = is
    ∙ ap (λ (x : List ℕ). let y : Outcome = record { status = 0; bytes = x } in y) e in
    subst (IsPrinted trees) (sym same) printed

-- where there is no plan, the first count that isn't settled refuses the query, or memory ran out
pub no_plan : (query : Query) (x : OnClock) (t : Tree Rule) (fault : PlanFault)
    → ((u : Unsettled) → IsFirstUnsettled t u → IsUnsettledFor query x.reading.trees u)
    → ((u : Unsettled) → IsFirstUnsettled t u → IsWorkingMoment u.at.0) → IsFaultOf t fault
    → IsUnready (λ refusal. Settles query x (Err refusal)) (unready_of fault)
no_plan query x t (plans.Settle passed at) asked working first =
    let u : Unsettled = record { passed = passed; at = at } in
    (working u first, unsettled u (asked u first))
no_plan query x t plans.Memory asked working first = tt

-- the same of a walk
pub no_walk : (t : Tree Rule) (fault : PlanFault) → ((u : Unsettled) → IsFirstUnsettled t u
    → IsWorkingMoment u.at.0) → IsFaultOf t fault → IsUnready (IsUnsettledIn t) (unready_of fault)
no_walk t (plans.Settle passed at) working first = let u : Unsettled =
    record { passed = passed; at = at } in (working u first, (u, first, refl))
no_walk t plans.Memory working first = tt

-- a walk is the report of a query that asks for it
pub walk_is_report : (entries : Entries) (query : Query) (reading : Reading) (clock : Clock)
    (t : Token) (limit budget : ℕ) (r : Result Report Unready)
    → (AreSettled reading.trees.first → AreSettledFor query reading.trees)
    → ((u : Unsettled) → IsFirstUnsettled reading.trees.first u → IsUnsettledFor query reading.trees
    u)
    → ((o : Outcome) → IsWalkOf (meant_of entries reading.trees.first) reading.sorts.first.kind
    clock t limit budget o → IsReportOf entries query reading clock o) → GivesWalk entries reading
    clock t limit budget r → GivesReport entries query reading clock r
walk_is_report entries query reading clock t limit budget (Ok report) are first asks h =
    (settled (are h.0), λ o reports. asks o (h.1 o reports))
walk_is_report entries query reading clock t limit budget (Err (unready.Refused refusal)) are first
    asks (printable, (u, is, e)) = (
      printable,
      subst (λ (x : Refusal). Settles query (on reading clock) (Err x)) (sym e)
          (unsettled u (first u is)),
    )
walk_is_report entries query reading clock t limit budget (Err unready.Memory) are first asks h = tt
