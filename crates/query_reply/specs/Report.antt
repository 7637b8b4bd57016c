-- What a query over a text asks to be written.
use Rattle.std.specs.Prelude.{◌≤◌, ◌⊎◌, ℕ, ℤ, List, Option, Some, None, IfSome, Ok, Err}
use Rattle.search_core.specs.Ample.{IsAboveSearch, IsAmple, LooksAhead}
use Rattle.search_core.specs.Due.{IsDue, IsDueInTest, IsTestOf}
use Rattle.expr_text.specs.Accepted.{IsRead}
use Rattle.expr_print.specs.Printing.{print_program}
use Rattle.expr_tree.specs.Members.{is_member}
use Rattle.expr_tree.specs.Tree.{Tree, Trees, meant_of}
use Rattle.expr_tree.specs.declared.tree.Kind.{Kind}
use Rattle.moment_core.specs.Line.{IsCalendarMoment, position_of}
use Rattle.moment_core.specs.declared.line.Clock.{Clock}
use Rattle.moment_core.specs.declared.line.Dir.{Dir}
use Rattle.moment_core.specs.declared.line.Dir.TheVariants.{Fore, Back}
use Rattle.moment_core.specs.declared.line.Pos.{Pos}
use Rattle.moment_core.specs.declared.line.Stamp.{Stamp}
use Rattle.moment_core.specs.declared.line.TheConstants.{LOW, HIGH}
use Rattle.moment_core.specs.declared.line.Window.{Window}
use Rattle.plan_core.specs.Plans.{window_of}
use Rattle.query_core.specs.Answering.{PlacesOfClosest, PlacesOfCurrent, PlacesOfNext}
use Rattle.query_core.specs.Endless.{IsForEver, IsForEverClosest, IsForEverCurrent}
use Rattle.query_core.specs.Neighbours.{IsClosestRun, IsCurrentRun, IsNextRun}
use Rattle.query_words.specs.declared.queries.Query.{Query}
use Rattle.query_words.specs.declared.queries.Query.TheVariants.{Near as NearBy, Resume, Show, Walk}
use Rattle.query_words.specs.declared.queries.Neighbour.{Neighbour}
use Rattle.query_words.specs.declared.queries.Neighbour.TheVariants.{Next, Previous, Current, Closest, Contains}
use Rattle.report_text.specs.Lines.{near_line, test_line, with_line_feed}
use Rattle.report_text.specs.Refusals.{refusal_line}
use Rattle.report_text.specs.declared.refusals.Refusal.{Refusal}
use Rattle.run_search.specs.Places.{IsAmpleAt, IsStopAt}
use Rattle.span_core.specs.Tokens.{IsFit}
use Rattle.span_core.specs.declared.answers.Near.{Near}
use Rattle.span_core.specs.declared.answers.Near.TheVariants as nears
use Rattle.span_core.specs.declared.answers.Stop.{Stop}
use Rattle.span_core.specs.declared.answers.Test.{Test}
use Rattle.span_core.specs.declared.answers.Test.TheVariants as tests
use Rattle.span_core.specs.declared.answers.Token.{Token}
use Rattle.stored_pair.specs.Meanings.{Entries, Meaning}
use Rattle.walk_core.specs.Tokens.{window_token}
use Rattle.walk_report.specs.Report.{IsAboveWalk, IsReport}
use Rattle.query_reply.specs.Reading.{Reading, OnClock, Passes}

-- a status, and the bytes that are written
pub record Outcome : Type 0 where
  pub status : ℕ
  pub bytes : List ℕ

abbrev pub refused_by : Refusal → Outcome
refused_by refusal = record { status = 2; bytes = refusal_line refusal }

abbrev pub answered : List ℕ → Outcome
answered line = record { status = 0; bytes = with_line_feed line }

-- what a command asks for by a moment is this, and it holds on all whole numbers
abbrev pub IsFoundBy : Tree Meaning → Neighbour → ℤ → Near → Type 0
IsFoundBy t Next at near =
    IsNextRun (is_member t) (window_of t) Fore at near
    × IsForEver (is_member t) Fore (position_of at) near
IsFoundBy t Previous at near =
    IsNextRun (is_member t) (window_of t) Back at near
    × IsForEver (is_member t) Back (position_of at) near
IsFoundBy t Current at near =
    IsCurrentRun (is_member t) (window_of t) at near × IsForEverCurrent (is_member t) at near
IsFoundBy t Closest at near =
    IsClosestRun (is_member t) (window_of t) at near × IsForEverClosest (is_member t) at near
IsFoundBy t Contains at near = ⊥

-- the places of its searches; whether a moment is a member is told without one
abbrev pub PlacesBy : Tree Meaning → Neighbour → ℤ → Dir → ℤ → Type 0
PlacesBy t Next at = PlacesOfNext (is_member t) Fore at
PlacesBy t Previous at = PlacesOfNext (is_member t) Back at
PlacesBy t Current at = PlacesOfCurrent (is_member t) at
PlacesBy t Closest at = PlacesOfClosest (is_member t) at
PlacesBy t Contains at = λ dir place. ⊥

-- no stop is due at one of them for the budget, and none in telling whether a moment is a member
abbrev pub IsAmpleBy : Tree Meaning → Neighbour → ℤ → ℕ → Type 0
IsAmpleBy t Contains at budget = (s : Stop) → IsDueInTest t (position_of at) budget s → ⊥
IsAmpleBy t side at budget = IsAmpleAt (PlacesBy t side at) (IsDue t) budget

-- the status of a neighbour's line
abbrev pub status_of : Near → ℕ
status_of (nears.Found run) = 0
status_of (nears.None w) = 0
status_of nears.Edge = 0
status_of (nears.Budget s) = 3

-- a neighbour's status and line
abbrev pub told : Kind → Clock → Near → Outcome
told kind clock near = record { status = status_of near; bytes = near_line near kind clock }

-- the outcome of a search: what was found, or a stop that is due at a place, where the budget isn't
-- ample
pub data IsSearched (found : Near → Type 0) (places : Dir → ℤ → Type 0)
    (due : Dir → ℤ → ℕ → Stop → Type 0) (kind : Kind) (clock : Clock) (budget : ℕ)
    : Outcome → Type 0 where
  answers : (near : Near) → found near
      → IsSearched found places due kind clock budget (told kind clock near)
  stops : (s : Stop) → IsStopAt places due budget s → ¬ (IsAmpleAt places due budget)
      → IsSearched found places due kind clock budget (told kind clock (nears.Budget s))

-- the status of the line that tells whether a moment is a member
abbrev pub status_of_test : Test → ℕ
status_of_test tests.In = 0
status_of_test tests.Out = 0
status_of_test (tests.Budget s) = 3

-- its status and line
abbrev pub told_test : Test → Outcome
told_test test = record { status = status_of_test test; bytes = test_line test }

-- the outcome of the question whether a position is a member, or a stop that is due there
pub data IsTested (t : Tree Meaning) (p : ℤ) (budget : ℕ) : Outcome → Type 0 where
  tested : (test : Test) → IsTestOf t p budget test → IsTested t p budget (told_test test)

-- the outcome of what a command asks for by a moment
abbrev pub IsAskedBy : Tree Meaning → Neighbour → Kind → Clock → ℤ → ℕ → Outcome → Type 0
IsAskedBy t Contains kind clock at budget = IsTested t (position_of at) budget
IsAskedBy t side kind clock at budget =
    IsSearched (IsFoundBy t side at) (PlacesBy t side at) (IsDue t) kind clock budget

-- the outcome of the printed form
pub data IsPrinted (trees : Trees) : Outcome → Type 0 where
  printed : IsPrinted trees (answered (print_program trees))

-- the position of the moment, or of the default where none is given
abbrev pub end_of : ℤ → Option Stamp → Pos
end_of default None = record { 0 = position_of default }
end_of default (Some at) = record { 0 = position_of at.moment.0 }

-- the window of a walk: where an end isn't given it is the calendar range's own
abbrev pub window_given : Option Stamp → Option Stamp → Window
window_given from to = record { lo = end_of LOW from; hi = end_of HIGH to }

-- the outcome of a walk over a tree from a token, with so many items at most
abbrev pub IsWalkOf : Tree Meaning → Kind → Clock → Token → ℕ → ℕ → Outcome → Type 0
IsWalkOf tree kind clock t limit budget o =
    IsReport (record { tree = tree; kind = kind; clock = clock; budget = budget }) limit t
    o.status o.bytes

-- each command's own report
abbrev pub IsReportOf : Entries → Query → Reading → Clock → Outcome → Type 0
IsReportOf entries Show reading clock = IsPrinted reading.trees
IsReportOf entries (NearBy side at budget) reading clock =
    IsAskedBy (meant_of entries reading.trees.first) side reading.sorts.first.kind clock at.moment.0
    budget
IsReportOf entries (Walk from to dir limit budget) reading clock =
    IsWalkOf (meant_of entries reading.trees.first) reading.sorts.first.kind clock
    (window_token (window_given from to) dir) limit budget
IsReportOf entries (Resume token limit budget) reading clock =
    IsWalkOf (meant_of entries reading.trees.first) reading.sorts.first.kind clock token limit
    budget

-- the outcome of a query over the text, where the book's entries mean these: the refusal of the
-- first phase that fails, or the command's report
pub data IsReply (entries : Entries) (query : Query) (text : List ℕ) : Outcome → Type 0 where
  refused : (refusal : Refusal) → Passes query text (Err refusal)
      → IsReply entries query text (refused_by refusal)
  replied : (x : OnClock) (o : Outcome) → Passes query text (Ok x)
      → IsReportOf entries query x.reading x.clock o
      → IsReply entries query text o

abbrev pub IsGivenInRange : Option Stamp → Type 0
IsGivenInRange given = IfSome given (λ at. IsCalendarMoment at.moment.0)

-- the moments of a query are those of the calendar range, its token fits, and its budget is a step
-- or more
abbrev pub IsInRange : Query → Type 0
IsInRange Show = Unit {0}
IsInRange (NearBy side at budget) = IsCalendarMoment at.moment.0 × (1 ≤ budget)
IsInRange (Walk from to dir limit budget) = IsGivenInRange from × IsGivenInRange to × (1 ≤ budget)
IsInRange (Resume token limit budget) = IsFit token × (1 ≤ budget)

-- the budget is above the candidates of the tree's search from each of the places of what is asked
-- by a moment; whether it is a member is told for any budget by a tree that doesn't look back
abbrev pub IsAbovePlaces : Tree Meaning → Neighbour → ℤ → ℕ → Type 0
IsAbovePlaces t Contains at budget = LooksAhead t
IsAbovePlaces t side at budget =
    (dir : Dir) (place : ℤ) → PlacesBy t side at dir place → IsAboveSearch t dir place budget

-- the budget of a query is above the candidates of the tree's search from each of its places, or
-- ample on all days of the working range
abbrev pub IsEnough : Tree Meaning → Query → Type 0
IsEnough t Show = Unit {0}
IsEnough t (NearBy side at budget) = IsAbovePlaces t side at.moment.0 budget ⊎ IsAmple t budget
IsEnough t (Walk from to dir limit budget) =
    IsAboveWalk t limit (window_token (window_given from to) dir) budget ⊎ IsAmple t budget
IsEnough t (Resume token limit budget) = IsAboveWalk t limit token budget ⊎ IsAmple t budget

-- where the text is one tree, the budget of a query is ample
pub record HasAmpleBudget (entries : Entries) (text : List ℕ) (query : Query) : Type 0 where
  pub trees : Trees
  pub read : IsRead text (Ok trees)
  pub ample : IsEnough (meant_of entries trees.first) query
