-- Lines of output: the bytes of moments, runs, windows and stops, and of the lines that they stand
-- in.
use Rattle.std.specs.Prelude.{ℕ, ℤ, List, ◌++◌, codes, decimal, Option, Some, None, if◌then◌else◌}
use Rattle.std.specs.Fmt.{signed_decimal}
use Rattle.std.specs.Option.{option_map_or}
use Rattle.std.specs.Ordering.{int_eq}
use Rattle.moment_core.specs.Clocks.{is_absolute}
use Rattle.moment_core.specs.Line.{moment_of}
use Rattle.moment_core.specs.declared.line.Clock.{Clock}
use Rattle.moment_core.specs.declared.line.Moment.{Moment}
use Rattle.moment_core.specs.declared.line.TheConstants.{LOW, HIGH}
use Rattle.moment_core.specs.declared.line.Window.{Window}
use Rattle.moment_text.specs.Literal.{literal_of}
use Rattle.span_core.specs.declared.answers.Near.{Near}
use Rattle.span_core.specs.declared.answers.Near.TheVariants.{Found, None as Never, Edge as Unsaid, Budget}
use Rattle.span_core.specs.declared.answers.Stop.{Stop}
use Rattle.span_core.specs.declared.answers.Test.{Test}
use Rattle.span_core.specs.declared.answers.Test.TheVariants as tests
use Rattle.span_core.specs.declared.bounds.Bound.{Bound}
use Rattle.span_core.specs.declared.bounds.Bound.TheVariants.{Closed, Open, Inf, Edge}
use Rattle.span_core.specs.declared.bounds.Run.{Run}
use Rattle.expr_tree.specs.declared.tree.Kind.{Kind}
use Rattle.expr_tree.specs.declared.tree.Kind.TheVariants.{Moments, Spans}

-- each line ends with a line feed
abbrev pub with_line_feed : List ℕ → List ℕ
with_line_feed text = text ++ codes "\n"

-- a moment is its literal, with a Z on the absolute clock
abbrev pub moment_text : Clock → ℤ → List ℕ
moment_text clock t = literal_of t (is_absolute clock)

abbrev pub low_text : Clock → Bound → List ℕ
low_text clock (Closed t) = codes "[" ++ moment_text clock t.0
low_text clock (Open t) = codes "(" ++ moment_text clock t.0
low_text clock Inf = codes "(-inf"
low_text clock Edge = codes "(-edge"

abbrev pub high_text : Clock → Bound → List ℕ
high_text clock (Closed t) = moment_text clock t.0 ++ codes "]"
high_text clock (Open t) = moment_text clock t.0 ++ codes ")"
high_text clock Inf = codes "inf)"
high_text clock Edge = codes "edge)"

abbrev pub span_text : Clock → Run → List ℕ
span_text clock run = low_text clock run.first ++ codes " .. " ++ high_text clock run.last

-- the moment at which a run begins, if it begins with one: without a bound it is the calendar
-- range's first
abbrev pub first_moment : Bound → Option Moment
first_moment (Closed t) = Some t
first_moment (Open t) = None
first_moment Inf = Some (record { 0 = LOW })
first_moment Edge = Some (record { 0 = LOW })

-- the moment at which a run ends, if it ends with one: without a bound it is the calendar range's
-- last
abbrev pub last_moment : Bound → Option Moment
last_moment (Closed t) = Some t
last_moment (Open t) = None
last_moment Inf = Some (record { 0 = HIGH })
last_moment Edge = Some (record { 0 = HIGH })

-- the one moment that both are
abbrev pub common_moment : Option Moment → Option Moment → Option Moment
common_moment (Some first) (Some last) = if int_eq first.0 last.0 then Some first else None
common_moment (Some first) None = None
common_moment None last = None

-- the moment that a run is, if it is just one
abbrev pub only_moment : Run → Option Moment
only_moment run = common_moment (first_moment run.first) (last_moment run.last)

-- a run of a set of moments is written as its moment
abbrev pub run_text : Kind → Clock → Run → List ℕ
run_text Moments clock run =
    option_map_or (λ t. moment_text clock t.0) (only_moment run) (span_text clock run)
run_text Spans clock run = span_text clock run

-- a window is written as the moments at or before its ends
abbrev pub window_text : Clock → Window → List ℕ
window_text clock w =
    moment_text clock (moment_of w.lo.0) ++ codes " .. " ++ moment_text clock (moment_of w.hi.0)

-- a stop is its position and its node
abbrev pub stop_text : Stop → List ℕ
stop_text s = signed_decimal s.at.0 ++ codes " " ++ decimal s.node

abbrev pub near_text : Near → Kind → Clock → List ℕ
near_text (Found run) kind clock = run_text kind clock run
near_text (Never w) kind clock = codes "none " ++ window_text clock w
near_text Unsaid kind clock = codes "edge"
near_text (Budget s) kind clock = codes "budget " ++ stop_text s

-- The line of a neighbour.
abbrev pub near_line : Near → Kind → Clock → List ℕ
near_line near kind clock = with_line_feed (near_text near kind clock)

-- whether a moment is a member, or where the search stopped
abbrev pub test_text : Test → List ℕ
test_text tests.In = codes "yes"
test_text tests.Out = codes "no"
test_text (tests.Budget s) = codes "budget " ++ stop_text s

-- The line of such an answer.
abbrev pub test_line : Test → List ℕ
test_line test = with_line_feed (test_text test)
