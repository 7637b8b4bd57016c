-- What reports of walks owe.
use Rattle.std.specs.Prelude.{◌≡◌, ◌≢◌, ℕ, pos, ◌≤ℤ◌, List, ◌++◌}
use Rattle.moment_core.specs.Line.{IsCalendarPosition}
use Rattle.moment_core.specs.declared.line.Dir.{Dir}
use Rattle.moment_core.specs.declared.line.TheConstants.{REACH}
use Rattle.moment_core.specs.declared.line.Window.{Window}
use Rattle.span_core.specs.Tokens.{IsFit}
use Rattle.span_core.specs.declared.answers.Token.{Token}
use Rattle.span_core.specs.declared.bounds.Run.{Run}
use Rattle.stored_pair.specs.Meanings.{Meaning}
use Rattle.expr_tree.specs.Sorts.{reach_of}
use Rattle.expr_tree.specs.Tree.{Tree}
use Rattle.search_core.specs.Ample.{IsAmple}
use Rattle.search_core.specs.Lawful.{AreLawful}
use Rattle.walk_core.specs.Tokens.{window_token}
use Rattle.walk_core.specs.Walks.{AreItemsOf, AreLeftOf}
use Rattle.walk_report.specs.Report.{AreFirstItems, IsAboveWalk, IsReport, Telling}

-- from each token that fits there is a report of a tree of lawful rules
abbrev pub ReportsExist : Type 0
ReportsExist =
    (telling : Telling) (limit : ℕ) (t : Token) → AreLawful telling.tree → IsFit t
    → (bytes : List ℕ) × IsReport telling limit t 0 bytes

-- and no second one, stops aside
abbrev pub ReportsAreUnique : Type 0
ReportsAreUnique =
    (telling : Telling) (limit : ℕ) (t : Token) (m n : ℕ) (xs ys : List ℕ) → IsFit t
    → IsReport telling limit t m xs → IsReport telling limit t n ys → m ≢ 3 → n ≢ 3
    → (m ≡ n) × (xs ≡ ys)

-- the items that were written, and then what is left past them, are what was left before
abbrev pub ReportsGoOn : Type 0
ReportsGoOn =
    (tree : Tree Meaning) (t next : Token) (runs left : List Run) → IsFit t
    → AreFirstItems tree t runs next → AreLeftOf tree next left → AreLeftOf tree t (runs ++ left)

-- so in a window they are its items
abbrev pub ReportsTellWindows : Type 0
ReportsTellWindows =
    (tree : Tree Meaning) (w : Window) (dir : Dir) (next : Token) (runs left : List Run)
    → IsCalendarPosition w.lo.0 → IsCalendarPosition w.hi.0
    → AreFirstItems tree (window_token w dir) runs next → AreLeftOf tree next left
    → AreItemsOf tree w dir (runs ++ left)

-- for a tree that looks no farther than `REACH` no report is that of a stop for an ample budget
abbrev pub AmpleReportsNeverStop : Type 0
AmpleReportsNeverStop =
    (telling : Telling) (limit : ℕ) (t : Token) (bytes : List ℕ)
    → pos (reach_of telling.tree) ≤ℤ REACH → IsFit t → IsAmple telling.tree telling.budget
    → IsReport telling limit t 3 bytes → ⊥

-- nor for a budget that is above the candidates of the search from each place of the walk's steps
abbrev pub EnoughReportsNeverStop : Type 0
EnoughReportsNeverStop =
    (telling : Telling) (limit : ℕ) (t : Token) (bytes : List ℕ) → IsFit t
    → IsAboveWalk telling.tree limit t telling.budget → IsReport telling limit t 3 bytes → ⊥
