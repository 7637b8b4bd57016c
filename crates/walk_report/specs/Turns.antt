-- How the lines of a walk are written one by one.
use Rattle.std.specs.Prelude.{◌≤◌, ℕ, suc, Bool, true, false, List, ◌++◌, length, take}
use Rattle.outside_core.specs.Outside.{Puts, Rose}
use Rattle.outside_core.specs.declared.writes.Sink.{Ghosts as Sink}
use Rattle.moment_core.specs.declared.line.Clock.{Clock}
use Rattle.span_core.specs.declared.answers.Item.{Item}
use Rattle.span_core.specs.declared.answers.Item.TheVariants as items
use Rattle.span_core.specs.declared.answers.Token.{Token}
use Rattle.span_core.specs.declared.bounds.Run.{Run}
use Rattle.expr_tree.specs.declared.tree.Kind.{Kind}
use Rattle.walk_core.specs.Walks.{meant_of_walk}
use Rattle.walk_core.specs.declared.walk.Walk.{Walk}
use Rattle.walk_report.specs.Report.{ComesFirst, IsReport, Telling, run_line}
use Rattle.walk_report.specs.declared.writing.Turn.{Turn}
use Rattle.walk_report.specs.declared.writing.Turn.TheVariants as turns

-- a walk, told so
abbrev pub telling_of : Walk → Kind → Clock → ℕ → Telling
telling_of walk kind clock budget =
    record { tree = meant_of_walk walk; kind = kind; clock = clock; budget = budget }

-- the line was put, or its first bytes, and then the count of faults rose
abbrev pub PutsOrBreaks : {K : Type 0} → Sink K → List ℕ → K → K → Bool → Type 0
PutsOrBreaks sink line old new true = Puts (sink.taken old) (sink.taken new) line
PutsOrBreaks sink line old new false =
    Rose (sink.faults old) (sink.faults new)
    × ((n : ℕ) × (n ≤ length line) × Puts (sink.taken old) (sink.taken new) (take n line))

-- one turn of a walk from a token: the line of its first item was put; or the last line, with the
-- status; or the first bytes of a report
abbrev pub TurnsTo : {K : Type 0} → Sink K → K → K → Telling → Token → Token → Turn → Type 0
TurnsTo sink old new telling t next turns.Wrote =
    (run : Run) × ComesFirst telling.tree t run next
    × Puts (sink.taken old) (sink.taken new) (run_line telling run)
TurnsTo sink old new telling t next (turns.Last status) =
    (line : List ℕ) × ((limit : ℕ) → IsReport telling (suc limit) t status line)
    × Puts (sink.taken old) (sink.taken new) line
TurnsTo sink old new telling t next turns.Broke =
    Rose (sink.faults old) (sink.faults new)
    × ((limit : ℕ) → (status : ℕ) × (bytes : List ℕ) × IsReport telling (suc limit) t status bytes
    × ((n : ℕ) × Puts (sink.taken old) (sink.taken new) (take n bytes)))

-- what was written so far, from a token to another with so many items left: each report from there
-- goes on as one from the beginning
pub record IsOnTheWay {K : Type 0} (sink : Sink K) (old new : K) (telling : Telling)
    (limit left : ℕ) (t next : Token) : Type 0 where
  pub written : List ℕ
  pub counted : sink.faults old ≤ sink.faults new
  pub put : Puts (sink.taken old) (sink.taken new) written
  pub goes_on : (status : ℕ) (bytes : List ℕ) → IsReport telling left next status bytes
      → IsReport telling limit t status (written ++ bytes)

-- what a turn did by its item, where its line was taken whole or not
abbrev pub turn_of : Item → Bool → Turn
turn_of item false = turns.Broke
turn_of (items.Run run) true = turns.Wrote
turn_of (items.Done why) true = turns.Last 0
turn_of (items.Budget t) true = turns.Last 3
