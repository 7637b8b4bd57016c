-- What a plan stands for.
use Rattle.std.specs.Prelude.{ℕ, ℤ, Bool, Option}
use Rattle.moment_core.specs.declared.line.Dir.{Dir}
use Rattle.moment_core.specs.declared.line.Window.{Window}
use Rattle.span_core.specs.Answers.{IsAnswer}
use Rattle.span_core.specs.declared.answers.Answer.{Answer}
use Rattle.span_core.specs.declared.answers.Stop.{Stop}
use Rattle.frame_core.specs.Frames.{window_if_framed}
use Rattle.stored_pair.specs.Meanings.{Meaning}
use Rattle.expr_tree.specs.Members.{is_member}
use Rattle.expr_tree.specs.Tree.{Tree}
use Rattle.search_core.specs.Due.{IsDue}
use Rattle.cert_audit.specs.Lowered.{meant_of_ready}
use Rattle.search_core.specs.TreeFrames.{frame_of_tree}
use Rattle.plan_core.specs.declared.plan.Plan.{Plan}

-- the window after which a tree's positions repeat from a position in a direction, if there is one
-- in the calendar range
abbrev pub window_of : Tree Meaning → Dir → ℤ → Option Window
window_of tree = window_if_framed (frame_of_tree tree)

-- the answer of a tree at p in a direction, or a stop that is due for the budget
abbrev pub AnswersFor : Tree Meaning → ℤ → Dir → ℕ → Answer → Type 0
AnswersFor tree p dir budget answer =
    IsAnswer (is_member tree) (IsDue tree) (window_of tree) dir p budget answer

-- what the tree of a plan means, its positions, the stops that are due in its searches, and its
-- windows
abbrev pub meant_of_plan : Plan → Tree Meaning
meant_of_plan plan = meant_of_ready plan.ready

abbrev pub members_of_plan : Plan → ℤ → Bool
members_of_plan plan = is_member (meant_of_plan plan)

abbrev pub due_of_plan : Plan → Dir → ℤ → ℕ → Stop → Type 0
due_of_plan plan = IsDue (meant_of_plan plan)

abbrev pub window_of_plan : Plan → Dir → ℤ → Option Window
window_of_plan plan = window_of (meant_of_plan plan)
