-- What a tree made ready stands for.
use Rattle.std.specs.Prelude.{ℤ, ℕ, Bool, Option, IsOk, ◌⊎◌}
use Rattle.moment_core.specs.declared.line.Dir.{Dir}
use Rattle.moment_core.specs.declared.line.Window.{Window}
use Rattle.span_core.specs.declared.answers.Stop.{Stop}
use Rattle.frame_core.specs.Frames.{window_if_framed}
use Rattle.frame_core.specs.declared.frames.Frame.{Frame}
use Rattle.stored_pair.specs.Meanings.{Meaning}
use Rattle.expr_tree.specs.Members.{is_member}
use Rattle.expr_tree.specs.Sorts.{sort_of_tree}
use Rattle.expr_tree.specs.Tree.{Rule, Tree, Joined}
use Rattle.expr_tree.specs.WellFormed.{IsWellFormed}
use Rattle.search_core.specs.Due.{IsDue}
use Rattle.lowered_tree.specs.Nodes.{meant_of_node}
use Rattle.search_core.specs.TreeFrames.{frame_of_tree}
use Rattle.cert_audit.specs.declared.ready.Ready.{Ready}

-- a tree that has a sort
abbrev pub IsSorted : Tree Rule → Type 0
IsSorted t = IsOk (sort_of_tree t)

-- a tree whose root joins two that have a sort
abbrev pub JoinsSorted : Tree Rule → Type 0
JoinsSorted (Joined op a b) = IsSorted a × IsSorted b
JoinsSorted t = ⊥

pub record CanBeReady (t : Tree Rule) : Type 0 where
  pub well_formed : IsWellFormed t
  pub sorted : IsSorted t ⊎ JoinsSorted t

abbrev pub meant_of_ready : Ready → Tree Meaning
meant_of_ready ready = meant_of_node ready.root

-- the positions of a tree made ready, the stops that are due in its searches, its frame and its
-- windows
abbrev pub members_of : Ready → ℤ → Bool
members_of ready = is_member (meant_of_ready ready)

abbrev pub due_of : Ready → Dir → ℤ → ℕ → Stop → Type 0
due_of ready = IsDue (meant_of_ready ready)

abbrev pub frame_of_ready : Ready → Option Frame
frame_of_ready ready = frame_of_tree (meant_of_ready ready)

abbrev pub window_of_ready : Ready → Dir → ℤ → Option Window
window_of_ready ready = window_if_framed (frame_of_ready ready)
