-- A stop of a test is one of a node, and due in searches from there both ways.
use Rattle.std.proofs.Common.{◌≡◌, inl, inr, arith, subst, sym, ℕ, ◌+◌, ◌≤◌, ℤ, Bool, Option}
use Rattle.moment_core.specs.Line.{IsCalendarPosition}
use Rattle.moment_core.specs.Sets.{IsUpTo}
use Rattle.moment_core.specs.declared.line.Dir.{Dir}
use Rattle.moment_core.specs.declared.line.Dir.TheVariants.{Fore, Back}
use Rattle.moment_core.proofs.LineLaws.{ahead-zero}
use Rattle.moment_core.proofs.Order.{ahead_up_to}
use Rattle.span_core.specs.Answers.{IsFound, end_of}
use Rattle.span_core.specs.declared.answers.Answer.{Answer}
use Rattle.span_core.specs.declared.answers.Answer.TheVariants as answers
use Rattle.span_core.specs.declared.answers.Stop.{Stop}
use Rattle.frame_core.specs.Frames.{window_if_framed}
use Rattle.frame_core.specs.Laws.{WindowsLie}
use Rattle.frame_core.specs.declared.frames.Frame.{Frame}
use Rattle.stored_pair.specs.Meanings.{Meaning}
use Rattle.expr_tree.specs.Members.{is_member}
use Rattle.expr_tree.specs.Sorts.{nodes_of}
use Rattle.expr_tree.specs.Tree.{Tree, Empty, Spanned, Ruled, Joined, Pairs, Unary}
use Rattle.search_core.specs.Due.{IsDueAt}
use Rattle.search_core.specs.Laws.{StopsOfTestsAreDue}
use Rattle.search_core.specs.TreeFrames.{frame_of_tree}

no_less : (m n : ℕ) → m ≡ n → n ≤ m
no_less m n e = omega arith

from_later : (n k m : ℕ) → n + 1 + k ≤ m → n ≤ m
from_later n k m h = omega arith

from_next : (n m : ℕ) → n + 1 ≤ m → n ≤ m
from_next n m h = omega arith

pub numbered : (t : Tree Meaning) (n budget : ℕ) (s : Stop) (q : ℤ) → IsDueAt t n budget s q
    → n ≤ s.node
numbered Empty n budget s q due = absurd due
numbered (Spanned bounds low high) n budget s q due = absurd due
numbered (Ruled rule) n budget s q due = absurd due
numbered (Joined op x y) n budget s q due = elim due [
  | inl one ↦ from_next n s.node (numbered x (n + 1) budget s q one)
  | inr other ↦ from_later n (nodes_of x) s.node (numbered y (n + 1 + nodes_of x) budget s q other)
]
numbered (Pairs x y) n budget s q due = elim due [
  | inl own ↦ no_less s.node n own.0
  | inr inner ↦ elim inner.3 [
    | inl one ↦ from_next n s.node (numbered x (n + 1) budget s inner.0 one)
    | inr other ↦ from_later n (nodes_of x) s.node (numbered y (n + 1 + nodes_of x) budget s inner.0
        other)
  ]
]
numbered (Unary op x) n budget s q due = elim due [
  | inl own ↦ no_less s.node n own.1
  | inr inner ↦ from_next n s.node (numbered x (n + 1) budget s inner.0 inner.3)
]

range_ends_past : (dir : Dir) (p : ℤ) → IsCalendarPosition p → IsUpTo dir (end_of dir answers.Edge)
    p
range_ends_past Fore p here = here.1
range_ends_past Back p here = here.0

-- no search ends before it begins
ends_past : WindowsLie → (set : ℤ → Bool) (frame : Option Frame) (dir : Dir) (p : ℤ) (a : Answer)
    → IsCalendarPosition p → IsFound set (window_if_framed frame dir p) dir p a
    → IsUpTo dir (end_of dir a) p
ends_past lie set frame dir p (answers.At q) here found =
    let P : ℤ → Type 0 = λ z. IsUpTo dir z p in
    subst P (sym found.0.1) (ahead_up_to dir p found.0.0)
ends_past lie set frame dir p (answers.None w) here found = (lie frame dir p w found.1).past
ends_past lie set frame dir p answers.Edge here found = range_ends_past dir p here
ends_past lie set frame dir p (answers.Budget s) here found = absurd found

pub tests_due : WindowsLie → StopsOfTestsAreDue
tests_due lie tree dir p budget s here due =
    let at = sym (ahead-zero dir p) in
    inr (
      0,
      record {
        within = λ a found.
            let P : ℤ → Type 0 = λ z. IsUpTo dir (end_of dir a) z in
            subst P at (ends_past lie (is_member tree) (frame_of_tree tree) dir p a here found);
        due = (let P : ℤ → Type 0 = λ z. IsDueAt tree 1 budget s z in subst P at due);
      },
    )
