-- From where on, and by which period, a tree's positions repeat.
use Rattle.std.specs.Prelude.{ℤ, pos, ◌*◌, ◌+ℤ◌, ◌-ℤ◌, Option, Some, None, option_map}
use Rattle.std.specs.Int.{int_max, int_min}
use Rattle.moment_core.specs.Line.{position_of}
use Rattle.moment_core.specs.declared.line.Pos.{Pos}
use Rattle.moment_core.specs.declared.line.TheConstants.{LOW}
use Rattle.span_core.specs.Bounds.{first_from, last_to}
use Rattle.span_core.specs.declared.bounds.Bound.{Bound}
use Rattle.frame_core.specs.Frames.{join_of}
use Rattle.frame_core.specs.declared.frames.Frame.{Frame}
use Rattle.stored_pair.specs.Meanings.{Meaning}
use Rattle.expr_tree.specs.Lists.{bottom, frame_from, top}
use Rattle.expr_tree.specs.Tree.{Tree, Empty, Spanned, Ruled, Joined, Pairs, Unary}
use Rattle.search_core.specs.Unary.{hi_moves, lo_moves}

-- from where on upwards a span of these first and last positions stays as it is; and downwards
abbrev pub span_hi : Option Pos → Option Pos → ℤ
span_hi first (Some last) = last.0 +ℤ pos 1
span_hi (Some first) None = first.0
span_hi None None = bottom

abbrev pub span_lo : Option Pos → Option Pos → ℤ
span_lo (Some first) last = first.0 -ℤ pos 1
span_lo None (Some last) = last.0
span_lo None None = top

abbrev pub span_frame : Bound × Bound → Frame
span_frame bounds =
    frame_from (span_hi (first_from bounds.0) (last_to bounds.1))
    (span_lo (first_from bounds.0) (last_to bounds.1))

-- the joined frame, where both are there
abbrev pub join_framed : Option Frame → Option Frame → Option Frame
join_framed (Some a) (Some b) = join_of a b
join_framed a b = None

-- the frame with its `lo` and its `hi` so many seconds later
abbrev pub moved : (lo hi : ℤ) → Frame → Frame
moved lo hi frame = record {
  lo = record { 0 = frame.lo.0 +ℤ position_of lo };
  hi = record { 0 = frame.hi.0 +ℤ position_of hi };
  period = frame.period;
}

-- the frame of spans that begin no earlier than the calendar range: after a period from there it is
-- known whether one is open
abbrev pub opened : Frame → Frame
opened frame = record {
  lo = record { 0 = int_min frame.lo.0 (position_of LOW -ℤ pos 1) };
  hi = record { 0 = int_max frame.hi.0 (position_of LOW) +ℤ pos (2 * frame.period) };
  period = frame.period;
}

abbrev pub frame_of_tree : Tree Meaning → Option Frame
frame_of_tree Empty = Some (frame_from bottom top)
frame_of_tree (Spanned bounds low high) = Some (span_frame bounds)
frame_of_tree (Ruled rule) = rule.frame
frame_of_tree (Joined op a b) = join_framed (frame_of_tree a) (frame_of_tree b)
frame_of_tree (Pairs a b) = option_map opened (join_framed (frame_of_tree a) (frame_of_tree b))
frame_of_tree (Unary op a) = option_map (moved (lo_moves op) (hi_moves op)) (frame_of_tree a)
