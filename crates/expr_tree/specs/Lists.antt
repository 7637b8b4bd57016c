-- What a list of moments means.
use Rattle.std.specs.Prelude.{ℤ, pos, ◌+ℤ◌, ◌-ℤ◌, Bool, List, [], ◌∷◌, Some}
use Rattle.std.specs.Int.{int_max, int_min}
use Rattle.std.specs.List.{list_any}
use Rattle.std.specs.Ordering.{int_eq}
use Rattle.frame_core.specs.declared.frames.Frame.{Frame}
use Rattle.moment_core.specs.Line.{position_of}
use Rattle.moment_core.specs.declared.line.Stamp.{Stamp}
use Rattle.moment_core.specs.declared.line.TheConstants.{LOW, HIGH, REACH}
use Rattle.stored_pair.specs.Meanings.{Meaning}

-- t is one of the moments
abbrev pub has_listed : List Stamp → ℤ → Bool
has_listed stamps t = list_any (λ stamp. int_eq stamp.moment.0 t) stamps

-- the ends of the working range
abbrev pub bottom : ℤ
bottom = position_of (LOW -ℤ REACH)

abbrev pub top : ℤ
top = position_of (HIGH +ℤ REACH)

-- nothing changes from `hi` on upwards, nor from `lo` on downwards
abbrev pub frame_from : ℤ → ℤ → Frame
frame_from hi lo = record { lo = record { 0 = lo }; hi = record { 0 = hi }; period = 1 }

-- the latest and the earliest of a moment and the listed ones
abbrev pub latest_of : ℤ → List Stamp → ℤ
latest_of t [] = t
latest_of t (stamp ∷ stamps) = latest_of (int_max t stamp.moment.0) stamps

abbrev pub earliest_of : ℤ → List Stamp → ℤ
earliest_of t [] = t
earliest_of t (stamp ∷ stamps) = earliest_of (int_min t stamp.moment.0) stamps

-- nothing changes past the greatest position, nor before the least one
abbrev pub list_frame : List Stamp → Frame
list_frame [] = frame_from bottom top
list_frame (stamp ∷ stamps) =
    frame_from
    (position_of (latest_of stamp.moment.0 stamps) +ℤ pos 1)
    (position_of (earliest_of stamp.moment.0 stamps) -ℤ pos 1)

abbrev pub meaning_of_list : List Stamp → Meaning
meaning_of_list stamps = record {
  member = has_listed stamps;
  candidate = has_listed stamps;
  frame = Some (list_frame stamps);
}
