-- No end of a frame lies too far.
use Rattle.std.proofs.Common.{◌≡◌, refl, arith, ℕ, ◌+◌, ◌*◌, ◌^◌, ◌≤◌, ℤ, pos, ◌+ℤ◌, ◌≤ℤ◌, unsigned_abs, max, Option, Some, None, IfSome, Bool, true, false, nat_le}
use Rattle.std.proofs.lemmas.Int.{clamps, ints}
use Rattle.std.specs.Prelude.{option_map}
use Rattle.moment_core.specs.Line.{position_of}
use Rattle.moment_core.specs.declared.joining.Op.TheVariants.{Union}
use Rattle.moment_core.specs.declared.line.Pos.{Pos}
use Rattle.moment_core.specs.declared.line.TheConstants.{HIGH, LOW, REACH, WIDTH}
use Rattle.span_core.specs.Bounds.{IsGiven, IsSpan, first_from, last_to}
use Rattle.span_core.specs.declared.bounds.Bound.{Bound}
use Rattle.span_core.specs.declared.bounds.Bound.TheVariants.{Closed, Open, Inf, Edge}
use Rattle.frame_core.specs.Frames.{HasPeriod, join_of}
use Rattle.frame_core.specs.Periods.{least_common}
use Rattle.frame_core.specs.declared.frames.Frame.{Frame}
use Rattle.stored_pair.specs.Meanings.{Meaning}
use Rattle.stored_pair.specs.Recurrences.{AreModest}
use Rattle.expr_tree.specs.Lists.{frame_from}
use Rattle.expr_tree.specs.Sorts.{looks_past, nodes_of, reach_of}
use Rattle.expr_tree.specs.Tree.{Tree, Empty, Spanned, Ruled, Joined, Pairs, Unary}
use Rattle.search_core.specs.Lawful.{AreLawful}
use Rattle.search_core.specs.Laws.{FramesHavePeriods, FramesMoveWithinReach}
use Rattle.search_core.specs.TreeFrames.{frame_of_tree, join_framed, moved, opened, span_frame, span_hi, span_lo}
use Rattle.search_core.specs.Unary.{hi_moves, lo_moves}
use Rattle.lowered_tree.specs.Modest.{HasModestLeaves, IsWithin, farthest_end}
use Rattle.std.proofs.lemmas.Option.{IfSome_then}

abbrev AreWithin : Option Frame → ℕ → Type 0
AreWithin o n = IfSome o (IsWithin n)

wider : (o : Option Frame) (m n : ℕ) → m ≤ n → AreWithin o m → AreWithin o n
wider o m n h w = IfSome_then o w (λ f near. (omega (arith, near.0), omega (arith, near.1)))

join_within : (a b : Frame) (n : ℕ) → IsWithin n a → IsWithin n b → (t : Bool)
    → nat_le (least_common a.period b.period) WIDTH ≡ t → AreWithin (join_of a b) n
join_within a b n v w true e =
    rw e ((omega (arith, ints, clamps, v.0, w.0), omega (arith, ints, clamps, v.1, w.1)))
join_within a b n v w false e = rw e tt

join_framed-within : (a b : Option Frame) (n : ℕ) → AreWithin a n → AreWithin b n
    → AreWithin (join_framed a b) n
join_framed-within (Some a) (Some b) n v w =
    join_within a b n v w (nat_le (least_common a.period b.period) WIDTH) refl
join_framed-within (Some a) None n v w = tt
join_framed-within None (Some b) n v w = tt
join_framed-within None None n v w = tt

moved-within : (lo hi : ℤ) (o : Option Frame) (n k : ℕ) → unsigned_abs lo ≤ k → unsigned_abs hi ≤ k
    → AreWithin o n → AreWithin (option_map (moved lo hi) o) (n + 2 * k)
moved-within lo hi (Some f) n k h g w = (omega (arith, ints, w.0, h), omega (arith, ints, w.1, g))
moved-within lo hi None n k h g w = tt

opened-within : (o : Option Frame) (n : ℕ) → 2 ^ 41 ≤ n → HasPeriod o → AreWithin o n
    → AreWithin (option_map opened o) (n + 2 ^ 42)
opened-within (Some f) n h p w =
    let width : f.period ≤ WIDTH = p.1 in
    (omega (arith, ints, clamps, w.0, h), omega (arith, ints, clamps, w.1, h, width))
opened-within None n h p w = tt

modest_within : (frame : Frame) (n : ℕ) → 2 ^ 42 ≤ n → AreModest frame → IsWithin n frame
modest_within frame n h modest = (
  omega (arith, ints, h, modest.lo_low, modest.lo_high),
  omega (arith, ints, h, modest.hi_low, modest.hi_high),
)

-- an end of a span lies near the calendar range
abbrev IsNear : Pos → Type 0
IsNear p = (position_of LOW ≤ℤ (p.0 +ℤ pos 1)) × (p.0 ≤ℤ (position_of HIGH +ℤ pos 1))

first_near : (b : Bound) → IsGiven b → IfSome (first_from b) IsNear
first_near (Closed t) h = (omega (arith, ints, h.0), omega (arith, ints, h.1))
first_near (Open t) h = (omega (arith, ints, h.0), omega (arith, ints, h.1))
first_near Inf h = tt
first_near Edge h = absurd h

last_near : (b : Bound) → IsGiven b → IfSome (last_to b) IsNear
last_near (Closed t) h = (omega (arith, ints, h.0), omega (arith, ints, h.1))
last_near (Open t) h = (omega (arith, ints, h.0), omega (arith, ints, h.1))
last_near Inf h = tt
last_near Edge h = absurd h

ends_modest : (first last : Option Pos) → IfSome first IsNear → IfSome last IsNear
    → AreModest (frame_from (span_hi first last) (span_lo first last))
ends_modest (Some a) (Some b) h k =
    record {
      lo_low = omega (arith, ints, h.0);
      lo_high = omega (arith, ints, h.1);
      hi_low = omega (arith, ints, k.0);
      hi_high = omega (arith, ints, k.1);
    }
ends_modest (Some a) None h k =
    record {
      lo_low = omega (arith, ints, h.0);
      lo_high = omega (arith, ints, h.1);
      hi_low = omega (arith, ints, h.0);
      hi_high = omega (arith, ints, h.1);
    }
ends_modest None (Some b) h k =
    record {
      lo_low = omega (arith, ints, k.0);
      lo_high = omega (arith, ints, k.1);
      hi_low = omega (arith, ints, k.0);
      hi_high = omega (arith, ints, k.1);
    }
ends_modest None None h k =
    record {
      lo_low = omega (arith, ints);
      lo_high = omega (arith, ints);
      hi_low = omega (arith, ints);
      hi_high = omega (arith, ints);
    }

pub span_modest : (bounds : Bound × Bound) → IsSpan bounds.0 bounds.1
    → AreModest (span_frame bounds)
span_modest bounds span =
    ends_modest (first_from bounds.0) (last_to bounds.1) (first_near bounds.0 span.low_given)
    (last_near bounds.1 span.high_given)

some_node : (t : Tree Meaning) → 1 ≤ nodes_of t
some_node Empty = omega arith
some_node (Spanned bounds low high) = omega arith
some_node (Ruled rule) = omega arith
some_node (Joined op a b) = omega arith
some_node (Pairs a b) = omega arith
some_node (Unary op a) = omega arith

module _ (periods : FramesHavePeriods) (moves : FramesMoveWithinReach) where
  tree_near : (t : Tree Meaning) → AreLawful t → HasModestLeaves t → AreWithin (frame_of_tree t)
      (farthest_end t)
  tree_near Empty law modest = (omega (arith, ints), omega (arith, ints))
  tree_near (Spanned bounds low high) law modest =
      modest_within (span_frame bounds) (farthest_end (Spanned bounds low high)) (omega arith)
      modest
  tree_near (Ruled rule) law modest =
      IfSome_then rule.frame modest
      (λ f m. modest_within f (farthest_end (Ruled rule)) (omega arith) m)
  tree_near (Joined op a b) law modest =
      join_framed-within (frame_of_tree a) (frame_of_tree b) (farthest_end (Joined op a b))
      (wider (frame_of_tree a) (farthest_end a) (farthest_end (Joined op a b)) (omega arith)
      (tree_near a law.0 modest.0))
      (wider (frame_of_tree b) (farthest_end b) (farthest_end (Joined op a b)) (omega arith)
      (tree_near b law.1 modest.1))
  tree_near (Pairs a b) law modest =
      let one = some_node a in
      let n = 2 ^ 42 * (nodes_of a + nodes_of b) + 2 * max (reach_of a) (reach_of b) in
      wider (option_map opened (join_framed (frame_of_tree a) (frame_of_tree b))) (n + 2 ^ 42)
      (farthest_end (Pairs a b)) (omega arith)
      (opened-within (join_framed (frame_of_tree a) (frame_of_tree b)) n (omega arith)
      (periods (Joined Union a b) law)
      (join_framed-within (frame_of_tree a) (frame_of_tree b) n
      (wider (frame_of_tree a) (farthest_end a) n (omega arith) (tree_near a law.0 modest.0))
      (wider (frame_of_tree b) (farthest_end b) n (omega arith) (tree_near b law.1 modest.1))))
  tree_near (Unary op a) law modest =
      let far = moves op in
      wider (option_map (moved (lo_moves op) (hi_moves op)) (frame_of_tree a))
      (farthest_end a + 2 * looks_past op) (farthest_end (Unary op a)) (omega arith)
      (moved-within (lo_moves op) (hi_moves op) (frame_of_tree a) (farthest_end a) (looks_past op)
      far.0 far.1 (tree_near a law modest))

  -- what the bound says of a tree that isn't too large
  pub ends_below : (t : Tree Meaning) (o : Option Frame) → AreLawful t → HasModestLeaves t
      → nodes_of t ≤ 2 ^ 12 → pos (reach_of t) ≤ℤ REACH → o ≡ frame_of_tree t
      → IfSome o (IsWithin (2 ^ 60))
  ends_below t o law modest small reach e =
      rw e (wider (frame_of_tree t) (farthest_end t) (2 ^ 60) (omega (arith, ints, small, reach))
      (tree_near t law modest))

  pub joined_period : (a b : Tree Meaning) → AreLawful a → AreLawful b
      → HasPeriod (join_framed (frame_of_tree a) (frame_of_tree b))
  joined_period a b one other = periods (Joined Union a b) (one, other)

  pub joined_below : (a b : Tree Meaning) → AreLawful a → AreLawful b → HasModestLeaves a
      → HasModestLeaves b → 1 + nodes_of a + nodes_of b ≤ 2 ^ 12
      → pos (max (reach_of a) (reach_of b)) ≤ℤ REACH
      → IfSome (join_framed (frame_of_tree a) (frame_of_tree b)) (IsWithin (2 ^ 60))
  joined_below a b one other modest ends small reach =
      ends_below (Joined Union a b) (join_framed (frame_of_tree a) (frame_of_tree b)) (
        one,
        other,
      ) (modest, ends) small reach refl
