-- Every tree repeats by its frame.
use Rattle.std.proofs.Common.{◌≡◌, refl, ◌∙◌, arith, ℤ, pos, ◌+ℤ◌, ◌-ℤ◌, Bool, true, false, Option, Some, None, lit≤}
use Rattle.std.proofs.lemmas.Bool.{and_from, and_left, and_right}
use Rattle.std.proofs.lemmas.Int.{ints}
use Rattle.std.specs.Prelude.{option_map}
use Rattle.moment_core.specs.declared.line.Pos.{Pos}
use Rattle.span_core.specs.Bounds.{ends_after, first_from, last_to, lies_between, reaches}
use Rattle.moment_core.specs.Joining.{joined}
use Rattle.span_core.specs.declared.bounds.Bound.{Bound}
use Rattle.span_core.specs.Laws.{HighBoundsEnd, LowBoundsBegin}
use Rattle.frame_core.specs.Frames.{HasPeriod, IsPeriod, Repeats, RepeatsIfFramed, join_of}
use Rattle.frame_core.specs.declared.frames.Frame.{Frame}
use Rattle.frame_core.specs.Laws.{ConstantSetsRepeat, JoinedPeriods, SetsRepeatTogether}
use Rattle.expr_tree.specs.Laws.{IsBetweenMoments, LastsFromMoment}
use Rattle.expr_tree.specs.Lists.{bottom, frame_from, top}
use Rattle.expr_tree.specs.Members.{is_member}
use Rattle.stored_pair.specs.Meanings.{Meaning}
use Rattle.moment_core.proofs.Comparing.{le-int_le, lt-int_le}
use Rattle.expr_tree.specs.Tree.{Tree, Empty, Spanned, Ruled, Joined, Pairs, Unary}
use Rattle.search_core.specs.Lawful.{AreLawful}
use Rattle.search_core.specs.TreeFrames.{frame_of_tree, join_framed, moved, opened, span_hi, span_lo}
use Rattle.search_core.specs.Unary.{hi_moves, lo_moves}
use Rattle.search_core.proofs.Repeating.{pairs_framed, unary_framed}

span_repeats_at : ConstantSetsRepeat → LowBoundsBegin → HighBoundsEnd
    → (low high : Bound) (first last : Option Pos) → first_from low ≡ first → last_to high ≡ last
    → Repeats (λ p. lies_between low high p) (frame_from (span_hi first last) (span_lo first last))
span_repeats_at constant lows highs low high (Some first) (Some last) e f =
    constant (λ p. lies_between low high p) (frame_from (last.0 +ℤ pos 1) (first.0 -ℤ pos 1))
    false false
    (λ p h. and_right (reaches low p) (ends_after high p) ((highs high).0 last f p
    ∙ lt-int_le p last.0 (omega (arith, ints, h))))
    (λ p h. and_left (reaches low p) (ends_after high p) ((lows low).0 first e p
    ∙ lt-int_le first.0 p (omega (arith, ints))))
span_repeats_at constant lows highs low high (Some first) None e f =
    constant (λ p. lies_between low high p) (frame_from first.0 (first.0 -ℤ pos 1)) true false
    (λ p h. and_from (reaches low p) (ends_after high p) ((lows low).0 first e p
    ∙ le-int_le first.0 p h) ((highs high).1 f p))
    (λ p h. and_left (reaches low p) (ends_after high p) ((lows low).0 first e p
    ∙ lt-int_le first.0 p (omega (arith, ints))))
span_repeats_at constant lows highs low high None (Some last) e f =
    constant (λ p. lies_between low high p) (frame_from (last.0 +ℤ pos 1) last.0) false true
    (λ p h. and_right (reaches low p) (ends_after high p) ((highs high).0 last f p
    ∙ lt-int_le p last.0 (omega (arith, ints, h))))
    (λ p h. and_from (reaches low p) (ends_after high p) ((lows low).1 e p) ((highs high).0 last f p
    ∙ le-int_le p last.0 h))
span_repeats_at constant lows highs low high None None e f =
    constant (λ p. lies_between low high p) (frame_from bottom top) true true
    (λ p h. and_from (reaches low p) (ends_after high p) ((lows low).1 e p) ((highs high).1 f p))
    (λ p h. and_from (reaches low p) (ends_after high p) ((lows low).1 e p) ((highs high).1 f p))

joined_period : JoinedPeriods → (a b : Frame) → IsPeriod a.period → IsPeriod b.period
    → (o : Option Frame) → join_of a b ≡ o → HasPeriod o
joined_period periods a b r s (Some joined) e = periods a b joined r s e
joined_period periods a b r s None e = tt

join_framed-period : JoinedPeriods → (a b : Option Frame) → HasPeriod a → HasPeriod b
    → HasPeriod (join_framed a b)
join_framed-period periods (Some a) (Some b) r s = joined_period periods a b r s (join_of a b) refl
join_framed-period periods (Some a) None r s = tt
join_framed-period periods None (Some b) r s = tt
join_framed-period periods None None r s = tt

one_second : IsPeriod 1
one_second = (lit≤ tt, lit≤ tt)

moved_period : (lo hi : ℤ) (o : Option Frame) → HasPeriod o → HasPeriod (option_map (moved lo hi) o)
moved_period lo hi (Some frame) h = h
moved_period lo hi None h = tt

opened_period : (o : Option Frame) → HasPeriod o → HasPeriod (option_map opened o)
opened_period (Some frame) h = h
opened_period None h = tt

pub tree_period : JoinedPeriods → (t : Tree Meaning) → AreLawful t → HasPeriod (frame_of_tree t)
tree_period periods Empty h = one_second
tree_period periods (Spanned bounds low high) h = one_second
tree_period periods (Ruled rule) h = h.period
tree_period periods (Joined op a b) h =
    join_framed-period periods (frame_of_tree a) (frame_of_tree b) (tree_period periods a h.0)
    (tree_period periods b h.1)
tree_period periods (Pairs a b) h =
    opened_period (join_framed (frame_of_tree a) (frame_of_tree b))
    (join_framed-period periods (frame_of_tree a) (frame_of_tree b) (tree_period periods a h.0)
    (tree_period periods b h.1))
tree_period periods (Unary op a) h =
    moved_period (lo_moves op) (hi_moves op) (frame_of_tree a) (tree_period periods a h)

joined_repeats : SetsRepeatTogether → (op : Bool → Bool → Bool) (f g : ℤ → Bool) (a b : Frame)
    → IsPeriod a.period → IsPeriod b.period → Repeats f a → Repeats g b → (o : Option Frame)
    → join_of a b ≡ o → RepeatsIfFramed (λ p. op (f p) (g p)) o
joined_repeats together op f g a b x y r s (Some joined) e = together f g op a b joined x y e r s
joined_repeats together op f g a b x y r s None e = tt

join_framed-repeats : SetsRepeatTogether → (op : Bool → Bool → Bool) (f g : ℤ
    → Bool) (a b : Option Frame) → HasPeriod a → HasPeriod b → RepeatsIfFramed f a
    → RepeatsIfFramed g b → RepeatsIfFramed (λ p. op (f p) (g p)) (join_framed a b)
join_framed-repeats together op f g (Some a) (Some b) x y r s =
    joined_repeats together op f g a b x y r s (join_of a b) refl
join_framed-repeats together op f g (Some a) None x y r s = tt
join_framed-repeats together op f g None (Some b) x y r s = tt
join_framed-repeats together op f g None None x y r s = tt

module _ (constant : ConstantSetsRepeat) (together : SetsRepeatTogether)
    (periods : JoinedPeriods) (lows : LowBoundsBegin) (highs : HighBoundsEnd)
    (lasts : LastsFromMoment) (between : IsBetweenMoments) where
  pub tree_repeats : (t : Tree Meaning) → AreLawful t → RepeatsIfFramed (is_member t)
      (frame_of_tree t)
  tree_repeats Empty h =
      constant (is_member Empty) (frame_from bottom top) false false (λ p h. refl)
      (λ p h. refl)
  tree_repeats (Spanned bounds low high) h =
      span_repeats_at constant lows highs bounds.0 bounds.1 (first_from bounds.0) (last_to bounds.1)
      refl refl
  tree_repeats (Ruled rule) h = h.repeats
  tree_repeats (Joined op a b) h =
      join_framed-repeats together (joined op) (is_member a) (is_member b) (frame_of_tree a)
      (frame_of_tree b)
      (tree_period periods a h.0) (tree_period periods b h.1) (tree_repeats a h.0)
      (tree_repeats b h.1)
  tree_repeats (Pairs a b) h =
      let one = frame_of_tree a in
      let other = frame_of_tree b in
      pairs_framed lasts between (is_member a) (is_member b) (join_framed one other)
      (join_framed-repeats together (λ x y. x) (is_member a) (is_member b) one other
      (tree_period periods a h.0) (tree_period periods b h.1) (tree_repeats a h.0)
      (tree_repeats b h.1))
      (join_framed-repeats together (λ x y. y) (is_member a) (is_member b) one other
      (tree_period periods a h.0) (tree_period periods b h.1) (tree_repeats a h.0)
      (tree_repeats b h.1))
  tree_repeats (Unary op a) h =
      unary_framed lasts between op (is_member a) (frame_of_tree a) (tree_repeats a h)
