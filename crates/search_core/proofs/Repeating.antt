-- Sets that are moved, edges, durations and pairs repeat where what they are made of does.
use Rattle.std.proofs.Common.{◌≡◌, refl, ap, sym, ◌∙◌, arith, ℕ, ◌*◌, ℤ, pos, negsuc, ◌+ℤ◌, ◌-ℤ◌, ◌≤ℤ◌, ◌<ℤ◌, Bool, false, not, ◌&&◌, ◌||◌, Option, Some, None}
use Rattle.std.proofs.lemmas.Int.{by_lt_z, clamps, ints}
use Rattle.std.specs.Ordering.{int_eq}
use Rattle.std.specs.Prelude.{option_map}
use Rattle.moment_core.proofs.LineLaws.{halves}
use Rattle.moment_core.specs.Line.{is_moment, moment_of, position_of}
use Rattle.moment_core.specs.declared.line.TheConstants.{LOW}
use Rattle.moment_core.proofs.Truths.{same_truth}
use Rattle.moment_core.specs.declared.joining.UnaryOp.{UnaryOp}
use Rattle.moment_core.specs.declared.joining.UnaryOp.TheVariants.{Not, During, Starts, Ends, Shift}
use Rattle.frame_core.specs.Frames.{Repeats, RepeatsIfFramed}
use Rattle.frame_core.specs.declared.frames.Frame.{Frame}
use Rattle.expr_tree.specs.Laws.{IsBetween, IsBetweenMoments, IsLasting, LastsFromMoment}
use Rattle.expr_tree.specs.Members.{is_between, lasts_at, unary_at}
use Rattle.search_core.specs.TreeFrames.{moved, opened}
use Rattle.search_core.specs.Unary.{hi_moves, lo_moves}

-- a set that is so many seconds later
shift_repeats : (f : ℤ → Bool) (s : ℤ) (frame : Frame) → Repeats f frame
    → Repeats (λ p. f (p -ℤ position_of s)) (moved s s frame)
shift_repeats f s frame r = record {
  upwards = λ p h.
      let place : p +ℤ pos (2 * frame.period) -ℤ position_of s ≡ p -ℤ position_of s +ℤ pos
      (2 * frame.period) = omega (arith, ints) in
      ap f place ∙ r.upwards (p -ℤ position_of s) (omega (arith, ints));
  downwards = λ p h.
      let place : p -ℤ pos (2 * frame.period) -ℤ position_of s ≡ p -ℤ position_of s -ℤ pos
      (2 * frame.period) = omega (arith, ints) in
      ap f place ∙ r.downwards (p -ℤ position_of s) (omega (arith, ints));
}

half_up : (p : ℤ) (n : ℕ) → position_of (moment_of (p +ℤ pos (2 * n))) ≡ position_of (moment_of p)
    +ℤ pos (2 * n)
half_up p n =
    let here = halves p in
    let there = halves (p +ℤ pos (2 * n)) in
    omega (arith, ints)

half_down : (p : ℤ) (n : ℕ) → position_of (moment_of (p -ℤ pos (2 * n))) ≡ position_of (moment_of p)
    -ℤ pos (2 * n)
half_down p n =
    let here = halves p in
    let there = halves (p -ℤ pos (2 * n)) in
    omega (arith, ints)

int_eq-up : (a b k : ℤ) → int_eq (a +ℤ k) (b +ℤ k) ≡ int_eq a b
int_eq-up a b k = grind (arith, ints)

int_eq-down : (a b k : ℤ) → int_eq (a -ℤ k) (b -ℤ k) ≡ int_eq a b
int_eq-down a b k = grind (arith, ints)

moment_up : (p : ℤ) (n : ℕ) → is_moment (p +ℤ pos (2 * n)) ≡ is_moment p
moment_up p n =
    ap (λ z. int_eq z (p +ℤ pos (2 * n))) (half_up p n) ∙ int_eq-up (position_of (moment_of p)) p
    (pos (2 * n))

moment_down : (p : ℤ) (n : ℕ) → is_moment (p -ℤ pos (2 * n)) ≡ is_moment p
moment_down p n =
    ap (λ z. int_eq z (p -ℤ pos (2 * n))) (half_down p n) ∙ int_eq-down (position_of (moment_of p))
    p (pos (2 * n))

-- a set that asks a position and its two neighbours
abbrev edge_of : (Bool → Bool → Bool → Bool) → (ℤ → Bool) → ℤ → Bool
edge_of op f p = is_moment p && op (f (p -ℤ pos 1)) (f p) (f (p +ℤ pos 1))

edge_repeats : (op : Bool → Bool → Bool → Bool) (f : ℤ → Bool) (frame : Frame) → Repeats f frame
    → Repeats (edge_of op f) (moved (negsuc 0) (pos 1) frame)
edge_repeats op f frame r = record {
  upwards = λ p h.
      let w = pos (2 * frame.period) in
      let before : p +ℤ w -ℤ pos 1 ≡ p -ℤ pos 1 +ℤ w = omega (arith, ints) in
      let after : p +ℤ w +ℤ pos 1 ≡ p +ℤ pos 1 +ℤ w = omega (arith, ints) in
      rw (
        moment_up p frame.period,
        before,
        after,
        r.upwards (p -ℤ pos 1) (omega (arith, ints)),
        r.upwards p (omega (arith, ints)),
        r.upwards (p +ℤ pos 1) (omega (arith, ints)),
      ) refl;
  downwards = λ p h.
      let w = pos (2 * frame.period) in
      let before : p -ℤ w -ℤ pos 1 ≡ p -ℤ pos 1 -ℤ w = omega (arith, ints) in
      let after : p -ℤ w +ℤ pos 1 ≡ p +ℤ pos 1 -ℤ w = omega (arith, ints) in
      rw (
        moment_down p frame.period,
        before,
        after,
        r.downwards (p -ℤ pos 1) (omega (arith, ints)),
        r.downwards p (omega (arith, ints)),
        r.downwards (p +ℤ pos 1) (omega (arith, ints)),
      ) refl;
}

-- a member so many periods of seconds further on
member_up : (f : ℤ → Bool) (frame : Frame) → Repeats f frame → (t : ℤ) → frame.hi.0 ≤ℤ position_of t
    → f (position_of (t +ℤ pos frame.period)) ≡ f (position_of t)
member_up f frame r t h =
    let place : position_of (t +ℤ pos frame.period) ≡ position_of t +ℤ pos (2 * frame.period) =
    omega (arith, ints) in
    ap f place ∙ r.upwards (position_of t) h

member_down : (f : ℤ → Bool) (frame : Frame) → Repeats f frame → (t : ℤ)
    → position_of t ≤ℤ frame.lo.0 → f (position_of (t -ℤ pos frame.period)) ≡ f (position_of t)
member_down f frame r t h =
    let place : position_of (t -ℤ pos frame.period) ≡ position_of t -ℤ pos (2 * frame.period) =
    omega (arith, ints) in
    ap f place ∙ r.downwards (position_of t) h

not_framed : (f : ℤ → Bool) (o : Option Frame) → RepeatsIfFramed f o
    → RepeatsIfFramed (λ p. not (f p)) (option_map (moved (pos 0) (pos 0)) o)
not_framed f (Some frame) r = record {
  upwards = λ p h. ap not (r.upwards p (omega (arith, ints)));
  downwards = λ p h. ap not (r.downwards p (omega (arith, ints)));
}
not_framed f None r = tt

shift_framed : (f : ℤ → Bool) (s : ℤ) (o : Option Frame) → RepeatsIfFramed f o
    → RepeatsIfFramed (λ p. f (p -ℤ position_of s)) (option_map (moved s s) o)
shift_framed f s (Some frame) r = shift_repeats f s frame r
shift_framed f s None r = tt

edge_framed : (op : Bool → Bool → Bool → Bool) (f : ℤ → Bool) (o : Option Frame)
    → RepeatsIfFramed f o → RepeatsIfFramed (edge_of op f) (option_map (moved (negsuc 0) (pos 1)) o)
edge_framed op f (Some frame) r = edge_repeats op f frame r
edge_framed op f None r = tt

module _ (lasts : LastsFromMoment) (between : IsBetweenMoments) where
  during_repeats : (set : ℤ → Bool) (seconds : ℤ) (frame : Frame) → Repeats set frame
      → Repeats (lasts_at set seconds) (moved (pos 0) seconds frame)
  during_repeats set seconds frame r =
      let n = frame.period in
      record {
        upwards =
            λ p h. same_truth (lasts_at set seconds (p +ℤ pos (2 * n))) (lasts_at set seconds p)
            (λ e.
            let x : IsLasting set seconds (p +ℤ pos (2 * n)) =
            (lasts set seconds (p +ℤ pos (2 * n))).0 e in
            let t : ℤ = x.0 in
            let low : position_of t ≤ℤ (p +ℤ pos (2 * n)) = x.2 in
            let high : (p +ℤ pos (2 * n)) <ℤ position_of (t +ℤ seconds) = x.3 in
            let u : ℤ = t -ℤ pos n in
            let back : u +ℤ pos n ≡ t = omega (arith, ints) in
            (lasts set seconds p).1 (
              u,
              sym (member_up set frame r u (omega (arith, ints)))
                  ∙ ap (λ z. set (position_of z)) back ∙ x.1,
              omega (arith, ints),
              omega (arith, ints),
            ))
            (λ e.
            let x : IsLasting set seconds p = (lasts set seconds p).0 e in
            let t : ℤ = x.0 in
            let low : position_of t ≤ℤ p = x.2 in
            let high : p <ℤ position_of (t +ℤ seconds) = x.3 in
            (lasts set seconds (p +ℤ pos (2 * n))).1 (
              t +ℤ pos n,
              member_up set frame r t (omega (arith, ints)) ∙ x.1,
              omega (arith, ints),
              omega (arith, ints),
            ));
        downwards =
            λ p h. same_truth (lasts_at set seconds (p -ℤ pos (2 * n))) (lasts_at set seconds p)
            (λ e.
            let x : IsLasting set seconds (p -ℤ pos (2 * n)) =
            (lasts set seconds (p -ℤ pos (2 * n))).0 e in
            let t : ℤ = x.0 in
            let low : position_of t ≤ℤ (p -ℤ pos (2 * n)) = x.2 in
            let high : (p -ℤ pos (2 * n)) <ℤ position_of (t +ℤ seconds) = x.3 in
            let u : ℤ = t +ℤ pos n in
            let back : u -ℤ pos n ≡ t = omega (arith, ints) in
            (lasts set seconds p).1 (
              u,
              sym (member_down set frame r u (omega (arith, ints)))
                  ∙ ap (λ z. set (position_of z)) back ∙ x.1,
              omega (arith, ints),
              omega (arith, ints),
            ))
            (λ e.
            let x : IsLasting set seconds p = (lasts set seconds p).0 e in
            let t : ℤ = x.0 in
            let low : position_of t ≤ℤ p = x.2 in
            let high : p <ℤ position_of (t +ℤ seconds) = x.3 in
            (lasts set seconds (p -ℤ pos (2 * n))).1 (
              t -ℤ pos n,
              member_down set frame r t (omega (arith, ints)) ∙ x.1,
              omega (arith, ints),
              omega (arith, ints),
            ));
      }

  -- no span is open below the calendar range
  pairs_below : (opens closes : ℤ → Bool) (p : ℤ) → p <ℤ position_of LOW
      → is_between opens closes p ≡ false
  pairs_below opens closes p h = same_truth (is_between opens closes p) false
      (λ e.
      let x : IsBetween opens closes p = (between opens closes p).0 e in
      let t : ℤ = x.0 in
      let low : LOW ≤ℤ t = x.1 in
      let high : position_of t ≤ℤ p = x.3 in
      absurd (omega (arith, ints)))
      (λ e. absurd cc)

  pairs_up : (opens closes : ℤ → Bool) (frame : Frame) → Repeats opens frame → Repeats closes frame
      → (p : ℤ) → (frame.hi.0 +ℤ pos (2 * frame.period)) ≤ℤ p
      → (position_of LOW +ℤ pos (2 * frame.period)) ≤ℤ p
      → is_between opens closes (p +ℤ pos (2 * frame.period)) ≡ is_between opens closes p
  pairs_up opens closes frame r s p above over =
      let n = frame.period in
      let q = p +ℤ pos (2 * n) in
      same_truth (is_between opens closes q) (is_between opens closes p)
      (λ e.
      let x : IsBetween opens closes q = (between opens closes q).0 e in
      let t : ℤ = x.0 in
      let high : position_of t ≤ℤ (p +ℤ pos (2 * n)) = x.3 in
      by_lt_z p (position_of t)
      (λ new.
      let u : ℤ = t -ℤ pos n in
      let back : u +ℤ pos n ≡ t = omega (arith, ints) in
      (between opens closes p).1 (
        u,
        omega (arith, ints),
        sym (member_up opens frame r u (omega (arith, ints))) ∙ ap (λ z. opens (position_of z)) back
            ∙ x.2,
        omega (arith, ints),
        λ v past up. sym (member_up closes frame s v (omega (arith, ints)))
            ∙ x.4 (v +ℤ pos n) (omega (arith, ints)) (omega (arith, ints)),
      ))
      (λ old. (between opens closes p).1 (
        t,
        x.1,
        x.2,
        old,
        λ v past up. x.4 v past (omega (arith, ints)),
      )))
      (λ e.
      let x : IsBetween opens closes p = (between opens closes p).0 e in
      let t : ℤ = x.0 in
      let first : LOW ≤ℤ t = x.1 in
      let high : position_of t ≤ℤ p = x.3 in
      let earlier = λ (v : ℤ). closes (position_of (v -ℤ pos n)) in
      let again = λ (v : ℤ) (h : frame.hi.0 ≤ℤ position_of (v -ℤ pos n)).
      (let back : v -ℤ pos n +ℤ pos n ≡ v = omega (arith, ints) in
      sym (ap (λ z. closes (position_of z)) back) ∙ member_up closes frame s (v -ℤ pos n) h) in
      by_lt_z (p -ℤ pos (2 * n)) (position_of t)
      (λ new. (between opens closes q).1 (
        t +ℤ pos n,
        omega (arith, ints),
        member_up opens frame r t (omega (arith, ints)) ∙ x.2,
        omega (arith, ints),
        λ v past up. again v (omega (arith, ints)) ∙ x.4 (v -ℤ pos n) (omega (arith, ints))
            (omega (arith, ints)),
      ))
      (λ old. (between opens closes q).1 (
        t,
        first,
        x.2,
        omega (arith, ints),
        λ v past up. by_lt_z p (position_of v)
            (λ further. again v (omega (arith, ints)) ∙ x.4 (v -ℤ pos n) (omega (arith, ints))
            (omega (arith, ints)))
            (λ within. x.4 v past within),
      )))

  pairs_repeats : (opens closes : ℤ → Bool) (frame : Frame) → Repeats opens frame
      → Repeats closes frame → Repeats (is_between opens closes) (opened frame)
  pairs_repeats opens closes frame r s = record {
    upwards =
        λ p h. pairs_up opens closes frame r s p (omega (arith, ints, clamps))
        (omega (arith, ints, clamps));
    downwards =
        λ p h. pairs_below opens closes (p -ℤ pos (2 * frame.period)) (omega (arith, ints, clamps))
        ∙ sym (pairs_below opens closes p (omega (arith, ints, clamps)));
  }

  pub pairs_framed : (opens closes : ℤ → Bool) (o : Option Frame) → RepeatsIfFramed opens o
      → RepeatsIfFramed closes o → RepeatsIfFramed (is_between opens closes) (option_map opened o)
  pairs_framed opens closes (Some frame) r s = pairs_repeats opens closes frame r s
  pairs_framed opens closes None r s = tt

  during_framed : (set : ℤ → Bool) (seconds : ℤ) (o : Option Frame) → RepeatsIfFramed set o
      → RepeatsIfFramed (lasts_at set seconds) (option_map (moved (pos 0) seconds) o)
  during_framed set seconds (Some frame) r = during_repeats set seconds frame r
  during_framed set seconds None r = tt

  -- what is made of a set repeats by its frame
  pub unary_framed : (op : UnaryOp) (f : ℤ → Bool) (o : Option Frame) → RepeatsIfFramed f o
      → RepeatsIfFramed (unary_at op f) (option_map (moved (lo_moves op) (hi_moves op)) o)
  unary_framed Not f o r = not_framed f o r
  unary_framed (During seconds) f o r = during_framed f seconds o r
  unary_framed Starts f o r =
      edge_framed (λ before here after. (here && not before) || (after && not here)) f o r
  unary_framed Ends f o r =
      edge_framed (λ before here after. (here && not after) || (before && not here)) f o r
  unary_framed (Shift seconds) f o r = shift_framed f seconds o r
