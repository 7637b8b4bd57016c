-- Bounds as positions: what lies between two of them.
use Rattle.std.proofs.Common.{◌≡◌, ◌⊎◌, ◌↔◌, inl, inr, refl, sym, subst, ◌∙◌, arith, ℤ, pos, ◌+ℤ◌, ◌-ℤ◌, ◌≤ℤ◌, ◌<ℤ◌, Bool, true, false, not, ◌&&◌, ◌||◌, Some, None, Result, Ok, Err, IfOk, IfSome, IsErr, IsNone, IsTrue, int_le}
use Rattle.std.specs.Result.{result_ok}
use Rattle.std.proofs.lemmas.Bool.{cases_Bool, and_parts, and_from, or_cases, or_left, or_right, both_ways, not-true, not_from_false, false_from_ne_true}
use Rattle.std.proofs.lemmas.Int.{ints}
use Rattle.moment_core.specs.Line.{position_of}
use Rattle.moment_core.specs.declared.line.Pos.{Pos}
use Rattle.span_core.specs.Bounds.{IsGiven, IsOneStretch, IsSpan, ends_after, first_from, last_to, lies_between, reaches}
use Rattle.span_core.specs.declared.bounds.Bound.{Bound}
use Rattle.span_core.specs.declared.bounds.Bound.TheVariants.{Closed, Open, Inf, Edge}
use Rattle.span_core.specs.declared.stretch.Empty.{Empty}
use Rattle.moment_core.proofs.Comparing.{int_le-below, int_le-false, int_le-true, le-int_le, lt-int_le}
use Rattle.std.proofs.Math.Bool.{or_comm}

-- where there is a first position, the positions from it on are those that a low bound reaches,
-- else all are
pub reaches-from : (low : Bound) (first : Pos) → first_from low ≡ Some first → (p : ℤ)
    → reaches low p ≡ int_le first.0 p
reaches-from (Closed t) first e p = cc
reaches-from (Open t) first e p = cc
reaches-from Inf first e p = absurd cc
reaches-from Edge first e p = absurd cc

pub reaches-all : (low : Bound) → first_from low ≡ None → (p : ℤ) → reaches low p ≡ true
reaches-all (Closed t) e p = absurd cc
reaches-all (Open t) e p = absurd cc
reaches-all Inf e p = refl
reaches-all Edge e p = refl

pub ends_after-to : (high : Bound) (last : Pos) → last_to high ≡ Some last → (p : ℤ)
    → ends_after high p ≡ int_le p last.0
ends_after-to (Closed t) last e p = cc
ends_after-to (Open t) last e p =
    let before : position_of t.0 -ℤ pos 1 ≡ last.0 = cc in
    int_le-below p last.0 (position_of t.0) (omega (arith, ints))
ends_after-to Inf last e p = absurd cc
ends_after-to Edge last e p = absurd cc

pub ends_after-all : (high : Bound) → last_to high ≡ None → (p : ℤ) → ends_after high p ≡ true
ends_after-all (Closed t) e p = absurd cc
ends_after-all (Open t) e p = absurd cc
ends_after-all Inf e p = refl
ends_after-all Edge e p = refl

-- a later position is reached too, and an earlier one is not past the end either
pub reaches-later : (low : Bound) (p q : ℤ) → p ≤ℤ q → reaches low p ≡ true → reaches low q ≡ true
reaches-later (Closed t) p q h e = grind (arith, ints)
reaches-later (Open t) p q h e = grind (arith, ints)
reaches-later Inf p q h e = refl
reaches-later Edge p q h e = refl

pub ends_after-earlier : (high : Bound) (p q : ℤ) → p ≤ℤ q → ends_after high q ≡ true
    → ends_after high p ≡ true
ends_after-earlier (Closed t) p q h e = grind (arith, ints)
ends_after-earlier (Open t) p q h e = grind (arith, ints)
ends_after-earlier Inf p q h e = refl
ends_after-earlier Edge p q h e = refl

-- given bounds whose positions are in order have one of them between them
pub IsSpan-first-last : (low high : Bound) → IsGiven low → IsGiven high → (first last : Pos)
    → first_from low ≡ Some first → last_to high ≡ Some last → first.0 ≤ℤ last.0 → IsSpan low high
IsSpan-first-last low high g h first last e f ordered = record {
  low_given = g;
  high_given = h;
  some = (
    first.0,
    and_from _ _
        (reaches-from low first e first.0 ∙ le-int_le first.0 first.0 (omega (arith, ints)))
        (ends_after-to high last f first.0 ∙ le-int_le first.0 last.0 ordered),
  );
}

pub IsSpan-from : (low high : Bound) → IsGiven low → IsGiven high → (first : Pos) → first_from low
    ≡ Some first → last_to high ≡ None → IsSpan low high
IsSpan-from low high g h first e f = record {
  low_given = g;
  high_given = h;
  some = (
    first.0,
    and_from _ _
        (reaches-from low first e first.0 ∙ le-int_le first.0 first.0 (omega (arith, ints)))
        (ends_after-all high f first.0),
  );
}

pub IsSpan-to : (low high : Bound) → IsGiven low → IsGiven high → first_from low ≡ None
    → IsSpan low high
IsSpan-to low high g h e = elim (last_to high) as (λ o. last_to high ≡ o → IsSpan low high) [
  | Some last ↦ λ f. record {
    low_given = g;
    high_given = h;
    some = (
      last.0,
      and_from _ _ (reaches-all low e last.0)
          (ends_after-to high last f last.0 ∙ le-int_le last.0 last.0 (omega (arith, ints))),
    );
  }
  | None ↦ λ f. record {
    low_given = g;
    high_given = h;
    some = (pos 0, and_from _ _ (reaches-all low e (pos 0)) (ends_after-all high f (pos 0)));
  }
] refl

-- some position lies above a high bound and below a low one
abbrev pub IsGap : Bound → Bound → Type 0
IsGap high low = (p : ℤ) × (ends_after high p ≡ false) × (reaches low p ≡ false)

pub IsGap-apart : (high low : Bound) (last first : Pos) → last_to high ≡ Some last → first_from low
    ≡ Some first → (last.0 +ℤ pos 1) <ℤ first.0 → IsGap high low
IsGap-apart high low last first e f h = (
  last.0 +ℤ pos 1,
  ends_after-to high last e _ ∙ lt-int_le _ last.0 (omega (arith, ints)),
  reaches-from low first f _ ∙ lt-int_le first.0 _ h,
)

pub apart-IsGap : (high low : Bound) (last first : Pos) → last_to high ≡ Some last → first_from low
    ≡ Some first → IsGap high low → (last.0 +ℤ pos 1) <ℤ first.0
apart-IsGap high low last first e f gap =
    let p : ℤ = gap.0 in
    let above = int_le-false p last.0 (sym (ends_after-to high last e p) ∙ gap.1) in
    let below = int_le-false first.0 p (sym (reaches-from low first f p) ∙ gap.2) in
    omega (arith, ints)

-- what lies above one low bound and below another high one lies in one of the two spans, where no
-- gap is between them
joined : (a b c d : Bound) (q : ℤ) → (IsGap b c → ⊥) → reaches a q ≡ true → ends_after d q ≡ true
    → (lies_between a b q || lies_between c d q) ≡ true
joined a b c d q no_gap low high =
    elim (cases_Bool (ends_after b q)) [
      | inl within ↦ or_left _ _ (and_from _ _ low within)
      | inr above ↦ elim (cases_Bool (reaches c q)) [
        | inl begun ↦ or_right _ _ (and_from _ _ begun high)
        | inr below ↦ absurd (no_gap (q, above, below))
      ]
    ]

-- past a position of one of two spans one of them has begun, and before it one has not ended
either_begun : (a b c d : Bound) (p q : ℤ) → p ≤ℤ q → (lies_between a b p || lies_between c d p)
    ≡ true → (reaches a q ≡ true) ⊎ (reaches c q ≡ true)
either_begun a b c d p q h e = elim (or_cases (lies_between a b p) (lies_between c d p) e) [
  | inl x ↦ inl (reaches-later a p q h (and_parts (reaches a p) (ends_after b p) x).0)
  | inr y ↦ inr (reaches-later c p q h (and_parts (reaches c p) (ends_after d p) y).0)
]

either_open : (a b c d : Bound) (q r : ℤ) → q ≤ℤ r → (lies_between a b r || lies_between c d r)
    ≡ true → (ends_after b q ≡ true) ⊎ (ends_after d q ≡ true)
either_open a b c d q r h e = elim (or_cases (lies_between a b r) (lies_between c d r) e) [
  | inl x ↦ inl (ends_after-earlier b q r h (and_parts (reaches a r) (ends_after b r) x).1)
  | inr y ↦ inr (ends_after-earlier d q r h (and_parts (reaches c r) (ends_after d r) y).1)
]

-- without a gap either way two spans are one stretch
pub one_stretch : (a b c d : Bound) → (IsGap b c → ⊥) → (IsGap d a → ⊥)
    → IsOneStretch (λ p. lies_between a b p || lies_between c d p)
one_stretch a b c d no_gap none_back p q r pq qr in_p in_r =
    let begun : (reaches a q ≡ true) ⊎ (reaches c q ≡ true) = either_begun a b c d p q pq in_p in
    let unended : (ends_after b q ≡ true) ⊎ (ends_after d q ≡ true) = either_open a b c d q r qr
    in_r in
    elim begun [
      | inl x ↦ elim unended [
        | inl y ↦ or_left (lies_between a b q) (lies_between c d q)
            (and_from (reaches a q) (ends_after b q) x y)
        | inr y ↦ joined a b c d q no_gap x y
      ]
      | inr x ↦ elim unended [
        | inl y ↦ or_comm (lies_between a b q) (lies_between c d q)
            ∙ joined c d a b q none_back x y
        | inr y ↦ or_right (lies_between a b q) (lies_between c d q)
            (and_from (reaches c q) (ends_after d q) x y)
      ]
    ]

-- a position that a high bound allows is before one that it does not, and so with a low bound
before : (high : Bound) (p q : ℤ) → ends_after high p ≡ true → ends_after high q ≡ false → p ≤ℤ q
before high p q e f = elim (cases_Bool (int_le p q)) [
  | inl h ↦ int_le-true p q h
  | inr h ↦
      let backwards : q <ℤ p = int_le-false p q h in
      absurd (both_ways _ f (ends_after-earlier high q p (omega (arith, ints)) e))
]

after : (low : Bound) (q r : ℤ) → reaches low q ≡ false → reaches low r ≡ true → q ≤ℤ r
after low q r f e = elim (cases_Bool (int_le q r)) [
  | inl h ↦ int_le-true q r h
  | inr h ↦
      let backwards : r <ℤ q = int_le-false q r h in
      absurd (both_ways _ f (reaches-later low r q (omega (arith, ints)) e))
]

-- with a gap they are not, since each holds some position
pub no_gap : (a b c d : Bound) → IsSpan a b → IsSpan c d
    → IsOneStretch (λ p. lies_between a b p || lies_between c d p) → IsGap b c → ⊥
no_gap a b c d first other stretch gap =
    let q : ℤ = gap.0 in
    let p : ℤ = first.some.0 in
    let r : ℤ = other.some.0 in
    let held = and_parts (reaches a p) (ends_after b p) first.some.1 in
    let other_held = and_parts (reaches c r) (ends_after d r) other.some.1 in
    let pq : p ≤ℤ q = before b p q held.1 gap.1 in
    let qr : q ≤ℤ r = after c q r gap.2 other_held.0 in
    elim (or_cases (lies_between a b q) (lies_between c d q)
    (stretch p q r pq qr (or_left (lies_between a b p) (lies_between c d p) first.some.1)
    (or_right (lies_between a b r) (lies_between c d r) other.some.1))) [
      | inl x ↦ both_ways (ends_after b q) gap.1 (and_parts (reaches a q) (ends_after b q) x).1
      | inr y ↦ both_ways (reaches c q) gap.2 (and_parts (reaches c q) (ends_after d q) y).0
    ]

and_swapped : (w x y z : Bool) → ((w && x) && (y && z)) ≡ ((w && y) && (x && z))
and_swapped true true y z = refl
and_swapped true false true z = refl
and_swapped true false false z = refl
and_swapped false x y z = refl

-- the positions between the later low and the earlier high bound are those of both spans
pub in_both : (low high a b c d : Bound) → ((p : ℤ) → reaches low p ≡ (reaches a p && reaches c p))
    → ((p : ℤ) → ends_after high p ≡ (ends_after b p && ends_after d p)) → (p : ℤ)
    → lies_between low high p ≡ (lies_between a b p && lies_between c d p)
in_both low high a b c d e f p =
    rw (e p, f p) (and_swapped (reaches a p) (reaches c p) (ends_after b p) (ends_after d p))

-- two tests for a gap, either way, tell whether two spans, seen as their bounds, are one stretch
one_stretch_tells : (a b c d : Bound) → IsSpan a b → IsSpan c d → (x y : Bool)
    → (IsTrue x ↔ IsGap b c) → (IsTrue y ↔ IsGap d a) → IsTrue (not x && not y)
    ↔ IsOneStretch (λ p. lies_between a b p || lies_between c d p)
one_stretch_tells a b c d first other x y x_tells y_tells = (
  λ e.
      let parts = and_parts (not x) (not y) e in
      one_stretch a b c d
      (λ gap. both_ways x (not-true x parts.0) (x_tells.1 gap))
      (λ gap. both_ways y (not-true y parts.1) (y_tells.1 gap)),
  λ stretch. and_from (not x) (not y)
      (not_from_false x
      (false_from_ne_true x (λ e. no_gap a b c d first other stretch (x_tells.0 e))))
      (not_from_false y (false_from_ne_true y (λ e. no_gap c d a b other first
      (λ p q r h k in_p in_r. or_comm (lies_between c d q) (lies_between a b q)
      ∙ stretch p q r h k (or_comm (lies_between a b p) (lies_between c d p) ∙ in_p)
      (or_comm (lies_between a b r) (lies_between c d r) ∙ in_r))
      (y_tells.0 e)))),
)

pub touching : (s o : Bound × Bound) (a b c d : Bound) → (a, b) ≡ s → (c, d) ≡ o → IsSpan a b
    → IsSpan c d → (x y z : Bool) → (IsTrue x ↔ IsGap b c) → (IsTrue y ↔ IsGap d a)
    → (not x && not y) ≡ z → IsTrue z ↔ IsOneStretch (λ p. lies_between s.0 s.1 p
    || lies_between o.0 o.1 p)
touching s o a b c d e f first other x y z x_tells y_tells g =
    let P : Bound × Bound → Type 0 =
    λ v. IsTrue z ↔ IsOneStretch (λ p. lies_between v.0 v.1 p || lies_between o.0 o.1 p) in
    let Q : Bound × Bound → Type 0 =
    λ v. IsTrue z ↔ IsOneStretch (λ p. lies_between a b p || lies_between v.0 v.1 p) in
    let R : Bool → Type 0 =
    λ v. IsTrue v ↔ IsOneStretch (λ p. lies_between a b p || lies_between c d p) in
    subst P e (subst Q f (subst R g (one_stretch_tells a b c d first other x y x_tells y_tells)))

-- two spans, seen as their bounds, and what was made of their later low and earlier high bound
abbrev InBoth : Bound × Bound → Bound × Bound → ℤ → Bool
InBoth s o p = lies_between s.0 s.1 p && lies_between o.0 o.1 p

in_both_views : (s o : Bound × Bound) (a b c d low high : Bound) → (a, b) ≡ s → (c, d) ≡ o
    → ((p : ℤ) → reaches low p ≡ (reaches a p && reaches c p))
    → ((p : ℤ) → ends_after high p ≡ (ends_after b p && ends_after d p)) → (p : ℤ)
    → lies_between low high p ≡ InBoth s o p
in_both_views s o a b c d low high e f lows highs p =
    let P : Bound × Bound → Type 0 = λ v. lies_between low high p ≡ InBoth v o p in
    let Q : Bound × Bound → Type 0 = λ v. lies_between low high p ≡ InBoth (a, b) v p in
    subst P e (subst Q f (in_both low high a b c d lows highs p))

pub meet-some : (s o : Bound × Bound) (a b c d low high : Bound) → (a, b) ≡ s → (c, d) ≡ o
    → ((p : ℤ) → reaches low p ≡ (reaches a p && reaches c p))
    → ((p : ℤ) → ends_after high p ≡ (ends_after b p && ends_after d p))
    → (r : Result (Bound × Bound) Empty) → IfOk r (λ v. v ≡ (low, high)) → IfSome (result_ok r)
    (λ v. (p : ℤ) → lies_between v.0 v.1 p ≡ InBoth s o p)
meet-some s o a b c d low high e f lows highs (Ok v) kept = λ p.
    let P : Bound × Bound → Type 0 = λ v. lies_between v.0 v.1 p ≡ InBoth s o p in
    subst P (sym kept) (in_both_views s o a b c d low high e f lows highs p)
meet-some s o a b c d low high e f lows highs (Err x) kept = tt

none-err : {A E : Type 0} (r : Result A E) → IsNone (result_ok r) → IsErr r
none-err (Ok x) e = absurd cc
none-err (Err x) e = refl

err-none : {A E : Type 0} (r : Result A E) → IsErr r → IsNone (result_ok r)
err-none (Ok x) e = absurd cc
err-none (Err x) e = refl

pub meet-none : (s o : Bound × Bound) (a b c d low high : Bound) → (a, b) ≡ s → (c, d) ≡ o
    → ((p : ℤ) → reaches low p ≡ (reaches a p && reaches c p))
    → ((p : ℤ) → ends_after high p ≡ (ends_after b p && ends_after d p))
    → (r : Result (Bound × Bound) Empty) → (IsErr r ↔ ((p : ℤ) → lies_between low high p ≡ false))
    → IsNone (result_ok r) ↔ ((p : ℤ) → InBoth s o p ≡ false)
meet-none s o a b c d low high e f lows highs r empty = (
  λ none p. sym (in_both_views s o a b c d low high e f lows highs p) ∙ empty.0 (none-err r none) p,
  λ none. err-none r (empty.1 (λ p. in_both_views s o a b c d low high e f lows highs p ∙ none p)),
)
