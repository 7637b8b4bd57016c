-- Between two bounds some position lies, or none does.
use Rattle.std.proofs.Common.{◌≡◌, ◌⊎◌, inl, inr, ℕ, pos, ◌<ℤ◌, Bool, true, false, List, [], ◌∷◌, length, Option, Some, None, refl, sym, ◌∙◌, arith, int_le}
use Rattle.std.proofs.lemmas.Bool.{cases_Bool, and_from}
use Rattle.std.proofs.lemmas.Int.{ints}
use Rattle.std.specs.List.{AllByRecursion}
use Rattle.moment_core.specs.declared.line.Pos.{Pos}
use Rattle.span_core.specs.Bounds.{ends_after, first_from, last_to, lies_between, reaches}
use Rattle.span_core.specs.declared.bounds.Bound.{Bound}
use Rattle.moment_core.proofs.Comparing.{int_le-false, int_le-true, le-int_le}
use Rattle.span_core.specs.Laws.{HighBoundsEnd, LowBoundsBegin}
use Rattle.expr_text.specs.Faults.{FirstVacant, HasPosition, IsVacant, here, later}

module _ (begins : LowBoundsBegin) (stops : HighBoundsEnd) where
  module _ (low high : Bound) where
    out_of_order : (first last : Pos) → first_from low ≡ Some first → last_to high ≡ Some last
        → last.0 <ℤ first.0 → IsVacant (low, high)
    out_of_order first last e f less p = by_cases (reaches low p) refl (ends_after high p) refl
      where
        by_cases : (a : Bool) → reaches low p ≡ a → (b : Bool) → ends_after high p ≡ b
            → lies_between low high p ≡ false
        by_cases false d b g = rw d refl
        by_cases true d false g = rw (d, g) refl
        by_cases true d true g =
            let from = int_le-true first.0 p (sym ((begins low).0 first e p) ∙ d) in
            let to = int_le-true p last.0 (sym ((stops high).0 last f p) ∙ g) in
            absurd (omega (arith, ints))

    by_ends : (first last : Option Pos) → first_from low ≡ first → last_to high ≡ last
        → HasPosition (low, high) ⊎ IsVacant (low, high)
    by_ends None None e f =
        inl (pos 0, and_from _ _ ((begins low).1 e (pos 0)) ((stops high).1 f (pos 0)))
    by_ends (Some first) None e f =
        inl (
          first.0,
          and_from _ _ ((begins low).0 first e first.0 ∙ le-int_le first.0 first.0
              (omega (arith, ints))) ((stops high).1 f first.0),
        )
    by_ends None (Some last) e f =
        inl (
          last.0,
          and_from _ _ ((begins low).1 e last.0) ((stops high).0 last f last.0
              ∙ le-int_le last.0 last.0 (omega (arith, ints))),
        )
    by_ends (Some first) (Some last) e f =
        elim (cases_Bool (int_le first.0 last.0)) [
          | inl ordered ↦
              inl (
                first.0,
                and_from _ _ ((begins low).0 first e first.0 ∙ le-int_le first.0 first.0
                    (omega (arith, ints))) ((stops high).0 last f first.0 ∙ ordered),
              )
          | inr less ↦ inr (out_of_order first last e f (int_le-false first.0 last.0 less))
        ]

    pub position_or_vacant : HasPosition (low, high) ⊎ IsVacant (low, high)
    position_or_vacant = by_ends (first_from low) (last_to high) refl refl

  -- so each span has a position, or some span is the first without one
  pub held_or_vacant : (ss : List (Bound × Bound)) (ps : List ℕ) → length ps ≡ length ss
      → AllByRecursion HasPosition ss ⊎ ((byte : ℕ) × FirstVacant ss ps byte)
  held_or_vacant [] ps e = inl tt
  held_or_vacant (s ∷ ss) [] e = absurd (omega (arith, e))
  held_or_vacant (s ∷ ss) (p ∷ ps) e =
      elim (position_or_vacant s.0 s.1) [
        | inr vacant ↦ inr (p, here s ss p ps vacant)
        | inl held ↦ elim (held_or_vacant ss ps (omega (arith, e))) [
          | inl all ↦ inl (held, all)
          | inr f ↦ inr (f.0, later s ss p ps f.0 held f.1)
        ]
      ]

pub one_vacant : (ss : List (Bound × Bound)) (ps : List ℕ) (b c : ℕ) → FirstVacant ss ps b
    → FirstVacant ss ps c → b ≡ c
one_vacant ss ps b c (here s others place places none) (here _ _ _ _ also) = refl
one_vacant ss ps b c (here s others place places none) (later _ _ _ _ _ held found) = let e =
    none held.0 in absurd cc
one_vacant ss ps b c (later s others place places _ held found) (here _ _ _ _ none) = let e =
    none held.0 in absurd cc
one_vacant ss ps b c (later s others place places _ held found) (later _ _ _ _ _ also other) =
    one_vacant others places b c found other

pub none_vacant : (ss : List (Bound × Bound)) (ps : List ℕ) (b : ℕ) → FirstVacant ss ps b
    → AllByRecursion HasPosition ss → ⊥
none_vacant ss ps b (here s others place places none) held = let e = none held.0.0 in absurd cc
none_vacant ss ps b (later s others place places _ has found) held = none_vacant others places b
    found held.1
