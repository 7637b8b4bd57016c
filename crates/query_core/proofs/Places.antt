-- The places of searches, the stops that are due there, and that none is for an ample budget.
use Rattle.std.proofs.Common.{◌≡◌, inl, inr, refl, sym, subst, ℕ, zero, suc, ℤ, pos, ◌≤ℤ◌, Bool, true, false}
use Rattle.moment_core.specs.Line.{IsCalendarMoment, IsCalendarPosition, position_of}
use Rattle.moment_core.specs.Sets.{IsNextChange}
use Rattle.moment_core.specs.declared.line.Dir.{Dir}
use Rattle.moment_core.specs.declared.line.Dir.TheVariants.{Back}
use Rattle.moment_core.specs.declared.line.TheConstants.{REACH}
use Rattle.moment_core.proofs.LineLaws.{position_in_range}
use Rattle.span_core.specs.declared.answers.Stop.{Stop}
use Rattle.stored_pair.specs.Meanings.{Meaning}
use Rattle.expr_tree.specs.Members.{is_member}
use Rattle.expr_tree.specs.Sorts.{reach_of}
use Rattle.expr_tree.specs.Tree.{Tree}
use Rattle.search_core.specs.Ample.{IsAboveSearch, IsAmple}
use Rattle.search_core.specs.Due.{IsDue}
use Rattle.search_core.specs.Laws.{EnoughNeverStops}
use Rattle.run_search.specs.Laws.{AmpleFindsAll, EnoughFindsAll}
use Rattle.run_search.specs.Places.{IsAmpleAt, IsPlaceWithin, IsStopAt, PlacesWithin}
use Rattle.query_core.specs.Answering.{PlacesAround, PlacesBeside, PlacesOfClosest, PlacesOfCurrent, PlacesOfNext}

first_place : (set : ℤ → Bool) (dir : Dir) (n : ℕ) (p : ℤ) → IsPlaceWithin set dir n p p
first_place set dir zero p = refl
first_place set dir (suc n) p = inl refl

more_places : (set : ℤ → Bool) (dir : Dir) (n : ℕ) (p place : ℤ) → IsPlaceWithin set dir n p place
    → IsPlaceWithin set dir (suc n) p place
more_places set dir zero p place h = inl h
more_places set dir (suc n) p place (inl h) = inl h
more_places set dir (suc n) p place (inr (x, c, near, inl h)) = inr (x, c, near, inl h)
more_places set dir (suc n) p place (inr (x, c, near, inr h)) =
    inr (x, c, near, inr (more_places set dir n x place h))

pub stop_here : (set : ℤ → Bool) (due : Dir → ℤ → ℕ → Stop → Type 0) (dir : Dir) (n : ℕ) (p : ℤ)
    (budget : ℕ) (s : Stop) → due dir p budget s → IsStopAt (PlacesWithin set dir n p) due budget s
stop_here set due dir n p budget s h = (dir, p, (refl, first_place set dir n p), h)

pub more_stops : (set : ℤ → Bool) (due : Dir → ℤ → ℕ → Stop → Type 0) (dir : Dir) (n : ℕ) (p : ℤ)
    (budget : ℕ) (s : Stop) → IsStopAt (PlacesWithin set dir n p) due budget s
    → IsStopAt (PlacesWithin set dir (suc n) p) due budget s
more_stops set due dir n p budget s h = (h.0, h.1, (h.2.0, more_places set dir n p h.1 h.2.1), h.3)

pub later_stop : (set : ℤ → Bool) (due : Dir → ℤ → ℕ → Stop → Type 0) (dir : Dir) (n : ℕ) (p x : ℤ)
    (budget : ℕ) (s : Stop) → IsNextChange set dir p x → IsCalendarPosition x
    → IsStopAt (PlacesWithin set dir n x) due budget s → IsStopAt (PlacesWithin set dir (suc n) p)
    due budget s
later_stop set due dir n p x budget s c here h =
    (h.0, h.1, (h.2.0, inr (x, c, here, inr h.2.1)), h.3)

-- a stop of one of the searches past a moment that is no member
pub stop_beside : (set : ℤ → Bool) (due : Dir → ℤ → ℕ → Stop → Type 0) (dir : Dir) (at : ℤ)
    (budget : ℕ) (s : Stop) → IsStopAt (PlacesWithin set dir 1 (position_of at)) due budget s
    → IsStopAt (PlacesBeside set at) due budget s
stop_beside set due dir at budget s h =
    let P : Dir → Type 0 = λ d. IsPlaceWithin set d 2 (position_of at) h.1 in
    (h.0, h.1, (refl, subst P (sym h.2.0) (more_places set dir 1 (position_of at) h.1 h.2.1)), h.3)

pub closest_beside : (set : ℤ → Bool) (due : Dir → ℤ → ℕ → Stop → Type 0) (at : ℤ) (budget : ℕ)
    (s : Stop) → set (position_of at) ≡ false → IsStopAt (PlacesBeside set at) due budget s
    → IsStopAt (PlacesOfClosest set at) due budget s
closest_beside set due at budget s gap h = (h.0, h.1, inr (gap, h.2), h.3)

pub current_past : (set : ℤ → Bool) (due : Dir → ℤ → ℕ → Stop → Type 0) (at : ℤ) (budget : ℕ)
    (s : Stop) → set (position_of at) ≡ false → IsStopAt (PlacesWithin set Back 1 (position_of at))
    due budget s → IsStopAt (PlacesOfCurrent set at) due budget s
current_past set due at budget s gap h =
    (h.0, h.1, inr (gap, (h.2.0, more_places set Back 1 (position_of at) h.1 h.2.1)), h.3)

-- a stop of the test at the moment
pub current_test : (set : ℤ → Bool) (due : Dir → ℤ → ℕ → Stop → Type 0) (at : ℤ) (budget : ℕ)
    (s : Stop) → ((d : Dir) → due d (position_of at) budget s) → IsStopAt (PlacesOfCurrent set at)
    due budget s
current_test set due at budget s h =
    elim (set (position_of at)) as (λ b. set (position_of at) ≡ b
    → IsStopAt (PlacesOfCurrent set at) due budget s) [
      | true ↦ λ e. (Back, position_of at, inl (e, refl), h Back)
      | false ↦ λ e. (
        Back,
        position_of at,
        inr (e, (refl, first_place set Back 2 (position_of at))),
        h Back,
      )
    ] refl

pub closest_test : (set : ℤ → Bool) (due : Dir → ℤ → ℕ → Stop → Type 0) (at : ℤ) (budget : ℕ)
    (s : Stop) → ((d : Dir) → due d (position_of at) budget s) → IsStopAt (PlacesOfClosest set at)
    due budget s
closest_test set due at budget s h =
    elim (set (position_of at)) as (λ b. set (position_of at) ≡ b
    → IsStopAt (PlacesOfClosest set at) due budget s) [
      | true ↦ λ e. (Back, position_of at, inl (e, refl), h Back)
      | false ↦ λ e. (
        Back,
        position_of at,
        inr (e, (refl, first_place set Back 2 (position_of at))),
        h Back,
      )
    ] refl

-- no stop is due for an ample budget
module _ (ample : AmpleFindsAll) where
  pub ample_next : (tree : Tree Meaning) (dir : Dir) (budget : ℕ) (at : ℤ)
      → pos (reach_of tree) ≤ℤ REACH → IsCalendarMoment at → IsAmple tree budget
      → IsAmpleAt (PlacesOfNext (is_member tree) dir at) (IsDue tree) budget
  ample_next tree dir budget at reach here enough =
      ample tree dir 2 (position_of at) budget reach (position_in_range at here) enough

  ample_around : (tree : Tree Meaning) (budget : ℕ) (at : ℤ) → pos (reach_of tree) ≤ℤ REACH
      → IsCalendarMoment at → IsAmple tree budget → IsAmpleAt (PlacesAround (position_of at))
      (IsDue tree) budget
  ample_around tree budget at reach here enough d place same =
      ample tree d 0 (position_of at) budget reach (position_in_range at here) enough d place (
        refl,
        same,
      )

  pub ample_current : (tree : Tree Meaning) (budget : ℕ) (at : ℤ) → pos (reach_of tree) ≤ℤ REACH
      → IsCalendarMoment at → IsAmple tree budget → IsAmpleAt (PlacesOfCurrent (is_member tree) at)
      (IsDue tree) budget
  ample_current tree budget at reach here enough d place (inl h) =
      ample_around tree budget at reach here enough d place h.1
  ample_current tree budget at reach here enough d place (inr h) =
      ample_next tree Back budget at reach here enough d place h.1

  pub ample_closest : (tree : Tree Meaning) (budget : ℕ) (at : ℤ) → pos (reach_of tree) ≤ℤ REACH
      → IsCalendarMoment at → IsAmple tree budget → IsAmpleAt (PlacesOfClosest (is_member tree) at)
      (IsDue tree) budget
  ample_closest tree budget at reach here enough d place (inl h) =
      ample_around tree budget at reach here enough d place h.1
  ample_closest tree budget at reach here enough d place (inr h) =
      ample_next tree d budget at reach here enough d place h.1

-- nor for one above the candidates of each search
module _ (each : EnoughNeverStops) (enough : EnoughFindsAll) where
  pub enough_next : (tree : Tree Meaning) (dir : Dir) (budget : ℕ) (at : ℤ) → IsCalendarMoment at
      → ((d : Dir) (place : ℤ) → PlacesOfNext (is_member tree) dir at d place
      → IsAboveSearch tree d place budget) → IsAmpleAt (PlacesOfNext (is_member tree) dir at)
      (IsDue tree) budget
  enough_next tree dir budget at here above =
      enough tree dir 2 (position_of at) budget (position_in_range at here) above

  enough_here : (tree : Tree Meaning) (budget : ℕ) (at : ℤ) (d : Dir) (place : ℤ)
      → IsCalendarMoment at → place ≡ position_of at → IsAboveSearch tree d place budget
      → (s : Stop) → IsDue tree d place budget s → ⊥
  enough_here tree budget at d place here same above =
      let P : ℤ → Type 0 = λ z. IsCalendarPosition z in
      each tree d place budget (subst P (sym same) (position_in_range at here)) above

  pub enough_current : (tree : Tree Meaning) (budget : ℕ) (at : ℤ) → IsCalendarMoment at
      → ((d : Dir) (place : ℤ) → PlacesOfCurrent (is_member tree) at d place
      → IsAboveSearch tree d place budget) → IsAmpleAt (PlacesOfCurrent (is_member tree) at)
      (IsDue tree) budget
  enough_current tree budget at here above d place (inl h) =
      enough_here tree budget at d place here h.1 (above d place (inl h))
  enough_current tree budget at here above d place (inr h) =
      enough_next tree Back budget at here (λ e q k. above e q (inr (h.0, k))) d place h.1

  pub enough_closest : (tree : Tree Meaning) (budget : ℕ) (at : ℤ) → IsCalendarMoment at
      → ((d : Dir) (place : ℤ) → PlacesOfClosest (is_member tree) at d place
      → IsAboveSearch tree d place budget) → IsAmpleAt (PlacesOfClosest (is_member tree) at)
      (IsDue tree) budget
  enough_closest tree budget at here above d place (inl h) =
      enough_here tree budget at d place here h.1 (above d place (inl h))
  enough_closest tree budget at here above d place (inr h) =
      enough_next tree d budget at here (λ e q k. above e q (inr (h.0, by_side e q k))) d place h.1
    where
      by_side : (e : Dir) (q : ℤ) → PlacesOfNext (is_member tree) d at e q
          → PlacesOfNext (is_member tree) e at e q
      by_side e q k = let P : Dir → Type 0 =
          λ x. PlacesOfNext (is_member tree) x at e q in subst P (sym k.0) k
