-- The nearest place at which a set may change, made of the places of its parts.
use Rattle.std.proofs.Common.{◌≡◌, refl, ap, sym, subst, ◌∙◌, arith, ℕ, ◌+◌, ◌<◌, ◌≤◌, ℤ, pos, ◌+ℤ◌, ◌-ℤ◌, ◌≤ℤ◌, ◌<ℤ◌, unsigned_abs, Bool, true, false, not, ◌||◌, int_le, Option, Some, None, if◌then◌else◌}
use Rattle.std.proofs.lemmas.Int.{ints}
use Rattle.std.specs.Ordering.{int_eq}
use Rattle.moment_core.specs.Line.{moment_of, position_of}
use Rattle.moment_core.specs.Sets.{ahead, seen, IsUpTo}
use Rattle.moment_core.specs.declared.line.Dir.{Dir}
use Rattle.moment_core.specs.declared.line.Dir.TheVariants.{Fore, Back}
use Rattle.moment_core.specs.declared.line.Pos.{Pos}
use Rattle.span_core.specs.Bounds.{ends_after, first_from, last_to, reaches}
use Rattle.span_core.specs.declared.bounds.Bound.{Bound}
use Rattle.span_core.specs.declared.bounds.Bound.TheVariants.{Closed, Open, Inf, Edge}
use Rattle.moment_core.proofs.LineLaws.{halves}
use Rattle.moment_core.proofs.Comparing.{lt-int_le, le-int_le}
use Rattle.span_core.specs.Laws.{HighBoundsEnd, LowBoundsBegin}
use Rattle.search_core.specs.Candidates.{is_bound_at}
use Rattle.node_turns.specs.Turns.{Follows, IsTurn, StandsIfCounted, TurnsAfter, candidate_at, crossed, is_past, nearer_turn}
use Rattle.node_turns.specs.declared.turns.Turn.{Turn}

pub IsTurn-same : (f g : ℤ → Bool) (dir : Dir) (p end : ℤ) (o : Option Turn) → ((q : ℤ) → f q ≡ g q)
    → IsTurn f dir p end o → IsTurn g dir p end o
IsTurn-same f g dir p end (Some turn) e r = (
  r.0,
  record {
    place = r.1.place;
    within = r.1.within;
    stays = λ k b. sym (e (ahead dir p k)) ∙ r.1.stays k b ∙ e p;
  },
)
IsTurn-same f g dir p end None e r = λ k near. sym (e (ahead dir p k)) ∙ r k near ∙ e p

pub IsTurn-apart : (op : Bool → Bool) (f : ℤ → Bool) (dir : Dir) (p end : ℤ) (o : Option Turn)
    → IsTurn f dir p end o → IsTurn (λ q. op (f q)) dir p end o
IsTurn-apart op f dir p end (Some turn) r =
    (r.0, record { place = r.1.place; within = r.1.within; stays = λ k b. ap op (r.1.stays k b) })
IsTurn-apart op f dir p end None r = λ k near. ap op (r k near)

pub StandsIfCounted-more : (x y : ℤ → Bool) (dir : Dir) (o : Option Turn) → ((q : ℤ) → x q ≡ true
    → y q ≡ true) → StandsIfCounted x dir o → StandsIfCounted y dir o
StandsIfCounted-more x y dir (Some turn) h stands =
    λ counts. h (candidate_at dir turn.place.0) (stands counts)
StandsIfCounted-more x y dir None h stands = tt

-- the nearer of two turns
steps_past : (dir : Dir) (p x y : ℤ) (n m : ℕ) → x ≡ ahead dir p (n + 1) → y ≡ ahead dir p (m + 1)
    → is_past dir x y ≡ true → m < n
steps_past Fore p x y n m e f h = grind (arith, ints)
steps_past Back p x y n m e f h = grind (arith, ints)

steps_up_to : (dir : Dir) (p x y : ℤ) (n m : ℕ) → x ≡ ahead dir p (n + 1) → y ≡ ahead dir p (m + 1)
    → is_past dir x y ≡ false → n ≤ m
steps_up_to Fore p x y n m e f h = grind (arith, ints)
steps_up_to Back p x y n m e f h = grind (arith, ints)

-- what lies before a place that isn't past the end isn't either
up_to_before : (dir : Dir) (p end : ℤ) (j k : ℕ) → j ≤ k → IsUpTo dir end (ahead dir p k)
    → IsUpTo dir end (ahead dir p j)
up_to_before Fore p end j k le h = omega (arith, ints)
up_to_before Back p end j k le h = omega (arith, ints)

up_to_between : (dir : Dir) (p end q : ℤ) (k n : ℕ) → q ≡ ahead dir p (n + 1) → IsUpTo dir end q
    → k ≤ n → IsUpTo dir end (ahead dir p k)
up_to_between Fore p end q k n e h le = omega (arith, ints)
up_to_between Back p end q k n e h le = omega (arith, ints)

module _ (f g h : ℤ → Bool) (dir : Dir) (p end : ℤ) (follows : Follows f g h dir p) where
  -- where one turns the other stays as it is
  turn_of : (o : ℤ → Bool) (turn : Turn) (n : ℕ) → TurnsAfter o dir p end turn n → ((k : ℕ) → k ≤ n
      → seen f dir p k ≡ f p) → ((k : ℕ) → k ≤ n → seen g dir p k ≡ g p)
      → IsTurn h dir p end (Some turn)
  turn_of o turn n t one other = (
    n,
    record {
      place = t.place;
      within = t.within;
      stays = λ k b. follows k (λ j c. one j (omega arith)) (λ j c. other j (omega arith));
    },
  )

  pub nearer_turns : (a b : Turn) → IsTurn f dir p end (Some a) → IsTurn g dir p end (Some b)
      → IsTurn h dir p end (Some (nearer_turn dir a b))
  nearer_turns a b r s = by_order (is_past dir a.place.0 b.place.0) refl
    where
      by_place : (z : Bool) → is_past dir b.place.0 a.place.0 ≡ z → r.0 ≤ s.0
          → IsTurn h dir p end (Some (if z then a else record {
            place = a.place;
            counts = a.counts || b.counts;
          }))
      by_place true past le = turn_of f a r.0 r.1 r.1.stays (λ k h. s.1.stays k (omega arith))
      by_place false past le =
          turn_of f (record { place = a.place; counts = a.counts || b.counts }) r.0
          (record { place = r.1.place; within = r.1.within; stays = r.1.stays }) r.1.stays
          (λ k h. s.1.stays k (omega arith))

      by_order : (z : Bool) → is_past dir a.place.0 b.place.0 ≡ z
          → IsTurn h dir p end (Some (if z then b else if is_past dir b.place.0 a.place.0 then a
          else record { place = a.place; counts = a.counts || b.counts }))
      by_order true past =
          let less : s.0 < r.0 =
          steps_past dir p a.place.0 b.place.0 r.0 s.0 r.1.place s.1.place past in
          turn_of g b s.0 s.1 (λ k h. r.1.stays k (omega arith)) s.1.stays
      by_order false past =
          by_place (is_past dir b.place.0 a.place.0) refl (steps_up_to dir p a.place.0 b.place.0 r.0
          s.0 r.1.place s.1.place past)

  -- one turns and the other doesn't up to the end
  pub first_turn : (a : Turn) → IsTurn f dir p end (Some a) → IsTurn g dir p end None
      → IsTurn h dir p end (Some a)
  first_turn a r none =
      turn_of f a r.0 r.1 r.1.stays (λ k h. none k (up_to_between dir p end a.place.0 k r.0
      r.1.place r.1.within h))

  -- one doesn't turn, and the other may
  pub other_turn : (o : Option Turn) → IsTurn f dir p end None → IsTurn g dir p end o
      → IsTurn h dir p end o
  other_turn (Some b) none s =
      turn_of g b s.0 s.1 (λ k h. none k (up_to_between dir p end b.place.0 k s.0 s.1.place
      s.1.within h)) s.1.stays
  other_turn None none other = λ k near.
      follows k (λ j c. none j (up_to_before dir p end j k c near))
      (λ j c. other j (up_to_before dir p end j k c near))

pub Follows-op : (op : Bool → Bool → Bool) (f g : ℤ → Bool) (dir : Dir) (p : ℤ)
    → Follows f g (λ q. op (f q) (g q)) dir p
Follows-op op f g dir p n one other = rw (one n (omega arith), other n (omega arith)) refl

abbrev pub from_on : ℤ → ℤ → Bool
from_on first q = int_le first q

abbrev pub moment_stands : ℤ → ℤ → Bool
moment_stands first q = int_eq (position_of (moment_of first)) q

-- where the positions from one on begin or end
pub not_past : (dir : Dir) (q end : ℤ) → is_past dir q end ≡ false → IsUpTo dir end q
not_past Fore q end h = grind (arith, ints)
not_past Back q end h = grind (arith, ints)

steps_across : (first p : ℤ) (dir : Dir) → is_past dir (crossed first dir) p ≡ true → (n : ℕ)
    × (crossed first dir ≡ ahead dir p (n + 1)) × ((k : ℕ) → k ≤ n
    → int_le first (ahead dir p k) ≡ int_le first p)
steps_across first p Fore h =
    let n = unsigned_abs (first -ℤ p -ℤ pos 1) in
    let below : p <ℤ first = grind (arith, ints) in (
      n,
      omega (arith, ints),
      λ k b. lt-int_le first (p +ℤ pos k) (omega (arith, ints)) ∙ sym (lt-int_le first p below),
    )
steps_across first p Back h =
    let n = unsigned_abs (p -ℤ first) in
    let above : first ≤ℤ p = grind (arith, ints) in (
      n,
      omega (arith, ints),
      λ k b. le-int_le first (p -ℤ pos k) (omega (arith, ints)) ∙ sym (le-int_le first p above),
    )

pub crossing_turns : (first p end : ℤ) (dir : Dir) (turn : Turn) → turn.place.0 ≡ crossed first dir
    → is_past dir turn.place.0 p ≡ true → is_past dir turn.place.0 end ≡ false
    → IsTurn (from_on first) dir p end (Some turn)
crossing_turns first p end dir turn e past near =
    let P : ℤ → Type 0 = λ z. is_past dir z p ≡ true in
    let steps = steps_across first p dir (subst P e past) in (
      steps.0,
      record {
        place = e ∙ steps.1;
        within = not_past dir turn.place.0 end near;
        stays = steps.2;
      },
    )

-- the moment of a moment's position, and of the open second after it
moment_at : (t p : ℤ) → position_of t ≤ℤ p → p ≤ℤ (position_of t +ℤ pos 1)
    → position_of (moment_of p) ≡ position_of t
moment_at t p h k = let near = halves p in omega (arith, ints)

int_eq-along : (a b q : ℤ) → a ≡ b → int_eq a q ≡ true → int_eq b q ≡ true
int_eq-along a b q e h = let P : ℤ → Type 0 = λ z. int_eq z q ≡ true in subst P e h

pub bound_stands : (low : Bound) (first : Pos) → first_from low ≡ Some first → (q : ℤ)
    → moment_stands first.0 q ≡ true → is_bound_at low q ≡ true
bound_stands (Closed t) first e q h =
    let is : first.0 ≡ position_of t.0 = cc in
    int_eq-along (position_of (moment_of first.0)) (position_of t.0) q (moment_at t.0 first.0
    (omega (arith, ints)) (omega (arith, ints))) h
bound_stands (Open t) first e q h =
    let is : first.0 ≡ position_of t.0 +ℤ pos 1 = cc in
    int_eq-along (position_of (moment_of first.0)) (position_of t.0) q (moment_at t.0 first.0
    (omega (arith, ints)) (omega (arith, ints))) h
bound_stands Inf first e q h = absurd cc
bound_stands Edge first e q h = absurd cc

pub low_turns : LowBoundsBegin → (low : Bound) (first : Pos) (p end : ℤ) (dir : Dir)
    (o : Option Turn) → first_from low ≡ Some first → IsTurn (from_on first.0) dir p end o
    → IsTurn (λ q. reaches low q) dir p end o
low_turns lows low first p end dir o e r =
    IsTurn-same (from_on first.0) (λ q. reaches low q) dir p end o
    (λ q. sym ((lows low).0 first e q)) r

pub end_stands : (high : Bound) (last : Pos) → last_to high ≡ Some last → (q : ℤ)
    → moment_stands (last.0 +ℤ pos 1) q ≡ true → is_bound_at high q ≡ true
end_stands (Closed t) last e q h =
    let is : last.0 ≡ position_of t.0 = cc in
    int_eq-along (position_of (moment_of (last.0 +ℤ pos 1))) (position_of t.0) q
    (moment_at t.0 (last.0 +ℤ pos 1) (omega (arith, ints)) (omega (arith, ints))) h
end_stands (Open t) last e q h =
    let is : last.0 ≡ position_of t.0 -ℤ pos 1 = cc in
    int_eq-along (position_of (moment_of (last.0 +ℤ pos 1))) (position_of t.0) q
    (moment_at t.0 (last.0 +ℤ pos 1) (omega (arith, ints)) (omega (arith, ints))) h
end_stands Inf last e q h = absurd cc
end_stands Edge last e q h = absurd cc

not_past_last : (last q : ℤ) → not (int_le (last +ℤ pos 1) q) ≡ int_le q last
not_past_last last q = grind (arith, ints)

pub high_turns : HighBoundsEnd → (high : Bound) (last : Pos) (ends p end : ℤ) (dir : Dir)
    (o : Option Turn) → last_to high ≡ Some last → ends ≡ last.0 +ℤ pos 1
    → IsTurn (from_on ends) dir p end o → IsTurn (λ q. ends_after high q) dir p end o
high_turns highs high last ends p end dir o e f r =
    IsTurn-same (λ q. not (from_on ends q)) (λ q. ends_after high q) dir p end o
    (λ q. ap (λ z. not (from_on z q)) f ∙ not_past_last last.0 q ∙ sym ((highs high).0 last e q))
    (IsTurn-apart not (from_on ends) dir p end o r)
