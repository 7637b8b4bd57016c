-- Looking back from a position: what was seen on the way, and why it may stop.
use Rattle.std.proofs.Common.{◌≡◌, ◌⊎◌, refl, ap, sym, ◌∙◌, inl, inr, arith, ℕ, ◌+◌, ◌≤◌, ℤ, pos, ◌+ℤ◌, ◌-ℤ◌, ◌≤ℤ◌, ◌<ℤ◌, unsigned_abs, Bool, true, false, Some, None, Result, Ok, Err, IfErr, IfOk}
use Rattle.std.proofs.lemmas.Bool.{both_ways, cases_Bool, or_parts, false_from_ne_true}
use Rattle.std.proofs.lemmas.Int.{by_lt_z, ints}
use Rattle.moment_core.specs.Line.{is_moment, moment_of, position_of}
use Rattle.moment_core.specs.declared.joining.UnaryOp.TheVariants.{During}
use Rattle.moment_core.specs.declared.line.Dir.TheVariants.{Back}
use Rattle.moment_core.specs.declared.line.Pos.{Pos}
use Rattle.moment_core.specs.declared.line.TheConstants.{LOW}
use Rattle.moment_core.proofs.LineLaws.{at_moment, at_open_second}
use Rattle.span_core.specs.declared.answers.Stop.{Stop}
use Rattle.stored_pair.specs.Meanings.{Meaning}
use Rattle.expr_tree.specs.Laws.{IsBetween, IsBetweenMoments, IsLasting, LastsFromMoment}
use Rattle.expr_tree.specs.Members.{is_between, is_member, lasts_at}
use Rattle.expr_tree.specs.Sorts.{nodes_of}
use Rattle.expr_tree.specs.Sound.{HasMomentsAlone}
use Rattle.expr_tree.specs.Tree.{Tree, Pairs, Unary}
use Rattle.search_core.specs.Candidates.{candidates, count_between, is_candidate}
use Rattle.search_core.specs.Due.{IsDueAt}
use Rattle.search_core.specs.Laws.{DurationsLookBack, PairsLookBack, PlacesAreFewer}
use Rattle.search_core.specs.LookingBack.{during_from, either, pairs_from}
use Rattle.node_turns.specs.Turns.{IsTurn, StandsIfCounted, StaysCounted}
use Rattle.node_turns.specs.declared.turns.Turn.{Turn}
use Rattle.node_members.specs.Looking.{IsAskedAt, IsLook, IsLookFrom, candidate_of_either, in_either}
use Rattle.node_members.specs.declared.looks.Look.{Look}

-- an answer tells whether the position is a member, or a stop that is due
pub answer_value : (t : Tree Meaning) (n budget : ℕ) (p : ℤ) (answer : Result Bool Stop)
    → IsAskedAt t n budget p answer → IfOk answer (λ v. v ≡ is_member t p)
answer_value t n budget p (Ok v) h = h
answer_value t n budget p (Err s) h = tt

pub answer_due : (t : Tree Meaning) (n budget : ℕ) (p : ℤ) (answer : Result Bool Stop)
    → IsAskedAt t n budget p answer → IfErr answer (λ s. IsDueAt t n budget s p)
answer_due t n budget p (Ok v) h = tt
answer_due t n budget p (Err s) h = h

pub look : (event candidate : ℤ → Bool) (p : ℤ) (l : Look) → l.place.0 ≡ p → l.passed ≡ 0
    → IsLook event candidate p l
look event candidate p l here none = (
  0,
  record {
    place = omega (arith, ints);
    none = λ z low high. absurd (omega (arith, ints));
    counted = omega arith;
    begun = λ e. none;
  },
)

none_from : (event : ℤ → Bool) (place z : ℤ) (m : ℕ) → event place ≡ false → ((k : ℕ) → k ≤ m
    → event (place -ℤ pos k) ≡ event place) → z ≤ℤ place → (place -ℤ pos m) ≤ℤ z → event z ≡ false
none_from event place z m none stays high low =
    let k : ℕ = unsigned_abs (place -ℤ z) in
    let same : z ≡ place -ℤ pos k = omega (arith, ints) in
    ap event same ∙ stays k (omega (arith, ints)) ∙ none

-- from a place without an event to its turn backwards
pub look_on : (event candidate : ℤ → Bool) (p end : ℤ) (l next : Look) (turn : Turn)
    → IsLook event candidate p l → event l.place.0 ≡ false
    → IsTurn event Back l.place.0 end (Some turn) → StandsIfCounted candidate Back (Some turn)
    → next.place ≡ turn.place → StaysCounted l.passed Back p l.place.0 turn next.passed
    → IsLookFrom event candidate p end next × (next.place.0 <ℤ l.place.0)
look_on event candidate p end l next turn looked none is stands same few =
    let n = looked.0 in
    let at : l.place.0 ≡ p -ℤ pos n = looked.1.place in
    let m : ℕ = is.0 in
    let there : turn.place.0 ≡ l.place.0 -ℤ pos (m + 1) = is.1.place in
    let far : turn.place.0 ≡ p -ℤ pos (n + (m + 1)) = omega (arith, ints) in
    let here : next.place.0 ≡ turn.place.0 = ap (λ (q : Pos). q.0) same in (
      (
        (
          n + (m + 1),
          record {
            place = here ∙ far;
            none = λ z low high. by_lt_z l.place.0 z
                (λ past. looked.1.none z past high)
                (λ within. none_from event l.place.0 z m none is.1.stays within
                (omega (arith, ints)));
            counted =
                few candidate n (n + (m + 1)) at far (omega arith) looked.1.counted looked.1.begun
                stands;
            begun = λ e. absurd (omega arith);
          },
        ),
        (let within : end ≤ℤ turn.place.0 = is.1.within in omega (arith, ints)),
      ),
      omega (arith, ints),
    )

-- no event at all down to the end, where there is no turn up to there
pub look_end : (event candidate : ℤ → Bool) (p end : ℤ) (l : Look)
    → IsLook event candidate p l → event l.place.0 ≡ false → IsTurn event Back l.place.0 end None
    → (z : ℤ) → end ≤ℤ z → z ≤ℤ p → event z ≡ false
look_end event candidate p end l looked none is z low high = by_lt_z l.place.0 z
    (λ past. looked.1.none z past high)
    (λ within.
    let k : ℕ = unsigned_abs (l.place.0 -ℤ z) in
    let same : z ≡ l.place.0 -ℤ pos k = omega (arith, ints) in
    ap event same ∙ is k (omega (arith, ints)) ∙ none)

-- a member of a set of moments is a moment
even_member : (set : ℤ → Bool) (z : ℤ) → HasMomentsAlone set → set z ≡ true
    → position_of (moment_of z) ≡ z
even_member set z alone e = elim (cases_Bool (is_moment z)) [
  | inl even ↦ at_moment z even
  | inr odd ↦
      let place : position_of (moment_of z) +ℤ pos 1 ≡ z = at_open_second z odd in
      absurd (both_ways (set z) (ap set (sym place) ∙ alone (moment_of z)) e)
]

none_to : (event candidate : ℤ → Bool) (p : ℤ) (l : Look) → IsLook event candidate p l
    → event l.place.0 ≡ false → (z : ℤ) → l.place.0 ≤ℤ z → z ≤ℤ p → event z ≡ false
none_to event candidate p l looked none z low high = by_lt_z l.place.0 z
    (λ past. looked.1.none z past high)
    (λ last. let same : z ≡ l.place.0 = omega (arith, ints) in ap event same ∙ none)

module _ (lasts : LastsFromMoment) (back : DurationsLookBack) (cover : PlacesAreFewer) where
  pub during_in : (set : ℤ → Bool) (seconds p place : ℤ) → HasMomentsAlone set → place ≤ℤ p
      → (p -ℤ position_of seconds) <ℤ place → set place ≡ true → lasts_at set seconds p ≡ true
  during_in set seconds p place alone high low e =
      let even = even_member set place alone e in
      (lasts set seconds p).1 (
        moment_of place,
        ap set even ∙ e,
        omega (arith, ints),
        omega (arith, ints),
      )

  pub during_out : (set : ℤ → Bool) (seconds p : ℤ) → ((z : ℤ) → (p -ℤ position_of seconds) <ℤ z
      → z ≤ℤ p → set z ≡ false) → lasts_at set seconds p ≡ false
  during_out set seconds p none = false_from_ne_true (lasts_at set seconds p) (λ e.
      let r : IsLasting set seconds p = (lasts set seconds p).0 e in
      let t : ℤ = r.0 in
      let low : position_of t ≤ℤ p = r.2 in
      let high : p <ℤ position_of (t +ℤ seconds) = r.3 in
      both_ways (set (position_of t)) (none (position_of t) (omega (arith, ints)) low) r.1)

  during_near : (set candidate : ℤ → Bool) (seconds p : ℤ) (l : Look) → IsLook set candidate p l
      → (p -ℤ position_of seconds) <ℤ l.place.0 → during_from set seconds p ≤ℤ l.place.0
  during_near set candidate seconds p l looked low =
      let n = looked.0 in
      let at : l.place.0 ≡ p -ℤ pos n = looked.1.place in
      back set seconds p l.place.0 (omega (arith, ints)) (omega (arith, ints)) looked.1.none

  pub during_stop : (a : Tree Meaning) (seconds p : ℤ) (l : Look) (n budget : ℕ)
      → IsLook (is_member a) (is_candidate a) p l
      → (p -ℤ position_of seconds) <ℤ l.place.0 → is_member a l.place.0 ≡ false → budget ≤ l.passed
      → IsDueAt (Unary (During seconds) a) n budget (record { at = l.place; node = n }) p
  during_stop a seconds p l n budget looked low none used =
      let k = looked.0 in
      let at : l.place.0 ≡ p -ℤ pos k = looked.1.place in
      let counted : l.passed ≤ count_between (is_candidate a) (p -ℤ pos k) p = looked.1.counted in
      let same : count_between (is_candidate a) (p -ℤ pos k) p ≡ count_between (is_candidate a)
      l.place.0 p = ap (λ z. count_between (is_candidate a) z p) (sym at) in
      let few = cover a l.place.0 p in
      inl (
        refl,
        refl,
        record {
          before = omega (arith, ints);
          within = during_near (is_member a) (is_candidate a) seconds p l looked low;
          no_event = none_to (is_member a) (is_candidate a) p l looked none;
          used = omega arith;
        },
      )

  pub during_inner : (a : Tree Meaning) (seconds p : ℤ) (l : Look) (n budget : ℕ) (s : Stop)
      → IsLook (is_member a) (is_candidate a) p l → (p -ℤ position_of seconds) <ℤ l.place.0
      → IsDueAt a (n + 1) budget s l.place.0 → IsDueAt (Unary (During seconds) a) n budget s p
  during_inner a seconds p l n budget s looked low due =
      let k = looked.0 in
      let at : l.place.0 ≡ p -ℤ pos k = looked.1.place in
      inr (
        l.place.0,
        during_near (is_member a) (is_candidate a) seconds p l looked low,
        omega (arith, ints),
        due,
      )

module _ (between : IsBetweenMoments) (back : PairsLookBack) (cover : PlacesAreFewer) where
  pub pairs_in : (f g candidate : ℤ → Bool) (p : ℤ) (l : Look) → HasMomentsAlone f
      → IsLook (either f g) candidate p l → position_of LOW ≤ℤ l.place.0 → f l.place.0 ≡ true
      → is_between f g p ≡ true
  pairs_in f g candidate p l alone looked low e =
      let place = l.place.0 in
      let n = looked.0 in
      let at : place ≡ p -ℤ pos n = looked.1.place in
      let even = even_member f place alone e in
      (between f g p).1 (
        moment_of place,
        omega (arith, ints),
        ap f even ∙ e,
        omega (arith, ints),
        λ u past up. (or_parts (f (position_of u)) (g (position_of u)) (looked.1.none
            (position_of u) (omega (arith, ints)) up)).1,
      )

  pub pairs_out : (f g : ℤ → Bool) (p : ℤ) → ((z : ℤ) → position_of LOW ≤ℤ z → z ≤ℤ p
      → either f g z ≡ false) → is_between f g p ≡ false
  pairs_out f g p none = false_from_ne_true (is_between f g p) (λ e.
      let r : IsBetween f g p = (between f g p).0 e in
      let t : ℤ = r.0 in
      let low : LOW ≤ℤ t = r.1 in
      both_ways (f (position_of t)) ((or_parts (f (position_of t)) (g (position_of t))
      (none (position_of t) (omega (arith, ints)) r.3)).0) r.2)

  pub pairs_closed : (f g candidate : ℤ → Bool) (p : ℤ) (l : Look) → HasMomentsAlone g
      → IsLook (either f g) candidate p l → f l.place.0 ≡ false → g l.place.0 ≡ true
      → is_between f g p ≡ false
  pairs_closed f g candidate p l alone looked none e = false_from_ne_true (is_between f g p) (λ h.
      let place = l.place.0 in
      let n = looked.0 in
      let at : place ≡ p -ℤ pos n = looked.1.place in
      let even = even_member g place alone e in
      let r : IsBetween f g p = (between f g p).0 h in
      let t : ℤ = r.0 in
      let high : position_of t ≤ℤ p = r.3 in
      by_lt_z place (position_of t)
      (λ after. both_ways (f (position_of t)) ((or_parts (f (position_of t)) (g (position_of t))
      (looked.1.none (position_of t) after high)).0) r.2)
      (λ before. by_lt_z (position_of t) place
      (λ earlier. both_ways (g place) (ap g (sym even) ∙ r.4 (moment_of place) (omega (arith, ints))
      (omega (arith, ints))) e)
      (λ here. let same : position_of t ≡ place = omega (arith, ints) in both_ways (f place) none
      (ap f (sym same) ∙ r.2))))

  pairs_near : (f g candidate : ℤ → Bool) (p : ℤ) (l : Look) → IsLook (either f g) candidate p l
      → position_of LOW ≤ℤ l.place.0 → pairs_from f g p ≤ℤ l.place.0
  pairs_near f g candidate p l looked low =
      let n = looked.0 in
      let at : l.place.0 ≡ p -ℤ pos n = looked.1.place in
      back f g p l.place.0 (omega (arith, ints)) low looked.1.none

  pub pairs_stop : (a b : Tree Meaning) (p : ℤ) (l : Look) (n budget : ℕ)
      → IsLook (in_either a b) (candidate_of_either a b) p l → position_of LOW ≤ℤ l.place.0
      → in_either a b l.place.0 ≡ false → budget ≤ l.passed
      → IsDueAt (Pairs a b) n budget (record { at = l.place; node = n }) p
  pairs_stop a b p l n budget looked low none used =
      let both = candidate_of_either a b in
      let k = looked.0 in
      let at : l.place.0 ≡ p -ℤ pos k = looked.1.place in
      let counted : l.passed ≤ count_between both (p -ℤ pos k) p = looked.1.counted in
      let same : count_between both (p -ℤ pos k) p ≡ count_between both l.place.0 p =
      ap (λ z. count_between both z p) (sym at) in
      let few : count_between both l.place.0 p ≤ candidates (Pairs a b) l.place.0 p =
      cover (Pairs a b) l.place.0 p in
      inl (
        refl,
        record {
          before = omega (arith, ints);
          within = pairs_near (is_member a) (is_member b) both p l looked low;
          no_event = none_to (in_either a b) both p l looked none;
          used = omega arith;
        },
      )

  pub pairs_inner : (a b : Tree Meaning) (p : ℤ) (l : Look) (n budget : ℕ) (s : Stop)
      → IsLook (in_either a b) (candidate_of_either a b) p l → position_of LOW ≤ℤ l.place.0
      → (IsDueAt a (n + 1) budget s l.place.0
      ⊎ IsDueAt b (n + 1 + nodes_of a) budget s l.place.0)
      → IsDueAt (Pairs a b) n budget s p
  pairs_inner a b p l n budget s looked low due =
      let k = looked.0 in
      let at : l.place.0 ≡ p -ℤ pos k = looked.1.place in
      inr (
        l.place.0,
        pairs_near (is_member a) (is_member b) (candidate_of_either a b) p l looked low,
        omega (arith, ints),
        due,
      )
