-- Turns of the moments at which the runs of a set begin or end.
use Rattle.std.proofs.Common.{◌≡◌, refl, ap, sym, subst, ◌∙◌, inl, inr, arith, ℕ, ◌+◌, ◌≤◌, ◌^◌, ℤ, pos, ◌+ℤ◌, ◌-ℤ◌, ◌≤ℤ◌, ◌<ℤ◌, unsigned_abs, Bool, true, false, not, ◌&&◌, ◌||◌, Some, None, cond, if◌then◌else◌}
use Rattle.std.proofs.lemmas.Bool.{and_left, and_right, both_ways, cases_Bool}
use Rattle.std.proofs.lemmas.Int.{by_lt_z, ints}
use Rattle.std.specs.Ordering.{int_eq}
use Rattle.moment_core.proofs.Comparing.{int_eq-is}
use Rattle.moment_core.proofs.LineLaws.{at_moment, at_open_second, halves, seen-zero}
use Rattle.moment_core.specs.Line.{is_moment, moment_of, position_of}
use Rattle.moment_core.specs.Sets.{ahead, seen, IsUpTo}
use Rattle.moment_core.specs.declared.line.Dir.{Dir}
use Rattle.moment_core.specs.declared.line.Dir.TheVariants.{Fore, Back}
use Rattle.moment_core.specs.declared.line.Pos.{Pos}
use Rattle.expr_tree.specs.Members.{begins_at, ends_at}
use Rattle.node_turns.specs.Room.{HasRoom}
use Rattle.node_turns.specs.Turns.{IsEdge, IsTurn, StandsIfCounted, candidate_at, edge_at, edge_up_to, is_past, open_before}
use Rattle.node_turns.specs.declared.turns.Turn.{Turn}
use Rattle.node_turns.proofs.RuleTurning.{steps_before}
use Rattle.node_turns.proofs.Turning.{not_past}

no_begin : (x y z : Bool) → x ≡ y → z ≡ y → ((y && not x) || (z && not y)) ≡ false
no_begin x true z e f = grind (arith, e, f)
no_begin x false z e f = grind (arith, e, f)

no_end : (x y z : Bool) → x ≡ y → z ≡ y → ((y && not z) || (x && not y)) ≡ false
no_end x true z e f = grind (arith, e, f)
no_end x false z e f = grind (arith, e, f)

pub starts_edge : (f : ℤ → Bool) → IsEdge f (λ p. is_moment p && begins_at f p)
starts_edge f = record {
  at_open = λ p e. and_left (is_moment p) (begins_at f p) e;
  round =
      λ p before after. and_right (is_moment p) (begins_at f p) (no_begin (f (p -ℤ pos 1)) (f p)
      (f (p +ℤ pos 1)) before after);
}

pub ends_edge : (f : ℤ → Bool) → IsEdge f (λ p. is_moment p && ends_at f p)
ends_edge f = record {
  at_open = λ p e. and_left (is_moment p) (ends_at f p) e;
  round =
      λ p before after. and_right (is_moment p) (ends_at f p) (no_end (f (p -ℤ pos 1)) (f p)
      (f (p +ℤ pos 1)) before after);
}

-- the set has one value on the positions from a to b
abbrev pub Keeps : (ℤ → Bool) → ℤ → ℤ → Bool → Type 0
Keeps f a b v = (z : ℤ) → a ≤ℤ z → z ≤ℤ b → f z ≡ v

keeps_fore : (f : ℤ → Bool) (b : ℤ) (n : ℕ) → ((k : ℕ) → k ≤ n → seen f Fore b k ≡ f b)
    → Keeps f b (b +ℤ pos n) (f b)
keeps_fore f b n stays z low high =
    let k = unsigned_abs (z -ℤ b) in
    let place : z ≡ b +ℤ pos k = omega (arith, ints) in
    ap f place ∙ stays k (omega (arith, ints))

keeps_back : (f : ℤ → Bool) (b : ℤ) (n : ℕ) → ((k : ℕ) → k ≤ n → seen f Back b k ≡ f b)
    → Keeps f (b -ℤ pos n) b (f b)
keeps_back f b n stays z low high =
    let k = unsigned_abs (b -ℤ z) in
    let place : z ≡ b -ℤ pos k = omega (arith, ints) in
    ap f place ∙ stays k (omega (arith, ints))

-- between positions round which the set keeps its value no run begins or ends
edge_free : (f h : ℤ → Bool) (a b : ℤ) (v : Bool) → IsEdge f h → Keeps f a b v → (z : ℤ)
    → (a ≤ℤ (z -ℤ pos 1)) → ((z +ℤ pos 1) ≤ℤ b) → h z ≡ false
edge_free f h a b v edge keeps z low high =
    let here = keeps z (omega (arith, ints)) (omega (arith, ints)) in
    edge.round z (keeps (z -ℤ pos 1) low (omega (arith, ints)) ∙ sym here) (keeps (z +ℤ pos 1)
    (omega (arith, ints)) high ∙ sym here)

int_eq-false : (x y : ℤ) → int_eq x y ≡ false → x ≡ y → ⊥
int_eq-false x y e f = both_ways (int_eq x y) e (grind (arith, ints))

-- the double of a half lies beside its number
abbrev half : ℤ → ℤ
half z = position_of (moment_of z)

edge_at-here : (dir : Dir) (p q : ℤ) → int_eq (candidate_at dir q) p ≡ true
    → edge_at dir p q ≡ ahead dir p 1
edge_at-here dir p q e = ap (λ b. cond b (ahead dir p 1) (candidate_at dir q)) e

edge_at-past : (dir : Dir) (p q : ℤ) → int_eq (candidate_at dir q) p ≡ false
    → edge_at dir p q ≡ candidate_at dir q
edge_at-past dir p q e = ap (λ b. cond b (ahead dir p 1) (candidate_at dir q)) e

-- how the base lies beside the position
abbrev Base : Dir → ℤ → ℤ → Type 0
Base Fore p b = (b ≤ℤ p) × (p ≤ℤ (b +ℤ pos 1)) × (half b +ℤ pos 1 ≡ b)
Base Back p b = (p ≤ℤ b) × (b ≤ℤ (p +ℤ pos 1)) × (half b +ℤ pos 1 ≡ b)

base_is : (dir : Dir) (p : ℤ) → Base dir p (open_before dir p)
base_is Fore p = elim (cases_Bool (is_moment p)) [
  | inl e ↦
      let b : open_before Fore p ≡ p -ℤ pos 1 = ap (λ t. cond t (p -ℤ pos 1) p) e in
      let even = at_moment p e in
      let near = halves (p -ℤ pos 1) in
      subst (Base Fore p) (sym b) (omega (arith, ints), omega (arith, ints), omega (arith, ints))
  | inr e ↦
      let b : open_before Fore p ≡ p = ap (λ t. cond t (p -ℤ pos 1) p) e in
      subst (Base Fore p) (sym b) (omega (arith, ints), omega (arith, ints), at_open_second p e)
]
base_is Back p = elim (cases_Bool (is_moment p)) [
  | inl e ↦
      let b : open_before Back p ≡ p +ℤ pos 1 = ap (λ t. cond t (p +ℤ pos 1) p) e in
      let even = at_moment p e in
      let near = halves (p +ℤ pos 1) in
      subst (Base Back p) (sym b) (omega (arith, ints), omega (arith, ints), omega (arith, ints))
  | inr e ↦
      let b : open_before Back p ≡ p = ap (λ t. cond t (p +ℤ pos 1) p) e in
      subst (Base Back p) (sym b) (omega (arith, ints), omega (arith, ints), at_open_second p e)
]

-- the place of the edge lies ahead of p, and up to it no run begins or ends
abbrev StaysUpTo : (ℤ → Bool) → Dir → ℤ → ℤ → Type 0
StaysUpTo h dir p place =
    (k : ℕ) × (place ≡ ahead dir p (k + 1)) × ((j : ℕ) → j ≤ k → seen h dir p j ≡ h p)

-- forwards: from an odd base b on the set keeps its value up to b + n
edge_fore : (f h : ℤ → Bool) (p b q : ℤ) (n : ℕ) → IsEdge f h → Base Fore p b → q ≡ b +ℤ pos (n + 1)
    → Keeps f b (b +ℤ pos n) (f b) → StaysUpTo h Fore p (edge_at Fore p q)
edge_fore f h p b q n edge base there keeps =
    let c : ℤ = candidate_at Fore q in
    let near = halves q in
    elim (cases_Bool (int_eq c p)) [
      | inl here ↦
          let place = edge_at-here Fore p q here in
          (0, place, λ j near. ap h (omega (arith, ints)))
      | inr past ↦
          let other = int_eq-false c p past in
          let place : edge_at Fore p q ≡ c = edge_at-past Fore p q past in
          let apart : p <ℤ c =
          by_lt_z p c (λ lt. lt) (λ ge. absurd (other (omega (arith, ints, base.2)))) in
          let k : ℕ = unsigned_abs (c -ℤ pos 1 -ℤ p) in
          let far : c ≡ p +ℤ pos (k + 1) = omega (arith, ints) in
          let none =
          λ (z : ℤ) (low : p ≤ℤ z) (high : z <ℤ c). elim (cases_Bool (is_moment z)) as
          (λ _. h z ≡ false) [
            | inl e ↦
                let at = at_moment z e in
                edge_free f h b (b +ℤ pos n) (f b) edge keeps z
                (omega (arith, ints, base.0, base.2)) (omega (arith, ints))
            | inr e ↦ edge.at_open z e
          ] in (
            k,
            place ∙ far,
            λ j near. none (p +ℤ pos j) (omega (arith, ints)) (omega (arith, ints))
                ∙ sym (none p (omega (arith, ints)) apart),
          )
    ]

edge_back : (f h : ℤ → Bool) (p b q : ℤ) (n : ℕ) → IsEdge f h → Base Back p b → q ≡ b -ℤ pos (n + 1)
    → Keeps f (b -ℤ pos n) b (f b) → StaysUpTo h Back p (edge_at Back p q)
edge_back f h p b q n edge base there keeps =
    let c : ℤ = candidate_at Back q in
    let near = halves (q +ℤ pos 1) in
    elim (cases_Bool (int_eq c p)) [
      | inl here ↦
          let place = edge_at-here Back p q here in
          (0, place, λ j near. ap h (omega (arith, ints)))
      | inr past ↦
          let other = int_eq-false c p past in
          let place : edge_at Back p q ≡ c = edge_at-past Back p q past in
          let apart : c <ℤ p =
          by_lt_z c p (λ lt. lt) (λ ge. absurd (other (omega (arith, ints, base.2)))) in
          let k : ℕ = unsigned_abs (p -ℤ (c +ℤ pos 1)) in
          let far : c ≡ p -ℤ pos (k + 1) = omega (arith, ints) in
          let none =
          λ (z : ℤ) (low : c <ℤ z) (high : z ≤ℤ p). elim (cases_Bool (is_moment z)) as
          (λ _. h z ≡ false) [
            | inl e ↦
                let at = at_moment z e in
                edge_free f h (b -ℤ pos n) b (f b) edge keeps z (omega (arith, ints))
                (omega (arith, ints, base.0, base.2))
            | inr e ↦ edge.at_open z e
          ] in (
            k,
            place ∙ far,
            λ j near. none (p -ℤ pos j) (omega (arith, ints)) (omega (arith, ints))
                ∙ sym (none p apart (omega (arith, ints))),
          )
    ]

edge_stays : (f h : ℤ → Bool) (dir : Dir) (p b end : ℤ) (turn : Turn) → IsEdge f h → Base dir p b
    → IsTurn f dir b end (Some turn) → StaysUpTo h dir p (edge_at dir p turn.place.0)
edge_stays f h Fore p b end turn edge base is =
    edge_fore f h p b turn.place.0 is.0 edge base is.1.place (keeps_fore f b is.0 is.1.stays)
edge_stays f h Back p b end turn edge base is =
    edge_back f h p b turn.place.0 is.0 edge base is.1.place (keeps_back f b is.0 is.1.stays)

-- the turn of a set gives that of the moments at which its runs begin or end
pub edge_some : (f h : ℤ → Bool) (dir : Dir) (p b further : ℤ) (turn : Turn) (place end : Pos)
    → IsEdge f h → b ≡ open_before dir p → place.0 ≡ edge_at dir p turn.place.0
    → IsTurn f dir b further (Some turn) → IsTurn h dir p end.0 (edge_up_to dir turn place end)
edge_some f h dir p b further turn place end edge e is found =
    let stays =
    edge_stays f h dir p b further turn edge (subst (Base dir p) (sym e) (base_is dir p))
    found in
    by_order stays (is_past dir place.0 end.0) refl
  where
    by_order : StaysUpTo h dir p (edge_at dir p turn.place.0) → (t : Bool)
        → is_past dir place.0 end.0 ≡ t → IsTurn h dir p end.0 (if t then None else Some
        (record { place = place; counts = turn.counts }))
    by_order stays true past =
        λ k near. stays.2 k (steps_before dir p place.0 end.0 stays.0 k (is ∙ stays.1) past near)
    by_order stays false past = (
      stays.0,
      record {
        place = is ∙ stays.1;
        within = not_past dir place.0 end.0 past;
        stays = stays.2;
      },
    )

-- such a turn doesn't lie too far
pub edge_small : (f : ℤ → Bool) (dir : Dir) (p b end further : ℤ) (n : ℕ) (turn : Turn)
    → HasRoom (1 + n) p → HasRoom (1 + n) end → b ≡ open_before dir p → further ≡ ahead dir end 1
    → IsTurn f dir b further (Some turn) → unsigned_abs turn.place.0 ≤ 2 ^ 60
edge_small f Fore p b end further n turn here there e last is =
    let base : Base Fore p b = subst (Base Fore p) (sym e) (base_is Fore p) in
    let at : turn.place.0 ≡ b +ℤ pos (is.0 + 1) = is.1.place in
    let within : turn.place.0 ≤ℤ further = is.1.within in
    omega (arith, ints, base.0, base.1, here.1, there.2)
edge_small f Back p b end further n turn here there e last is =
    let base : Base Back p b = subst (Base Back p) (sym e) (base_is Back p) in
    let at : turn.place.0 ≡ b -ℤ pos (is.0 + 1) = is.1.place in
    let within : further ≤ℤ turn.place.0 = is.1.within in
    omega (arith, ints, base.0, base.1, here.2, there.1)

-- beyond p and up to the end, round each moment the set keeps its value
free_upto : (f h : ℤ → Bool) (dir : Dir) (p b end : ℤ) → IsEdge f h → Base dir p b
    → ((k : ℕ) → IsUpTo dir (ahead dir end 1) (ahead dir b k) → seen f dir b k ≡ f b) → (k : ℕ)
    → IsUpTo dir end (ahead dir p k) → h (ahead dir p k) ≡ false
free_upto f h Fore p b end edge base stays k near = elim (cases_Bool (is_moment (p +ℤ pos k))) [
  | inl e ↦
      let at = at_moment (p +ℤ pos k) e in
      let n : ℕ = unsigned_abs (p +ℤ pos k +ℤ pos 1 -ℤ b) in
      let last : b +ℤ pos n ≡ p +ℤ pos k +ℤ pos 1 = omega (arith, ints, base.0) in
      edge_free f h b (b +ℤ pos n) (f b) edge (keeps_fore f b n
      (λ j h. stays j (omega (arith, ints)))) (p +ℤ pos k)
      (omega (arith, ints, base.0, base.2)) (omega (arith, ints))
  | inr e ↦ edge.at_open (p +ℤ pos k) e
]
free_upto f h Back p b end edge base stays k near = elim (cases_Bool (is_moment (p -ℤ pos k))) [
  | inl e ↦
      let at = at_moment (p -ℤ pos k) e in
      let n : ℕ = unsigned_abs (b -ℤ (p -ℤ pos k -ℤ pos 1)) in
      let last : b -ℤ pos n ≡ p -ℤ pos k -ℤ pos 1 = omega (arith, ints, base.0) in
      edge_free f h (b -ℤ pos n) b (f b) edge (keeps_back f b n
      (λ j h. stays j (omega (arith, ints)))) (p -ℤ pos k)
      (omega (arith, ints)) (omega (arith, ints, base.0, base.2))
  | inr e ↦ edge.at_open (p -ℤ pos k) e
]

start_upto : (dir : Dir) (p end : ℤ) (k : ℕ) → IsUpTo dir end (ahead dir p k)
    → IsUpTo dir end (ahead dir p 0)
start_upto Fore p end k h = omega (arith, ints)
start_upto Back p end k h = omega (arith, ints)

pub edge_none : (f h : ℤ → Bool) (dir : Dir) (p b end further : ℤ) → IsEdge f h
    → b ≡ open_before dir p → further ≡ ahead dir end 1 → IsTurn f dir b further None
    → IsTurn h dir p end None
edge_none f h dir p b end further edge e last found k near =
    let base = subst (Base dir p) (sym e) (base_is dir p) in
    let stays =
    subst (λ z. (k : ℕ) → IsUpTo dir z (ahead dir b k) → seen f dir b k ≡ f b) last found in
    let free = free_upto f h dir p b end edge base stays in
    free k near ∙ sym (free 0 (start_upto dir p end k near)) ∙ seen-zero h dir p

-- a moment is its own candidate
own_candidate : (dir : Dir) (t : ℤ) → candidate_at dir (position_of t) ≡ position_of t
own_candidate Fore t = let near = halves (position_of t) in omega (arith, ints)
own_candidate Back t = let near = halves (position_of t +ℤ pos 1) in omega (arith, ints)

next_candidate : (dir : Dir) (t : ℤ) → candidate_at dir (ahead dir (position_of t) 1) ≡ position_of
    t
next_candidate Fore t = let near = halves (position_of t +ℤ pos 1) in omega (arith, ints)
next_candidate Back t = let near = halves (position_of t -ℤ pos 1 +ℤ pos 1) in omega (arith, ints)

is_candidate_moment : (dir : Dir) (q : ℤ) → (t : ℤ) × (candidate_at dir q ≡ position_of t)
is_candidate_moment Fore q = (moment_of q, refl)
is_candidate_moment Back q = (moment_of (q +ℤ pos 1), refl)

edge_candidate : (dir : Dir) (p q : ℤ) → candidate_at dir (edge_at dir p q) ≡ candidate_at dir q
edge_candidate dir p q =
    let c = is_candidate_moment dir q in
    elim (cases_Bool (int_eq (candidate_at dir q) p)) [
      | inl here ↦
          let same : p ≡ position_of c.0 = sym (int_eq-is (candidate_at dir q) p here) ∙ c.1 in
          ap (candidate_at dir) (edge_at-here dir p q here ∙ ap (λ z. ahead dir z 1) same)
          ∙ next_candidate dir c.0 ∙ sym c.1
      | inr past ↦ ap (candidate_at dir) (edge_at-past dir p q past ∙ c.1) ∙ own_candidate dir c.0
          ∙ sym c.1
    ]

pub edge_counts : (x : ℤ → Bool) (dir : Dir) (p : ℤ) (turn : Turn) (place end : Pos)
    → place.0 ≡ edge_at dir p turn.place.0 → StandsIfCounted x dir (Some turn)
    → StandsIfCounted x dir (edge_up_to dir turn place end)
edge_counts x dir p turn place end is stands = by_order (is_past dir place.0 end.0)
  where
    by_order : (t : Bool) → StandsIfCounted x dir (if t then None else Some (record {
      place = place;
      counts = turn.counts;
    }))
    by_order true = tt
    by_order false = λ counts. ap x (ap (candidate_at dir) is ∙ edge_candidate dir p turn.place.0)
        ∙ stands counts
