-- Turns of sets that are moved, and of sets that follow others.
use Rattle.std.proofs.Common.{◌≡◌, ap, sym, subst, ◌∙◌, inl, inr, arith, ℕ, zero, suc, ◌+◌, ◌<◌, ◌≤◌, ℤ, pos, ◌+ℤ◌, ◌-ℤ◌, ◌≤ℤ◌, ◌<ℤ◌, unsigned_abs, Bool, true, false, Some, None}
use Rattle.std.proofs.lemmas.Bool.{both_ways, cases_Bool}
use Rattle.std.proofs.lemmas.Int.{by_lt_z, ints}
use Rattle.moment_core.proofs.LineLaws.{at_moment, at_open_second, halves, seen-zero}
use Rattle.moment_core.specs.Line.{is_moment, moment_of, position_of}
use Rattle.moment_core.specs.Sets.{ahead, seen, IsUpTo}
use Rattle.moment_core.specs.declared.line.Dir.{Dir}
use Rattle.moment_core.specs.declared.line.Dir.TheVariants.{Fore, Back}
use Rattle.moment_core.proofs.Truths.{same_truth}
use Rattle.expr_tree.specs.Laws.{IsBetween, IsBetweenMoments, IsLasting, LastsFromMoment}
use Rattle.expr_tree.specs.Members.{is_between, lasts_at}
use Rattle.expr_tree.specs.Sound.{HasMomentsAlone}
use Rattle.node_turns.specs.Turns.{Follows, IsTurn, StandsIfCounted, candidate_at}
use Rattle.node_turns.specs.declared.turns.Turn.{Turn}

ahead-moved : (dir : Dir) (p s : ℤ) (k : ℕ) → ahead dir (p -ℤ s) k ≡ ahead dir p k -ℤ s
ahead-moved Fore p s k = omega (arith, ints)
ahead-moved Back p s k = omega (arith, ints)

candidate-moved : (dir : Dir) (q s : ℤ) → candidate_at dir (q -ℤ position_of s) ≡ candidate_at dir q
    -ℤ position_of s
candidate-moved Fore q s =
    let here = halves q in
    let there = halves (q -ℤ position_of s) in
    omega (arith, ints)
candidate-moved Back q s =
    let here = halves (q +ℤ pos 1) in
    let there = halves (q -ℤ position_of s +ℤ pos 1) in
    omega (arith, ints)

within-moved : (dir : Dir) (end q r s : ℤ) → r ≡ q +ℤ s → IsUpTo dir (end -ℤ s) q → IsUpTo dir end r
within-moved Fore end q r s e h = omega (arith, ints)
within-moved Back end q r s e h = omega (arith, ints)

within-back : (dir : Dir) (end q s : ℤ) → IsUpTo dir end q → IsUpTo dir (end -ℤ s) (q -ℤ s)
within-back Fore end q s h = omega (arith, ints)
within-back Back end q s h = omega (arith, ints)

-- the turn of a set that is so many seconds later
pub moved_some : (f : ℤ → Bool) (dir : Dir) (p end s : ℤ) (turn moved : Turn)
    → moved.place.0 ≡ turn.place.0 +ℤ position_of s → IsTurn f dir (p -ℤ position_of s)
    (end -ℤ position_of s) (Some turn) → IsTurn (λ z. f (z -ℤ position_of s)) dir p end (Some moved)
moved_some f dir p end s turn moved e is =
    let n = is.0 in
    let w = position_of s in
    let there : turn.place.0 ≡ ahead dir p (n + 1) -ℤ w =
    is.1.place ∙ ahead-moved dir p w (n + 1) in (
      n,
      record {
        place = omega (arith, ints);
        within = within-moved dir end turn.place.0 moved.place.0 w e is.1.within;
        stays = λ k b. ap f (sym (ahead-moved dir p w k)) ∙ is.1.stays k b;
      },
    )

pub moved_none : (f : ℤ → Bool) (dir : Dir) (p end s : ℤ) → IsTurn f dir (p -ℤ position_of s)
    (end -ℤ position_of s) None → IsTurn (λ z. f (z -ℤ position_of s)) dir p end None
moved_none f dir p end s is = λ k near.
    let w = position_of s in
    let U : ℤ → Type 0 = λ z. IsUpTo dir (end -ℤ w) z in
    ap f (sym (ahead-moved dir p w k)) ∙ is k (subst U (sym (ahead-moved dir p w k))
    (within-back dir end (ahead dir p k) w near))

pub moved_counts : (x : ℤ → Bool) (dir : Dir) (s : ℤ) (turn moved : Turn)
    → moved.place.0 ≡ turn.place.0 +ℤ position_of s → moved.counts ≡ turn.counts
    → StandsIfCounted x dir (Some turn) → StandsIfCounted (λ z. x (z -ℤ position_of s)) dir
    (Some moved)
moved_counts x dir s turn moved e same stands = λ counts.
    let back : moved.place.0 -ℤ position_of s ≡ turn.place.0 = omega (arith, ints) in
    ap x (sym (candidate-moved dir moved.place.0 s) ∙ ap (candidate_at dir) back) ∙ stands (sym same
    ∙ counts)

-- a set of moments that stays the same for some steps is empty there
next_odd : (f : ℤ → Bool) → HasMomentsAlone f → (p : ℤ) → f p ≡ f (p +ℤ pos 1) → f p ≡ false
next_odd f none p e =
    let m = moment_of p in
    elim (cases_Bool (is_moment p)) [
      | inl even ↦ let place : p +ℤ pos 1 ≡ position_of m +ℤ pos 1 =
          ap (λ z. z +ℤ pos 1) (sym (at_moment p even)) in e ∙ ap f place ∙ none m
      | inr odd ↦ ap f (sym (at_open_second p odd)) ∙ none m
    ]

empty : (f : ℤ → Bool) (dir : Dir) (p : ℤ) (n : ℕ) → HasMomentsAlone f → 0 < n → ((k : ℕ) → k ≤ n
    → seen f dir p k ≡ f p) → (k : ℕ) → k ≤ n → seen f dir p k ≡ false
empty f Fore p n none some stays k h = stays k h ∙ next_odd f none p (sym (stays 1 (omega arith)))
empty f Back p n none some stays k h =
    let place : p -ℤ pos 1 +ℤ pos 1 ≡ p = omega (arith, ints) in
    stays k h ∙ sym (stays 1 (omega arith)) ∙ next_odd f none (p -ℤ pos 1) (stays 1 (omega arith)
    ∙ ap f (sym place))

-- none of the positions after a and up to b passes
abbrev pub NoneIn : (ℤ → Bool) → ℤ → ℤ → Type 0
NoneIn f a b = (z : ℤ) → a <ℤ z → z ≤ℤ b → f z ≡ false

none_fore : (f : ℤ → Bool) (p : ℤ) (n : ℕ) → ((k : ℕ) → k ≤ n → seen f Fore p k ≡ false)
    → NoneIn f p (p +ℤ pos n)
none_fore f p n stays z low high =
    let k = unsigned_abs (z -ℤ p) in
    let place : z ≡ p +ℤ pos k = omega (arith, ints) in
    ap f place ∙ stays k (omega (arith, ints))

none_back : (f : ℤ → Bool) (p : ℤ) (n : ℕ) → ((k : ℕ) → k ≤ n → seen f Back p k ≡ false)
    → NoneIn f (p -ℤ pos n) p
none_back f p n stays z low high =
    let k = unsigned_abs (p -ℤ z) in
    let place : z ≡ p -ℤ pos k = omega (arith, ints) in
    ap f place ∙ stays k (omega (arith, ints))

not_at : (f : ℤ → Bool) (z : ℤ) (P : Type 0) → f z ≡ false → f z ≡ true → P
not_at f z P fails holds = absurd (both_ways (f z) fails holds)

module _ (lasts : LastsFromMoment) where
  -- where no member enters or leaves, the positions that members hold for a while stay the same
  during_same : (set : ℤ → Bool) (seconds p q : ℤ) → p ≤ℤ q → NoneIn set p q
      → NoneIn set (p -ℤ position_of seconds) (q -ℤ position_of seconds)
      → lasts_at set seconds q ≡ lasts_at set seconds p
  during_same set seconds p q order enters leaves =
      same_truth (lasts_at set seconds q) (lasts_at set seconds p)
      (λ e.
      let r : IsLasting set seconds q = (lasts set seconds q).0 e in
      let t : ℤ = r.0 in
      let low : position_of t ≤ℤ q = r.2 in
      let high : q <ℤ position_of (t +ℤ seconds) = r.3 in
      by_lt_z p (position_of t)
      (λ new. not_at set (position_of t) (lasts_at set seconds p ≡ true) (enters (position_of t) new
      low) r.1)
      (λ old. (lasts set seconds p).1 (t, r.1, old, omega (arith, ints))))
      (λ e.
      let r : IsLasting set seconds p = (lasts set seconds p).0 e in
      let t : ℤ = r.0 in
      let low : position_of t ≤ℤ p = r.2 in
      let high : p <ℤ position_of (t +ℤ seconds) = r.3 in
      by_lt_z q (position_of (t +ℤ seconds))
      (λ still. (lasts set seconds q).1 (t, r.1, omega (arith, ints), still))
      (λ gone. not_at set (position_of t) (lasts_at set seconds q ≡ true)
      (leaves (position_of t) (omega (arith, ints)) (omega (arith, ints))) r.1))

  pub Follows-during : (set : ℤ → Bool) (seconds : ℤ) (dir : Dir) (p : ℤ) → HasMomentsAlone set
      → Follows set (λ q. set (q -ℤ position_of seconds)) (lasts_at set seconds) dir p
  Follows-during set seconds dir p kind zero one other = seen-zero (lasts_at set seconds) dir p
  Follows-during set seconds Fore p kind (suc n) one other =
      let w = position_of seconds in
      let start : ahead Fore (p -ℤ w) 0 ≡ p -ℤ w = omega (arith, ints) in
      let here = empty set Fore p (suc n) kind (omega arith) one in
      let there =
      empty set Fore (p -ℤ w) (suc n) kind (omega arith) (λ k h. ap set (ahead-moved Fore p w k)
      ∙ other k h) in
      let place : p -ℤ w +ℤ pos (suc n) ≡ p +ℤ pos (suc n) -ℤ w = omega (arith, ints) in
      during_same set seconds p (p +ℤ pos (suc n)) (omega (arith, ints))
      (none_fore set p (suc n) here)
      (subst (NoneIn set (p -ℤ w)) place (none_fore set (p -ℤ w) (suc n) there))
  Follows-during set seconds Back p kind (suc n) one other =
      let w = position_of seconds in
      let here = empty set Back p (suc n) kind (omega arith) one in
      let there =
      empty set Back (p -ℤ w) (suc n) kind (omega arith) (λ k h. ap set (ahead-moved Back p w k)
      ∙ other k h) in
      let place : p -ℤ w -ℤ pos (suc n) ≡ p -ℤ pos (suc n) -ℤ w = omega (arith, ints) in
      sym (during_same set seconds (p -ℤ pos (suc n)) p (omega (arith, ints))
      (none_back set p (suc n) here)
      (subst (λ z. NoneIn set z (p -ℤ w)) place (none_back set (p -ℤ w) (suc n) there)))

module _ (between : IsBetweenMoments) where
  pairs_same : (opens closes : ℤ → Bool) (p q : ℤ) → p ≤ℤ q → NoneIn opens p q → NoneIn closes p q
      → is_between opens closes q ≡ is_between opens closes p
  pairs_same opens closes p q order enters ends =
      same_truth (is_between opens closes q) (is_between opens closes p)
      (λ e.
      let r : IsBetween opens closes q = (between opens closes q).0 e in
      let t : ℤ = r.0 in
      by_lt_z p (position_of t)
      (λ new. not_at opens (position_of t) (is_between opens closes p ≡ true)
      (enters (position_of t) new r.3) r.2)
      (λ old. (between opens closes p).1 (
        t,
        r.1,
        r.2,
        old,
        λ u past up. r.4 u past (omega (arith, ints)),
      )))
      (λ e.
      let r : IsBetween opens closes p = (between opens closes p).0 e in
      let t : ℤ = r.0 in
      let high : position_of t ≤ℤ p = r.3 in
      (between opens closes q).1 (
        t,
        r.1,
        r.2,
        omega (arith, ints),
        λ u past up. by_lt_z p (position_of u)
            (λ new. ends (position_of u) new up)
            (λ old. r.4 u past old),
      ))

  pub Follows-pairs : (opens closes : ℤ → Bool) (dir : Dir) (p : ℤ) → HasMomentsAlone opens
      → HasMomentsAlone closes → Follows opens closes (is_between opens closes) dir p
  Follows-pairs opens closes dir p one_kind other_kind zero one other =
      seen-zero (is_between opens closes) dir p
  Follows-pairs opens closes Fore p one_kind other_kind (suc n) one other =
      pairs_same opens closes p (p +ℤ pos (suc n)) (omega (arith, ints))
      (none_fore opens p (suc n) (empty opens Fore p (suc n) one_kind (omega arith) one))
      (none_fore closes p (suc n) (empty closes Fore p (suc n) other_kind (omega arith) other))
  Follows-pairs opens closes Back p one_kind other_kind (suc n) one other =
      sym (pairs_same opens closes (p -ℤ pos (suc n)) p (omega (arith, ints))
      (none_back opens p (suc n) (empty opens Back p (suc n) one_kind (omega arith) one))
      (none_back closes p (suc n) (empty closes Back p (suc n) other_kind (omega arith) other)))
