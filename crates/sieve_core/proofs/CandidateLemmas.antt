-- The nearest candidate, from the moment past which it is looked for.
use Rattle.std.proofs.Common.{inl, inr, ◌≡◌, ℕ, ◌+◌, ◌-◌, ◌<◌, ◌≤ℤ◌, ◌<ℤ◌, true, false, sym, ap, ◌∙◌, arith, ℤ, pos, ◌+ℤ◌, ◌-ℤ◌, unsigned_abs}
use Rattle.std.proofs.lemmas.Bool.{and_from, and_left, and_right, cases_lt, cases_Bool}
use Rattle.moment_core.proofs.FloorLemmas.{floor_arith}
use Rattle.moment_core.specs.Line.{IsWorkingMoment}
use Rattle.moment_core.specs.declared.line.Dir.{Dir}
use Rattle.moment_core.specs.declared.line.Dir.TheVariants.{Fore, Back}
use Rattle.moment_core.specs.Sets.{ahead, seen}
use Rattle.moment_core.specs.Steps.{IsNextCandidate, NoCandidateLeft}
use Rattle.moment_core.proofs.LineLaws.{ahead-ahead}
use Rattle.sieve_core.specs.declared.tables.Sieve.{Sieve}
use Rattle.sieve_core.specs.Members.{is_between, is_candidate, is_mark}
use Rattle.sieve_core.specs.Nearest.{IsNearest, IsPastNearEnd, IsStart}

-- before the nearest mark there is no candidate
pub clear-before : (s : Sieve) (dir : Dir) (t start u : ℤ) (begins : IsStart s dir t start)
    (nearest : IsNearest (is_mark s) dir start u) (k : ℕ) → 0 < k → k < begins.gap + 1 +
    nearest.steps → seen (is_candidate s) dir t k ≡ false
unfolding is_candidate
clear-before s dir t start u begins nearest k some below =
    elim (cases_lt k (begins.gap + 1)) [
      | inl early ↦ and_left _ _ (begins.none_before k some (omega arith))
      | inr late ↦ (let whole : begins.gap + 1 + (k - (begins.gap + 1)) ≡ k = omega arith in
          let place : ahead dir start (k - (begins.gap + 1)) ≡ ahead dir t k =
          rw begins.place (ahead-ahead dir t (begins.gap + 1) (k - (begins.gap + 1))
          ∙ ap (ahead dir t) whole) in
          let clear : seen (is_mark s) dir t k ≡ false =
          rw (← place) (nearest.none_before (k - (begins.gap + 1)) (omega arith)) in
          and_right _ _ clear)
    ]

pub next-candidate : (s : Sieve) (dir : Dir) (t start u : ℤ) → IsStart s dir t start
    → IsNearest (is_mark s) dir start u → IsWorkingMoment u → is_between s u ≡ true
    → IsNextCandidate (is_candidate s) dir t u
unfolding is_candidate
next-candidate s dir t start u begins nearest working between =
    let place : u ≡ ahead dir t (begins.gap + 1 + nearest.steps) = nearest.place
    ∙ rw begins.place (ahead-ahead dir t (begins.gap + 1) nearest.steps) in (
      working,
      (
        begins.gap + 1 + nearest.steps,
        place,
        record {
          later = omega arith;
          meets = rw (← place) (and_from _ _ between nearest.meets);
          none_before = clear-before s dir t start u begins nearest;
        },
      ),
    )

pub between-parts : (s : Sieve) (t : ℤ) → is_between s t ≡ true → (s.first.0 ≤ℤ t) × (t ≤ℤ s.last.0)
unfolding is_between
between-parts s t e = (grind (arith, floor_arith), grind (arith, floor_arith))

pub between-from : (s : Sieve) (t : ℤ) → s.first.0 ≤ℤ t → t ≤ℤ s.last.0 → is_between s t ≡ true
unfolding is_between
between-from s t low high = grind (arith, floor_arith)

not-between-low : (s : Sieve) (t : ℤ) → t <ℤ s.first.0 → is_between s t ≡ false
unfolding is_between
not-between-low s t below = grind (arith, floor_arith)

not-between-high : (s : Sieve) (t : ℤ) → s.last.0 <ℤ t → is_between s t ≡ false
unfolding is_between
not-between-high s t above = grind (arith, floor_arith)

pub near-later : (s : Sieve) (dir : Dir) (w u : ℤ) (k : ℕ) → u ≡ ahead dir w k
    → IsPastNearEnd s dir w
    → IsPastNearEnd s dir u
near-later s Fore w u k e near = omega (arith, floor_arith)
near-later s Back w u k e near = omega (arith, floor_arith)

-- a moment past the near end, on the way to one that is open, is open
on-the-way : (s : Sieve) (dir : Dir) (t w v : ℤ) (m j : ℕ) → IsWorkingMoment t → w ≡ ahead dir t m
    → IsPastNearEnd s dir w → v ≡ ahead dir w j → IsWorkingMoment v → is_between s v ≡ true
    → IsWorkingMoment w × (is_between s w ≡ true)
on-the-way s Fore t w v m j working place near on within between =
    let parts = between-parts s v between in (
      (omega (arith, floor_arith), omega (arith, floor_arith)),
      between-from s w near
          (omega (arith, floor_arith)),
    )
on-the-way s Back t w v m j working place near on within between =
    let parts = between-parts s v between in (
      (omega (arith, floor_arith), omega (arith, floor_arith)),
      between-from s w
          (omega (arith, floor_arith)) near,
    )

-- past a moment that isn't open none is
pub closed-past : (s : Sieve) (dir : Dir) (t w v : ℤ) (m j : ℕ) → IsWorkingMoment t → w
    ≡ ahead dir t m → IsPastNearEnd s dir w → (IsWorkingMoment w × (is_between s w ≡ true) → ⊥) → v
    ≡ ahead dir w j → IsWorkingMoment v → is_between s v ≡ false
closed-past s dir t w v m j working place near closed on within =
    elim (cases_Bool (is_between s v)) [
      | inl between ↦
          absurd (closed (on-the-way s dir t w v m j working place near on within between))
      | inr past ↦ past
    ]

pub none-left-start : (s : Sieve) (dir : Dir) (t start : ℤ) → IsWorkingMoment t
    → IsStart s dir t start → (IsWorkingMoment start × (is_between s start ≡ true) → ⊥)
    → NoCandidateLeft (is_candidate s) dir t
unfolding is_candidate
none-left-start s dir t start working begins closed = λ k some within.
    elim (cases_lt k (begins.gap + 1)) [
      | inl early ↦ and_left _ _ (begins.none_before k some (omega arith))
      | inr late ↦ (let whole : begins.gap + 1 + (k - (begins.gap + 1)) ≡ k = omega arith in
          let place : ahead dir t k ≡ ahead dir start (k - (begins.gap + 1)) =
          sym (rw begins.place (ahead-ahead dir t (begins.gap + 1) (k - (begins.gap + 1))
          ∙ ap (ahead dir t) whole)) in
          and_left _ _ (closed-past s dir t start (ahead dir t k) (begins.gap + 1)
          (k - (begins.gap + 1)) working begins.place begins.near closed place within))
    ]

pub none-left-nearest : (s : Sieve) (dir : Dir) (t start u : ℤ) → IsWorkingMoment t
    → IsStart s dir t start → IsNearest (is_mark s) dir start u
    → (IsWorkingMoment u × (is_between s u ≡ true) → ⊥) → NoCandidateLeft (is_candidate s) dir t
unfolding is_candidate
none-left-nearest s dir t start u working begins nearest closed = λ k some within.
    let n = begins.gap + 1 + nearest.steps in
    let place : u ≡ ahead dir t n = nearest.place
    ∙ rw begins.place (ahead-ahead dir t (begins.gap + 1) nearest.steps) in
    elim (cases_lt k n) [
      | inl early ↦ clear-before s dir t start u begins nearest k some early
      | inr late ↦ (let whole : n + (k - n) ≡ k = omega arith in
          let on : ahead dir t k ≡ ahead dir u (k - n) =
          sym (rw place (ahead-ahead dir t n (k - n) ∙ ap (ahead dir t) whole)) in
          and_left _ _ (closed-past s dir t u (ahead dir t k) n (k - n) working place
          (near-later s dir start u nearest.steps nearest.place begins.near) closed on within))
    ]

-- where a search begins
pub start-at_end : (s : Sieve) (t next : ℤ) → next ≡ ahead Fore t 1 → next <ℤ s.first.0
    → IsStart s Fore t s.first.0
start-at_end s t next e below =
    let gap = unsigned_abs (s.first.0 -ℤ next) in
    record {
      gap = gap;
      place = omega (arith, floor_arith);
      none_before = λ k some early. not-between-low s (t +ℤ pos k) (omega (arith, floor_arith));
      near = omega (arith, floor_arith);
    }

pub start-at_last : (s : Sieve) (t next : ℤ) → next ≡ ahead Back t 1 → s.last.0 <ℤ next
    → IsStart s Back t s.last.0
start-at_last s t next e below =
    let gap = unsigned_abs (next -ℤ s.last.0) in
    record {
      gap = gap;
      place = omega (arith, floor_arith);
      none_before = λ k some early. not-between-high s (t -ℤ pos k) (omega (arith, floor_arith));
      near = omega (arith, floor_arith);
    }
