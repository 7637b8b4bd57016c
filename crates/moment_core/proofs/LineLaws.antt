-- Steps on the line, what is seen on the way, and the nearest places that a search finds.
use Rattle.std.proofs.Common.{◌≡◌, inl, inr, ap, refl, sym, subst, ◌∙◌, arith, ℕ, ◌+◌, ◌*◌, ◌≤◌, ℤ, pos, negsuc, ◌+ℤ◌, ◌-ℤ◌, ◌≤ℤ◌, ◌<◌, Bool, true, false, ◌&&◌}
use Rattle.std.specs.Ordering.{int_eq}
use Rattle.std.proofs.lemmas.Bool.{and_left, cases_Bool, cases_order, true≢false}
use Rattle.std.proofs.lemmas.Int.{ints}
use Rattle.moment_core.specs.Line.{IsCalendarMoment, IsCalendarPosition, IsWorkingMoment, is_moment, moment_of, position_of}
use Rattle.moment_core.specs.Sets.{DiffersFirst, IsNextChange, ahead, moments_in, seen}
use Rattle.moment_core.specs.Steps.{IsNextCandidate, IsNextStep, MeetsFirst, NoCandidateLeft}
use Rattle.moment_core.specs.declared.line.Dir.{Dir}
use Rattle.moment_core.specs.declared.line.Dir.TheVariants.{Fore, Back}
use Rattle.moment_core.specs.declared.line.Moment.{Moment}
use Rattle.moment_core.specs.declared.line.Step.{Step}
use Rattle.moment_core.specs.declared.line.Step.TheVariants.{Hit, Pass, End}
use Rattle.moment_core.specs.declared.line.TheConstants.{LOW, WIDTH}
use Rattle.moment_core.proofs.Truths.{not_both}
use Rattle.moment_core.proofs.Comparing.{int_eq-is, int_eq-same, less_if_other}
use Rattle.moment_core.proofs.FloorLemmas.{floor_arith}

-- no step, and so many steps and then so many more
pub ahead-zero : (dir : Dir) (p : ℤ) → ahead dir p 0 ≡ p
ahead-zero Fore p = omega (arith, ints)
ahead-zero Back p = omega (arith, ints)

pub ahead-ahead : (dir : Dir) (p : ℤ) (m n : ℕ) → ahead dir (ahead dir p m) n ≡ ahead dir p (m + n)
ahead-ahead Fore p m n = omega (arith, ints)
ahead-ahead Back p m n = omega (arith, ints)

-- steps from a later start
pub ahead-later : (dir : Dir) (t : ℤ) (p k : ℕ) → ahead dir (t +ℤ pos p) k ≡ ahead dir t k +ℤ pos p
ahead-later Fore t p k = omega (arith, ints)
ahead-later Back t p k = omega (arith, ints)

pub earlier-back : (p : ℤ) (n : ℕ) → (p -ℤ pos n) +ℤ pos n ≡ p
earlier-back p n = omega (arith, ints)

-- so many steps lead to a place, and no other number
pub same-steps : (dir : Dir) (p q : ℤ) (m n : ℕ) → q ≡ ahead dir p m → q ≡ ahead dir p n → m ≡ n
same-steps Fore p q m n x y = omega (arith, ints)
same-steps Back p q m n x y = omega (arith, ints)

-- the same on the sets that are seen
pub seen-zero : (set : ℤ → Bool) (dir : Dir) (p : ℤ) → seen set dir p 0 ≡ set p
seen-zero set dir p = ap set (ahead-zero dir p)

pub seen-ahead : (set : ℤ → Bool) (dir : Dir) (p : ℤ) (m n : ℕ) → seen set dir (ahead dir p m) n
    ≡ seen set dir p (m + n)
seen-ahead set dir p m n = ap set (ahead-ahead dir p m n)

-- what lies n steps past p, seen from p and from there
pub seen-on : (set : ℤ → Bool) (dir : Dir) (p q : ℤ) (m n : ℕ) → q ≡ ahead dir p m
    → seen set dir q n ≡ seen set dir p (m + n)
seen-on set dir p q m n e = ap (λ z. seen set dir z n) e ∙ seen-ahead set dir p m n

-- a position is the moment at or before it, or the open second after that one
pub halves : (p : ℤ) → (position_of (moment_of p) ≤ℤ p)
    × (p ≤ℤ (position_of (moment_of p) +ℤ pos 1))
halves (pos n) = (omega (arith, ints), omega (arith, ints))
halves (negsuc n) = (omega (arith, ints), omega (arith, ints))

-- a position is a moment's, or the open second after it
pub at_moment : (p : ℤ) → is_moment p ≡ true → position_of (moment_of p) ≡ p
at_moment p e = int_eq-is (position_of (moment_of p)) p e

pub at_open_second : (p : ℤ) → is_moment p ≡ false → position_of (moment_of p) +ℤ pos 1 ≡ p
at_open_second p e =
    let near = halves p in
    let past : (position_of (moment_of p) +ℤ pos 1) ≤ℤ p =
    less_if_other (position_of (moment_of p)) p e near.0 in
    omega (arith, ints)

pub moment-of-position : (t : ℤ) → moment_of (position_of t) ≡ t
moment-of-position t = let near = halves (position_of t) in omega (arith, ints, near.0, near.1)

pub position_in_range : (t : ℤ) → IsCalendarMoment t → IsCalendarPosition (position_of t)
position_in_range t here = (omega (arith, ints, here.0), omega (arith, ints, here.1))

-- the moment at or before a position of the range
pub moment_in_range : (q : ℤ) → IsCalendarPosition q → IsCalendarMoment (moment_of q)
moment_in_range q here =
    let near = halves q in
    let low : position_of (moment_of q) ≤ℤ q = near.0 in
    let high : q ≤ℤ (position_of (moment_of q) +ℤ pos 1) = near.1 in
    (omega (arith, ints), omega (arith, ints))

-- a moment of the calendar range by its seconds from the range's beginning
pub calendar_from_low : (n : ℕ) → n < WIDTH → IsCalendarMoment (LOW +ℤ pos n)
calendar_from_low n near = grind (arith, ints)

-- a moment of the calendar range is one of the working range
pub calendar_works : (t : ℤ) → IsCalendarMoment t → IsWorkingMoment t
calendar_works t here = (omega (arith, ints, here.0), omega (arith, ints, here.1))

-- a set of moments is the same n seconds later, where its test is
even-later : (p : ℤ) (n : ℕ) → int_eq (position_of (moment_of (p +ℤ pos (2 * n))))
    (p +ℤ pos (2 * n)) ≡ int_eq (position_of (moment_of p)) p
even-later p n =
    let place : position_of (moment_of (p +ℤ pos (2 * n))) ≡ position_of (moment_of p) +ℤ pos
    (2 * n) = omega (arith, floor_arith) in
    ap (λ z. int_eq z (p +ℤ pos (2 * n))) place ∙ int_eq-same (position_of (moment_of p)) p (2 * n)

pub moments_in-later : (has : ℤ → Bool) (p : ℤ) (n : ℕ)
    → ((t : ℤ) → position_of t ≡ p → has (t +ℤ pos n) ≡ has t) → moments_in has (p +ℤ pos (2 * n))
    ≡ moments_in has p
moments_in-later has p n same = elim (cases_Bool (int_eq (position_of (moment_of p)) p)) [
  | inl even ↦
      let moment : moment_of (p +ℤ pos (2 * n)) ≡ moment_of p +ℤ pos n =
      omega (arith, floor_arith) in
      both (even-later p n)
      (ap has moment ∙ same (moment_of p) (int_eq-is (position_of (moment_of p)) p even))
  | inr odd ↦ and_left _ _ (even-later p n ∙ odd) ∙ sym (and_left _ _ odd)
]
  where
    both : {a b c d : Bool} → a ≡ b → c ≡ d → (a && c) ≡ (b && d)
    both x y = cc

-- the ranges have no gaps
pub calendar-between : (dir : Dir) (p : ℤ) (k n : ℕ) → IsCalendarPosition p
    → IsCalendarPosition (ahead dir p n) → k ≤ n → IsCalendarPosition (ahead dir p k)
calendar-between Fore p k n here there le = (omega (arith, ints), omega (arith, ints))
calendar-between Back p k n here there le = (omega (arith, ints), omega (arith, ints))

pub working-between : (dir : Dir) (t : ℤ) (k n : ℕ) → IsWorkingMoment t
    → IsWorkingMoment (ahead dir t n) → k ≤ n → IsWorkingMoment (ahead dir t k)
working-between Fore t k n here there le = (omega (arith, ints), omega (arith, ints))
working-between Back t k n here there le = (omega (arith, ints), omega (arith, ints))

-- the first step at which a test differs is one alone
pub one_first : (f : ℕ → Bool) (m n : ℕ) → DiffersFirst f m → DiffersFirst f n → m ≡ n
one_first f m n d e = elim (cases_order m n) [
  | inl same ↦ same
  | inr other ↦ elim other [
    | inl below ↦ absurd (not_both (f 0) (sym (e.same m below) ∙ d.differs))
    | inr above ↦ absurd (not_both (f 0) (sym (d.same n above) ∙ e.differs))
  ]
]

pub one_change : (set : ℤ → Bool) (dir : Dir) (p q r : ℤ) → IsNextChange set dir p q
    → IsNextChange set dir p r → q ≡ r
one_change set dir p q r a b =
    let same : a.0 ≡ b.0 = one_first (seen set dir p) a.0 b.0 a.2 b.2 in
    a.1 ∙ ap (ahead dir p) same ∙ sym b.1

-- and so is the first step at which a test is met
pub one_meeting : (f : ℕ → Bool) (m n : ℕ) → MeetsFirst f m → MeetsFirst f n → m ≡ n
one_meeting f m n d e = elim (cases_order m n) [
  | inl same ↦ same
  | inr other ↦ elim other [
    | inl below ↦ absurd (true≢false (sym d.meets ∙ e.none_before m d.later below))
    | inr above ↦ absurd (true≢false (sym e.meets ∙ d.none_before n e.later above))
  ]
]

pub one_candidate : (candidate : ℤ → Bool) (dir : Dir) (t u v : ℤ) → IsNextCandidate candidate dir t
    u → IsNextCandidate candidate dir t v → u ≡ v
one_candidate candidate dir t u v a b =
    let same : a.1.0 ≡ b.1.0 = one_meeting (seen candidate dir t) a.1.0 b.1.0 a.1.2 b.1.2 in
    a.1.1 ∙ ap (ahead dir t) same ∙ sym b.1.1

-- a nearest candidate and none at all exclude each other
candidate_or_none : (candidate : ℤ → Bool) (dir : Dir) (t u : ℤ) → IsNextCandidate candidate dir t u
    → NoCandidateLeft candidate dir t → ⊥
candidate_or_none candidate dir t u a none =
    let P : ℤ → Type 0 = λ z. IsWorkingMoment z in
    true≢false (sym a.1.2.meets ∙ none a.1.0 a.1.2.later (subst P a.1.1 a.0))

abbrev moment_at : ℤ → Moment
moment_at z = record { 0 = z }

-- so that a step along candidates has one answer
pub one_step : (has candidate : ℤ → Bool) (dir : Dir) (t : ℤ) (a b : Step)
    → IsNextStep has candidate dir t a → IsNextStep has candidate dir t b → a ≡ b
one_step has candidate dir t (Hit u) (Hit v) h k = ap (λ z. Hit (moment_at z))
    (one_candidate candidate dir t u.0 v.0 h.0 k.0)
one_step has candidate dir t (Hit u) (Pass v) h k =
    absurd (true≢false (sym h.1 ∙ ap has (one_candidate candidate dir t u.0 v.0 h.0 k.0) ∙ k.1))
one_step has candidate dir t (Hit u) End h k = absurd (candidate_or_none candidate dir t u.0 h.0 k)
one_step has candidate dir t (Pass u) (Hit v) h k =
    absurd (true≢false (sym k.1 ∙ ap has (one_candidate candidate dir t v.0 u.0 k.0 h.0) ∙ h.1))
one_step has candidate dir t (Pass u) (Pass v) h k = ap (λ z. Pass (moment_at z))
    (one_candidate candidate dir t u.0 v.0 h.0 k.0)
one_step has candidate dir t (Pass u) End h k = absurd (candidate_or_none candidate dir t u.0 h.0 k)
one_step has candidate dir t End (Hit v) h k = absurd (candidate_or_none candidate dir t v.0 k.0 h)
one_step has candidate dir t End (Pass v) h k = absurd (candidate_or_none candidate dir t v.0 k.0 h)
one_step has candidate dir t End End h k = refl
