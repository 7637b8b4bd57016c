-- Every search has an answer, and one alone.
use Rattle.std.proofs.Common.{◌≡◌, ◌⊎◌, inl, inr, ap, refl, sym, subst, ◌∙◌, arith, ℕ, zero, suc, ◌≤◌, ℤ, ◌-ℤ◌, unsigned_abs, Bool, Option, Some, None}
use Rattle.std.proofs.lemmas.Bool.{cases_order}
use Rattle.std.proofs.lemmas.Int.{ints}
use Rattle.moment_core.specs.Line.{IsCalendarPosition, position_of}
use Rattle.moment_core.specs.Sets.{ahead, seen, DiffersFirst, IsNextChange, StaysInRange}
use Rattle.moment_core.specs.declared.line.Dir.{Dir}
use Rattle.moment_core.specs.declared.line.Dir.TheVariants.{Fore, Back}
use Rattle.moment_core.specs.declared.line.Pos.{Pos}
use Rattle.moment_core.specs.declared.line.TheConstants.{LOW, HIGH}
use Rattle.moment_core.specs.declared.line.Window.{Window}
use Rattle.moment_core.proofs.LineLaws.{one_change, seen-zero}
use Rattle.moment_core.proofs.Truths.{same_or_not, not_both}
use Rattle.span_core.specs.Answers.{IsFound}
use Rattle.span_core.specs.declared.answers.Answer.{Answer}
use Rattle.span_core.specs.declared.answers.Answer.TheVariants.{At, None as Never, Edge, Budget}

-- how many steps lead from p to the end of the calendar range
abbrev pub steps_left : Dir → ℤ → ℕ
steps_left Fore p = unsigned_abs (position_of HIGH -ℤ p)
steps_left Back p = unsigned_abs (p -ℤ position_of LOW)

pub in_range-steps : (dir : Dir) (p : ℤ) (k : ℕ) → IsCalendarPosition p
    → IsCalendarPosition (ahead dir p k) → k ≤ steps_left dir p
in_range-steps Fore p k h near = omega (arith, ints)
in_range-steps Back p k h near = omega (arith, ints)

pub steps-in_range : (dir : Dir) (p : ℤ) (k : ℕ) → IsCalendarPosition p → k ≤ steps_left dir p
    → IsCalendarPosition (ahead dir p k)
steps-in_range Fore p k h near = (omega (arith, ints), omega (arith, ints))
steps-in_range Back p k h near = (omega (arith, ints), omega (arith, ints))

-- within n steps nothing differs, or something differs first
pub first_difference : (f : ℕ → Bool) (n : ℕ) → ((k : ℕ) → k ≤ n → f k ≡ f 0)
    ⊎ ((m : ℕ) × (m ≤ n) × DiffersFirst f m)
first_difference f zero = inl (λ k h. ap f (omega arith))
first_difference f (suc n) = elim (first_difference f n) [
  | inr d ↦ let near : d.0 ≤ n = d.1 in inr (d.0, omega arith, d.2)
  | inl same ↦ elim (same_or_not (f (suc n)) (f 0)) [
    | inl e ↦ inl (λ k h. elim (cases_order k (suc n)) [
      | inl last ↦ ap f last ∙ e
      | inr other ↦ elim other [
        | inl below ↦ same k (omega arith)
        | inr above ↦ absurd (omega arith)
      ]
    ])
    | inr e ↦ inr (
      suc n,
      omega arith,
      record {
        later = omega arith;
        differs = e;
        same =
            λ k h. same k (omega arith);
      },
    )
  ]
]

pub stays_in_range : (set : ℤ → Bool) (dir : Dir) (p : ℤ) → IsCalendarPosition p
    → ((k : ℕ) → k ≤ steps_left dir p → seen set dir p k ≡ seen set dir p 0) → StaysInRange set dir
    p
stays_in_range set dir p h same k near = same k (in_range-steps dir p k h near)
    ∙ seen-zero set dir p

pub some_answer : (set : ℤ → Bool) (window : Option Window) (dir : Dir) (p : ℤ)
    → IsCalendarPosition p → (a : Answer) × IsFound set window dir p a
some_answer set window dir p h = elim (first_difference (seen set dir p) (steps_left dir p)) [
  | inr d ↦ (
    At (record { 0 = ahead dir p d.0 }),
    (
      (d.0, refl, d.2),
      steps-in_range dir p d.0 h
          d.1,
    ),
  )
  | inl same ↦ elim window as (λ w. (a : Answer) × IsFound set w dir p a) [
    | Some w ↦ (Never w, (stays_in_range set dir p h same, refl))
    | None ↦ (Edge, (stays_in_range set dir p h same, refl))
  ]
]

abbrev pos_at : ℤ → Pos
pos_at z = record { 0 = z }

same_change : (set : ℤ → Bool) (dir : Dir) (p : ℤ) (q r : Pos) → IsNextChange set dir p q.0
    → IsNextChange set dir p r.0 → q ≡ r
same_change set dir p q r a b = ap pos_at (one_change set dir p q.0 r.0 a b)

-- a change in the range and none in it exclude each other
pub change_or_none : (set : ℤ → Bool) (dir : Dir) (p q : ℤ) → IsNextChange set dir p q
    → IsCalendarPosition q → StaysInRange set dir p → ⊥
change_or_none set dir p q a within stays =
    let P : ℤ → Type 0 = λ z. IsCalendarPosition z in
    not_both (seen set dir p 0) (seen-zero set dir p ∙ sym (stays a.0 (subst P a.1 within))
    ∙ a.2.differs)

pub one_answer : (set : ℤ → Bool) (window : Option Window) (dir : Dir) (p : ℤ) (a b : Answer)
    → IsFound set window dir p a → IsFound set window dir p b → a ≡ b
one_answer set window dir p (At q) (At r) h k = ap At (same_change set dir p q r h.0 k.0)
one_answer set window dir p (At q) (Never w) h k = absurd (change_or_none set dir p q.0 h.0 h.1 k.0)
one_answer set window dir p (At q) Edge h k = absurd (change_or_none set dir p q.0 h.0 h.1 k.0)
one_answer set window dir p (Never w) (At r) h k = absurd (change_or_none set dir p r.0 k.0 k.1 h.0)
one_answer set window dir p (Never w) (Never v) h k = let e : Some w ≡ Some v = sym h.1 ∙ k.1 in cc
one_answer set window dir p (Never w) Edge h k = let e : Some w ≡ None = sym h.1 ∙ k.1 in absurd cc
one_answer set window dir p Edge (At r) h k = absurd (change_or_none set dir p r.0 k.0 k.1 h.0)
one_answer set window dir p Edge (Never w) h k = let e : None ≡ Some w = sym h.1 ∙ k.1 in absurd cc
one_answer set window dir p Edge Edge h k = refl
one_answer set window dir p (Budget s) b h k = absurd h
one_answer set window dir p a (Budget s) h k = absurd k
