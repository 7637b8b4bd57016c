-- The next run past a position, put together from the answers of searches.
use Rattle.std.proofs.Common.{◌≡◌, inl, inr, ap, refl, sym, subst, ◌∙◌, arith, ℕ, zero, suc, ◌+◌, ◌-◌, ◌<◌, ℤ, Bool, true, false, not, Option}
use Rattle.std.proofs.lemmas.Bool.{cases_lt, both_ways}
use Rattle.std.proofs.lemmas.Int.{ints}
use Rattle.moment_core.specs.Line.{IsCalendarPosition}
use Rattle.moment_core.specs.Sets.{ahead, seen, BeginsFirst, DiffersFirst, IsNextBeginning, IsNextChange, NoneBegins, StaysInRange}
use Rattle.moment_core.specs.declared.line.Dir.{Dir}
use Rattle.moment_core.specs.declared.line.Dir.TheVariants.{Fore, Back}
use Rattle.moment_core.specs.declared.line.Window.{Window}
use Rattle.moment_core.proofs.LineLaws.{ahead-ahead, seen-on, seen-zero}
use Rattle.span_core.specs.Answers.{IsFound}
use Rattle.span_core.specs.declared.answers.Answer.{Answer}
use Rattle.span_core.specs.declared.answers.Answer.TheVariants as answers
use Rattle.span_core.specs.declared.answers.Near.{Near}
use Rattle.span_core.specs.declared.answers.Near.TheVariants as nears
use Rattle.query_core.specs.Neighbours.{IsFoundPastRun, IsNextPast}

in_range-on : (dir : Dir) (p x : ℤ) (n j k : ℕ) → x ≡ ahead dir p n → k ≡ n + j
    → IsCalendarPosition (ahead dir p k) → IsCalendarPosition (ahead dir x j)
in_range-on dir p x n j k e s near =
    let P : ℤ → Type 0 = λ z. IsCalendarPosition z in
    subst P (ap (ahead dir p) s ∙ sym (ahead-ahead dir p n j) ∙ ap (λ z. ahead dir z j) (sym e))
    near

in_range-before : (dir : Dir) (p : ℤ) (k : ℕ) → IsCalendarPosition p
    → IsCalendarPosition (ahead dir p (k + 1)) → IsCalendarPosition (ahead dir p k)
in_range-before Fore p k here near = (omega (arith, ints), omega (arith, ints))
in_range-before Back p k here near = (omega (arith, ints), omega (arith, ints))

-- where the first position is no member, a run begins at the first one that differs
begins_first : (f : ℕ → Bool) (n : ℕ) → f 0 ≡ false → DiffersFirst f n → (m : ℕ) × (n ≡ m + 1)
    × BeginsFirst f m
begins_first f zero e d = absurd (omega (arith, d.later))
begins_first f (suc m) e d =
    let s : m + 1 ≡ suc m = omega arith in (
      m,
      sym s,
      record {
        begins = ap f s ∙ d.differs ∙ ap not e;
        fresh = d.same m (omega arith) ∙ e;
        none_before = λ k h t. absurd (both_ways (f (k + 1)) (d.same (k + 1) (omega arith) ∙ e) t);
      },
    )

pub begins_at_change : (set : ℤ → Bool) (dir : Dir) (p x : ℤ) → set p ≡ false
    → IsNextChange set dir p x → IsNextBeginning set dir p x
begins_at_change set dir p x e c =
    let b = begins_first (seen set dir p) c.0 (seen-zero set dir p ∙ e) c.2 in
    (b.0, c.1 ∙ ap (ahead dir p) b.1, b.2)

-- past a member comes a position that is none
pub gap_at_change : (set : ℤ → Bool) (dir : Dir) (p x : ℤ) → set p ≡ true → IsNextChange set dir p x
    → set x ≡ false
gap_at_change set dir p x e c = ap set c.1 ∙ c.2.differs ∙ ap not (seen-zero set dir p ∙ e)

-- up to that change all are members
pub members_before : (set : ℤ → Bool) (dir : Dir) (p x : ℤ) → set p ≡ true
    → (c : IsNextChange set dir p x) → (k : ℕ) → k < c.0 → seen set dir p k ≡ true
members_before set dir p x e c k h = c.2.same k h ∙ seen-zero set dir p ∙ e

-- so the runs that begin past it are those past the change
begins_later : (f g : ℕ → Bool) (n m : ℕ) → ((j : ℕ) → g j ≡ f (n + j)) → ((k : ℕ) → k < n
    → f k ≡ true) → BeginsFirst g m → BeginsFirst f (n + m)
begins_later f g n m on members b =
    let s : n + m + 1 ≡ n + (m + 1) = omega arith in
    record {
      begins = ap f s ∙ sym (on (m + 1)) ∙ b.begins;
      fresh = sym (on m) ∙ b.fresh;
      none_before = λ k h t. elim (cases_lt k n) [
        | inl near ↦ members k near
        | inr far ↦
            let j : ℕ = k - n in
            let at : k ≡ n + j = omega arith in
            let after : n + (j + 1) ≡ k + 1 = omega arith in
            ap f at ∙ sym (on j) ∙ b.none_before j (omega arith) (on (j + 1) ∙ ap f after ∙ t)
      ];
    }

begins_past_run : (set : ℤ → Bool) (dir : Dir) (p x q : ℤ) → set p ≡ true → IsNextChange set dir p x
    → IsNextBeginning set dir x q → IsNextBeginning set dir p q
begins_past_run set dir p x q e c b =
    let n : ℕ = c.0 in
    let m : ℕ = b.0 in
    let s : n + (m + 1) ≡ n + m + 1 = omega arith in (
      n + m,
      b.1 ∙ ap (λ z. ahead dir z (m + 1)) c.1 ∙ ahead-ahead dir p n (m + 1) ∙ ap (ahead dir p) s,
      begins_later (seen set dir p) (seen set dir x) n m (λ j. seen-on set dir p x n j c.1)
          (members_before set dir p x e c) b.2,
    )

-- where nothing differs no run begins
none_begins : (set : ℤ → Bool) (dir : Dir) (p : ℤ) → IsCalendarPosition p → StaysInRange set dir p
    → NoneBegins set dir p
none_begins set dir p here stays k near t =
    stays k (in_range-before dir p k here near) ∙ sym (stays (k + 1) near) ∙ t

none_begins_past_run : (set : ℤ → Bool) (dir : Dir) (p x : ℤ) → set p ≡ true
    → IsNextChange set dir p x → NoneBegins set dir x → NoneBegins set dir p
none_begins_past_run set dir p x e c none k near t = elim (cases_lt k c.0) [
  | inl h ↦ members_before set dir p x e c k h
  | inr far ↦
      let n : ℕ = c.0 in
      let j : ℕ = k - n in
      let at : k ≡ n + j = omega arith in
      let after : k + 1 ≡ n + (j + 1) = omega arith in
      ap (seen set dir p) at ∙ sym (seen-on set dir p x n j c.1)
      ∙ none j (in_range-on dir p x n (j + 1) (k + 1) c.1 after near) (seen-on set dir p x n (j + 1)
      c.1 ∙ ap (seen set dir p) (sym after) ∙ t)
]

-- what is found past a gap is found past the run before it
found_past_run : (set : ℤ → Bool) (window : Dir → ℤ → Option Window) (dir : Dir) (p x : ℤ)
    (a : Answer) → set p ≡ true → IsNextChange set dir p x → IsCalendarPosition x
    → IsFoundPastRun set window dir x a → IsFoundPastRun set window dir p a
found_past_run set window dir p x a e c near f = elim f.1 [
  | inl member ↦ absurd (both_ways (set x) (gap_at_change set dir p x e c) member.0)
  | inr same ↦
      let P : ℤ → Type 0 = λ z. IsFound set (window dir z) dir z a in
      (x, inl (e, c, near), subst P same.1 f.2)
]

pub next_past_run : (set : ℤ → Bool) (window : Dir → ℤ → Option Window) (dir : Dir) (p x : ℤ)
    (near : Near) → set p ≡ true → IsNextChange set dir p x → IsCalendarPosition x
    → IsNextPast set window dir x near → IsNextPast set window dir p near
next_past_run set window dir p x (nears.Found run) e c here h =
    (h.0, h.1, begins_past_run set dir p x h.0 e c h.2, h.3)
next_past_run set window dir p x (nears.None w) e c here h = (
  none_begins_past_run set dir p x e c h.0,
  found_past_run set window dir p x (answers.None w) e
      c here h.1,
)
next_past_run set window dir p x nears.Edge e c here h = (
  none_begins_past_run set dir p x e c h.0,
  found_past_run set window dir p x answers.Edge e c
      here h.1,
)
next_past_run set window dir p x (nears.Budget s) e c here h = absurd h

-- the answers where nothing differs past p
pub never_past : (set : ℤ → Bool) (window : Dir → ℤ → Option Window) (dir : Dir) (p : ℤ)
    (w : Window) → IsCalendarPosition p → IsFound set (window dir p) dir p (answers.None w)
    → IsNextPast set window dir p (nears.None w)
never_past set window dir p w here f =
    (none_begins set dir p here f.0, (p, inr ((λ e. f.0), refl), f))

pub edge_past : (set : ℤ → Bool) (window : Dir → ℤ → Option Window) (dir : Dir) (p : ℤ)
    → IsCalendarPosition p → IsFound set (window dir p) dir p answers.Edge
    → IsNextPast set window dir p nears.Edge
edge_past set window dir p here f = (none_begins set dir p here f.0, (p, inr ((λ e. f.0), refl), f))

-- past a gap the next run begins at the change
pub first_past_gap : (set : ℤ → Bool) (dir : Dir) (p x : ℤ) → set p ≡ false
    → IsNextChange set dir p x → set x ≡ true
first_past_gap set dir p x e c = ap set c.1 ∙ c.2.differs ∙ ap not (seen-zero set dir p ∙ e)
