-- Each query has an answer, and no second one.
use Rattle.std.proofs.Common.{◌≡◌, ◌⊎◌, inl, inr, ap, refl, sym, subst, ◌∙◌, arith, ℕ, ◌+◌, ℤ, Bool, true, false, Option, None}
use Rattle.std.proofs.lemmas.Bool.{cases_order, both_ways}
use Rattle.std.proofs.lemmas.Int.{by_lt_z, ints}
use Rattle.moment_core.specs.Line.{IsCalendarMoment, IsCalendarPosition, position_of}
use Rattle.moment_core.specs.Sets.{ahead, seen, BeginsFirst, IsNextBeginning, IsNextChange, NoneBegins, StaysInRange, IsUpTo, range_end}
use Rattle.moment_core.specs.declared.line.Dir.{Dir}
use Rattle.moment_core.specs.declared.line.Dir.TheVariants.{Fore, Back}
use Rattle.moment_core.specs.declared.line.Pos.{Pos}
use Rattle.moment_core.specs.declared.line.Window.{Window}
use Rattle.moment_core.proofs.LineLaws.{one_change, position_in_range}
use Rattle.moment_core.proofs.Order.{up_to_end, self_up_to}
use Rattle.span_core.specs.Answers.{IsFound}
use Rattle.span_core.specs.Laws.{AnswersAreUnique, SearchesAreAnswered}
use Rattle.span_core.specs.declared.answers.Answer.{Answer}
use Rattle.span_core.specs.declared.answers.Answer.TheVariants as answers
use Rattle.span_core.specs.declared.answers.Near.{Near}
use Rattle.span_core.specs.declared.answers.Near.TheVariants as nears
use Rattle.span_core.specs.declared.bounds.Run.{Run}
use Rattle.run_search.specs.Laws.{RunsAreUnique, RunsExist}
use Rattle.run_search.specs.Runs.{IsFirstRun, item_between, item_from}
use Rattle.query_core.specs.Neighbours.{IsClosestRun, IsCurrentRun, IsFoundPastRun, IsNextPast, IsPastRun, IsRunAround, IsRunBeside, IsRunFrom, closer_of}
use Rattle.query_core.proofs.Nearing.{begins_at_change, edge_past, first_past_gap, gap_at_change, never_past, next_past_run}

-- the range's end lies in it
pub end_in_range : (dir : Dir) → IsCalendarPosition (range_end dir)
end_in_range Fore = (omega (arith, ints), omega (arith, ints))
end_in_range Back = (omega (arith, ints), omega (arith, ints))

-- the first run from a member on begins there
before_first : (dir : Dir) (p near : ℤ) → IsUpTo dir near p → (p ≡ near)
    ⊎ IsUpTo dir near (ahead dir p 1)
before_first Fore p near h =
    by_lt_z p near (λ past. inr (omega (arith, ints))) (λ same. inl (omega (arith, ints)))
before_first Back p near h =
    by_lt_z near p (λ past. inr (omega (arith, ints))) (λ same. inl (omega (arith, ints)))

module _ (some : SearchesAreAnswered) (exist : RunsExist) where
  of_member : (set : ℤ → Bool) (dir : Dir) (p : ℤ) → IsCalendarPosition p → set p ≡ true → (far : ℤ)
      × IsFirstRun set dir p (range_end dir) p far
  of_member set dir p here m =
      elim (exist set dir p (range_end dir) here (end_in_range dir) (up_to_end dir p here)) [
        | inl run ↦ elim (before_first dir p run.0 run.2.from) [
          | inl same ↦ let P : ℤ → Type 0 =
              λ z. IsFirstRun set dir p (range_end dir) z run.1 in (run.1, subst P (sym same) run.2)
          | inr past ↦ absurd (both_ways (set p) (run.2.none_before p (self_up_to dir p) past) m)
        ]
        | inr none ↦
            absurd (both_ways (set p) (none p (self_up_to dir p) (up_to_end dir p here)) m)
      ]

  run_by : (set : ℤ → Bool) (window : Dir → ℤ → Option Window) (dir : Dir) (near : ℤ)
      → IsCalendarPosition near → set near ≡ true → (run : Run) × IsRunFrom set window dir near run
  run_by set window dir near here m =
      let far = of_member set dir near here m in
      (item_from window dir near far.0, (far.0, far.1, refl))

  some_past_gap : (set : ℤ → Bool) (window : Dir → ℤ → Option Window) (dir : Dir) (p : ℤ)
      (a : Answer) → IsCalendarPosition p → set p ≡ false → IsFound set (window dir p) dir p a
      → (near : Near) × IsNextPast set window dir p near
  some_past_gap set window dir p (answers.At x) here e f =
      let run = run_by set window dir x.0 f.1 (first_past_gap set dir p x.0 e f.0) in
      (nears.Found run.0, (x.0, f.1, begins_at_change set dir p x.0 e f.0, run.1))
  some_past_gap set window dir p (answers.None w) here e f =
      (nears.None w, never_past set window dir p w here f)
  some_past_gap set window dir p answers.Edge here e f =
      (nears.Edge, edge_past set window dir p here f)
  some_past_gap set window dir p (answers.Budget s) here e f = absurd f

  some_past_member : (set : ℤ → Bool) (window : Dir → ℤ → Option Window) (dir : Dir) (p : ℤ)
      (a : Answer) → IsCalendarPosition p → set p ≡ true → IsFound set (window dir p) dir p a
      → (near : Near) × IsNextPast set window dir p near
  some_past_member set window dir p (answers.At x) here e f =
      let next = some set (window dir x.0) dir x.0 f.1 in
      let near =
      some_past_gap set window dir x.0 next.0 f.1 (gap_at_change set dir p x.0 e f.0) next.1 in
      (near.0, next_past_run set window dir p x.0 near.0 e f.0 f.1 near.1)
  some_past_member set window dir p (answers.None w) here e f =
      (nears.None w, never_past set window dir p w here f)
  some_past_member set window dir p answers.Edge here e f =
      (nears.Edge, edge_past set window dir p here f)
  some_past_member set window dir p (answers.Budget s) here e f = absurd f

  some_past : (set : ℤ → Bool) (window : Dir → ℤ → Option Window) (dir : Dir) (p : ℤ)
      → IsCalendarPosition p → (near : Near) × IsNextPast set window dir p near
  some_past set window dir p here =
      let a = some set (window dir p) dir p here in
      elim (set p) as (λ b. set p ≡ b → (near : Near) × IsNextPast set window dir p near) [
        | true ↦ λ e. some_past_member set window dir p a.0 here e a.1
        | false ↦ λ e. some_past_gap set window dir p a.0 here e a.1
      ] refl

  some_around : (set : ℤ → Bool) (window : Dir → ℤ → Option Window) (p : ℤ) → IsCalendarPosition p
      → set p ≡ true → (near : Near) × IsRunAround set window p near
  some_around set window p here m =
      let low = of_member set Back p here m in
      let high = of_member set Fore p here m in
      (nears.Found (item_between window low.0 high.0), (low.0, high.0, low.1, high.1, refl))

  pub some_next : (set : ℤ → Bool) (window : Dir → ℤ → Option Window) (dir : Dir) (at : ℤ)
      → IsCalendarMoment at → (near : Near) × IsNextPast set window dir (position_of at) near
  some_next set window dir at here =
      some_past set window dir (position_of at) (position_in_range at here)

  pub some_current : (set : ℤ → Bool) (window : Dir → ℤ → Option Window) (at : ℤ)
      → IsCalendarMoment at → (near : Near) × IsCurrentRun set window at near
  some_current set window at here =
      elim (set (position_of at)) as (λ b. set (position_of at) ≡ b → (near : Near)
      × IsCurrentRun set window at near) [
        | true ↦ λ m. let near =
            some_around set window (position_of at) (position_in_range at here) m in (
              near.0,
              inl (m, near.1),
            )
        | false ↦ λ gap. let near = some_next set window Back at here in (near.0, inr (gap, near.1))
      ] refl

  some_beside : (set : ℤ → Bool) (window : Dir → ℤ → Option Window) (at : ℤ) → IsCalendarMoment at
      → (near : Near) × IsRunBeside set window at near
  some_beside set window at here =
      let before = some_next set window Back at here in
      let after = some_next set window Fore at here in
      (closer_of at before.0 after.0, (before.0, after.0, before.1, after.1, refl))

  pub some_closest : (set : ℤ → Bool) (window : Dir → ℤ → Option Window) (at : ℤ)
      → IsCalendarMoment at → (near : Near) × IsClosestRun set window at near
  some_closest set window at here =
      elim (set (position_of at)) as (λ b. set (position_of at) ≡ b → (near : Near)
      × IsClosestRun set window at near) [
        | true ↦ λ m. let near =
            some_around set window (position_of at) (position_in_range at here) m in (
              near.0,
              inl (m, near.1),
            )
        | false ↦ λ gap. let near = some_beside set window at here in (near.0, inr (gap, near.1))
      ] refl

-- and no second one
one_first_beginning : (f : ℕ → Bool) (m n : ℕ) → BeginsFirst f m → BeginsFirst f n → m ≡ n
one_first_beginning f m n a b = elim (cases_order m n) [
  | inl same ↦ same
  | inr other ↦ elim other [
    | inl below ↦ absurd (both_ways (f m) a.fresh (b.none_before m below a.begins))
    | inr above ↦ absurd (both_ways (f n) b.fresh (a.none_before n above b.begins))
  ]
]

one_beginning : (set : ℤ → Bool) (dir : Dir) (p q r : ℤ) → IsNextBeginning set dir p q
    → IsNextBeginning set dir p r → q ≡ r
one_beginning set dir p q r a b =
    let same : a.0 ≡ b.0 = one_first_beginning (seen set dir p) a.0 b.0 a.2 b.2 in
    a.1 ∙ ap (λ n. ahead dir p (n + 1)) same ∙ sym b.1

beginning_or_none : (set : ℤ → Bool) (dir : Dir) (p q : ℤ) → IsNextBeginning set dir p q
    → IsCalendarPosition q → NoneBegins set dir p → ⊥
beginning_or_none set dir p q b near none =
    let P : ℤ → Type 0 = λ z. IsCalendarPosition z in
    both_ways (seen set dir p b.0) b.2.fresh (none b.0 (subst P b.1 near) b.2.begins)

abbrev pos_at : ℤ → Pos
pos_at z = record { 0 = z }

module _ (one : AnswersAreUnique) (unique : RunsAreUnique) where
  one_run : (set : ℤ → Bool) (window : Dir → ℤ → Option Window) (dir : Dir) (near : ℤ) (a b : Run)
      → IsRunFrom set window dir near a → IsRunFrom set window dir near b → a ≡ b
  one_run set window dir near a b h k =
      let same = unique set dir near (range_end dir) near h.0 near k.0 h.1 k.1 in
      h.2 ∙ ap (item_from window dir near) same.1 ∙ sym k.2

  change_or_none : (set : ℤ → Bool) (dir : Dir) (p x : ℤ) → IsNextChange set dir p x
      → IsCalendarPosition x → StaysInRange set dir p → ⊥
  change_or_none set dir p x a here stays =
      let same : answers.At (pos_at x) ≡ answers.Edge =
      one set None dir p (answers.At (pos_at x)) answers.Edge (a, here) (stays, refl) in
      absurd cc

  one_past_run : (set : ℤ → Bool) (dir : Dir) (p x y : ℤ) → IsPastRun set dir p x
      → IsPastRun set dir p y → x ≡ y
  one_past_run set dir p x y (inl h) (inl k) = one_change set dir p x y h.1 k.1
  one_past_run set dir p x y (inl h) (inr k) = absurd (change_or_none set dir p x h.1 h.2 (k.0 h.0))
  one_past_run set dir p x y (inr h) (inl k) = absurd (change_or_none set dir p y k.1 k.2 (h.0 k.0))
  one_past_run set dir p x y (inr h) (inr k) = h.1 ∙ sym k.1

  one_found_past_run : (set : ℤ → Bool) (window : Dir → ℤ → Option Window) (dir : Dir) (p : ℤ)
      (a b : Answer) → IsFoundPastRun set window dir p a → IsFoundPastRun set window dir p b → a ≡ b
  one_found_past_run set window dir p a b h k =
      let P : ℤ → Type 0 = λ z. IsFound set (window dir z) dir z a in
      one set (window dir k.0) dir k.0 a b (subst P (one_past_run set dir p h.0 k.0 h.1 k.1) h.2)
      k.2

  one_past : (set : ℤ → Bool) (window : Dir → ℤ → Option Window) (dir : Dir) (p : ℤ) (a b : Near)
      → IsNextPast set window dir p a → IsNextPast set window dir p b → a ≡ b
  one_past set window dir p (nears.Found a) (nears.Found b) h k =
      let P : ℤ → Type 0 = λ z. IsRunFrom set window dir z a in
      ap nears.Found (one_run set window dir k.0 a b (subst P (one_beginning set dir p h.0 k.0 h.2
      k.2) h.3) k.3)
  one_past set window dir p (nears.Found a) (nears.None w) h k =
      absurd (beginning_or_none set dir p h.0 h.2 h.1 k.0)
  one_past set window dir p (nears.Found a) nears.Edge h k =
      absurd (beginning_or_none set dir p h.0 h.2 h.1 k.0)
  one_past set window dir p (nears.None w) (nears.Found b) h k =
      absurd (beginning_or_none set dir p k.0 k.2 k.1 h.0)
  one_past set window dir p nears.Edge (nears.Found b) h k =
      absurd (beginning_or_none set dir p k.0 k.2 k.1 h.0)
  one_past set window dir p (nears.None w) (nears.None v) h k =
      let e : answers.None w ≡ answers.None v =
      one_found_past_run set window dir p (answers.None w) (answers.None v) h.1 k.1 in
      cc
  one_past set window dir p (nears.None w) nears.Edge h k =
      let e : answers.None w ≡ answers.Edge =
      one_found_past_run set window dir p (answers.None w) answers.Edge h.1 k.1 in
      absurd cc
  one_past set window dir p nears.Edge (nears.None w) h k =
      let e : answers.Edge ≡ answers.None w =
      one_found_past_run set window dir p answers.Edge (answers.None w) h.1 k.1 in
      absurd cc
  one_past set window dir p nears.Edge nears.Edge h k = refl
  one_past set window dir p (nears.Budget s) b h k = absurd h
  one_past set window dir p a (nears.Budget s) h k = absurd k

  one_around : (set : ℤ → Bool) (window : Dir → ℤ → Option Window) (p : ℤ) (a b : Near)
      → IsRunAround set window p a → IsRunAround set window p b → a ≡ b
  one_around set window p (nears.Found a) (nears.Found b) h k =
      let low = unique set Back p (range_end Back) p h.0 p k.0 h.2 k.2 in
      let high = unique set Fore p (range_end Fore) p h.1 p k.1 h.3 k.3 in
      ap nears.Found (h.4 ∙ ap (λ z. item_between window z h.1) low.1 ∙ ap (item_between window k.0)
      high.1 ∙ sym k.4)
  one_around set window p (nears.None w) b h k = absurd h
  one_around set window p nears.Edge b h k = absurd h
  one_around set window p (nears.Budget s) b h k = absurd h
  one_around set window p a (nears.None w) h k = absurd k
  one_around set window p a nears.Edge h k = absurd k
  one_around set window p a (nears.Budget s) h k = absurd k

  pub one_next : (set : ℤ → Bool) (window : Dir → ℤ → Option Window) (dir : Dir) (at : ℤ)
      (a b : Near) → IsNextPast set window dir (position_of at) a → IsNextPast set window dir
      (position_of at) b → a ≡ b
  one_next set window dir at a b h k = one_past set window dir (position_of at) a b h k

  pub one_current : (set : ℤ → Bool) (window : Dir → ℤ → Option Window) (at : ℤ) (a b : Near)
      → IsCurrentRun set window at a → IsCurrentRun set window at b → a ≡ b
  one_current set window at a b (inl h) (inl k) = one_around set window (position_of at) a b h.1 k.1
  one_current set window at a b (inl h) (inr k) = absurd (both_ways (set (position_of at)) k.0 h.0)
  one_current set window at a b (inr h) (inl k) = absurd (both_ways (set (position_of at)) h.0 k.0)
  one_current set window at a b (inr h) (inr k) = one_next set window Back at a b h.1 k.1

  one_beside : (set : ℤ → Bool) (window : Dir → ℤ → Option Window) (at : ℤ) (a b : Near)
      → IsRunBeside set window at a → IsRunBeside set window at b → a ≡ b
  one_beside set window at a b h k =
      let before = one_next set window Back at h.0 k.0 h.2 k.2 in
      let after = one_next set window Fore at h.1 k.1 h.3 k.3 in
      h.4 ∙ ap (λ z. closer_of at z h.1) before ∙ ap (closer_of at k.0) after ∙ sym k.4

  pub one_closest : (set : ℤ → Bool) (window : Dir → ℤ → Option Window) (at : ℤ) (a b : Near)
      → IsClosestRun set window at a → IsClosestRun set window at b → a ≡ b
  one_closest set window at a b (inl h) (inl k) = one_around set window (position_of at) a b h.1 k.1
  one_closest set window at a b (inl h) (inr k) = absurd (both_ways (set (position_of at)) k.0 h.0)
  one_closest set window at a b (inr h) (inl k) = absurd (both_ways (set (position_of at)) h.0 k.0)
  one_closest set window at a b (inr h) (inr k) = one_beside set window at a b h.1 k.1
