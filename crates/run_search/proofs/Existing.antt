-- Up to an end there is a first run, or no member, and no second first run.
use Rattle.std.proofs.Common.{◌≡◌, ◌⊎◌, inl, inr, refl, sym, subst, arith, ℤ, pos, ◌+ℤ◌, ◌-ℤ◌, Bool, true, false, None}
use Rattle.std.proofs.lemmas.Int.{ints}
use Rattle.moment_core.specs.Line.{IsCalendarPosition}
use Rattle.moment_core.specs.Sets.{ahead, IsUpTo}
use Rattle.moment_core.specs.declared.line.Dir.{Dir}
use Rattle.moment_core.specs.declared.line.Dir.TheVariants.{Fore, Back}
use Rattle.moment_core.proofs.Order.{self_up_to, trans_up_to, ahead_up_to, before_or_past, not_both_ways, one_place}
use Rattle.span_core.specs.Answers.{IsFound}
use Rattle.span_core.specs.Laws.{SearchesAreAnswered}
use Rattle.span_core.specs.declared.answers.Answer.{Answer}
use Rattle.span_core.specs.declared.answers.Answer.TheVariants as answers
use Rattle.run_search.specs.Laws.{RunsAreUnique, RunsExist}
use Rattle.run_search.specs.Runs.{HasNoMember, IsFirstMember, IsFirstRun}
use Rattle.run_search.proofs.Stretching.{ends_at_change, ends_with_end, first_at_change, none_if_same, same_if_change_past, same_if_stays}
use Rattle.std.proofs.lemmas.Bool.{both_ways}

abbrev one_before : Dir → ℤ → ℤ
one_before Fore x = x -ℤ pos 1
one_before Back x = x +ℤ pos 1

one_before-on : (dir : Dir) (x : ℤ) → ahead dir (one_before dir x) 1 ≡ x
one_before-on Fore x = omega (arith, ints)
one_before-on Back x = omega (arith, ints)

-- the run of a member
run_of_member : (set : ℤ → Bool) (dir : Dir) (p end : ℤ) (a : Answer) → IsCalendarPosition p
    → IsCalendarPosition end → IsUpTo dir end p → set p ≡ true → IsFound set None dir p a
    → (far : ℤ) × IsFirstRun set dir p end p far
run_of_member set dir p end (answers.At x) here there within m f =
    elim (before_or_past dir x.0 end) [
      | inl past ↦ (
        one_before dir x.0,
        ends_at_change set dir p x.0 end (one_before dir x.0) m f.0 past
            (one_before-on dir x.0),
      )
      | inr before ↦ (
        end,
        ends_with_end set dir p end m within (same_if_change_past set dir p x.0 end
            f.0 (λ near. not_both_ways dir x.0 end near before)),
      )
    ]
run_of_member set dir p end (answers.None w) here there within m f =
    (end, ends_with_end set dir p end m within (same_if_stays set dir p end here there f.0))
run_of_member set dir p end answers.Edge here there within m f =
    (end, ends_with_end set dir p end m within (same_if_stays set dir p end here there f.0))
run_of_member set dir p end (answers.Budget s) here there within m f = absurd f

-- the run of the first member
run_of_first : (set : ℤ → Bool) (dir : Dir) (p end near far : ℤ) → IsFirstMember set dir p end near
    → IsFirstRun set dir near end near far → IsFirstRun set dir p end near far
run_of_first set dir p end near far first run = record {
  from = first.from;
  none_before = first.none_before;
  some = run.some;
  members = run.members;
  within = run.within;
  ends = run.ends;
}

module _ (some : SearchesAreAnswered) where
  of_member : (set : ℤ → Bool) (dir : Dir) (p end : ℤ) → IsCalendarPosition p
      → IsCalendarPosition end → IsUpTo dir end p → set p ≡ true → (far : ℤ)
      × IsFirstRun set dir p end p far
  of_member set dir p end here there within m =
      let a = some set None dir p here in
      run_of_member set dir p end a.0 here there within m a.1

  past_gap : (set : ℤ → Bool) (dir : Dir) (p end : ℤ) (a : Answer) → IsCalendarPosition p
      → IsCalendarPosition end → set p ≡ false → IsFound set None dir p a → ((near : ℤ) × (far : ℤ)
      × IsFirstRun set dir p end near far) ⊎ HasNoMember set dir p end
  past_gap set dir p end (answers.At x) here there gap f = elim (before_or_past dir x.0 end) [
    | inl past ↦
        let first = first_at_change set dir p x.0 end gap f.0 past in
        let run = of_member set dir x.0 end f.1 there past first.member in
        inl (x.0, run.0, run_of_first set dir p end x.0 run.0 first run.1)
    | inr before ↦ inr (none_if_same set dir p end gap (same_if_change_past set dir p x.0 end f.0
        (λ near. not_both_ways dir x.0 end near before)))
  ]
  past_gap set dir p end (answers.None w) here there gap f =
      inr (none_if_same set dir p end gap (same_if_stays set dir p end here there f.0))
  past_gap set dir p end answers.Edge here there gap f =
      inr (none_if_same set dir p end gap (same_if_stays set dir p end here there f.0))
  past_gap set dir p end (answers.Budget s) here there gap f = absurd f

  pub some_run : RunsExist
  some_run set dir p end here there within =
      elim (set p) as (λ b. set p ≡ b → ((near : ℤ) × (far : ℤ) × IsFirstRun set dir p end near far)
      ⊎ HasNoMember set dir p end) [
        | true ↦ λ m. let run = of_member set dir p end here there within m in inl (p, run.0, run.1)
        | false ↦ λ gap. let a =
            some set None dir p here in past_gap set dir p end a.0 here there gap a.1
      ] refl

-- the first member isn't past another member
not_later : (set : ℤ → Bool) (dir : Dir) (p end near far q : ℤ) → IsFirstRun set dir p end near far
    → IsUpTo dir q p → set q ≡ true → IsUpTo dir q near
not_later set dir p end near far q run from m = elim (before_or_past dir near q) [
  | inl h ↦ h
  | inr h ↦ absurd (both_ways (set q) (run.none_before q from h) m)
]

-- and the last one isn't past another run's last one
not_further : (set : ℤ → Bool) (dir : Dir) (p end near far first last : ℤ)
    → IsFirstRun set dir p end near far → IsFirstRun set dir p end first last → near ≡ first
    → IsUpTo dir far last
not_further set dir p end near far first last a b same = elim (before_or_past dir last far) [
  | inl h ↦ h
  | inr h ↦ elim a.ends [
    | inl e ↦ let P : ℤ → Type 0 = λ z. IsUpTo dir z last in subst P (sym e) b.within
    | inr gap ↦
        let P : ℤ → Type 0 = λ z. IsUpTo dir far z in
        let on : IsUpTo dir (ahead dir far 1) first =
        trans_up_to dir first far (ahead dir far 1) (subst P same a.some) (ahead_up_to dir far
        1) in
        absurd (both_ways (set (ahead dir far 1)) gap (b.members (ahead dir far 1) on h))
  ]
]

pub one_run : RunsAreUnique
one_run set dir p end near far first last a b =
    let a_member : set near ≡ true = a.members near (self_up_to dir near) a.some in
    let b_member : set first ≡ true = b.members first (self_up_to dir first) b.some in
    let same : near ≡ first =
    one_place dir near first (not_later set dir p end near far first a b.from b_member)
    (not_later set dir p end first last near b a.from a_member) in (
      same,
      one_place dir far last (not_further set dir p end first last near far b a (sym same))
          (not_further set dir p end near far first last a b same),
    )
