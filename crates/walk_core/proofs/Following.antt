-- The first item that is left and what is left past it; and why nothing is left.
use Rattle.std.proofs.Common.{◌≡◌, ◌⊎◌, inl, inr, ap, refl, sym, subst, ◌∙◌, arith, ℤ, Bool, true, false, not, List, [], ◌∷◌, Option, Some, None}
use Rattle.std.proofs.lemmas.Int.{ints}
use Rattle.moment_core.specs.Line.{IsCalendarPosition}
use Rattle.moment_core.specs.Sets.{ahead, IsUpTo, range_begin, range_end}
use Rattle.moment_core.specs.declared.line.Dir.{Dir}
use Rattle.moment_core.specs.declared.line.Dir.TheVariants.{Fore, Back}
use Rattle.moment_core.specs.declared.line.Pos.{Pos}
use Rattle.moment_core.specs.declared.line.Window.{Window}
use Rattle.moment_core.proofs.LineLaws.{seen-zero}
use Rattle.moment_core.proofs.Comparing.{cases_le_z}
use Rattle.moment_core.proofs.Order.{ahead_up_to, before_or_past, self_up_to, trans_up_to}
use Rattle.span_core.specs.Answers.{IsFound}
use Rattle.span_core.specs.Laws.{SearchesAreAnswered}
use Rattle.span_core.specs.Tokens.{IsFit, IsPlaceFit}
use Rattle.span_core.specs.declared.answers.Answer.{Answer}
use Rattle.span_core.specs.declared.answers.Answer.TheVariants as answers
use Rattle.span_core.specs.declared.answers.Token.{Token}
use Rattle.span_core.specs.declared.answers.Why.{Why}
use Rattle.span_core.specs.declared.answers.Why.TheVariants as whys
use Rattle.span_core.specs.declared.bounds.Run.{Run}
use Rattle.run_search.specs.Finding.{IsWhy}
use Rattle.run_search.specs.Runs.{HasNoMember, IsFirstRun}
use Rattle.walk_core.specs.Items.{AreItems, AreLeft, begin_at, set_with, with_run}
use Rattle.walk_core.specs.Steps.{IsAtEnd, IsFirstItem}
use Rattle.walk_core.specs.Tokens.{token_at}
use Rattle.walk_core.proofs.Fitting.{far_from}
use Rattle.walk_core.proofs.Order.{in_range-from, one_on, past_both}
use Rattle.walk_core.proofs.Resting.{open_member, past_open, rest_past}

module _ (set : ℤ → Bool) (window : Dir → ℤ → Option Window) (t : Token) (fit : IsFit t) where
  -- an item, and what is left past it
  pub first_then : (run : Run) (next : Token) (runs : List Run) → IsFirstItem set window t run next
      → AreLeft set window next runs → AreLeft set window t (run ∷ runs)
  first_then run next runs (near, far, first, is, on) rest = (
    near,
    far,
    first,
    is,
    rest_past set window t.dir t.place.0 t.end.0 t.begun near far runs fit.1 first
        (subst (λ n. AreLeft set window n runs) on rest),
  )

  -- right past it no run is open
  fit_next : (near far : ℤ) → IsFirstRun (set_with set t.dir t.place.0 t.begun) t.dir
      (begin_at t.place.0 t.begun) t.end.0 near far
      → IsFit (token_at t.dir (ahead t.dir far 1) None t.end)
  fit_next near far first =
      let from = far_from (set_with set t.dir t.place.0 t.begun) t near far fit first in
      let on = trans_up_to t.dir (range_begin t.dir) far (ahead t.dir far 1) from
      (one_on t.dir far) in
      (fit.0, (on, past_both t.dir far t.end.0 first.within))

  pub next_fits : (run : Run) (next : Token) → IsFirstItem set window t run next → IsFit next
  next_fits run next (near, far, first, is, on) = subst (λ n. IsFit n) (sym on)
      (fit_next near far first)

  pub first_of : (run : Run) (runs : List Run) → AreLeft set window t (run ∷ runs) → (next : Token)
      × IsFirstItem set window t run next × IsFit next × AreLeft set window next runs
  first_of run runs (near, far, first, is, others) = (
    token_at t.dir (ahead t.dir far 1) None t.end,
    (near, far, first, is, refl),
    fit_next near far first,
    past_open set window t.dir t.place.0 t.end.0 t.begun near far runs fit.1 first others,
  )

  -- why nothing is left
  module _ (some : SearchesAreAnswered) where
    by_answer : (a : Answer) → t.end.0 ≡ range_end t.dir → IsUpTo t.dir t.end.0 t.place.0
        → HasNoMember set t.dir t.place.0 t.end.0 → IsFound set (window t.dir t.place.0) t.dir
        t.place.0 a → (why : Why) × IsWhy set window t.dir t.place.0 t.end.0 why
    by_answer (answers.At q) whole within none found =
        let gap : set t.place.0 ≡ false = none t.place.0 (self_up_to t.dir t.place.0) within in
        let change = found.0 in
        let member : set q.0 ≡ true = ap set change.1 ∙ change.2.differs
        ∙ ap not (seen-zero set t.dir t.place.0 ∙ gap) in
        let there : set q.0 ≡ false = none q.0 (subst (λ z. IsUpTo t.dir z t.place.0) (sym change.1)
        (ahead_up_to t.dir t.place.0 change.0)) (up_to_end t.dir q.0 t.end.0 whole found.1) in
        let f : true ≡ false = sym member ∙ there in
        absurd cc
      where
        up_to_end : (dir : Dir) (q end : ℤ) → end ≡ range_end dir → IsCalendarPosition q
            → IsUpTo dir end q
        up_to_end Fore q end e here = omega (arith, ints, e, here.1)
        up_to_end Back q end e here = omega (arith, ints, e, here.0)
    by_answer (answers.None w) whole within none found = (whys.None w, (whole, within, found))
    by_answer answers.Edge whole within none found = (whys.Edge, (whole, within, found))
    by_answer (answers.Budget s) whole within none found = absurd found

    is_end : (dir : Dir) (end : ℤ) → (end ≡ range_end dir) ⊎ (end ≡ range_end dir → ⊥)
    is_end dir end = elim (cases_le_z end (range_end dir)) [
      | inr past ↦ inr (λ e. omega (arith, ints, e, past))
      | inl below ↦ elim (cases_le_z (range_end dir) end) [
        | inr past ↦ inr (λ e. omega (arith, ints, e, past))
        | inl above ↦ inl (omega (arith, ints, below, above))
      ]
    ]

    why_at : (place_begun : Option Pos) → IsPlaceFit t.dir t.place.0 t.end.0 place_begun
        → AreItems (set_with set t.dir t.place.0 place_begun) window t.dir
        (begin_at t.place.0 place_begun) t.end.0 [] → (why : Why) × IsWhy set window t.dir t.place.0
        t.end.0 why
    why_at (Some begun) h none =
        let member : with_run set t.dir begun.0 t.place.0 begun.0 ≡ true =
        open_member set t.dir begun.0 t.place.0 h.1 in
        let gap : with_run set t.dir begun.0 t.place.0 begun.0 ≡ false =
        none begun.0 (self_up_to t.dir begun.0) (trans_up_to t.dir begun.0 t.place.0 t.end.0 h.1
        h.2) in
        let f : true ≡ false = sym member ∙ gap in
        absurd cc
    why_at None h none = elim (before_or_past t.dir t.place.0 t.end.0) [
      | inr past ↦ (whys.To, inl past)
      | inl within ↦ elim (is_end t.dir t.end.0) [
        | inr cut ↦ (whys.To, inr cut)
        | inl whole ↦
            let a = some set (window t.dir t.place.0) t.dir t.place.0
            (in_range-from t.dir t.place.0 t.end.0 h.0 within fit.0) in
            by_answer a.0 whole within none a.1
      ]
    ]

    pub some_why : AreLeft set window t [] → (why : Why) × IsAtEnd set window t why
    some_why none = let why = why_at t.begun fit.1 none in (why.0, (none, why.1))
