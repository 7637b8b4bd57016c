-- What was found, told as an answer or a stop.
use Rattle.std.proofs.Common.{◌≡◌, inl, inr, refl, sym, subst, ℕ, ℤ, Bool, true, false, Option, Result, Ok, Err, IfOk, IfErr}
use Rattle.moment_core.specs.Line.{position_of}
use Rattle.moment_core.specs.declared.line.Dir.{Dir}
use Rattle.moment_core.specs.declared.line.Dir.TheVariants.{Fore}
use Rattle.moment_core.specs.declared.line.Window.{Window}
use Rattle.span_core.specs.declared.answers.Near.{Near}
use Rattle.span_core.specs.declared.answers.Near.TheVariants as nears
use Rattle.span_core.specs.declared.answers.Stop.{Stop}
use Rattle.span_core.specs.Answers.{IsCalendarNear}
use Rattle.run_search.specs.Places.{IsAmpleAt, IsStopAt}
use Rattle.query_core.specs.Answering.{AnswersOrStops, IsAnswered, told}
use Rattle.query_core.specs.Endless.{IsForEverClosest, IsForEverCurrent}
use Rattle.query_core.specs.Neighbours.{IsClosestRun, IsCurrentRun, IsNextRun, closer_of}

or_stop : (answer : Near → Type 0) (places : Dir → ℤ → Type 0) (due : Dir → ℤ → ℕ → Stop → Type 0)
    (budget : ℕ) (found : Result Near Stop) → ((s : Stop) → answer (nears.Budget s) → ⊥)
    → IfOk found answer → IfErr found (IsStopAt places due budget) → AnswersOrStops answer places
    due budget (told found)
or_stop answer places due budget (Ok (nears.Found run)) never h k = h
or_stop answer places due budget (Ok (nears.None w)) never h k = h
or_stop answer places due budget (Ok nears.Edge) never h k = h
or_stop answer places due budget (Ok (nears.Budget s)) never h k = absurd (never s h)
or_stop answer places due budget (Err s) never h k = k

-- where the budget is ample no search stops
answered : (answer : Near → Type 0) (places : Dir → ℤ → Type 0) (due : Dir → ℤ → ℕ → Stop → Type 0)
    (budget : ℕ) (near : Near) → AnswersOrStops answer places due budget near
    → IsAmpleAt places due budget → IsAnswered near
answered answer places due budget (nears.Found run) h ample = tt
answered answer places due budget (nears.None w) h ample = tt
answered answer places due budget nears.Edge h ample = tt
answered answer places due budget (nears.Budget s) h ample = ample h.0 h.1 h.2 s h.3

-- what each answer says, and what a stop says too
told_says : (answer says : Near → Type 0) (found : Result Near Stop) → ((near : Near) → answer near
    → says near) → ((s : Stop) → says (nears.Budget s)) → IfOk found answer → says (told found)
told_says answer says (Ok near) each stop h = each near h
told_says answer says (Err s) each stop h = stop s

pub stop_current : (set : ℤ → Bool) (at : ℤ) (s : Stop) → IsForEverCurrent set at (nears.Budget s)
stop_current set at s =
    elim (set (position_of at)) as (λ b. set (position_of at) ≡ b
    → IsForEverCurrent set at (nears.Budget s)) [
      | true ↦ λ e. inl (e, tt)
      | false ↦ λ e. inr (e, tt)
    ] refl

pub stop_closest : (set : ℤ → Bool) (at : ℤ) (s : Stop) → IsForEverClosest set at (nears.Budget s)
stop_closest set at s =
    elim (set (position_of at)) as (λ b. set (position_of at) ≡ b
    → IsForEverClosest set at (nears.Budget s)) [
      | true ↦ λ e. inl (e, tt)
      | false ↦ λ e. inr (e, tt)
    ] refl

-- no stop is the answer
pub never_current : (set : ℤ → Bool) (window : Dir → ℤ → Option Window) (at : ℤ) (s : Stop)
    → IsCurrentRun set window at (nears.Budget s) → ⊥
never_current set window at s (inl h) = h.1
never_current set window at s (inr h) = h.1

never_closer : (at : ℤ) (a b : Near) (s : Stop) → ((t : Stop) → b ≡ nears.Budget t → ⊥)
    → nears.Budget s ≡ closer_of at a b → ⊥
never_closer at (nears.Found a) (nears.Found b) s not e = absurd cc
never_closer at (nears.Found a) (nears.None w) s not e = absurd cc
never_closer at (nears.Found a) nears.Edge s not e = absurd cc
never_closer at (nears.Found a) (nears.Budget t) s not e = absurd cc
never_closer at (nears.None w) b s not e = not s (sym e)
never_closer at nears.Edge (nears.Found b) s not e = absurd cc
never_closer at nears.Edge (nears.None w) s not e = absurd cc
never_closer at nears.Edge nears.Edge s not e = absurd cc
never_closer at nears.Edge (nears.Budget t) s not e = absurd cc
never_closer at (nears.Budget t) b s not e = absurd cc

pub never_closest : (set : ℤ → Bool) (window : Dir → ℤ → Option Window) (at : ℤ) (s : Stop)
    → IsClosestRun set window at (nears.Budget s) → ⊥
never_closest set window at s (inl h) = h.1
never_closest set window at s (inr (gap, (before, after, a, b, is))) =
    let P : Near → Type 0 = λ n. IsNextRun set window Fore at n in
    never_closer at before after s (λ t e. subst P e b) is

-- what a query tells: its answer or a stop that is due, the answer where the budget is ample, and
-- what that says
pub record Tells (answer says : Near → Type 0) (places : Dir → ℤ → Type 0) (due : Dir → ℤ → ℕ → Stop
    → Type 0) (budget : ℕ) (near : Near) : Type 0 where
  pub answers : AnswersOrStops answer places due budget near
  pub complete : IsAmpleAt places due budget → IsAnswered near
  pub for_ever : says near
  pub in_range : IsCalendarNear near

pub tells : (answer says : Near → Type 0) (places : Dir → ℤ → Type 0) (due : Dir → ℤ → ℕ → Stop
    → Type 0) (budget : ℕ) (found : Result Near Stop) (near : Near) → near ≡ told found
    → IfOk found answer → IfErr found (IsStopAt places due budget)
    → ((s : Stop) → answer (nears.Budget s) → ⊥) → ((n : Near) → answer n → says n)
    → ((s : Stop) → says (nears.Budget s)) → ((n : Near) → answer n → IsCalendarNear n)
    → Tells answer says places due budget near
tells answer says places due budget found near same h k never each stop ranges =
    let whole : AnswersOrStops answer places due budget (told found) =
    or_stop answer places due budget found never h k in
    let P : Near → Type 0 = λ n. Tells answer says places due budget n in
    let R : Near → Type 0 = λ n. IsCalendarNear n in
    subst P (sym same) (record {
      answers = whole;
      complete = λ ample. answered answer places due budget (told found) whole ample;
      for_ever = told_says answer says found each stop h;
      in_range = told_says answer R found ranges (λ s. tt) h;
    })
