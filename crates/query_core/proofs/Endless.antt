-- What the answers of queries say past the calendar range, where the set repeats, and that their
-- moments lie in it.
use Rattle.std.proofs.Common.{◌≡◌, inl, inr, sym, ap, subst, ◌∙◌, arith, ℕ, ◌+◌, ◌-◌, ℤ, ◌≤ℤ◌, Bool, true, false, if◌then◌else◌}
use Rattle.std.proofs.lemmas.Bool.{cases_lt, both_ways}
use Rattle.std.proofs.lemmas.Int.{ints}
use Rattle.moment_core.specs.Line.{IsCalendarMoment, IsCalendarPosition, position_of}
use Rattle.moment_core.specs.Sets.{seen, IsUpTo, range_end}
use Rattle.moment_core.specs.declared.line.Dir.{Dir}
use Rattle.moment_core.specs.declared.line.Dir.TheVariants.{Fore, Back}
use Rattle.moment_core.specs.declared.line.Window.{Window}
use Rattle.moment_core.proofs.LineLaws.{position_in_range, seen-on, moment_in_range}
use Rattle.moment_core.proofs.Comparing.{cases_le_z}
use Rattle.moment_core.proofs.Order.{steps_to}
use Rattle.span_core.specs.Answers.{IsCalendarNear, IsFound}
use Rattle.span_core.specs.Bounds.{IsCalendarRun}
use Rattle.span_core.specs.declared.answers.Answer.TheVariants as answers
use Rattle.span_core.specs.declared.answers.Near.{Near}
use Rattle.span_core.specs.declared.answers.Near.TheVariants as nears
use Rattle.span_core.specs.declared.bounds.Bound.{Bound}
use Rattle.span_core.specs.declared.bounds.Run.{Run}
use Rattle.frame_core.specs.Laws.{WindowsLie}
use Rattle.stored_pair.specs.Meanings.{Meaning}
use Rattle.expr_tree.specs.Members.{is_member}
use Rattle.expr_tree.specs.Tree.{Tree}
use Rattle.search_core.specs.Lawful.{AreLawful}
use Rattle.search_core.specs.TreeFrames.{frame_of_tree}
use Rattle.plan_core.specs.Plans.{window_of}
use Rattle.run_search.specs.Endless.{HoldsForEver, NeverEnds}
use Rattle.run_search.specs.Laws.{ItemsAreInRange, ItemsHoldForEver, NoneIsForEver}
use Rattle.run_search.specs.Runs.{IsFirstRun, far_of, high_end, item_from, low_end}
use Rattle.query_core.specs.Endless.{IsForEver, IsForEverAround, IsForEverBeside, IsForEverClosest, IsForEverCurrent}
use Rattle.query_core.specs.Neighbours.{IsClosestRun, IsCurrentRun, IsNextPast, IsPastRun, IsRunAround, IsRunFrom, closer_of, closer_run, is_later_nearer, moment_at}
use Rattle.query_core.proofs.Nearing.{gap_at_change, members_before}
use Rattle.query_core.proofs.Unique.{end_in_range}

-- the far end of a run lies in the range
pub far_in_range : (set : ℤ → Bool) (dir : Dir) (p end near far : ℤ) → IsCalendarPosition near
    → IsCalendarPosition end → IsFirstRun set dir p end near far → IsCalendarPosition far
far_in_range set Fore p end near far here there run =
    (omega (arith, ints, run.some, here.0), omega (arith, ints, run.within, there.1))
far_in_range set Back p end near far here there run =
    (omega (arith, ints, run.within, there.0), omega (arith, ints, run.some, here.1))

module _ (in_range : ItemsAreInRange) (tree : Tree Meaning) where
  item_from_in_range : (dir : Dir) (near far : ℤ) → IsCalendarPosition near → IsCalendarPosition far
      → IsCalendarRun (item_from (window_of tree) dir near far)
  item_from_in_range Fore near far a b = in_range tree near far a b
  item_from_in_range Back near far a b = in_range tree far near b a

  run_in_range : (dir : Dir) (near : ℤ) (run : Run) → IsCalendarPosition near
      → IsRunFrom (is_member tree) (window_of tree) dir near run → IsCalendarRun run
  run_in_range dir near run here (far, first, is) =
      let P : Run → Type 0 = λ r. IsCalendarRun r in
      subst P (sym is) (item_from_in_range dir near far here (far_in_range (is_member tree) dir near
      (range_end dir) near far here (end_in_range dir) first))

  around_in_range : (p : ℤ) (near : Near) → IsCalendarPosition p → IsRunAround (is_member tree)
      (window_of tree) p near → IsCalendarNear near
  around_in_range p (nears.Found run) here (low, high, back, fore, is) =
      let P : Run → Type 0 = λ r. IsCalendarRun r in
      subst P (sym is) (in_range tree low high (far_in_range (is_member tree) Back p
      (range_end Back) p low here (end_in_range Back) back) (far_in_range (is_member tree) Fore
      p (range_end Fore) p high here (end_in_range Fore) fore))
  around_in_range p (nears.None w) here h = absurd h
  around_in_range p nears.Edge here h = absurd h
  around_in_range p (nears.Budget s) here h = absurd h

  module _ (lie : WindowsLie) where
    past_in_range : (dir : Dir) (p : ℤ) (near : Near) → IsNextPast (is_member tree) (window_of tree)
        dir p near → IsCalendarNear near
    past_in_range dir p (nears.Found run) h = run_in_range dir h.0 run h.1 h.3
    past_in_range dir p (nears.None w) h =
        let lies = lie (frame_of_tree tree) dir h.1.0 w h.1.2.1 in
        (moment_in_range w.lo.0 lies.low, moment_in_range w.hi.0 lies.high)
    past_in_range dir p nears.Edge h = tt
    past_in_range dir p (nears.Budget s) h = absurd h

    pub next_in_range : (dir : Dir) (at : ℤ) (near : Near) → IsNextPast (is_member tree)
        (window_of tree) dir (position_of at) near → IsCalendarNear near
    next_in_range dir at near h = past_in_range dir (position_of at) near h

    pub current_in_range : (at : ℤ) (near : Near) → IsCalendarMoment at
        → IsCurrentRun (is_member tree) (window_of tree) at near → IsCalendarNear near
    current_in_range at near here (inl h) =
        around_in_range (position_of at) near (position_in_range at here) h.1
    current_in_range at near here (inr h) = next_in_range Back at near h.1

    closer_run_in_range : (at : ℤ) (a b : Run) → IsCalendarRun a → IsCalendarRun b
        → IsCalendarRun (closer_run at a b)
    closer_run_in_range at a b x y =
        elim (is_later_nearer at (moment_at a.last) (moment_at b.first)) as (λ c. IsCalendarRun
        (if c then b else a)) [
          | true ↦ y
          | false ↦ x
        ]

    closer_in_range : (at : ℤ) (a b : Near) → IsCalendarNear a → IsCalendarNear b
        → IsCalendarNear (closer_of at a b)
    closer_in_range at (nears.Found a) (nears.Found b) x y = closer_run_in_range at a b x y
    closer_in_range at (nears.Found a) (nears.None w) x y = x
    closer_in_range at (nears.Found a) nears.Edge x y = x
    closer_in_range at (nears.Found a) (nears.Budget s) x y = tt
    closer_in_range at (nears.None w) b x y = y
    closer_in_range at nears.Edge (nears.Found b) x y = y
    closer_in_range at nears.Edge (nears.None w) x y = tt
    closer_in_range at nears.Edge nears.Edge x y = tt
    closer_in_range at nears.Edge (nears.Budget s) x y = tt
    closer_in_range at (nears.Budget s) b x y = tt

    pub closest_in_range : (at : ℤ) (near : Near) → IsCalendarMoment at
        → IsClosestRun (is_member tree) (window_of tree) at near → IsCalendarNear near
    closest_in_range at near here (inl h) =
        around_in_range (position_of at) near (position_in_range at here) h.1
    closest_in_range at near here (inr (gap, (before, after, a, b, is))) =
        let P : Near → Type 0 = λ n. IsCalendarNear n in
        subst P (sym is) (closer_in_range at before after (next_in_range Back at before a)
        (next_in_range Fore at after b))

-- a run in the order of a direction that has no bound never ends
far_never_ends : ItemsHoldForEver → (tree : Tree Meaning) (dir : Dir) (near far : ℤ)
    → AreLawful tree → IsCalendarPosition near → IsCalendarPosition far → IsUpTo dir far near
    → ((q : ℤ) → IsUpTo dir q near → IsUpTo dir far q → is_member tree q ≡ true)
    → NeverEnds (is_member tree) dir near (far_of dir (item_from (window_of tree) dir near far))
far_never_ends hold tree Fore near far lawful a b some members =
    (hold tree near far lawful a b some members).0
far_never_ends hold tree Back near far lawful a b some members =
    (hold tree far near lawful b a some (λ q h k. members q k h)).1

-- and so seen from a later position
later_on : (set : ℤ → Bool) (dir : Dir) (q p : ℤ) (bound : Bound) → IsUpTo dir p q
    → NeverEnds set dir q bound → NeverEnds set dir p bound
later_on set dir q p bound past never none k =
    let j = steps_to dir q p past in
    seen-on set dir q p j.0 k j.1 ∙ never none (j.0 + k)

-- the closer one of two neighbours says what its own side does
closer_for_ever : (set : ℤ → Bool) (p at : ℤ) (a b : Near) → IsForEver set Back p a
    → IsForEver set Fore p b → IsForEverBeside set p (closer_of at a b)
closer_for_ever set p at (nears.Found a) (nears.Found b) x y =
    elim (is_later_nearer at (moment_at a.last) (moment_at b.first)) as (λ c. IsForEverBeside set p
    (nears.Found (if c then b else a))) [
      | true ↦ inr y
      | false ↦ inl x
    ]
closer_for_ever set p at (nears.Found a) (nears.None w) x y = inl x
closer_for_ever set p at (nears.Found a) nears.Edge x y = inl x
closer_for_ever set p at (nears.Found a) (nears.Budget s) x y = tt
closer_for_ever set p at (nears.None w) (nears.Found b) x y = inr y
closer_for_ever set p at (nears.None w) (nears.None v) x y = (x, y)
closer_for_ever set p at (nears.None w) nears.Edge x y = tt
closer_for_ever set p at (nears.None w) (nears.Budget s) x y = tt
closer_for_ever set p at nears.Edge (nears.Found b) x y = inr y
closer_for_ever set p at nears.Edge (nears.None w) x y = tt
closer_for_ever set p at nears.Edge nears.Edge x y = tt
closer_for_ever set p at nears.Edge (nears.Budget s) x y = tt
closer_for_ever set p at (nears.Budget s) b x y = tt

module _ (none : NoneIsForEver) (hold : ItemsHoldForEver) (tree : Tree Meaning) (lawful : AreLawful
    tree) where
  -- where a search finds nothing past the run of p, no run begins past p, ever
  none_begins : (dir : Dir) (p z : ℤ) (w : Window) → IsCalendarPosition p
      → IsPastRun (is_member tree) dir p z → IsFound (is_member tree) (window_of tree dir z) dir z
      (answers.None w) → IsForEver (is_member tree) dir p (nears.None w)
  none_begins dir p z w here (inl past) found k begins =
      let set : ℤ → Bool = is_member tree in
      let n : ℕ = past.1.0 in
      elim (cases_lt k n) [
        | inl near ↦ members_before set dir p z past.0 past.1 k near
        | inr far ↦
            let j : ℕ = k + 1 - n in
            let at : n + j ≡ k + 1 = omega arith in
            let gone : seen set dir p (k + 1) ≡ false =
            ap (seen set dir p) (sym at) ∙ sym (seen-on set dir p z n j past.1.1)
            ∙ none tree dir z w lawful past.2 found j ∙ gap_at_change set dir p z past.0 past.1 in
            absurd (both_ways (seen set dir p (k + 1)) gone begins)
      ]
  none_begins dir p z w here (inr same) found k begins =
      let at : IsFound (is_member tree) (window_of tree dir p) dir p (answers.None w) =
      subst (λ x. IsFound (is_member tree) (window_of tree dir x) dir x (answers.None w)) same.1
      found in
      none tree dir p w lawful here at k ∙ sym (none tree dir p w lawful here at (k + 1)) ∙ begins

  past_for_ever : (dir : Dir) (p : ℤ) (near : Near) → IsCalendarPosition p
      → IsNextPast (is_member tree) (window_of tree) dir p near → IsForEver (is_member tree) dir p
      near
  past_for_ever dir p (nears.Found run) here (near, there, begins, (far, first, is)) =
      let P : Run → Type 0 = λ r. NeverEnds (is_member tree) dir near (far_of dir r) in (
        near,
        begins,
        subst P (sym is) (far_never_ends hold tree dir near far lawful there
            (far_in_range (is_member tree) dir near (range_end dir) near far
            there (end_in_range dir) first) first.some first.members),
      )
  past_for_ever dir p (nears.None w) here h = none_begins dir p h.1.0 w here h.1.1 h.1.2
  past_for_ever dir p nears.Edge here h = tt
  past_for_ever dir p (nears.Budget s) here h = tt

  pub next_for_ever : (dir : Dir) (at : ℤ) (near : Near) → IsCalendarMoment at
      → IsNextPast (is_member tree) (window_of tree) dir (position_of at) near
      → IsForEver (is_member tree) dir (position_of at) near
  next_for_ever dir at near here h =
      past_for_ever dir (position_of at) near (position_in_range at here) h

  -- all between the ends of the run round p are members
  between_members : (p low high q : ℤ) → IsFirstRun (is_member tree) Back p (range_end Back) p low
      → IsFirstRun (is_member tree) Fore p (range_end Fore) p high → low ≤ℤ q → q ≤ℤ high
      → is_member tree q ≡ true
  between_members p low high q back fore h k = elim (cases_le_z p q) [
    | inl above ↦ fore.members q above k
    | inr below ↦ back.members q (omega (arith, ints)) h
  ]

  around_for_ever : (p : ℤ) (near : Near) → IsCalendarPosition p → IsRunAround (is_member tree)
      (window_of tree) p near → IsForEverAround (is_member tree) p near
  around_for_ever p (nears.Found run) here (low, high, back, fore, is) =
      let set : ℤ → Bool = is_member tree in
      let below : low ≤ℤ p = back.some in
      let above : p ≤ℤ high = fore.some in
      let all =
      hold tree low high lawful (far_in_range set Back p (range_end Back) p low here
      (end_in_range Back) back) (far_in_range set Fore p (range_end Fore) p high here
      (end_in_range Fore) fore) (omega (arith, ints))
      (λ q h k. between_members p low high q back fore h k) in
      let P : Run → Type 0 = λ r. HoldsForEver set p p r in
      subst P (sym is) (
        later_on set Fore low p (high_end (window_of tree) low high) below all.0,
        later_on set Back high p (low_end (window_of tree) low high) above all.1,
      )
  around_for_ever p (nears.None w) here h = tt
  around_for_ever p nears.Edge here h = tt
  around_for_ever p (nears.Budget s) here h = tt

  pub current_for_ever : (at : ℤ) (near : Near) → IsCalendarMoment at
      → IsCurrentRun (is_member tree) (window_of tree) at near → IsForEverCurrent (is_member tree)
      at near
  current_for_ever at near here (inl h) =
      inl (h.0, around_for_ever (position_of at) near (position_in_range at here) h.1)
  current_for_ever at near here (inr h) = inr (h.0, next_for_ever Back at near here h.1)

  pub closest_for_ever : (at : ℤ) (near : Near) → IsCalendarMoment at
      → IsClosestRun (is_member tree) (window_of tree) at near → IsForEverClosest (is_member tree)
      at near
  closest_for_ever at near here (inl h) =
      inl (h.0, around_for_ever (position_of at) near (position_in_range at here) h.1)
  closest_for_ever at near here (inr (gap, (before, after, a, b, is))) =
      let P : Near → Type 0 = λ n. IsForEverBeside (is_member tree) (position_of at) n in
      inr (
        gap,
        subst P (sym is) (closer_for_ever (is_member tree) (position_of at) at before after
            (next_for_ever Back at before here a) (next_for_ever Fore at after here b)),
      )
