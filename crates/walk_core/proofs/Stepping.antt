-- What a step answers, put together from the ends of runs and from stops.
use Rattle.std.proofs.Common.{◌≡◌, inl, inr, ap, refl, sym, subst, ◌∙◌, arith, ℕ, zero, suc, ℤ, Bool, true, false, List, ◌∷◌, Option, Some, None, ◌==◌, if◌then◌else◌}
use Rattle.std.specs.Ordering.{int_eq}
use Rattle.std.proofs.lemmas.Int.{ints}
use Rattle.moment_core.specs.Sets.{ahead, IsUpTo, range_begin}
use Rattle.moment_core.specs.declared.line.Dir.{Dir}
use Rattle.moment_core.specs.declared.line.Pos.{Pos}
use Rattle.span_core.specs.Tokens.{IsFit, IsPlaceFit}
use Rattle.span_core.specs.declared.answers.Item.TheVariants as items
use Rattle.span_core.specs.declared.answers.Stop.{Stop}
use Rattle.span_core.specs.declared.answers.Token.{Token}
use Rattle.span_core.specs.declared.answers.Why.{Why}
use Rattle.span_core.specs.declared.bounds.Run.{Run}
use Rattle.stored_pair.specs.Meanings.{Meaning}
use Rattle.expr_tree.specs.Members.{is_member}
use Rattle.expr_tree.specs.Tree.{Tree}
use Rattle.search_core.specs.Due.{IsDue}
use Rattle.plan_core.specs.Plans.{window_of}
use Rattle.run_search.specs.Places.{IsDueBefore, IsPlaceWithin, IsStopFrom}
use Rattle.run_search.specs.Runs.{IsFirstMember, IsFirstRun, item_from}
use Rattle.walk_core.specs.Found.{GoesOnTo, IsOpenStop, StepsTo}
use Rattle.walk_core.specs.Items.{AreItems, AreLeft, IsHonest, begin_at, set_with, with_run}
use Rattle.walk_core.specs.Steps.{IsAtEnd, IsFirstItem, IsStopOfStep, IsStopped, WalksTo}
use Rattle.walk_core.specs.Tokens.{token_at, token_past}
use Rattle.walk_core.specs.declared.steps.Found.{Found}
use Rattle.walk_core.specs.declared.steps.Found.TheVariants as founds
use Rattle.walk_core.proofs.Following.{first_then}
use Rattle.moment_core.proofs.Order.{before_or_past, not_both_ways, one_on_up_to, one_place, self_up_to, trans_up_to}
use Rattle.walk_core.proofs.Order.{one_on}
use Rattle.walk_core.proofs.Resting.{first_run, items-past_gap, items-same, open_run, with_members, with_more_members}
use Rattle.std.proofs.lemmas.Bool.{both_ways}

-- a stop from a place of the step
pub stop_at : (tree : Tree Meaning) (t : Token) (place : ℤ) (budget : ℕ) (s : Stop)
    → IsUpTo t.dir t.end.0 place → IsPlaceWithin (is_member tree) t.dir 1 t.place.0 place
    → IsDueBefore t.end.0 (IsDue tree) t.dir place budget s → IsStopOfStep (is_member tree)
    (IsDue tree) t budget s
stop_at tree t place budget s within is due = (t.dir, place, (refl, within, is), due)

-- an open run that goes on from the position right past its place
pub goes_on_past : (set : ℤ → Bool) (dir : Dir) (place x end far : ℤ) → x ≡ ahead dir place 1
    → IsFirstRun set dir x end x far → GoesOnTo set dir place end far
goes_on_past set dir place x end far e r =
    let P : ℤ → Type 0 = λ z. IsUpTo dir far z in
    let Q : ℤ → Type 0 = λ z. (q : ℤ) → IsUpTo dir q z → IsUpTo dir far q → set q ≡ true in
    record {
      some = one_on_up_to dir place far (subst P e r.some);
      members = subst Q e r.members;
      within = r.within;
      ends = r.ends;
    }

-- past the place of an open run whose place is a member, a stop in that member's run
pub open_stop_here : (tree : Tree Meaning) (t : Token) (budget : ℕ) (s : Stop)
    → is_member tree t.place.0 ≡ true → IsUpTo t.dir t.end.0 t.place.0 → IsStopFrom (is_member tree)
    (IsDue tree) t.dir t.place.0 t.end.0 budget s → IsOpenStop (is_member tree) (IsDue tree) t
    budget s
open_stop_here tree t budget s member within h = (
  stop_at tree t t.place.0 budget s within (inl refl) h.0,
  λ e. (
    (h.1 e).1,
    one_on_up_to t.dir t.place.0 s.at.0 (h.1 e).0,
    λ q a b. (h.1 e).2 q (one_on_up_to t.dir t.place.0 q a) b ∙ member,
  ),
)

-- a stop of a node from the place
pub open_stop_of_node : (tree : Tree Meaning) (t : Token) (budget : ℕ) (s : Stop)
    → IsUpTo t.dir t.end.0 t.place.0 → IsDue tree t.dir t.place.0 budget s → (s.node ≡ 0 → ⊥)
    → IsOpenStop (is_member tree) (IsDue tree) t budget s
open_stop_of_node tree t budget s within due node = (
  stop_at tree t t.place.0 budget s within (inl refl)
      (due, λ e. absurd (node e)),
  λ e. absurd (node e),
)

-- a stop in the run that begins right past the place of an open run, where that is no member
pub open_stop_past : (tree : Tree Meaning) (t : Token) (x : ℤ) (budget : ℕ) (s : Stop) → x
    ≡ ahead t.dir t.place.0 1 → is_member tree x ≡ true → IsPlaceWithin (is_member tree) t.dir 1
    t.place.0 x → IsUpTo t.dir t.end.0 x → IsStopFrom (is_member tree) (IsDue tree) t.dir x t.end.0
    budget s → IsOpenStop (is_member tree) (IsDue tree) t budget s
open_stop_past tree t x budget s on member place within h =
    let P : ℤ → Type 0 = λ z. IsUpTo t.dir z t.place.0 in
    let Q : ℤ → Type 0 =
    λ z. (q : ℤ) → IsUpTo t.dir q z → IsUpTo t.dir s.at.0 q → is_member tree q ≡ true in (
      stop_at tree t x budget s within place h.0,
      λ e. (
        (h.1 e).1,
        trans_up_to t.dir t.place.0 x s.at.0 (subst P (sym on) (one_on t.dir t.place.0))
            (one_on_up_to t.dir x s.at.0 (h.1 e).0),
        subst Q on (λ q a b. (h.1 e).2 q a b ∙ member),
      ),
    )

-- an open run ends at its place where the position right past it is no member
pub ends_here : (set : ℤ → Bool) (dir : Dir) (place end : ℤ) → IsUpTo dir end place
    → set (ahead dir place 1) ≡ false → GoesOnTo set dir place end place
ends_here set dir place end within gap = record {
  some = self_up_to dir place;
  members = λ q h k. absurd (not_both_ways dir q place k h);
  within = within;
  ends = inr gap;
}

-- so it is where the first member past a gap lies beyond that position
pub gap_before : (set : ℤ → Bool) (dir : Dir) (place end near : ℤ) → set place ≡ false
    → IsFirstMember set dir place end near → (near ≡ ahead dir place 1 → ⊥)
    → set (ahead dir place 1) ≡ false
gap_before set dir place end near gap first apart = elim (before_or_past dir near place) [
  | inl h ↦ absurd (let same : near ≡ place = one_place dir near place h first.from in
      both_ways (set place) gap (ap set (sym same) ∙ first.member))
  | inr h ↦ elim (before_or_past dir near (ahead dir place 1)) [
    | inl k ↦ absurd (apart (one_place dir near (ahead dir place 1) k h))
    | inr k ↦ first.none_before (ahead dir place 1) (one_on dir place) k
  ]
]

-- two positions that a test tells are the same, or aren't
pub same_if_equal : (b : Bool) (p q : ℤ) → b ≡ int_eq p q → b ≡ true → p ≡ q
same_if_equal b p q e t = let same : int_eq p q ≡ true = sym e ∙ t in grind (arith, ints)

pub apart_if_not : (b : Bool) (p q : ℤ) → b ≡ int_eq p q → b ≡ false → p ≡ q → ⊥
apart_if_not b p q e t same = let apart : int_eq p q ≡ false = sym e ∙ t in grind (arith, ints)

-- what holds of the token of a stop
by_node : (P : Token → Type 0) (n : ℕ) (a b : Token) → (n ≡ 0 → P a) → ((n ≡ 0 → ⊥) → P b)
    → P (if n == 0 then a else b)
by_node P zero a b here there = here refl
by_node P (suc n) a b here there =
    let apart : (suc n == 0) ≡ false = grind arith in
    subst (λ c. P (if c then a else b)) (sym apart) (there (λ e. absurd (omega (arith, e))))

by_stop : (P : Token → Type 0) (t next : Token) (s : Stop) (begun : Option Pos) → next
    ≡ token_past t s begun → (s.node ≡ 0 → P (token_at t.dir s.at.0 begun t.end)) → P t → P next
by_stop P t next s begun on here there =
    subst P (sym on) (by_node P s.node (token_at t.dir s.at.0 begun t.end) t here (λ e. there))

module _ (tree : Tree Meaning) (budget : ℕ) (t : Token) (found : Found) (next : Token) where
  abbrev Steps_to : Found → Type 0
  Steps_to f = StepsTo (is_member tree) (IsDue tree) (window_of tree) budget t f next

  abbrev Left_on : Token → Type 0
  Left_on n = (runs : List Run) → AreLeft (is_member tree) (window_of tree) n runs
      → AreLeft (is_member tree) (window_of tree) t runs

  stopped_by : (s : Stop) (begun : Option Pos)
      → (s.node ≡ 0 → Left_on (token_at t.dir s.at.0 begun t.end)) → IsStopOfStep (is_member tree)
      (IsDue tree) t budget s → found ≡ founds.Stopped s → next ≡ token_past t s begun
      → Steps_to found
  stopped_by s begun left stop is on =
      subst Steps_to (sym is) (
        (begun, on),
        by_stop Left_on t next s begun on left (λ runs h. h),
        stop,
      )

  fit_stop : (s : Stop) (begun : Option Pos) → IsFit t
      → (s.node ≡ 0 → IsPlaceFit t.dir s.at.0 t.end.0 begun) → next ≡ token_past t s begun
      → IsFit next
  fit_stop s begun fit here on = by_stop (λ n. IsFit n) t next s begun on (λ e. (fit.0, here e)) fit

  abbrev Honest : Token → Type 0
  Honest n = IsHonest (is_member tree) n

  -- a token without an open run is honest
  pub honest_past : (p : ℤ) → next ≡ token_at t.dir p None t.end → Honest next
  honest_past p on = subst Honest (sym on) (λ q. refl)

  -- the item of an open run
  pub open_given : (first : Pos) (far : ℤ) → t.begun ≡ Some first → IsFit t
      → GoesOnTo (is_member tree) t.dir t.place.0 t.end.0 far → found
      ≡ founds.Given (item_from (window_of tree) t.dir first.0 far) → next
      ≡ token_at t.dir (ahead t.dir far 1) None t.end → Steps_to found
  open_given first far e fit goes is on =
      let P : Option Pos → Type 0 =
      λ b. IsFirstRun (set_with (is_member tree) t.dir t.place.0 b) t.dir (begin_at t.place.0 b)
      t.end.0 first.0 far in
      let F : Option Pos → Type 0 = λ b. IsPlaceFit t.dir t.place.0 t.end.0 b in
      let within = subst F e fit.1 in
      subst Steps_to (sym is) (
        first.0,
        far,
        subst P (sym e) (open_run (is_member tree) t.dir first.0 t.place.0 t.end.0 far
            within.1 goes),
        refl,
        on,
      )

  -- a stop in an open run
  pub open_stopped : (first : Pos) (s : Stop) → t.begun ≡ Some first → IsOpenStop (is_member tree)
      (IsDue tree) t budget s → found ≡ founds.Stopped s → next ≡ token_past t s (Some first)
      → Steps_to found
  open_stopped first s e stop is on =
      let R : Option Pos → Type 0 =
      λ b. (runs : List Run) → AreItems (with_run (is_member tree) t.dir first.0 s.at.0)
      (window_of tree) t.dir first.0 t.end.0 runs
      → AreItems (set_with (is_member tree) t.dir t.place.0 b) (window_of tree) t.dir
      (begin_at t.place.0 b) t.end.0 runs in
      stopped_by s (Some first)
      (λ z. subst R (sym e) (λ runs h. items-same (with_run (is_member tree) t.dir first.0 s.at.0)
      (with_run (is_member tree) t.dir first.0 t.place.0)
      (window_of tree) t.dir first.0 t.end.0 runs
      (λ q a. with_more_members (is_member tree) t.dir first.0 t.place.0 s.at.0 q (stop.1 z).1
      (stop.1 z).2) h))
      stop.0 is on

  pub fit_open_stop : (first : Pos) (s : Stop) → t.begun ≡ Some first → IsFit t
      → IsOpenStop (is_member tree) (IsDue tree) t budget s → next ≡ token_past t s (Some first)
      → IsFit next
  fit_open_stop first s e fit stop on =
      let F : Option Pos → Type 0 = λ b. IsPlaceFit t.dir t.place.0 t.end.0 b in
      let within = subst F e fit.1 in
      fit_stop s (Some first) fit
      (λ z. (
        within.0,
        trans_up_to t.dir first.0 t.place.0 s.at.0 within.1 (stop.1 z).1,
        (stop.1 z).0,
      )) on

  pub honest_open : (first : Pos) (s : Stop) → t.begun ≡ Some first → IsOpenStop (is_member tree)
      (IsDue tree) t budget s → next ≡ token_past t s (Some first) → Honest t → Honest next
  honest_open first s e stop on honest =
      let R : Option Pos → Type 0 =
      λ b. (q : ℤ) → set_with (is_member tree) t.dir t.place.0 b q ≡ is_member tree q in
      by_stop Honest t next s (Some first) on
      (λ z q. with_more_members (is_member tree) t.dir first.0 t.place.0 s.at.0 q (stop.1 z).1
      (stop.1 z).2 ∙ subst R e honest q) honest

  -- the item that begins at the first member
  pub run_given : (near far : ℤ) → t.begun ≡ None → IsFirstMember (is_member tree) t.dir t.place.0
      t.end.0 near → IsFirstRun (is_member tree) t.dir near t.end.0 near far → found
      ≡ founds.Given (item_from (window_of tree) t.dir near far) → next
      ≡ token_at t.dir (ahead t.dir far 1) None t.end → Steps_to found
  run_given near far e first goes is on =
      let P : Option Pos → Type 0 =
      λ b. IsFirstRun (set_with (is_member tree) t.dir t.place.0 b) t.dir (begin_at t.place.0 b)
      t.end.0 near far in
      subst Steps_to (sym is) (
        near,
        far,
        subst P (sym e) (first_run (is_member tree) t.dir t.place.0 t.end.0 near far first
            goes),
        refl,
        on,
      )

  -- a stop in its run: the run is open then
  pub run_stopped : (first : Pos) (s : Stop) → t.begun ≡ None → IsFirstMember (is_member tree) t.dir
      t.place.0 t.end.0 first.0 → IsPlaceWithin (is_member tree) t.dir 1 t.place.0 first.0
      → IsStopFrom (is_member tree) (IsDue tree) t.dir first.0 t.end.0 budget s → found
      ≡ founds.Stopped s → next ≡ token_past t s (Some first) → Steps_to found
  run_stopped first s e f place stop is on =
      let R : Option Pos → Type 0 =
      λ b. (runs : List Run) → AreItems (with_run (is_member tree) t.dir first.0 s.at.0)
      (window_of tree) t.dir first.0 t.end.0 runs
      → AreItems (set_with (is_member tree) t.dir t.place.0 b) (window_of tree) t.dir
      (begin_at t.place.0 b) t.end.0 runs in
      stopped_by s (Some first)
      (λ z. subst R (sym e) (λ runs h. items-past_gap (is_member tree) (window_of tree) t.dir
      t.place.0 first.0 t.end.0 runs f.from f.none_before
      (items-same (with_run (is_member tree) t.dir first.0 s.at.0) (is_member tree) (window_of tree)
      t.dir first.0 t.end.0 runs
      (λ q a. with_members (is_member tree) t.dir first.0 s.at.0 q (λ r c d. (stop.1 z).2 r c d
      ∙ f.member)) h)))
      (stop_at tree t first.0 budget s f.within place stop.0) is on

  pub fit_run_stop : (first : Pos) (s : Stop) → t.begun ≡ None → IsFit t
      → IsFirstMember (is_member tree) t.dir t.place.0 t.end.0 first.0 → IsStopFrom (is_member tree)
      (IsDue tree) t.dir first.0 t.end.0 budget s → next ≡ token_past t s (Some first) → IsFit next
  fit_run_stop first s e fit f stop on =
      let F : Option Pos → Type 0 = λ b. IsPlaceFit t.dir t.place.0 t.end.0 b in
      let within = subst F e fit.1 in
      fit_stop s (Some first) fit
      (λ z. (
        trans_up_to t.dir (range_begin t.dir) t.place.0 first.0 within.0 f.from,
        one_on_up_to
            t.dir first.0 s.at.0 (stop.1 z).0,
        (stop.1 z).1,
      )) on

  pub honest_run : (first : Pos) (s : Stop) → IsFirstMember (is_member tree) t.dir t.place.0 t.end.0
      first.0 → IsStopFrom (is_member tree) (IsDue tree) t.dir first.0 t.end.0 budget s → next
      ≡ token_past t s (Some first) → Honest t → Honest next
  honest_run first s f stop on honest =
      by_stop Honest t next s (Some first) on
      (λ z q. with_members (is_member tree) t.dir first.0 s.at.0 q (λ r a b. (stop.1 z).2 r a b
      ∙ f.member)) honest

  -- a stop past a gap
  pub gap_stopped : (s : Stop) → t.begun ≡ None → IsUpTo t.dir t.end.0 t.place.0
      → (s.node ≡ 0 → is_member tree t.place.0 ≡ false) × IsStopFrom (is_member tree) (IsDue tree)
      t.dir t.place.0 t.end.0 budget s → found ≡ founds.Stopped s → next ≡ token_past t s None
      → Steps_to found
  gap_stopped s e within (gap, stop) is on =
      let R : Option Pos → Type 0 =
      λ b. (runs : List Run) → AreItems (is_member tree) (window_of tree) t.dir s.at.0 t.end.0 runs
      → AreItems (set_with (is_member tree) t.dir t.place.0 b) (window_of tree) t.dir
      (begin_at t.place.0 b) t.end.0 runs in
      stopped_by s None
      (λ z. subst R (sym e) (λ runs h. items-past_gap (is_member tree) (window_of tree) t.dir
      t.place.0 s.at.0 t.end.0 runs (one_on_up_to t.dir t.place.0 s.at.0 (stop.1 z).0)
      (λ q a b. (stop.1 z).2 q a (one_on_up_to t.dir q s.at.0 b) ∙ gap z) h))
      (stop_at tree t t.place.0 budget s within (inl refl) stop.0) is on

  pub honest_gap : (s : Stop) → next ≡ token_past t s None → Honest t → Honest next
  honest_gap s on honest = by_stop Honest t next s None on (λ z q. refl) honest

  pub fit_gap_stop : (s : Stop) → t.begun ≡ None → IsFit t → IsStopFrom (is_member tree)
      (IsDue tree) t.dir t.place.0 t.end.0 budget s → next ≡ token_past t s None → IsFit next
  fit_gap_stop s e fit stop on =
      let F : Option Pos → Type 0 = λ b. IsPlaceFit t.dir t.place.0 t.end.0 b in
      let within = subst F e fit.1 in
      fit_stop s None fit
      (λ z. (
        trans_up_to t.dir (range_begin t.dir) t.place.0 s.at.0 within.0
            (one_on_up_to t.dir t.place.0 s.at.0 (stop.1 z).0),
        trans_up_to t.dir s.at.0 t.end.0 (ahead t.dir t.end.0 1) (stop.1 z).1
            (one_on t.dir t.end.0),
      )) on

-- a step of a walk by what was found from its token
pub walk_rest : (tree : Tree Meaning) (budget : ℕ) (t token next at : Token) (found : Found)
    (given run : Run) → token ≡ t → IsFit token → StepsTo (is_member tree) (IsDue tree)
    (window_of tree) budget token found next → found ≡ founds.Given given → at ≡ next
    → items.Run given ≡ items.Run run → (runs : List Run) → AreLeft (is_member tree)
    (window_of tree) at runs → AreLeft (is_member tree) (window_of tree) t (run ∷ runs)
walk_rest tree budget t token next at found given run e fit steps is on same runs rest =
    let T : Token → Type 0 = λ x. AreLeft (is_member tree) (window_of tree) x (run ∷ runs) in
    let F : Found → Type 0 =
    λ f. StepsTo (is_member tree) (IsDue tree) (window_of tree) budget token f next in
    let N : Token → Type 0 = λ n. AreLeft (is_member tree) (window_of tree) n runs in
    let given_run : founds.Given given ≡ founds.Given run = cc in
    subst T e (first_then (is_member tree) (window_of tree) token fit run next runs
    (subst F (is ∙ given_run) steps) (subst N on rest))

pub walk_stopped : (tree : Tree Meaning) (budget : ℕ) (t token next at : Token) (found : Found)
    (s : Stop) → token ≡ t → StepsTo (is_member tree) (IsDue tree) (window_of tree) budget token
    found next → found ≡ founds.Stopped s → at ≡ next → WalksTo (is_member tree) (IsDue tree)
    (window_of tree) budget t (items.Budget next) at
walk_stopped tree budget t token next at found s e steps is on =
    let T : Token → Type 0 =
    λ x. IsStopped (is_member tree) (IsDue tree) (window_of tree) budget x s at in
    let F : Found → Type 0 =
    λ f. StepsTo (is_member tree) (IsDue tree) (window_of tree) budget token f at in
    let N : Token → Type 0 =
    λ n. StepsTo (is_member tree) (IsDue tree) (window_of tree) budget token found n in
    (sym on, (s, subst T e (subst F is (subst N (sym on) steps))))

pub walk_given : (tree : Tree Meaning) (budget : ℕ) (t token next at : Token) (found : Found)
    (run : Run) → token ≡ t → StepsTo (is_member tree) (IsDue tree) (window_of tree) budget token
    found next → found ≡ founds.Given run → at ≡ next → WalksTo (is_member tree) (IsDue tree)
    (window_of tree) budget t (items.Run run) at
walk_given tree budget t token next at found run e steps is on =
    let T : Token → Type 0 = λ x. IsFirstItem (is_member tree) (window_of tree) x run at in
    let F : Found → Type 0 =
    λ f. StepsTo (is_member tree) (IsDue tree) (window_of tree) budget token f at in
    let N : Token → Type 0 =
    λ n. StepsTo (is_member tree) (IsDue tree) (window_of tree) budget token found n in
    subst T e (subst F is (subst N (sym on) steps))

pub walk_done : (tree : Tree Meaning) (budget : ℕ) (t token next at : Token) (found : Found)
    (why : Why) → token ≡ t → StepsTo (is_member tree) (IsDue tree) (window_of tree) budget token
    found next → found ≡ founds.Done why → at ≡ next → WalksTo (is_member tree) (IsDue tree)
    (window_of tree) budget t (items.Done why) at
walk_done tree budget t token next at found why e steps is on =
    let T : Token → Type 0 = λ x. IsAtEnd (is_member tree) (window_of tree) x why × (at ≡ x) in
    let F : Found → Type 0 =
    λ f. StepsTo (is_member tree) (IsDue tree) (window_of tree) budget token f at in
    let N : Token → Type 0 =
    λ n. StepsTo (is_member tree) (IsDue tree) (window_of tree) budget token found n in
    subst T e (subst F is (subst N (sym on) steps))

pub walk_honest : (set : ℤ → Bool) (t token next at : Token) → token ≡ t → at ≡ next
    → (IsHonest set token → IsHonest set next) → IsHonest set t → IsHonest set at
walk_honest set t token next at e on steps honest =
    let H : Token → Type 0 = λ x. IsHonest set x in
    subst H (sym on) (steps (subst H (sym e) honest))
