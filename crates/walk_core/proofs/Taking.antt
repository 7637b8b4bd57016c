-- One call at either end of what is left.
use Rattle.std.proofs.Common.{◌≡◌, ◌⊎◌, inl, inr, ap, refl, sym, subst, ◌∙◌, arith, ℕ, ◌+◌, ◌<◌, ℤ, pos, ◌+ℤ◌, ◌-ℤ◌, ◌≤ℤ◌, ◌<ℤ◌, Bool, true, false, cond, List, [], ◌∷◌, ◌++◌, Option, None}
use Rattle.std.specs.Int.{int_gap, int_max, int_min}
use Rattle.std.proofs.lemmas.Int.{clamps, ints}
use Rattle.moment_core.specs.Line.{IsCalendarPosition}
use Rattle.moment_core.specs.Sets.{ahead, IsUpTo}
use Rattle.moment_core.specs.declared.line.Dir.{Dir}
use Rattle.moment_core.specs.declared.line.Dir.TheVariants.{Fore, Back}
use Rattle.moment_core.specs.declared.line.Pos.{Pos}
use Rattle.moment_core.specs.declared.line.Window.{Window}
use Rattle.moment_core.proofs.Comparing.{cases_le_z}
use Rattle.moment_core.proofs.Order.{not_both_ways, trans_up_to}
use Rattle.span_core.specs.Tokens.{IsFit}
use Rattle.span_core.specs.declared.answers.Stop.{Stop}
use Rattle.span_core.specs.declared.answers.Token.{Token}
use Rattle.span_core.specs.declared.answers.Why.{Why}
use Rattle.span_core.specs.declared.bounds.Run.{Run}
use Rattle.walk_core.specs.Both.{positions_left, put_back}
use Rattle.walk_core.specs.Found.{StepsTo}
use Rattle.walk_core.specs.Items.{AreItems, AreItemsIn, AreLeft, IsHonest}
use Rattle.walk_core.specs.Steps.{IsStopOfStep}
use Rattle.walk_core.specs.Stretch.{IsStretch, window_from}
use Rattle.walk_core.specs.Tokens.{token_at, window_token}
use Rattle.walk_core.specs.declared.steps.Found.{Found}
use Rattle.walk_core.specs.declared.steps.Found.TheVariants as founds
use Rattle.walk_core.proofs.Ending.{items_then_last, last_run}
use Rattle.walk_core.proofs.Listing.{none_past}
use Rattle.moment_core.proofs.Gaps.{gap-up}

-- the token of a window with its ends in order
abbrev token_of : Window → Dir → Token
token_of w Fore = token_at Fore w.lo.0 None w.hi
token_of w Back = token_at Back w.hi.0 None w.lo

least : (a b : ℤ) → a ≤ℤ b → int_min a b ≡ a
least a b h = omega (arith, ints, clamps)

not_least : (a b : ℤ) → b <ℤ a → int_min a b ≡ b
not_least a b h = omega (arith, ints, clamps)

most : (a b : ℤ) → b ≤ℤ a → int_max a b ≡ a
most a b h = omega (arith, ints, clamps)

not_most : (a b : ℤ) → a <ℤ b → int_max a b ≡ b
not_most a b h = omega (arith, ints, clamps)

shorter : (a b c d : ℤ) → a ≤ℤ b → c ≤ℤ d → (d -ℤ c) <ℤ (b -ℤ a) → int_gap c d < int_gap a b
shorter a b c d h k less =
    let one : a +ℤ pos (int_gap a b) ≡ b = gap-up a b h in
    let other : c +ℤ pos (int_gap c d) ≡ d = gap-up c d k in
    omega (arith, ints, one, other, less)

pub in_order : (w : Window) (dir : Dir) → w.lo.0 ≤ℤ w.hi.0 → window_token w dir ≡ token_of w dir
in_order w Fore h = ap (λ z. token_at Fore z None w.hi)
    (least w.lo.0 (w.hi.0 +ℤ pos 1) (omega (arith, ints, h)))
in_order w Back h = ap (λ z. token_at Back z None w.lo)
    (most w.hi.0 (w.lo.0 -ℤ pos 1) (omega (arith, ints, h)))

-- from places past the end the same is left: nothing
past_same : (set : ℤ → Bool) (window : Dir → ℤ → Option Window) (dir : Dir) (p q end : ℤ)
    (runs : List Run) → IsUpTo dir p (ahead dir end 1) → IsUpTo dir q (ahead dir end 1)
    → AreItems set window dir q end runs → AreItems set window dir p end runs
past_same set window dir p q end [] a b h = none_past set dir p end a
past_same set window dir p q end (run ∷ runs) a b (near, far, first, is, others) =
    absurd (not_both_ways dir near end (trans_up_to dir near far end first.some first.within)
    (trans_up_to dir (ahead dir end 1) q near b first.from))

-- so it is where two places are the same or both past the end
abbrev Stand_alike : Dir → ℤ → ℤ → ℤ → Type 0
Stand_alike dir p q end = (p ≡ q)
    ⊎ (IsUpTo dir p (ahead dir end 1) × IsUpTo dir q (ahead dir end 1))

same_items : (set : ℤ → Bool) (window : Dir → ℤ → Option Window) (dir : Dir) (p q end : ℤ)
    (runs : List Run) → Stand_alike dir p q end
    → (AreItems set window dir p end runs → AreItems set window dir q end runs)
    × (AreItems set window dir q end runs → AreItems set window dir p end runs)
same_items set window dir p q end runs (inl e) =
    let P : ℤ → Type 0 = λ z. AreItems set window dir z end runs in
    (subst P e, subst P (sym e))
same_items set window dir p q end runs (inr (a, b)) =
    (past_same set window dir q p end runs b a, past_same set window dir p q end runs a b)

-- the place of a window's token, and where the window begins
fore_place : (a b : ℤ) → Stand_alike Fore (int_min a (b +ℤ pos 1)) a b
fore_place a b = elim (cases_le_z a (b +ℤ pos 1)) [
  | inl h ↦ inl (least a (b +ℤ pos 1) h)
  | inr past ↦ inr (omega (arith, ints, not_least a (b +ℤ pos 1) past), omega (arith, ints, past))
]

back_place : (a b : ℤ) → Stand_alike Back (int_max a (b -ℤ pos 1)) a b
back_place a b = elim (cases_le_z (b -ℤ pos 1) a) [
  | inl h ↦ inl (most a (b -ℤ pos 1) h)
  | inr past ↦ inr (omega (arith, ints, not_most a (b -ℤ pos 1) past), omega (arith, ints, past))
]

-- what is left from the token of a window are its items, whichever way its ends are
pub window_items : (set : ℤ → Bool) (window : Dir → ℤ → Option Window) (w : Window) (dir : Dir)
    (runs : List Run) → (AreLeft set window (window_token w dir) runs → AreItemsIn set window w dir
    runs) × (AreItemsIn set window w dir runs → AreLeft set window (window_token w dir) runs)
window_items set window w Fore runs = same_items set window Fore (int_min w.lo.0 (w.hi.0 +ℤ pos 1))
    w.lo.0 w.hi.0 runs (fore_place w.lo.0 w.hi.0)
window_items set window w Back runs = same_items set window Back (int_max w.hi.0 (w.lo.0 -ℤ pos 1))
    w.hi.0 w.lo.0 runs (back_place w.hi.0 w.lo.0)

module _ (set : ℤ → Bool) (due : Dir → ℤ → ℕ → Stop → Type 0) (window : Dir → ℤ → Option Window)
    (budget : ℕ) (w : Window) (next : Token) where
  -- the item at that end, with the same token and window everywhere
  given_at : (dir : Dir) (run : Run) (runs : List Run) → StepsTo set due window budget
      (token_of w dir) (founds.Given run) next → AreItems set window Fore
      (window_from w dir next.place).lo.0 (window_from w dir next.place).hi.0 runs
      → AreItems set window Fore w.lo.0 w.hi.0 (put_back dir run runs)
  given_at Fore run runs (near, far, first, is, on) rest =
      let P : Token → Type 0 = λ n. AreItems set window Fore n.place.0 w.hi.0 runs in
      (near, far, first, is, subst P on rest)
  given_at Back run runs (near, far, first, is, on) rest =
      let P : Token → Type 0 = λ n. AreItems set window Fore w.lo.0 n.place.0 runs in
      let R : Run → Type 0 = λ r. AreItems set window Fore w.lo.0 w.hi.0 (runs ++ r ∷ []) in
      subst R (sym is) (items_then_last set window w.lo.0 w.hi.0 far near runs
      (last_run set w.lo.0 w.hi.0 near far first) (subst P on rest))

  -- what is left then are positions of the range, and fewer
  stretch_at : (dir : Dir) (run : Run) → IsStretch w → StepsTo set due window budget
      (token_of w dir) (founds.Given run) next → IsStretch (window_from w dir next.place)
      × (positions_left (window_from w dir next.place) < positions_left w)
  stretch_at Fore run all (near, far, first, is, on) =
      let P : Token → Type 0 =
      λ n. IsStretch (window_from w Fore n.place)
      × (positions_left (window_from w Fore n.place) < positions_left w) in
      let a : w.lo.0 ≤ℤ near = first.from in
      let b : near ≤ℤ far = first.some in
      let d : far ≤ℤ w.hi.0 = first.within in
      subst P (sym on) (
        (omega (arith, ints, all.0), all.1),
        shorter w.lo.0 (w.hi.0 +ℤ pos 1)
            (far +ℤ pos 1) (w.hi.0 +ℤ pos 1) (omega (arith, ints)) (omega (arith, ints))
            (omega (arith, ints)),
      )
  stretch_at Back run all (near, far, first, is, on) =
      let P : Token → Type 0 =
      λ n. IsStretch (window_from w Back n.place)
      × (positions_left (window_from w Back n.place) < positions_left w) in
      let a : near ≤ℤ w.hi.0 = first.from in
      let b : far ≤ℤ near = first.some in
      let d : w.lo.0 ≤ℤ far = first.within in
      subst P (sym on) (
        (all.0, omega (arith, ints, all.1)),
        shorter w.lo.0 (w.hi.0 +ℤ pos 1) w.lo.0
            ((far -ℤ pos 1) +ℤ pos 1) (omega (arith, ints))
            (omega (arith, ints)) (omega (arith, ints)),
      )

  -- nothing is left, seen from either end
  none_at : (dir : Dir) (why : Why) → StepsTo set due window budget (token_of w dir)
      (founds.Done why) next → AreItems set window Fore w.lo.0 w.hi.0 []
  none_at Fore why steps = steps.0.0
  none_at Back why steps = λ q h k. steps.0.0 q k h

  module _ (dir : Dir) (t : Token) (found : Found) (order : w.lo.0 ≤ℤ w.hi.0)
      (e : t ≡ window_token w dir) (steps : StepsTo set due window budget t found next) where
    abbrev Steps_from : Token → Found → Type 0
    Steps_from x f = StepsTo set due window budget x f next

    plain : (f : Found) → found ≡ f → Steps_from (token_of w dir) f
    plain f is = subst (λ x. Steps_from x f) (e ∙ in_order w dir order)
        (subst (λ f. Steps_from t f) is steps)

    pub take_given : (left : Window) (run : Run) (runs : List Run) → found ≡ founds.Given run → left
        ≡ window_from w dir next.place → AreItems set window Fore left.lo.0 left.hi.0 runs
        → AreItems set window Fore w.lo.0 w.hi.0 (put_back dir run runs)
    take_given left run runs is on rest =
        let W : Window → Type 0 = λ x. AreItems set window Fore x.lo.0 x.hi.0 runs in
        given_at dir run runs (plain (founds.Given run) is) (subst W on rest)

    pub take_stretch : (run : Run) → IsStretch w → found ≡ founds.Given run
        → IsStretch (window_from w dir next.place)
        × (positions_left (window_from w dir next.place) < positions_left w)
    take_stretch run all is = stretch_at dir run all (plain (founds.Given run) is)

    pub take_none : (why : Why) → found ≡ founds.Done why → AreItems set window Fore w.lo.0 w.hi.0
        []
    take_none why is = none_at dir why (plain (founds.Done why) is)

    -- a stop at that end
    pub take_stop : (s : Stop) → found ≡ founds.Stopped s → IsStopOfStep set due
        (window_token w dir) budget s
    take_stop s is =
        let T : Token → Type 0 = λ x. IsStopOfStep set due x budget s in
        subst T e (subst (λ f. Steps_from t f) is steps).2

pub fewer_left : (stopped : Bool) (w left : Window) (dir : Dir) (place : Pos) → stopped ≡ false
    → left ≡ window_from w dir place → positions_left (window_from w dir place) < positions_left w
    → cond stopped 0 (positions_left left + 1) < cond stopped 0 (positions_left w + 1)
fewer_left true w left dir place e on h = absurd cc
fewer_left false w left dir place e on h =
    let P : Window → Type 0 = λ x. positions_left x < positions_left w in
    let fewer : positions_left left < positions_left w = subst P (sym on) h in
    omega (arith, fewer)

-- the token of a window has no open run
pub honest_window : (set : ℤ → Bool) (w : Window) (dir : Dir) → IsHonest set (window_token w dir)
honest_window set w Fore q = refl
honest_window set w Back q = refl

-- the token of a window of the range fits
pub window_fits : (w : Window) (dir : Dir) → IsCalendarPosition w.lo.0 → IsCalendarPosition w.hi.0
    → IsFit (window_token w dir)
window_fits w Fore low high = (high, (grind (arith, ints, low.0, high.0), grind (arith, ints)))
window_fits w Back low high = (low, (grind (arith, ints, low.1, high.1), grind (arith, ints)))
