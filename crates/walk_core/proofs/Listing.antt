-- What is left from a token is one list of items alone, and backwards the items of a window are the
-- same in reverse.
use Rattle.std.proofs.Common.{◌≡◌, inl, inr, ap, refl, sym, subst, ◌∙◌, arith, ℕ, zero, suc, ◌<◌, ℤ, pos, ◌-ℤ◌, Bool, true, false, List, [], ◌∷◌, ◌++◌, reverse, Option, Some, None}
use Rattle.std.proofs.lemmas.Grind.{reverse_onto}
use Rattle.std.proofs.lemmas.Int.{ints}
use Rattle.moment_core.specs.Line.{IsCalendarPosition}
use Rattle.moment_core.specs.Sets.{ahead, IsUpTo}
use Rattle.moment_core.specs.declared.line.Dir.{Dir}
use Rattle.moment_core.specs.declared.line.Dir.TheVariants.{Fore, Back}
use Rattle.moment_core.specs.declared.line.Pos.{Pos}
use Rattle.moment_core.specs.declared.line.Window.{Window}
use Rattle.moment_core.proofs.Order.{ahead_up_to, before_or_past, in_range-within, not_both_ways, self_up_to, steps_to, trans_up_to}
use Rattle.span_core.specs.Tokens.{IsFit, IsPlaceFit}
use Rattle.span_core.specs.declared.answers.Token.{Token}
use Rattle.span_core.specs.declared.bounds.Run.{Run}
use Rattle.run_search.specs.Laws.{RunsAreUnique, RunsExist}
use Rattle.run_search.specs.Runs.{HasNoMember, IsFirstRun, item_from}
use Rattle.walk_core.specs.Items.{AreItems, AreItemsIn, AreLeft, begin_at, set_with}
use Rattle.walk_core.proofs.Ending.{items_then_last, last_run}
use Rattle.walk_core.proofs.Order.{in_range-from, past_both}
use Rattle.walk_core.proofs.Resting.{past_run}

abbrev Some_items : (ℤ → Bool) → (Dir → ℤ → Option Window) → Dir → ℤ → ℤ → Type 0
Some_items set window dir p e = (runs : List Run) × AreItems set window dir p e runs

-- past the end lies nothing
pub none_past : (set : ℤ → Bool) (dir : Dir) (p e : ℤ) → IsUpTo dir p (ahead dir e 1)
    → HasNoMember set dir p e
none_past set dir p e past q h k =
    absurd (not_both_ways dir q e k (trans_up_to dir (ahead dir e 1) p q past h))

-- past a run fewer positions are left
fewer_past : (dir : Dir) (p near far e : ℤ) (k j : ℕ) → e ≡ ahead dir p k → e
    ≡ ahead dir (ahead dir far 1) j → IsUpTo dir near p → IsUpTo dir far near → j < k
fewer_past Fore p near far e k j at on a b = omega (arith, ints)
fewer_past Back p near far e k j at on a b = omega (arith, ints)

-- from a position of the range up to another
some_items : RunsExist → (set : ℤ → Bool) (window : Dir → ℤ → Option Window) (dir : Dir) (n : ℕ)
    (p e : ℤ) (k : ℕ) → IsCalendarPosition p → IsCalendarPosition e → e ≡ ahead dir p k → k < n
    → Some_items set window dir p e
some_items exist set window dir zero p e k here there at h = absurd (omega (arith, h))
some_items exist set window dir (suc n) p e k here there at h =
    let P : ℤ → Type 0 = λ z. IsUpTo dir z p in
    let within : IsUpTo dir e p = subst P (sym at) (ahead_up_to dir p k) in
    elim (exist set dir p e here there within) [
      | inr none ↦ ([], none)
      | inl (near, far, r) ↦ elim (before_or_past dir e far) [
        | inl last ↦ (
          item_from window dir near far ∷ [],
          (near, far, r, refl, none_past set dir (ahead dir far 1) e (past_both dir e far last)),
        )
        | inr on ↦ first_then near far r on (λ q j a b c. some_items exist set window dir n q e j a
            there b c)
      ]
    ]
  where
    first_then : (near far : ℤ) → IsFirstRun set dir p e near far → IsUpTo dir e (ahead dir far 1)
        → ((q : ℤ) (j : ℕ) → IsCalendarPosition q → e ≡ ahead dir q j → j < n
        → Some_items set window dir q e) → Some_items set window dir p e
    first_then near far r on again =
        let q : ℤ = ahead dir far 1 in
        let s = steps_to dir q e on in
        let less : s.0 < k = fewer_past dir p near far e k s.0 at s.1 r.from r.some in
        let others = again q s.0
        (in_range-within dir p q e here there (past_run dir p near far r.from r.some) on) s.1
        (omega (arith, h, less)) in
        (item_from window dir near far ∷ others.0, (near, far, r, refl, others.1))

items_from : RunsExist → (set : ℤ → Bool) (window : Dir → ℤ → Option Window) (dir : Dir) (p e : ℤ)
    → IsCalendarPosition p → IsCalendarPosition e → IsUpTo dir e p → Some_items set window dir p e
items_from exist set window dir p e here there within =
    let s = steps_to dir p e within in
    some_items exist set window dir (suc s.0) p e s.0 here there s.1 (omega arith)

-- from a token, and in a window
pub some_left : RunsExist → (set : ℤ → Bool) (window : Dir → ℤ → Option Window) (t : Token)
    → IsFit t → (runs : List Run) × AreLeft set window t runs
some_left exist set window t fit = left t.begun fit.1
  where
    left : (begun : Option Pos) → IsPlaceFit t.dir t.place.0 t.end.0 begun
        → Some_items (set_with set t.dir t.place.0 begun) window t.dir (begin_at t.place.0 begun)
        t.end.0
    left None within = elim (before_or_past t.dir t.place.0 t.end.0) [
      | inl on ↦ items_from exist set window t.dir t.place.0 t.end.0
          (in_range-from t.dir t.place.0 t.end.0 within.0 on fit.0) fit.0 on
      | inr past ↦ ([], none_past set t.dir t.place.0 t.end.0 past)
    ]
    left (Some begun) within =
        let on = trans_up_to t.dir begun.0 t.place.0 t.end.0 within.1 within.2 in
        items_from exist (set_with set t.dir t.place.0 (Some begun)) window t.dir begun.0 t.end.0
        (in_range-from t.dir begun.0 t.end.0 within.0 on fit.0) fit.0 on

some_between : RunsExist → (set : ℤ → Bool) (window : Dir → ℤ → Option Window) (dir : Dir) (p e : ℤ)
    → IsCalendarPosition p → IsCalendarPosition e → Some_items set window dir p e
some_between exist set window dir p e here there = elim (before_or_past dir p e) [
  | inl on ↦ items_from exist set window dir p e here there on
  | inr past ↦ ([], none_past set dir p e past)
]

pub some_in : RunsExist → (set : ℤ → Bool) (window : Dir → ℤ → Option Window) (w : Window)
    (dir : Dir) → IsCalendarPosition w.lo.0 → IsCalendarPosition w.hi.0 → (runs : List Run)
    × AreItemsIn set window w dir runs
some_in exist set window w Fore low high = some_between exist set window Fore w.lo.0 w.hi.0 low high
some_in exist set window w Back low high = some_between exist set window Back w.hi.0 w.lo.0 high low

-- one list alone
no_item : (set : ℤ → Bool) (dir : Dir) (p e near far : ℤ) → IsFirstRun set dir p e near far
    → HasNoMember set dir p e → ⊥
no_item set dir p e near far r none =
    let member : set near ≡ true = r.members near (self_up_to dir near) r.some in
    let gap : set near ≡ false = none near r.from (trans_up_to dir near far e r.some r.within) in
    let f : true ≡ false = sym member ∙ gap in
    absurd cc

one_list : RunsAreUnique → (set : ℤ → Bool) (window : Dir → ℤ → Option Window) (dir : Dir) (p e : ℤ)
    (xs ys : List Run) → AreItems set window dir p e xs → AreItems set window dir p e ys → xs ≡ ys
one_list unique set window dir p e [] [] a b = refl
one_list unique set window dir p e [] (y ∷ ys) a (near, far, r, is, others) =
    absurd (no_item set dir p e near far r a)
one_list unique set window dir p e (x ∷ xs) [] (near, far, r, is, others) b =
    absurd (no_item set dir p e near far r b)
one_list unique set window dir p e (x ∷ xs) (y ∷ ys) (near, far, r, is, others)
    (first, last, s, is', others') =
    let same = unique set dir p e near far first last r s in
    let Q : ℤ → Type 0 = λ z. AreItems set window dir (ahead dir z 1) e ys in
    let rest : xs ≡ ys = one_list unique set window dir (ahead dir far 1) e xs ys others
    (subst Q (sym same.1) others') in
    let head : x ≡ y = is ∙ ap (λ z. item_from window dir z far) same.0
    ∙ ap (item_from window dir first) same.1 ∙ sym is' in
    ap (λ z. z ∷ xs) head ∙ ap (λ zs. y ∷ zs) rest

pub one_left : RunsAreUnique → (set : ℤ → Bool) (window : Dir → ℤ → Option Window) (t : Token)
    (xs ys : List Run) → AreLeft set window t xs → AreLeft set window t ys → xs ≡ ys
one_left unique set window t xs ys a b =
    one_list unique (set_with set t.dir t.place.0 t.begun) window t.dir (begin_at t.place.0 t.begun)
    t.end.0 xs ys a b

pub one_in : RunsAreUnique → (set : ℤ → Bool) (window : Dir → ℤ → Option Window) (w : Window)
    (dir : Dir) (xs ys : List Run) → AreItemsIn set window w dir xs → AreItemsIn set window w dir ys
    → xs ≡ ys
one_in unique set window w Fore xs ys a b = one_list unique set window Fore w.lo.0 w.hi.0 xs ys a b
one_in unique set window w Back xs ys a b = one_list unique set window Back w.hi.0 w.lo.0 xs ys a b

-- backwards they are the same in reverse
pub items_back : (set : ℤ → Bool) (window : Dir → ℤ → Option Window) (hi lo : ℤ) (runs : List Run)
    → AreItems set window Back hi lo runs → AreItems set window Fore lo hi (reverse runs)
items_back set window hi lo [] none = λ q h k. none q k h
items_back set window hi lo (run ∷ runs) (near, far, first, is, others) =
    let R : Run → Type 0 = λ r. AreItems set window Fore lo hi (reverse runs ++ r ∷ []) in
    let L : List Run → Type 0 = λ xs. AreItems set window Fore lo hi xs in
    subst L (sym (reverse_onto runs run []))
    (subst R (sym is) (items_then_last set window lo hi far near (reverse runs)
    (last_run set lo hi near far first) (items_back set window (far -ℤ pos 1) lo runs others)))
