-- What the answers of searches say of the positions up to an end.
use Rattle.std.proofs.Common.{◌≡◌, ◌⊎◌, inl, inr, ap, refl, sym, subst, ◌∙◌, arith, ℕ, ◌≤◌, ℤ, Bool, true, false, not, Option, IsTrue, ◌↔◌}
use Rattle.std.proofs.lemmas.Int.{ints}
use Rattle.moment_core.specs.Line.{IsCalendarPosition}
use Rattle.moment_core.specs.Sets.{ahead, IsNextChange, StaysInRange, IsUpTo, range_end}
use Rattle.moment_core.specs.declared.line.Dir.{Dir}
use Rattle.moment_core.specs.declared.line.Dir.TheVariants.{Fore, Back}
use Rattle.moment_core.specs.declared.line.Window.{Window}
use Rattle.moment_core.proofs.LineLaws.{seen-zero}
use Rattle.moment_core.proofs.Order.{before_or_past, fewer_steps, in_range-within, no_more_steps, not_both_ways, one_on_up_to, self_up_to, steps_to, trans_up_to, up_to_end, later_by_steps}
use Rattle.span_core.specs.Answers.{IsFound, StopsAt}
use Rattle.span_core.specs.declared.answers.Answer.TheVariants as answers
use Rattle.span_core.specs.declared.answers.Why.{Why}
use Rattle.span_core.specs.declared.answers.Why.TheVariants as whys
use Rattle.span_core.specs.declared.answers.Stop.{Stop}
use Rattle.stored_pair.specs.Meanings.{Meaning}
use Rattle.expr_tree.specs.Members.{is_member}
use Rattle.expr_tree.specs.Tree.{Tree}
use Rattle.frame_core.specs.Frames.{window_if_framed}
use Rattle.search_core.specs.Candidates.{candidates}
use Rattle.search_core.specs.Due.{IsDue}
use Rattle.search_core.specs.Laws.{StopsOfTestsAreNumbered}
use Rattle.search_core.specs.TreeFrames.{frame_of_tree}
use Rattle.run_search.specs.Finding.{IsWhy, TellsWhy}
use Rattle.run_search.specs.Places.{IsStopFrom}
use Rattle.run_search.specs.Runs.{HasNoMember, IsFirstMember, IsFirstRun, IsSameUpTo}

-- where q isn't up to p, p lies before it
pub past_if_not : (dir : Dir) (p q : ℤ) → (IsUpTo dir q p → ⊥) → IsUpTo dir p (ahead dir q 1)
past_if_not dir p q isnt = elim (before_or_past dir p q) [
  | inl h ↦ absurd (isnt h)
  | inr h ↦ h
]

-- a position right before another
right_before : (dir : Dir) (p q r : ℤ) → ahead dir p 1 ≡ q → IsUpTo dir p r
    → IsUpTo dir q (ahead dir r 1)
right_before Fore p q r e h = omega (arith, ints)
right_before Back p q r e h = omega (arith, ints)

back_by_one : (dir : Dir) (p q r : ℤ) → ahead dir q 1 ≡ r → IsUpTo dir r (ahead dir p 1)
    → IsUpTo dir q p
back_by_one Fore p q r e h = omega (arith, ints)
back_by_one Back p q r e h = omega (arith, ints)

pub past_then : (dir : Dir) (x end q : ℤ) → IsUpTo dir x (ahead dir end 1) → IsUpTo dir end q
    → IsUpTo dir x (ahead dir q 1)
past_then Fore x end q h k = omega (arith, ints)
past_then Back x end q h k = omega (arith, ints)

-- before the nearest change nothing differs, and there it does
same_before : (set : ℤ → Bool) (dir : Dir) (p x q : ℤ) → IsNextChange set dir p x → IsUpTo dir q p
    → IsUpTo dir x (ahead dir q 1) → set q ≡ set p
same_before set dir p x q c h k =
    let s = steps_to dir p q h in
    ap set s.1 ∙ c.2.same s.0 (fewer_steps dir p q x s.0 c.0 s.1 c.1 k) ∙ seen-zero set dir p

pub differs_there : (set : ℤ → Bool) (dir : Dir) (p x : ℤ) → IsNextChange set dir p x → set x
    ≡ not (set p)
differs_there set dir p x c = ap set c.1 ∙ c.2.differs ∙ ap not (seen-zero set dir p)

pub change_later : (set : ℤ → Bool) (dir : Dir) (p x : ℤ) → IsNextChange set dir p x
    → IsUpTo dir x (ahead dir p 1)
change_later set dir p x c = later_by_steps dir p x c.0 c.1 c.2.later

pub same_if_change_past : (set : ℤ → Bool) (dir : Dir) (p x end : ℤ) → IsNextChange set dir p x
    → (IsUpTo dir end x → ⊥) → IsSameUpTo set dir p end
same_if_change_past set dir p x end c isnt q h k =
    same_before set dir p x q c h (past_then dir x end q (past_if_not dir x end isnt) k)

pub same_if_stays : (set : ℤ → Bool) (dir : Dir) (p end : ℤ) → IsCalendarPosition p
    → IsCalendarPosition end → StaysInRange set dir p → IsSameUpTo set dir p end
same_if_stays set dir p end here there stays q h k =
    let s = steps_to dir p q h in
    let P : ℤ → Type 0 = λ z. IsCalendarPosition z in
    ap set s.1 ∙ stays s.0 (subst P s.1 (in_range-within dir p q end here there h k))

-- a position of the range is not past an end that is the range's own, nor past one that it lies
-- before
not_past_end : (dir : Dir) (end at : ℤ) → IsCalendarPosition at → (end ≡ range_end dir)
    ⊎ IsUpTo dir end (ahead dir at 1) → IsUpTo dir end at
not_past_end dir end at here (inr h) = one_on_up_to dir at end h
not_past_end dir end at here (inl e) = let P : ℤ → Type 0 =
    λ z. IsUpTo dir z at in subst P (sym e) (up_to_end dir at here)

module _ (numbered : StopsOfTestsAreNumbered) where
  -- a stop that isn't one of a node is the search's own
  own_stop : (tree : Tree Meaning) (dir : Dir) (p : ℤ) (budget : ℕ) (s : Stop)
      → IsDue tree dir p budget s → s.node ≡ 0
      → (n : ℕ) × StopsAt (is_member tree) (candidates tree)
      (window_if_framed (frame_of_tree tree) dir p) dir p budget s n
  own_stop tree dir p budget s due e = elim due [
    | inl own ↦ own
    | inr way ↦ absurd (let h : 1 ≤ s.node = numbered tree 1 budget s (ahead dir p way.0)
        way.1.due in omega arith)
  ]

  pub own_in_range : (tree : Tree Meaning) (dir : Dir) (p : ℤ) (budget : ℕ) (s : Stop)
      → IsDue tree dir p budget s → s.node ≡ 0 → IsCalendarPosition s.at.0
  own_in_range tree dir p budget s due e = (own_stop tree dir p budget s due e).1.in_range

  -- nothing differs up to it, and it is past the search's place
  same_up_to_stop : (tree : Tree Meaning) (dir : Dir) (p : ℤ) (budget : ℕ) (s : Stop)
      → IsDue tree dir p budget s → s.node ≡ 0 → IsSameUpTo (is_member tree) dir p s.at.0
  same_up_to_stop tree dir p budget s due e q h k =
      let own = own_stop tree dir p budget s due e in
      let t = steps_to dir p q h in
      ap (is_member tree) t.1
      ∙ own.1.stays t.0 (no_more_steps dir p q s.at.0 t.0 own.0 t.1 own.1.place k)

  stop_past : (tree : Tree Meaning) (dir : Dir) (p : ℤ) (budget : ℕ) (s : Stop)
      → IsDue tree dir p budget s → s.node ≡ 0 → IsUpTo dir s.at.0 (ahead dir p 1)
  stop_past tree dir p budget s due e =
      let own = own_stop tree dir p budget s due e in
      later_by_steps dir p s.at.0 own.0 own.1.place own.1.later

  pub same_if_cut : (tree : Tree Meaning) (dir : Dir) (p end : ℤ) (budget : ℕ) (s : Stop)
      → IsDue tree dir p budget s → s.node ≡ 0 → IsUpTo dir s.at.0 end → IsSameUpTo (is_member tree)
      dir p end
  same_if_cut tree dir p end budget s due e cut q h k =
      same_up_to_stop tree dir p budget s due e q h (trans_up_to dir q end s.at.0 k cut)

  pub stop_from : (tree : Tree Meaning) (dir : Dir) (p end : ℤ) (budget : ℕ) (s : Stop)
      → IsDue tree dir p budget s
      → (s.node ≡ 0 → (end ≡ range_end dir) ⊎ IsUpTo dir end (ahead dir s.at.0 1))
      → IsStopFrom (is_member tree) (IsDue tree) dir p end budget s
  stop_from tree dir p end budget s due before = (
    (due, before),
    λ e. (
      stop_past tree dir p budget s due e,
      not_past_end dir end s.at.0 (own_in_range tree dir p budget s due e) (before e),
      same_up_to_stop tree dir p budget s due e,
    ),
  )

-- the run of a member ends right before the change, or with the end
pub ends_at_change : (set : ℤ → Bool) (dir : Dir) (p x end far : ℤ) → set p ≡ true
    → IsNextChange set dir p x → IsUpTo dir end x → ahead dir far 1 ≡ x → IsFirstRun set dir p end p
    far
ends_at_change set dir p x end far m c near e = record {
  from = self_up_to dir p;
  none_before = λ q h k. absurd (not_both_ways dir p q h k);
  some = back_by_one dir p far x e (change_later set dir p x c);
  members = λ q h k. same_before set dir p x q c h (right_before dir far x q e k) ∙ m;
  within = one_on_up_to dir far end (let P : ℤ → Type 0 =
      λ z. IsUpTo dir end z in subst P (sym e) near);
  ends = inr (ap set e ∙ differs_there set dir p x c ∙ ap not m);
}

pub ends_with_end : (set : ℤ → Bool) (dir : Dir) (p end : ℤ) → set p ≡ true → IsUpTo dir end p
    → IsSameUpTo set dir p end → IsFirstRun set dir p end p end
ends_with_end set dir p end m within same = record {
  from = self_up_to dir p;
  none_before = λ q h k. absurd (not_both_ways dir p q h k);
  some = within;
  members = λ q h k. same q h k ∙ m;
  within = self_up_to dir end;
  ends = inl refl;
}

-- the first member past a gap, or here
pub first_at_change : (set : ℤ → Bool) (dir : Dir) (p x end : ℤ) → set p ≡ false
    → IsNextChange set dir p x → IsUpTo dir end x → IsFirstMember set dir p end x
first_at_change set dir p x end m c near = record {
  from = one_on_up_to dir p x (change_later set dir p x c);
  none_before = λ q h k. same_before set dir p x q c h k ∙ m;
  within = near;
  member = differs_there set dir p x c ∙ ap not m;
}

pub none_if_same : (set : ℤ → Bool) (dir : Dir) (p end : ℤ) → set p ≡ false → IsSameUpTo set dir p
    end → HasNoMember set dir p end
none_if_same set dir p end m same q h k = same q h k ∙ m

-- a test and what it tells
pub not_if_false : {P : Type 0} (b : Bool) → IsTrue b ↔ P → b ≡ false → P → ⊥
not_if_false {P} b both e h = let t : b ≡ true = both.1 h in let f : true ≡ false = sym t ∙ e in
    absurd cc

-- why no run begins past a gap that goes on up to the end
pub why_never : (set : ℤ → Bool) (window : Dir → ℤ → Option Window) (dir : Dir) (p end : ℤ)
    (w : Window) (why : Why) → IsUpTo dir end p → IsFound set (window dir p) dir p (answers.None w)
    → TellsWhy dir end (whys.None w) why → IsWhy set window dir p end why
why_never set window dir p end w why within f (inl h) = let P : Why → Type 0 =
    λ y. IsWhy set window dir p end y in subst P (sym h.1) (h.0, within, f)
why_never set window dir p end w why within f (inr h) = let P : Why → Type 0 =
    λ y. IsWhy set window dir p end y in subst P (sym h.1) (inr h.0)

pub why_edge : (set : ℤ → Bool) (window : Dir → ℤ → Option Window) (dir : Dir) (p end : ℤ)
    (why : Why) → IsUpTo dir end p → IsFound set (window dir p) dir p answers.Edge
    → TellsWhy dir end whys.Edge why → IsWhy set window dir p end why
why_edge set window dir p end why within f (inl h) = let P : Why → Type 0 =
    λ y. IsWhy set window dir p end y in subst P (sym h.1) (h.0, within, f)
why_edge set window dir p end why within f (inr h) = let P : Why → Type 0 =
    λ y. IsWhy set window dir p end y in subst P (sym h.1) (inr h.0)

-- a change past the end shows that the end isn't the range's
pub cut_by_change : (dir : Dir) (x end : ℤ) → IsCalendarPosition x → (IsUpTo dir end x → ⊥) → end
    ≡ range_end dir → ⊥
cut_by_change Fore x end here isnt e = isnt (omega (arith, ints, e, here.1))
cut_by_change Back x end here isnt e = isnt (omega (arith, ints, e, here.0))
