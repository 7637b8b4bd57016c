-- What is left from a token, put together from the ends of runs.
use Rattle.std.proofs.Common.{◌≡◌, inl, inr, ap, refl, sym, ◌∙◌, subst, ℤ, Bool, true, false, ◌||◌, int_le, List, [], ◌∷◌, Option, Some, None}
use Rattle.std.proofs.lemmas.Bool.{and_from, and_parts, false_from_ne_true, or_from, or_left, or_right}
use Rattle.moment_core.specs.Sets.{ahead, IsUpTo}
use Rattle.moment_core.specs.declared.line.Dir.{Dir}
use Rattle.moment_core.specs.declared.line.Dir.TheVariants.{Fore, Back}
use Rattle.moment_core.specs.declared.line.Pos.{Pos}
use Rattle.moment_core.specs.declared.line.Window.{Window}
use Rattle.moment_core.proofs.Comparing.{int_le-true, le-int_le}
use Rattle.moment_core.proofs.Order.{before_or_past, not_both_ways, self_up_to, trans_up_to}
use Rattle.span_core.specs.Tokens.{IsPlaceFit}
use Rattle.span_core.specs.declared.bounds.Run.{Run}
use Rattle.run_search.specs.Runs.{IsFirstMember, IsFirstRun}
use Rattle.walk_core.specs.Found.{GoesOnTo}
use Rattle.walk_core.specs.Items.{AreItems, begin_at, lies_from, set_with, with_run}
use Rattle.walk_core.proofs.Order.{one_on, past_both}

or_without : (a b : Bool) → b ≡ false → (a || b) ≡ a
or_without true b e = refl
or_without false b e = e

or_within : (a b : Bool) → (b ≡ true → a ≡ true) → (a || b) ≡ a
or_within true b h = refl
or_within false true h = sym (h refl)
or_within false false h = refl

-- the positions from one to another
lies_between : (dir : Dir) (near far q : ℤ) → IsUpTo dir q near → IsUpTo dir far q
    → lies_from dir near far q ≡ true
lies_between Fore near far q h k = and_from (int_le near q) (int_le q far) (le-int_le near q h)
    (le-int_le q far k)
lies_between Back near far q h k = and_from (int_le far q) (int_le q near) (le-int_le far q k)
    (le-int_le q near h)

lies_there : (dir : Dir) (near far q : ℤ) → lies_from dir near far q ≡ true → IsUpTo dir q near
    × IsUpTo dir far q
lies_there Fore near far q e =
    let both = and_parts (int_le near q) (int_le q far) e in
    (int_le-true near q both.0, int_le-true q far both.1)
lies_there Back near far q e =
    let both = and_parts (int_le far q) (int_le q near) e in
    (int_le-true q near both.1, int_le-true far q both.0)

lies_not_past : (dir : Dir) (near far q : ℤ) → IsUpTo dir q (ahead dir far 1)
    → lies_from dir near far q ≡ false
lies_not_past dir near far q h = false_from_ne_true (lies_from dir near far q)
    (λ e. not_both_ways dir q far (lies_there dir near far q e).1 h)

-- the first run by its first member and its end
pub first_run : (set : ℤ → Bool) (dir : Dir) (p end near far : ℤ) → IsFirstMember set dir p end near
    → IsFirstRun set dir near end near far → IsFirstRun set dir p end near far
first_run set dir p end near far f g = record {
  from = f.from;
  none_before = f.none_before;
  some = g.some;
  members = g.members;
  within = g.within;
  ends = g.ends;
}

-- the run that is open
pub open_run : (set : ℤ → Bool) (dir : Dir) (begun place end far : ℤ) → IsUpTo dir place begun
    → GoesOnTo set dir place end far → IsFirstRun (with_run set dir begun place) dir begun end begun
    far
open_run set dir begun place end far within g = record {
  from = self_up_to dir begun;
  none_before = λ q h k. absurd (not_both_ways dir begun q h k);
  some = trans_up_to dir begun place far within g.some;
  members = λ q h k. elim (before_or_past dir q place) [
    | inl near ↦ or_right (set q) (lies_from dir begun place q)
        (lies_between dir begun place q h near)
    | inr on ↦ or_left (set q) (lies_from dir begun place q) (g.members q on k)
  ];
  within = g.within;
  ends = elim g.ends [
    | inl e ↦ inl e
    | inr gap ↦ inr (or_from (set (ahead dir far 1)) (lies_from dir begun place (ahead dir far 1))
        gap
        (lies_not_past dir begun place (ahead dir far 1) (past_both dir place far g.some)))
  ];
}

pub past_run : (dir : Dir) (p near far : ℤ) → IsUpTo dir near p → IsUpTo dir far near
    → IsUpTo dir (ahead dir far 1) p
past_run dir p near far h k = trans_up_to dir p far (ahead dir far 1)
    (trans_up_to dir p near far h k) (one_on dir far)

-- sets with the same members from p on have the same items
first_run-same : (f g : ℤ → Bool) (dir : Dir) (p end near far : ℤ)
    → ((q : ℤ) → IsUpTo dir q p → f q ≡ g q) → IsFirstRun f dir p end near far
    → IsFirstRun g dir p end near far
first_run-same f g dir p end near far same r = record {
  from = r.from;
  none_before = λ q h k. sym (same q h) ∙ r.none_before q h k;
  some = r.some;
  members = λ q h k. sym (same q (trans_up_to dir p near q r.from h)) ∙ r.members q h k;
  within = r.within;
  ends = elim r.ends [
    | inl e ↦ inl e
    | inr gap ↦ inr (sym (same (ahead dir far 1) (past_run dir p near far r.from r.some)) ∙ gap)
  ];
}

pub items-same : (f g : ℤ → Bool) (window : Dir → ℤ → Option Window) (dir : Dir) (p end : ℤ)
    (runs : List Run) → ((q : ℤ) → IsUpTo dir q p → f q ≡ g q) → AreItems f window dir p end runs
    → AreItems g window dir p end runs
items-same f g window dir p end [] same h = λ q a b. sym (same q a) ∙ h q a b
items-same f g window dir p end (run ∷ runs) same (near, far, first, is, others) = (
  near,
  far,
  first_run-same f g dir p end near far same first,
  is,
  items-same f g window dir (ahead dir far 1) end runs
      (λ q h. same q
      (trans_up_to dir p (ahead dir far 1) q (past_run dir p near far first.from first.some) h))
      others,
)

-- past positions that are no members the items are the same
pub items-past_gap : (set : ℤ → Bool) (window : Dir → ℤ → Option Window) (dir : Dir) (p at end : ℤ)
    (runs : List Run) → IsUpTo dir at p → ((q : ℤ) → IsUpTo dir q p → IsUpTo dir at (ahead dir q 1)
    → set q ≡ false) → AreItems set window dir at end runs → AreItems set window dir p end runs
items-past_gap set window dir p at end [] on gap h = λ q a b. elim (before_or_past dir at q) [
  | inl past ↦ h q past b
  | inr before ↦ gap q a before
]
items-past_gap set window dir p at end (run ∷ runs) on gap (near, far, first, is, others) = (
  near,
  far,
  record {
    from = trans_up_to dir p at near on first.from;
    none_before = λ q a b. elim (before_or_past dir at q) [
      | inl past ↦ first.none_before q past b
      | inr before ↦ gap q a before
    ];
    some = first.some;
    members = first.members;
    within = first.within;
    ends = first.ends;
  },
  is,
  others,
)

-- not past either end, it lies there or not by the beginning alone
lies_same : (dir : Dir) (begun place at q : ℤ) → IsUpTo dir place q → IsUpTo dir at q
    → lies_from dir begun at q ≡ lies_from dir begun place q
lies_same dir begun place at q h k = elim (before_or_past dir begun q) [
  | inl past ↦ lies_between dir begun at q past k ∙ sym (lies_between dir begun place q past h)
  | inr before ↦
      false_from_ne_true (lies_from dir begun at q)
      (λ e. not_both_ways dir begun q (lies_there dir begun at q e).0 before)
      ∙ sym (false_from_ne_true (lies_from dir begun place q)
      (λ e. not_both_ways dir begun q (lies_there dir begun place q e).0 before))
]

-- members that stand there already make no other set
pub with_members : (set : ℤ → Bool) (dir : Dir) (near far q : ℤ)
    → ((r : ℤ) → IsUpTo dir r near → IsUpTo dir far r → set r ≡ true) → with_run set dir near far q
    ≡ set q
with_members set dir near far q members =
    or_within (set q) (lies_from dir near far q) (λ e. let there = lies_there dir near far q e in
    members q there.0 there.1)

-- nor do those past the place of an open run
pub with_more_members : (set : ℤ → Bool) (dir : Dir) (begun place at q : ℤ) → IsUpTo dir at place
    → ((r : ℤ) → IsUpTo dir r (ahead dir place 1) → IsUpTo dir at r → set r ≡ true)
    → with_run set dir begun at q ≡ with_run set dir begun place q
with_more_members set dir begun place at q on members = elim (before_or_past dir q place) [
  | inl near ↦
      ap (λ b. set q || b)
      (lies_same dir begun place at q near (trans_up_to dir q place at near on))
  | inr past ↦
      or_within (set q) (lies_from dir begun at q)
      (λ e. members q past (lies_there dir begun at q e).1)
      ∙ sym (or_without (set q) (lies_from dir begun place q)
      (lies_not_past dir begun place q past))
]

-- an open run reaches its place
reaches_place : (set : ℤ → Bool) (dir : Dir) (begun place end near far : ℤ) → IsUpTo dir end place
    → IsFirstRun (with_run set dir begun place) dir begun end near far → IsUpTo dir far place
reaches_place set dir begun place end near far within r = elim (before_or_past dir place far) [
  | inl past ↦ past
  | inr before ↦
      let there : with_run set dir begun place (ahead dir far 1) ≡ true =
      or_right (set (ahead dir far 1)) (lies_from dir begun place (ahead dir far 1))
      (lies_between dir begun place (ahead dir far 1) (past_run dir begun near far r.from r.some)
      before) in
      elim r.ends [
        | inl e ↦ absurd
            (not_both_ways dir place far (subst (λ z. IsUpTo dir z place) (sym e) within) before)
        | inr gap ↦ let f : true ≡ false = sym there ∙ gap in absurd cc
      ]
]

-- so past it the set is as it was
same_past_open : (set : ℤ → Bool) (dir : Dir) (begun place end near far q : ℤ)
    → IsUpTo dir end place → IsFirstRun (with_run set dir begun place) dir begun end near far
    → IsUpTo dir q (ahead dir far 1) → set q ≡ with_run set dir begun place q
same_past_open set dir begun place end near far q within r h =
    sym (or_without (set q) (lies_from dir begun place q)
    (lies_not_past dir begun place q (trans_up_to dir (ahead dir place 1) (ahead dir far 1) q
    (past_both dir place far (reaches_place set dir begun place end near far within r)) h)))

-- and so are the items past the first one of a token
pub rest_past : (set : ℤ → Bool) (window : Dir → ℤ → Option Window) (dir : Dir) (place end : ℤ)
    (begun : Option Pos) (near far : ℤ) (runs : List Run) → IsPlaceFit dir place end begun
    → IsFirstRun (set_with set dir place begun) dir (begin_at place begun) end near far
    → AreItems set window dir (ahead dir far 1) end runs → AreItems (set_with set dir place begun)
    window dir (ahead dir far 1) end runs
rest_past set window dir place end None near far runs fit first rest = rest
rest_past set window dir place end (Some begun) near far runs fit first rest =
    items-same set (with_run set dir begun.0 place) window dir (ahead dir far 1) end runs
    (λ q h. same_past_open set dir begun.0 place end near far q fit.2 first h) rest

pub past_open : (set : ℤ → Bool) (window : Dir → ℤ → Option Window) (dir : Dir) (place end : ℤ)
    (begun : Option Pos) (near far : ℤ) (runs : List Run) → IsPlaceFit dir place end begun
    → IsFirstRun (set_with set dir place begun) dir (begin_at place begun) end near far
    → AreItems (set_with set dir place begun) window dir (ahead dir far 1) end runs
    → AreItems set window dir (ahead dir far 1) end runs
past_open set window dir place end None near far runs fit first rest = rest
past_open set window dir place end (Some begun) near far runs fit first rest =
    items-same (with_run set dir begun.0 place) set window dir (ahead dir far 1) end runs
    (λ q h. sym (same_past_open set dir begun.0 place end near far q fit.2 first h)) rest

-- the beginning of an open run is one of its members
pub open_member : (set : ℤ → Bool) (dir : Dir) (begun place : ℤ) → IsUpTo dir place begun
    → with_run set dir begun place begun ≡ true
open_member set dir begun place h = or_right (set begun) (lies_from dir begun place begun)
    (lies_between dir begun place begun (self_up_to dir begun) h)
