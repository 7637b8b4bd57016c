-- What the kind of a set says of its members, and clocks of moments.
use Rattle.std.proofs.Common.{◌≡◌, refl, ap, sym, ◌∙◌, arith, ℕ, ◌<◌, suc, ℤ, pos, ◌+ℤ◌, ◌-ℤ◌, Bool, true, false, not, ◌&&◌, List, [], ◌∷◌, length, get_or, drop, Option, Some, None, Result, Ok, Err}
use Rattle.std.proofs.Math.Seq.{drop-cons}
use Rattle.std.proofs.lemmas.Bool.{and_left, and_right, or_from}
use Rattle.std.proofs.lemmas.Int.{ints}
use Rattle.std.specs.Ordering.{int_eq}
use Rattle.moment_core.specs.Clocks.{clock_of_stamp, one_clock}
use Rattle.moment_core.specs.Line.{is_moment, moment_of, position_of}
use Rattle.moment_core.specs.declared.line.Clock.{Clock}
use Rattle.moment_core.specs.declared.line.Stamp.{Stamp}
use Rattle.moment_core.specs.Sets.{moments_in}
use Rattle.rule_core.specs.FieldMembers.{has_field}
use Rattle.span_core.specs.Bounds.{lies_between}
use Rattle.moment_core.specs.Joining.{joined}
use Rattle.moment_core.specs.declared.joining.Op.{Op}
use Rattle.moment_core.specs.declared.joining.Op.TheVariants.{Union, Meet, Minus}
use Rattle.moment_core.specs.declared.joining.UnaryOp.{UnaryOp}
use Rattle.moment_core.specs.declared.joining.UnaryOp.TheVariants.{Not, During, Starts, Ends, Shift}
use Rattle.expr_tree.specs.Lists.{has_listed}
use Rattle.ical_rules.specs.Rules.{meaning_of_ical}
use Rattle.stored_pair.specs.Meanings.{Entries}
use Rattle.expr_tree.specs.Members.{begins_at, ends_at, is_between, is_member, lasts_at, unary_at}
use Rattle.expr_tree.specs.Sorts.{as_kind, clock_of_stamps, clock_with, during_judged, either_kind, join_judged, joined_kind, judge, pairs_judged, reaches_badly, sort_of_tree, sort_with, spans_of, unary_judged, with_clock}
use Rattle.expr_tree.specs.Sound.{HasMomentsAlone, IsSound, looks_back}
use Rattle.expr_tree.specs.Tree.{Rule, Listed, Field, Ical, Tree, Empty, Spanned, Ruled, Joined, Pairs, Unary, meant_of}
use Rattle.expr_tree.specs.declared.sorting.Judged.{Judged}
use Rattle.expr_tree.specs.declared.sorting.Sort.{Sort}
use Rattle.expr_tree.specs.declared.sorting.SortFault.{SortFault}
use Rattle.expr_tree.specs.declared.sorting.SortFault.TheVariants as faults
use Rattle.expr_tree.specs.declared.tree.Kind.{Kind}
use Rattle.expr_tree.specs.declared.tree.Kind.TheVariants.{Moments, Spans}
use Rattle.expr_tree.proofs.Sizes.{past_sizes, past_test, sort_from}

-- once two clocks differ, no further moment mends it
clock_with-none : (stamps : List Stamp) → clock_with None stamps ≡ None
clock_with-none [] = refl
clock_with-none (stamp ∷ stamps) = clock_with-none stamps

pub clock_with-stop : (clock here : Clock) (one : Option Clock) (stamps : List Stamp) (i : ℕ)
    (d : Stamp) → here ≡ clock_of_stamp (get_or stamps i d) → one ≡ one_clock clock here
    → one ≡ None → i < length stamps → clock_with (Some clock) (drop i stamps) ≡ clock_of_stamps
    stamps → None ≡ clock_of_stamps stamps
clock_with-stop clock here one stamps i d is of_both none within h =
    sym (clock_with-none (drop (suc i) stamps))
    ∙ ap (λ o. clock_with o (drop (suc i) stamps)) (sym none ∙ of_both ∙ ap (one_clock clock) is)
    ∙ sym (ap (clock_with (Some clock)) (drop-cons stamps i d within))
    ∙ h

abbrev open_second : ℤ → ℤ
open_second moment = position_of moment +ℤ pos 1

-- the set has no open second where its kind is moments
abbrev NoneOpen : (ℤ → Bool) → Result Judged SortFault → Type 0
NoneOpen set (Ok a) = a.kind ≡ Moments → HasMomentsAlone set
NoneOpen set (Err fault) = Unit {0}

NoneOpen-clock : (set : ℤ → Bool) (kind : Kind) (clock : Option Clock) → (kind ≡ Moments
    → HasMomentsAlone set) → NoneOpen set (with_clock kind clock)
NoneOpen-clock set kind (Some clock) h = h
NoneOpen-clock set kind None h = tt

-- what joins two sets of one kind each makes a set of some kind
joined_tells : (op : Op) (x y : Kind) (a b : Bool) → joined_kind op x y ≡ Moments
    → (x ≡ Moments → a ≡ false) → (y ≡ Moments → b ≡ false) → joined op a b ≡ false
joined_tells Union Moments Moments a b e r s = or_from a b (r refl) (s refl)
joined_tells Union Moments Spans a b e r s = absurd cc
joined_tells Union Spans y a b e r s = absurd cc
joined_tells Meet Moments y a b e r s = and_left a b (r refl)
joined_tells Meet Spans Moments a b e r s = and_right a b (s refl)
joined_tells Meet Spans Spans a b e r s = absurd cc
joined_tells Minus x y a b e r s = and_left a (not b) (r e)

NoneOpen-join : (op : Op) (f g : ℤ → Bool) (a b : Result Judged SortFault) → NoneOpen f a
    → NoneOpen g b → NoneOpen (λ p. joined op (f p) (g p)) (join_judged op a b)
NoneOpen-join op f g (Err fault) b r s = tt
NoneOpen-join op f g (Ok a) (Err fault) r s = tt
NoneOpen-join op f g (Ok a) (Ok b) r s =
    NoneOpen-clock (λ p. joined op (f p) (g p)) (joined_kind op a.kind b.kind) (one_clock a.clock
    b.clock)
    (λ e m. joined_tells op a.kind b.kind (f (open_second m)) (g (open_second m)) e (λ k. r k m)
    (λ k. s k m))

NoneOpen-spans : (set : ℤ → Bool) (a : Result Judged SortFault) → NoneOpen set (as_kind Spans a)
NoneOpen-spans set (Err fault) = tt
NoneOpen-spans set (Ok a) = λ e. absurd cc

NoneOpen-moments : (set : ℤ → Bool) (a : Result Judged SortFault) → HasMomentsAlone set
    → NoneOpen set (as_kind Moments a)
NoneOpen-moments set (Err fault) none = tt
NoneOpen-moments set (Ok a) none = λ e. none

NoneOpen-made : (set : ℤ → Bool) (kind : Kind) (clock : Option Clock)
    → NoneOpen set (spans_of kind clock)
NoneOpen-made set Moments clock = NoneOpen-clock set Spans clock (λ e. absurd cc)
NoneOpen-made set Spans clock = tt

NoneOpen-during : (set : ℤ → Bool) (a : Result Judged SortFault) → NoneOpen set (during_judged a)
NoneOpen-during set (Err fault) = tt
NoneOpen-during set (Ok a) = NoneOpen-made set a.kind (Some a.clock)

NoneOpen-pairs : (set : ℤ → Bool) (a b : Result Judged SortFault) → NoneOpen set (pairs_judged a b)
NoneOpen-pairs set (Err fault) b = tt
NoneOpen-pairs set (Ok a) (Err fault) = tt
NoneOpen-pairs set (Ok a) (Ok b) =
    NoneOpen-made set (either_kind a.kind b.kind) (one_clock a.clock b.clock)

NoneOpen-moved : (set : ℤ → Bool) (s : ℤ) (a : Result Judged SortFault) → NoneOpen set a
    → NoneOpen (λ p. set (p -ℤ position_of s)) a
NoneOpen-moved set s (Err fault) h = tt
NoneOpen-moved set s (Ok a) h = λ e m.
    let place : open_second m -ℤ position_of s ≡ open_second (m -ℤ s) = omega (arith, ints) in
    ap set place ∙ h e (m -ℤ s)

no_moment_between : (t m : ℤ) → int_eq (position_of t) (open_second m) ≡ false
no_moment_between t m = grind (arith, ints)

apart_between : (m : ℤ) → int_eq (position_of (moment_of (open_second m))) (open_second m) ≡ false
apart_between m = no_moment_between (moment_of (open_second m)) m

none_between : (has : ℤ → Bool) → HasMomentsAlone (moments_in has)
none_between has m = and_left _ (has (moment_of (open_second m))) (apart_between m)

NoneOpen-unary : (op : UnaryOp) (set : ℤ → Bool) (a : Result Judged SortFault) → NoneOpen set a
    → NoneOpen (unary_at op set) (unary_judged op a)
NoneOpen-unary Not set a h = NoneOpen-spans (λ p. not (set p)) a
NoneOpen-unary (During seconds) set a h = NoneOpen-during (lasts_at set seconds) a
NoneOpen-unary Starts set a h =
    NoneOpen-moments (λ p. is_moment p && begins_at set p) a
    (λ m. and_left (is_moment (open_second m)) (begins_at set (open_second m)) (apart_between m))
NoneOpen-unary Ends set a h =
    NoneOpen-moments (λ p. is_moment p && ends_at set p) a
    (λ m. and_left (is_moment (open_second m)) (ends_at set (open_second m)) (apart_between m))
NoneOpen-unary (Shift seconds) set a h = NoneOpen-moved set seconds a h

judged_none_open : (entries : Entries) (t : Tree Rule) → NoneOpen (is_member (meant_of entries t))
    (judge t)
judged_none_open entries Empty = λ e m. refl
judged_none_open entries (Spanned bounds low high) =
    NoneOpen-clock (λ p. lies_between bounds.0 bounds.1 p) Spans (one_clock low high)
    (λ e. absurd cc)
judged_none_open entries (Ruled (Listed stamps)) =
    NoneOpen-clock (moments_in (has_listed stamps)) Moments (clock_of_stamps stamps)
    (λ e. none_between (has_listed stamps))
judged_none_open entries (Ruled (Field rule)) = λ e. none_between (has_field rule)
judged_none_open entries (Ruled (Ical rule)) = λ e. none_between (meaning_of_ical rule).member
judged_none_open entries (Joined op a b) =
    NoneOpen-join op (is_member (meant_of entries a)) (is_member (meant_of entries b)) (judge a)
    (judge b) (judged_none_open entries a) (judged_none_open entries b)
judged_none_open entries (Pairs a b) =
    NoneOpen-pairs (is_between (is_member (meant_of entries a)) (is_member (meant_of entries b)))
    (judge a) (judge b)
judged_none_open entries (Unary op a) =
    NoneOpen-unary op (is_member (meant_of entries a)) (judge a) (judged_none_open entries a)

sorted_none_open : (entries : Entries) (t : Tree Rule) (sort : Sort) (a : Result Judged SortFault)
    → NoneOpen (is_member (meant_of entries t)) a → sort_with t a ≡ Ok sort → sort.kind ≡ Moments
    → HasMomentsAlone (is_member (meant_of entries t))
sorted_none_open entries t sort (Err fault) h e kind = absurd cc
sorted_none_open entries t sort (Ok judged) h e kind =
    let made = past_test (reaches_badly t) faults.Reach (Ok (sort_from t judged)) sort e in
    let same : sort_from t judged ≡ sort = cc in
    h (ap (λ (s : Sort). s.kind) same ∙ kind)

pub moments_have_no_open_second : (entries : Entries) (t : Tree Rule) (sort : Sort)
    → sort_of_tree t ≡ Ok sort → sort.kind ≡ Moments
    → HasMomentsAlone (is_member (meant_of entries t))
moments_have_no_open_second entries t sort e =
    sorted_none_open entries t sort (judge t) (judged_none_open entries t) (past_sizes t sort e)

-- what is so where the set has no fault
abbrev WhereJudged : Type 0 → Result Judged SortFault → Type 0
WhereJudged P (Ok a) = P
WhereJudged P (Err fault) = Unit {0}

WhereJudged-clock : (P : Type 0) (kind : Kind) (clock : Option Clock) → P
    → WhereJudged P (with_clock kind clock)
WhereJudged-clock P kind (Some clock) h = h
WhereJudged-clock P kind None h = tt

WhereJudged-join : (P Q : Type 0) (op : Op) (a b : Result Judged SortFault) → WhereJudged P a
    → WhereJudged Q b → WhereJudged (P × Q) (join_judged op a b)
WhereJudged-join P Q op (Err fault) b h k = tt
WhereJudged-join P Q op (Ok a) (Err fault) h k = tt
WhereJudged-join P Q op (Ok a) (Ok b) h k =
    WhereJudged-clock (P × Q) (joined_kind op a.kind b.kind) (one_clock a.clock b.clock) (h, k)

WhereJudged-as : (P : Type 0) (kind : Kind) (a : Result Judged SortFault) → WhereJudged P a
    → WhereJudged P (as_kind kind a)
WhereJudged-as P kind (Err fault) h = tt
WhereJudged-as P kind (Ok a) h = h

WhereJudged-made : (P : Type 0) (kind : Kind) (clock : Option Clock) → (kind ≡ Moments → P)
    → WhereJudged P (spans_of kind clock)
WhereJudged-made P Moments clock h = WhereJudged-clock P Spans clock (h refl)
WhereJudged-made P Spans clock h = tt

WhereJudged-more : (P Q : Type 0) (a : Result Judged SortFault) → Q → WhereJudged P a
    → WhereJudged (P × Q) a
WhereJudged-more P Q (Err fault) q h = tt
WhereJudged-more P Q (Ok a) q h = (h, q)

WhereJudged-during : (P Q : Type 0) (f : ℤ → Bool) (a : Result Judged SortFault)
    → (HasMomentsAlone f → Q) → WhereJudged P a → NoneOpen f a
    → WhereJudged (P × Q) (during_judged a)
WhereJudged-during P Q f (Err fault) q h none = tt
WhereJudged-during P Q f (Ok a) q h none =
    WhereJudged-made (P × Q) a.kind (Some a.clock) (λ kind. (h, q (none kind)))

-- the set has moments alone, where it is looked back at
abbrev IsBacked : UnaryOp → (ℤ → Bool) → Type 0
IsBacked op f = looks_back op ≡ true → HasMomentsAlone f

WhereJudged-unary : (P : Type 0) (op : UnaryOp) (f : ℤ → Bool) (a : Result Judged SortFault)
    → WhereJudged P a → NoneOpen f a → WhereJudged (P × IsBacked op f) (unary_judged op a)
WhereJudged-unary P Not f a h none =
    WhereJudged-as (P × IsBacked Not f) Spans a
    (WhereJudged-more P (IsBacked Not f) a (λ e. absurd cc) h)
WhereJudged-unary P (During seconds) f a h none =
    WhereJudged-during P (IsBacked (During seconds) f) f a (λ alone e. alone) h none
WhereJudged-unary P Starts f a h none =
    WhereJudged-as (P × IsBacked Starts f) Moments a
    (WhereJudged-more P (IsBacked Starts f) a (λ e. absurd cc) h)
WhereJudged-unary P Ends f a h none =
    WhereJudged-as (P × IsBacked Ends f) Moments a
    (WhereJudged-more P (IsBacked Ends f) a (λ e. absurd cc) h)
WhereJudged-unary P (Shift seconds) f a h none =
    WhereJudged-more P (IsBacked (Shift seconds) f) a (λ e. absurd cc) h

both_moments : (x y : Kind) → either_kind x y ≡ Moments → (x ≡ Moments) × (y ≡ Moments)
both_moments Moments Moments e = (refl, refl)
both_moments Moments Spans e = absurd cc
both_moments Spans y e = absurd cc

WhereJudged-pairs : (P Q : Type 0) (f g : ℤ → Bool) (a b : Result Judged SortFault)
    → WhereJudged P a → WhereJudged Q b → NoneOpen f a → NoneOpen g b → WhereJudged ((P × Q)
    × (HasMomentsAlone f × HasMomentsAlone g)) (pairs_judged a b)
WhereJudged-pairs P Q f g (Err fault) b h k none other = tt
WhereJudged-pairs P Q f g (Ok a) (Err fault) h k none other = tt
WhereJudged-pairs P Q f g (Ok a) (Ok b) h k none other =
    WhereJudged-made ((P × Q) × (HasMomentsAlone f × HasMomentsAlone g)) (either_kind a.kind b.kind)
    (one_clock a.clock b.clock)
    (λ kind. let both = both_moments a.kind b.kind kind in ((h, k), (none both.0, other both.1)))

judged_sound : (entries : Entries) (t : Tree Rule) → WhereJudged (IsSound (meant_of entries t))
    (judge t)
judged_sound entries Empty = tt
judged_sound entries (Spanned bounds low high) =
    WhereJudged-clock (Unit {0}) Spans (one_clock low high) tt
judged_sound entries (Ruled (Listed stamps)) =
    WhereJudged-clock (Unit {0}) Moments (clock_of_stamps stamps) tt
judged_sound entries (Ruled (Field rule)) = tt
judged_sound entries (Ruled (Ical rule)) = tt
judged_sound entries (Joined op a b) =
    WhereJudged-join (IsSound (meant_of entries a)) (IsSound (meant_of entries b)) op (judge a)
    (judge b) (judged_sound entries a) (judged_sound entries b)
judged_sound entries (Pairs a b) =
    WhereJudged-pairs (IsSound (meant_of entries a)) (IsSound (meant_of entries b))
    (is_member (meant_of entries a)) (is_member (meant_of entries b)) (judge a) (judge b)
    (judged_sound entries a) (judged_sound entries b) (judged_none_open entries a)
    (judged_none_open entries b)
judged_sound entries (Unary op a) =
    WhereJudged-unary (IsSound (meant_of entries a)) op (is_member (meant_of entries a)) (judge a)
    (judged_sound entries a) (judged_none_open entries a)

sorted_sound : (entries : Entries) (t : Tree Rule) (sort : Sort) (a : Result Judged SortFault)
    → WhereJudged (IsSound (meant_of entries t)) a → sort_with t a ≡ Ok sort
    → IsSound (meant_of entries t)
sorted_sound entries t sort (Err fault) h e = absurd cc
sorted_sound entries t sort (Ok judged) h e = h

pub sorted_are_sound : (entries : Entries) (t : Tree Rule) (sort : Sort) → sort_of_tree t ≡ Ok sort
    → IsSound (meant_of entries t)
sorted_are_sound entries t sort e =
    sorted_sound entries t sort (judge t) (judged_sound entries t) (past_sizes t sort e)
