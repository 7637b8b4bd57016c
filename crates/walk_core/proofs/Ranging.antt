-- The moments of items lie in the calendar range, and so do the places of a step.
use Rattle.std.proofs.Common.{◌≡◌, inl, inr, sym, subst, arith, ℕ, ℤ, Bool}
use Rattle.std.proofs.lemmas.Int.{ints}
use Rattle.moment_core.specs.Line.{IsCalendarPosition}
use Rattle.moment_core.specs.Sets.{ahead, IsUpTo, range_begin}
use Rattle.moment_core.specs.declared.line.Dir.{Dir}
use Rattle.moment_core.specs.declared.line.Dir.TheVariants.{Fore, Back}
use Rattle.moment_core.proofs.LineLaws.{moment_in_range}
use Rattle.moment_core.proofs.Order.{one_on_up_to, self_up_to, trans_up_to, later_by_steps}
use Rattle.span_core.specs.Answers.{IsCalendarItem}
use Rattle.span_core.specs.Bounds.{IsCalendarRun}
use Rattle.span_core.specs.Tokens.{IsFit}
use Rattle.span_core.specs.declared.answers.Item.{Item}
use Rattle.span_core.specs.declared.answers.Item.TheVariants as items
use Rattle.span_core.specs.declared.answers.Token.{Token}
use Rattle.span_core.specs.declared.answers.Why.TheVariants as whys
use Rattle.frame_core.specs.Laws.{WindowsLie}
use Rattle.stored_pair.specs.Meanings.{Meaning}
use Rattle.expr_tree.specs.Members.{is_member}
use Rattle.expr_tree.specs.Tree.{Tree}
use Rattle.search_core.specs.Due.{IsDue}
use Rattle.search_core.specs.TreeFrames.{frame_of_tree}
use Rattle.plan_core.specs.Plans.{window_of}
use Rattle.run_search.specs.Laws.{ItemsAreInRange}
use Rattle.run_search.specs.Places.{IsAmpleAt, IsPlaceWithin}
use Rattle.run_search.specs.Runs.{item_from}
use Rattle.walk_core.specs.Items.{set_with}
use Rattle.walk_core.specs.Steps.{PlacesOfStep, WalksTo}
use Rattle.walk_core.specs.Walks.{IsNoStop}
use Rattle.walk_core.proofs.Fitting.{place_from, run_in_range}
use Rattle.walk_core.proofs.Order.{in_range-from}

item_in_range : ItemsAreInRange → (tree : Tree Meaning) (dir : Dir) (near far : ℤ)
    → IsCalendarPosition near → IsCalendarPosition far
    → IsCalendarRun (item_from (window_of tree) dir near far)
item_in_range in_range tree Fore near far a b = in_range tree near far a b
item_in_range in_range tree Back near far a b = in_range tree far near b a

pub walk_in_range : WindowsLie → ItemsAreInRange → (tree : Tree Meaning) (budget : ℕ)
    (t next : Token) (item : Item) → IsFit t → WalksTo (is_member tree) (IsDue tree)
    (window_of tree) budget t item next → IsCalendarItem item
walk_in_range lie in_range tree budget t next (items.Run run) fit (near, far, first, is, on) =
    let here = run_in_range (set_with (is_member tree) t.dir t.place.0 t.begun) t near far fit
    first in
    subst (λ r. IsCalendarRun r) (sym is) (item_in_range in_range tree t.dir near far here.0 here.1)
walk_in_range lie in_range tree budget t next (items.Done whys.To) fit h = tt
walk_in_range lie in_range tree budget t next (items.Done (whys.None w)) fit h =
    let lies = lie (frame_of_tree tree) t.dir t.place.0 w h.0.1.2.1 in
    (moment_in_range w.lo.0 lies.low, moment_in_range w.hi.0 lies.high)
walk_in_range lie in_range tree budget t next (items.Done whys.Edge) fit h = tt
walk_in_range lie in_range tree budget t next (items.Budget token) fit h = tt

before_it : (dir : Dir) (p place x : ℤ) → IsUpTo dir x (ahead dir p 1) → ahead dir place 1 ≡ x
    → IsUpTo dir place p
before_it Fore p place x h e = omega (arith, ints, e)
before_it Back p place x h e = omega (arith, ints, e)

place_past : (set : ℤ → Bool) (dir : Dir) (p place : ℤ) → IsPlaceWithin set dir 1 p place
    → IsUpTo dir place p
place_past set dir p place (inl e) =
    let P : ℤ → Type 0 = λ z. IsUpTo dir place z in
    subst P e (self_up_to dir place)
place_past set dir p place (inr (x, c, here, inl e)) = before_it dir p place x
    (later_by_steps dir p x c.0 c.1 c.2.later) e
place_past set dir p place (inr (x, c, here, inr e)) =
    subst (λ z. IsUpTo dir z p) (sym e)
    (one_on_up_to dir p x (later_by_steps dir p x c.0 c.1 c.2.later))

pub place_in_range : (set : ℤ → Bool) (t : Token) (dir : Dir) (place : ℤ) → IsFit t
    → PlacesOfStep set t dir place → IsCalendarPosition place
place_in_range set t dir place fit (same, within, is) =
    in_range-from t.dir place t.end.0
    (trans_up_to t.dir (range_begin t.dir) t.place.0 place
    (place_from t.dir t.place.0 t.end.0 t.begun fit.1) (place_past set t.dir t.place.0 place is))
    within fit.0

-- where no stop is due, none comes
pub walks_on : (tree : Tree Meaning) (budget : ℕ) (t next : Token) (item : Item)
    → WalksTo (is_member tree) (IsDue tree) (window_of tree) budget t item next
    → IsAmpleAt (PlacesOfStep (is_member tree) t) (IsDue tree) budget → IsNoStop item
walks_on tree budget t next (items.Run run) h ample = tt
walks_on tree budget t next (items.Done why) h ample = tt
walks_on tree budget t next (items.Budget token) (on, (s, (stays, left, (dir, place, is, due))))
    ample = absurd (ample dir place is s due.0)
