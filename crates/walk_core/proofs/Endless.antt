-- That items hold on all whole numbers.
use Rattle.std.proofs.Common.{◌≡◌, inl, inr, ap, refl, sym, subst, ◌∙◌, arith, ℕ, ℤ, ◌-ℤ◌, ◌≤ℤ◌, ◌<ℤ◌, unsigned_abs, Bool, true, false, Option, Some, None, if◌then◌else◌}
use Rattle.std.specs.Ordering.{int_eq}
use Rattle.std.proofs.lemmas.Bool.{and_from, and_parts}
use Rattle.std.proofs.lemmas.Int.{ints}
use Rattle.moment_core.specs.Line.{IsCalendarPosition, position_of}
use Rattle.moment_core.specs.Sets.{ahead, seen, IsUpTo}
use Rattle.moment_core.specs.declared.line.Dir.{Dir}
use Rattle.moment_core.specs.declared.line.Dir.TheVariants.{Fore, Back}
use Rattle.moment_core.specs.declared.line.Pos.{Pos}
use Rattle.moment_core.specs.declared.line.TheConstants.{LOW, HIGH}
use Rattle.moment_core.specs.declared.line.Window.{Window}
use Rattle.moment_core.proofs.Comparing.{cases_le_z}
use Rattle.moment_core.proofs.Order.{self_up_to}
use Rattle.span_core.specs.Bounds.{ends_after, high_bound, low_bound, reaches}
use Rattle.span_core.specs.Laws.{RunsHoldTheirPositions}
use Rattle.span_core.specs.Tokens.{IsFit, IsPlaceFit}
use Rattle.span_core.specs.declared.answers.Item.{Item}
use Rattle.span_core.specs.declared.answers.Item.TheVariants as items
use Rattle.span_core.specs.declared.answers.Token.{Token}
use Rattle.span_core.specs.declared.answers.Why.TheVariants as whys
use Rattle.span_core.specs.declared.bounds.Bound.TheVariants as bounds
use Rattle.span_core.specs.declared.bounds.Run.{Run}
use Rattle.stored_pair.specs.Meanings.{Meaning}
use Rattle.expr_tree.specs.Members.{is_member}
use Rattle.expr_tree.specs.Tree.{Tree}
use Rattle.search_core.specs.Due.{IsDue}
use Rattle.search_core.specs.Lawful.{AreLawful}
use Rattle.plan_core.specs.Plans.{window_of}
use Rattle.run_search.specs.Endless.{HoldsForEver}
use Rattle.run_search.specs.Laws.{ItemsHoldForEver, NoneIsForEver}
use Rattle.run_search.specs.Runs.{beyond, high_end, item_between, item_from, low_end}
use Rattle.walk_core.specs.Endless.{HoldsMembers, IsItemForEver}
use Rattle.walk_core.specs.Items.{IsHonest, begin_at, set_with}
use Rattle.walk_core.specs.Steps.{IsAtEnd, IsFirstItem, WalksTo}
use Rattle.walk_core.proofs.Fitting.{place_from, run_in_range}
use Rattle.walk_core.proofs.Order.{in_range-from}

module _ (run : RunsHoldTheirPositions) where
  -- what reaches a low bound is not below its position, and so at a high one
  reaches-low : (low p : ℤ) → reaches (low_bound low) p ≡ true → low ≤ℤ p
  reaches-low low p h =
      let here = and_parts (reaches (low_bound p) p) (ends_after (high_bound p) p)
      ((run p p p).1 (omega (arith, ints), omega (arith, ints))) in
      ((run low p p).0 (and_from (reaches (low_bound low) p) (ends_after (high_bound p) p) h
      here.1)).0

  ends-high : (high p : ℤ) → ends_after (high_bound high) p ≡ true → p ≤ℤ high
  ends-high high p h =
      let here = and_parts (reaches (low_bound p) p) (ends_after (high_bound p) p)
      ((run p p p).1 (omega (arith, ints), omega (arith, ints))) in
      ((run p high p).0 (and_from (reaches (low_bound p) p) (ends_after (high_bound high) p) here.0
      h)).1

  -- a position below the run's lowest one lies between its bounds only where it has no low bound
  at_low : (w : Option Window) (low p : ℤ) → low ≡ position_of LOW → p <ℤ low
      → (beyond w ≡ bounds.Edge → position_of LOW ≤ℤ p) → beyond w ≡ bounds.Inf
  at_low (Some w) low p e below edge = refl
  at_low None low p e below edge = let h = edge refl in absurd (omega (arith, ints, e, below, h))

  below_low : (window : Dir → ℤ → Option Window) (low high p : ℤ) → p <ℤ low
      → reaches (low_end window low high) p ≡ true → (low_end window low high ≡ bounds.Edge
      → position_of LOW ≤ℤ p) → low_end window low high ≡ bounds.Inf
  below_low window low high p below = elim (int_eq low (position_of LOW)) as
      (λ b. int_eq low (position_of LOW) ≡ b
      → reaches (if b then beyond (window Back high) else low_bound low) p ≡ true
      → ((if b then beyond (window Back high) else low_bound low) ≡ bounds.Edge
      → position_of LOW ≤ℤ p) → (if b then beyond (window Back high) else low_bound low)
      ≡ bounds.Inf) [
        | true ↦ λ e h edge. at_low (window Back high) low p (grind (arith, ints)) below edge
        | false ↦ λ e h edge. let over : low ≤ℤ p = reaches-low low p h in
            absurd (omega (arith, ints, below, over))
      ] refl

  at_high : (w : Option Window) (high p : ℤ) → high ≡ position_of HIGH → high <ℤ p
      → (beyond w ≡ bounds.Edge → p ≤ℤ position_of HIGH) → beyond w ≡ bounds.Inf
  at_high (Some w) high p e above edge = refl
  at_high None high p e above edge = let h = edge refl in absurd (omega (arith, ints, e, above, h))

  above_high : (window : Dir → ℤ → Option Window) (low high p : ℤ) → high <ℤ p
      → ends_after (high_end window low high) p ≡ true → (high_end window low high ≡ bounds.Edge
      → p ≤ℤ position_of HIGH) → high_end window low high ≡ bounds.Inf
  above_high window low high p above = elim (int_eq high (position_of HIGH)) as
      (λ b. int_eq high (position_of HIGH) ≡ b
      → ends_after (if b then beyond (window Fore low) else high_bound high) p ≡ true
      → ((if b then beyond (window Fore low) else high_bound high) ≡ bounds.Edge
      → p ≤ℤ position_of HIGH) → (if b then beyond (window Fore low) else high_bound high)
      ≡ bounds.Inf) [
        | true ↦ λ e h edge. at_high (window Fore low) high p (grind (arith, ints)) above edge
        | false ↦ λ e h edge. let under : p ≤ℤ high = ends-high high p h in
            absurd (omega (arith, ints, above, under))
      ] refl

  -- the steps from one position to another
  up_by : (low p : ℤ) → low ≤ℤ p → (k : ℕ) × (ahead Fore low k ≡ p)
  up_by low p h = (unsigned_abs (p -ℤ low), omega (arith, ints))

  down_by : (high p : ℤ) → p ≤ℤ high → (k : ℕ) × (ahead Back high k ≡ p)
  down_by high p h = (unsigned_abs (high -ℤ p), omega (arith, ints))

  between_holds : (set : ℤ → Bool) (window : Dir → ℤ → Option Window) (low high : ℤ) → low ≤ℤ high
      → ((q : ℤ) → low ≤ℤ q → q ≤ℤ high → set q ≡ true) → HoldsForEver set low high
      (item_between window low high) → HoldsMembers set (item_between window low high)
  between_holds set window low high order members ever p lies low_edge high_edge =
      let both = and_parts (reaches (low_end window low high) p)
      (ends_after (high_end window low high) p) lies in
      elim (cases_le_z low p) [
        | inr below ↦
            let k = down_by high p (omega (arith, ints, below, order)) in
            ap set (sym k.1) ∙ ever.1 (below_low window low high p below both.0 low_edge) k.0
        | inl from ↦ elim (cases_le_z p high) [
          | inl to ↦ members p from to
          | inr above ↦
              let k = up_by low p from in
              ap set (sym k.1) ∙ ever.0 (above_high window low high p above both.1 high_edge) k.0
        ]
      ]

  module _ (items_ever : ItemsHoldForEver) (tree : Tree Meaning) (lawful : AreLawful tree) where
    item_holds : (dir : Dir) (near far : ℤ) → IsCalendarPosition near → IsCalendarPosition far
        → IsUpTo dir far near → ((q : ℤ) → IsUpTo dir q near → IsUpTo dir far q → is_member tree q
        ≡ true) → HoldsMembers (is_member tree) (item_from (window_of tree) dir near far)
    item_holds Fore near far here there order members =
        between_holds (is_member tree) (window_of tree) near far order members
        (items_ever tree near far lawful here there order members)
    item_holds Back near far here there order members =
        between_holds (is_member tree) (window_of tree) far near order (λ q a b. members q b a)
        (items_ever tree far near lawful there here order (λ q a b. members q b a))

    pub given_holds : (t : Token) (run : Run) (next : Token) → IsFit t → IsHonest (is_member tree) t
        → IsFirstItem (is_member tree) (window_of tree) t run next → HoldsMembers (is_member tree)
        run
    given_holds t run next fit honest (near, far, first, is, on) =
        let here = run_in_range (set_with (is_member tree) t.dir t.place.0 t.begun) t near far fit
        first in
        subst (λ r. HoldsMembers (is_member tree) r) (sym is)
        (item_holds t.dir near far here.0 here.1 first.some (λ q a b. sym (honest q)
        ∙ first.members q a b))

    module _ (none_ever : NoneIsForEver) where
      begins_before : (dir : Dir) (place end : ℤ) (begun : Option Pos) → IsPlaceFit dir place end
          begun → IsUpTo dir place (begin_at place begun)
      begins_before dir place end None fit = self_up_to dir place
      begins_before dir place end (Some begun) fit = fit.1

      none_follows : (t : Token) (w : Window) → IsFit t → IsHonest (is_member tree) t
          → IsAtEnd (is_member tree) (window_of tree) t (whys.None w) → (k : ℕ)
          → seen (is_member tree) t.dir t.place.0 k ≡ false
      none_follows t w fit honest (none, why) k =
          let past = begins_before t.dir t.place.0 t.end.0 t.begun fit.1 in
          let from = place_from t.dir t.place.0 t.end.0 t.begun fit.1 in
          let gap : is_member tree t.place.0 ≡ false = sym (honest t.place.0)
          ∙ none t.place.0 past why.1 in
          none_ever tree t.dir t.place.0 w lawful (in_range-from t.dir t.place.0 t.end.0 from why.1
          fit.0) why.2 k ∙ gap

      pub walk_holds : (budget : ℕ) (t next : Token) (item : Item) → IsFit t
          → IsHonest (is_member tree) t → WalksTo (is_member tree) (IsDue tree) (window_of tree)
          budget t item next → IsItemForEver (is_member tree) t item
      walk_holds budget t next (items.Run run) fit honest h = given_holds t run next fit honest h
      walk_holds budget t next (items.Done whys.To) fit honest h = tt
      walk_holds budget t next (items.Done (whys.None w)) fit honest h = none_follows t w fit honest
          h.0
      walk_holds budget t next (items.Done whys.Edge) fit honest h = tt
      walk_holds budget t next (items.Budget token) fit honest h = tt
