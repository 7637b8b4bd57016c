-- Trees as they are written.
use Rattle.std.proofs.Common.{◌≡◌, ℕ, ◌<◌, ◌≤◌, ◌^◌, pos, int_lt, Bool, true, false, not, ◌||◌, cond, List, [], ◌∷◌, map, Option, Some, None, Result, Ok, Err, refl, sym, ap, arith}
use Rattle.std.specs.Prelude.{nat_lt, option_map}
use Rattle.std.proofs.lemmas.Bool.Decides.{nat_tests}
use Rattle.std.proofs.lemmas.Int.{ints}
use Rattle.moment_core.specs.declared.line.Clock.{Clock}
use Rattle.moment_core.specs.declared.line.Clock.TheVariants.{Any, Floating, Absolute}
use Rattle.moment_core.specs.declared.line.Moment.{Moment}
use Rattle.moment_core.specs.declared.line.Stamp.{Stamp}
use Rattle.moment_core.specs.declared.line.TheConstants.{REACH}
use Rattle.span_core.specs.Bounds.{IsGiven}
use Rattle.span_core.specs.declared.bounds.Bound.{Bound}
use Rattle.span_core.specs.declared.bounds.Bound.TheVariants.{Closed, Open, Inf, Edge}
use Rattle.expr_grammar.specs.declared.syntax.BinaryOp.TheVariants as binaries
use Rattle.expr_grammar.specs.declared.syntax.SpanBound.{SpanBound}
use Rattle.expr_grammar.specs.Form.{Form, Forms}
use Rattle.expr_grammar.specs.Form as forms
use Rattle.expr_grammar.specs.Nesting.{HasTokens, IsPrintable, IsPrintableForm, IsPrintableSecond, height, is_joined}
use Rattle.expr_tree.specs.Sorts.{depth_of, durations_last, judge, nodes_of, reach_of, reaches_badly, sort_of_tree, sort_with}
use Rattle.expr_tree.specs.Tree.{Rule, Listed, Field, Ical, Tree, Empty, Spanned, Ruled, Joined, Pairs, Unary, Trees}
use Rattle.expr_tree.specs.WellFormed.{AreWellFormed, HasClock, IsWellFormed, IsWellFormedSecond}
use Rattle.rule_core.specs.declared.field.FieldRule.{FieldRule}
use Rattle.rule_core.specs.declared.ical.IcalRule.{IcalRule}
use Rattle.rrule_text.specs.Laws.{WrittenIsRead}
use Rattle.rrule_text.specs.Writing.{text_of}
use Rattle.expr_text.specs.Rrules.{rrule_from, rule_in}
use Rattle.expr_text.proofs.RulesBack.{are_fields, rule_back, written_fields}
use Rattle.expr_tree.specs.declared.sorting.Sort.{Sort}
use Rattle.expr_tree.specs.declared.sorting.SortFault.{SortFault}
use Rattle.expr_tree.specs.declared.sorting.SortFault.TheVariants as faults
use Rattle.expr_text.specs.Laws.{HasShortSecond, HasShortStrings}
use Rattle.expr_text.specs.Faults.{fault_of, sort_fault}
use Rattle.moment_core.specs.Clocks.{is_absolute}
use Rattle.expr_print.specs.Printing.{is_join}
use Rattle.expr_text.specs.Trees.{both, bound_of, clock_of, is_named, listed, stamps_of, tree_from, trees_from}

-- a well-formed tree whose strings are short
abbrev pub IsShown : Tree Rule → Type 0
IsShown t = IsWellFormed t × HasShortStrings t

abbrev pub IsShownSecond : Option (Tree Rule) → Type 0
IsShownSecond None = Unit {0}
IsShownSecond (Some t) = IsShown t

abbrev pub AreShown : Trees → Type 0
AreShown p = IsShown p.first × IsShownSecond p.second

second_shown : (o : Option (Tree Rule)) → IsWellFormedSecond o → HasShortSecond o → IsShownSecond o
second_shown None h short = tt
second_shown (Some t) h short = (h, short)

pub all_shown : (p : Trees) → AreWellFormed p → HasShortStrings p.first × HasShortSecond p.second
    → AreShown p
all_shown p h short = ((h.0, short.0), second_shown p.second h.1 short.1)

-- of two trees that are shown
module _ {P Q R S : Type 0} (h : (P × Q) × (R × S)) where
  pub first_shown : P × R
  first_shown = (h.0.0, h.1.0)

  pub other_shown : Q × S
  other_shown = (h.0.1, h.1.1)

abbrev pub stamp_at : Moment → Clock → Stamp
stamp_at t clock = record { moment = t; absolute = is_absolute clock }

abbrev pub written_bound : Bound → Clock → Option SpanBound
written_bound (Closed t) clock = Some (record { closed = true; stamp = Some (stamp_at t clock) })
written_bound (Open t) clock = Some (record { closed = false; stamp = Some (stamp_at t clock) })
written_bound Inf clock = None
written_bound Edge clock = None

abbrev pub literals_of : List Stamp → List (Option Stamp)
literals_of stamps = map (λ s. Some s) stamps

abbrev pub written : Tree Rule → Form
written Empty = forms.Empty
written (Ruled (Listed stamps)) = forms.Listed (literals_of stamps)
written (Spanned bounds low high) = forms.Span (written_bound bounds.0 low)
    (written_bound bounds.1 high)
written (Ruled (Field rule)) = forms.Rule rule.freq (written_fields rule)
written (Ruled (Ical rule)) = forms.Rrule (text_of rule) (Some rule.start)
written (Joined op a b) = forms.Binary (binaries.Infix op) (written a) (written b)
written (Pairs a b) = forms.Binary binaries.Pairs (written a) (written b)
written (Unary op a) = forms.Unary op (written a)

abbrev pub all_written : Trees → Forms
all_written p = record { first = written p.first; second = option_map written p.second }

stamps_back : (stamps : List Stamp) → stamps_of (literals_of stamps) ≡ Some stamps
stamps_back [] = refl
stamps_back (s ∷ ss) = ap (both (λ x xs. x ∷ xs) (Some s)) (stamps_back ss)

named_back : (b : Bound) (clock : Clock) → is_named (written_bound b clock) ≡ true
named_back (Closed t) clock = refl
named_back (Open t) clock = refl
named_back Inf clock = refl
named_back Edge clock = refl

pub bound_back : (b : Bound) (clock : Clock) → IsGiven b → bound_of (written_bound b clock) ≡ b
bound_back (Closed t) clock h = refl
bound_back (Open t) clock h = refl
bound_back Inf clock h = refl
bound_back Edge clock h = absurd h

clock_back : (b : Bound) (clock : Clock) → IsGiven b → HasClock b clock
    → clock_of (written_bound b clock) ≡ clock
clock_back (Closed t) Any h decided = let e = decided.1 refl in absurd cc
clock_back (Closed t) Floating h decided = refl
clock_back (Closed t) Absolute h decided = refl
clock_back (Open t) Any h decided = let e = decided.1 refl in absurd cc
clock_back (Open t) Floating h decided = refl
clock_back (Open t) Absolute h decided = refl
clock_back Inf clock h decided = sym (decided.0 refl)
clock_back Edge clock h decided = absurd h

span_back : (bounds : Bound × Bound) (low high : Clock) → IsGiven bounds.0 → IsGiven bounds.1
    → HasClock bounds.0 low → HasClock bounds.1 high
    → tree_from (forms.Span (written_bound bounds.0 low) (written_bound bounds.1 high))
    ≡ Some (Spanned bounds low high)
span_back bounds low high first second low_clock high_clock =
    rw (
      named_back bounds.0 low,
      named_back bounds.1 high,
      bound_back bounds.0 low first,
      bound_back
          bounds.1 high second,
      clock_back bounds.0 low first low_clock,
      clock_back bounds.1 high second
          high_clock,
    ) refl

module _ (back : WrittenIsRead) where
  rrule_back : (rule : IcalRule) → IsWellFormed (Ruled (Ical rule)) → rrule_from (text_of rule)
      (Some rule.start) ≡ Some rule
  rrule_back rule h = ap rule_in (back rule h.0 h.1)

  -- what is written of a well-formed tree stands for it
  pub tree_back : (t : Tree Rule) → IsShown t → tree_from (written t) ≡ Some t
  tree_back Empty h = refl
  tree_back (Ruled (Listed stamps)) h = ap (option_map listed) (stamps_back stamps)
  tree_back (Spanned bounds low high) h = span_back bounds low high h.0.0.low_given h.0.0.high_given
      h.0.1 h.0.2
  tree_back (Ruled (Field rule)) h = ap (option_map (λ (r : FieldRule). Ruled (Field r)))
      (rule_back rule)
  tree_back (Ruled (Ical rule)) h = ap (option_map (λ (r : IcalRule). Ruled (Ical r)))
      (rrule_back rule h.0)
  tree_back (Joined op a b) h = rw (tree_back a (first_shown h), tree_back b (other_shown h)) refl
  tree_back (Pairs a b) h = rw (tree_back a (first_shown h), tree_back b (other_shown h)) refl
  tree_back (Unary op a) h = rw (tree_back a h) refl

  both_back : (t : Tree Rule) (o : Option (Tree Rule)) → IsShown t → IsShownSecond o
      → trees_from (record { first = written t; second = option_map written o })
      ≡ Some (record { first = t; second = o })
  both_back t None h k = rw (tree_back t h) refl
  both_back t (Some u) h k = rw (tree_back t h, tree_back u k) refl

  pub trees_back : (p : Trees) → AreShown p → trees_from (all_written p) ≡ Some p
  trees_back p h = both_back p.first p.second h.0 h.1

pub joined_same : (t : Tree Rule) → is_joined (written t) ≡ is_join t
joined_same Empty = refl
joined_same (Spanned bounds low high) = refl
joined_same (Ruled (Listed stamps)) = refl
joined_same (Ruled (Field rule)) = refl
joined_same (Ruled (Ical rule)) = refl
joined_same (Joined op a b) = refl
joined_same (Pairs a b) = refl
joined_same (Unary op a) = refl

height_same : (t : Tree Rule) → height (written t) ≡ depth_of t
unfolding height
height_same Empty = refl
height_same (Spanned bounds low high) = refl
height_same (Ruled (Listed stamps)) = refl
height_same (Ruled (Field rule)) = refl
height_same (Ruled (Ical rule)) = refl
height_same (Joined op a b) = rw (height_same a, height_same b) (omega arith)
height_same (Pairs a b) = rw (height_same a, height_same b) (omega arith)
height_same (Unary op a) = rw (height_same a) (omega arith)

has_tokens : (t : Tree Rule) → IsShown t → HasTokens (written t)
unfolding HasTokens
has_tokens Empty h = tt
has_tokens (Ruled (Listed [])) h = absurd (omega (arith, h.0.0))
has_tokens (Ruled (Listed (s ∷ ss))) h = tt
has_tokens (Spanned bounds low high) h = tt
has_tokens (Ruled (Field rule)) h = are_fields rule
has_tokens (Ruled (Ical rule)) h = tt
has_tokens (Joined op a b) h = (has_tokens a (first_shown h), has_tokens b (other_shown h))
has_tokens (Pairs a b) h = (has_tokens a (first_shown h), has_tokens b (other_shown h))
has_tokens (Unary op a) h = has_tokens a h

not_below : (a b : ℕ) → nat_lt a b ≡ false → b ≤ a
not_below a b e = grind (arith, nat_tests)

-- a tree with a sort: at most 128 deep, and with numbers of at most 13 digits
pub record IsModest (t : Tree Rule) : Type 0 where
  pub depth : depth_of t ≤ 128
  pub reach : reach_of t < 10 ^ 13

abbrev pub IsModestSecond : Option (Tree Rule) → Type 0
IsModestSecond None = Unit {0}
IsModestSecond (Some t) = IsModest t

abbrev pub AreModest : Trees → Type 0
AreModest p = IsModest p.first × IsModestSecond p.second

otherwise : {A F : Type 0} (b : Bool) (f : F) (r : Result A F) (s : A) → cond b (Err f) r ≡ Ok s
    → (b ≡ false) × (r ≡ Ok s)
otherwise true f r s e = absurd cc
otherwise false f r s e = (refl, e)

reaches_well : (t : Tree Rule) (r : _) (s : Sort) → sort_with t r ≡ Ok s → reaches_badly t ≡ false
reaches_well t (Err fault) s e = absurd cc
reaches_well t (Ok judged) s e = (otherwise (reaches_badly t) faults.Reach _ s e).0

not_far : (a : Bool) (n : ℕ) → (a || int_lt REACH (pos n)) ≡ false → n < 10 ^ 13
not_far true n e = absurd cc
not_far false n e = grind (arith, ints)

modest : (t : Tree Rule) (s : Sort) → sort_of_tree t ≡ Ok s → IsModest t
modest t s e =
    let few = otherwise (nat_lt 1024 (nodes_of t)) faults.Nodes _ s e in
    let low = otherwise (nat_lt 128 (depth_of t)) faults.Depth _ s few.1 in
    record {
      depth = not_below 128 (depth_of t) low.0;
      reach = not_far (not (durations_last t))
          (reach_of t) (reaches_well t (judge t) s low.1);
    }

first_modest : (t : Tree Rule) (r : Result Sort SortFault) (o : Option (Result Sort SortFault))
    → sort_of_tree t ≡ r → fault_of r o ≡ None → IsModest t
first_modest t (Ok s) o is e = modest t s is
first_modest t (Err fault) o is e = absurd cc

other_modest : (u : Tree Rule) (r x : Result Sort SortFault) → sort_of_tree u ≡ x
    → fault_of r (Some x) ≡ None → IsModest u
other_modest u (Err fault) x is e = absurd cc
other_modest u (Ok s) (Err fault) is e = absurd cc
other_modest u (Ok s) (Ok other) is e = modest u other is

second_modest : (t : Tree Rule) (o : Option (Tree Rule))
    → sort_fault (record { first = t; second = o }) ≡ None → IsModestSecond o
second_modest t None e = tt
second_modest t (Some u) e = other_modest u (sort_of_tree t) (sort_of_tree u) refl e

pub all_modest : (p : Trees) → sort_fault p ≡ None → AreModest p
all_modest p e = (
  first_modest p.first (sort_of_tree p.first) (option_map sort_of_tree p.second)
      refl e,
  second_modest p.first p.second e,
)

printable : (t : Tree Rule) → IsShown t → IsModest t → IsPrintableForm (written t)
printable t h modest = (has_tokens t h, rw (height_same t) modest.depth)

second_printable : (o : Option (Tree Rule)) → IsShownSecond o → IsModestSecond o
    → IsPrintableSecond (option_map written o)
second_printable None h modest = tt
second_printable (Some t) h modest = printable t h modest

pub all_printable : (p : Trees) → AreShown p → AreModest p → IsPrintable (all_written p)
all_printable p h modest = (printable p.first h.0 modest.0, second_printable p.second h.1 modest.1)
