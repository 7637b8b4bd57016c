-- Expressions whose moments have no fault stand for well-formed trees.
use Rattle.std.proofs.Common.{◌≡◌, ℕ, Bool, true, false, List, [], ◌∷◌, Option, Some, None, Result, Ok, Err, refl, ap, arith}
use Rattle.std.specs.Prelude.{option_map}
use Rattle.std.specs.List.{AllByRecursion, filter_map}
use Rattle.std.proofs.lemmas.List.Elements.{All-from_recursion}
use Rattle.moment_core.specs.Line.{IsCalendarMoment}
use Rattle.moment_core.specs.declared.line.Stamp.{Stamp}
use Rattle.span_core.specs.Bounds.{IsGiven}
use Rattle.expr_tokens.specs.declared.token.Token.{Token as Placed}
use Rattle.expr_tokens.specs.declared.token.Token.TheVariants as placed
use Rattle.expr_tokens.specs.Plain.{Token, plains}
use Rattle.expr_tokens.specs.Plain as tokens
use Rattle.expr_grammar.specs.declared.syntax.BinaryOp.{BinaryOp}
use Rattle.expr_grammar.specs.declared.syntax.BinaryOp.TheVariants as binaries
use Rattle.expr_grammar.specs.declared.syntax.SpanBound.{SpanBound}
use Rattle.expr_grammar.specs.Form.{Form, Forms}
use Rattle.expr_grammar.specs.Form as forms
use Rattle.expr_grammar.specs.Grammar.{Spells}
use Rattle.expr_grammar.specs.Laws.{MomentsAreKept}
use Rattle.expr_grammar.specs.Made.{HasMoment, BoundHas, IsDated, IsMade, AreMade}
use Rattle.moment_core.proofs.Lists.{all_front, all_behind}
use Rattle.expr_tree.specs.Tree.{Rule, Field, Ical, Tree, Empty, Spanned, Ruled, Unary, Trees}
use Rattle.expr_tree.specs.WellFormed.{AreWellFormed, HasClock, IsWellFormed}
use Rattle.rule_core.specs.FieldChecks.{check_of}
use Rattle.rule_core.specs.declared.ical.IcalRule.{IcalRule}
use Rattle.rrule_text.specs.Fault.{Fault as RruleFault}
use Rattle.rrule_text.specs.Laws.{RulesAreWritable}
use Rattle.rrule_text.specs.Reading.{rule_of}
use Rattle.expr_text.specs.Rules.{rule_with}
use Rattle.expr_text.specs.Rrules.{fault_of, fault_of_text}
use Rattle.expr_text.proofs.Started.{checked, started}
use Rattle.expr_text.specs.Faults.{HasPosition, Tokens, all_spans_of, first_nameless, is_nameless, kinds_of, first_rrule_fault, first_rule_fault, rrule_fault, rule_fault, second_rrule_fault, second_rule_fault, second_spans, spans_of}
use Rattle.expr_text.specs.Phases.{AreBoth, HasSpans, IsInRange, IsSecond}
use Rattle.expr_text.specs.Phases.{first_nameless as nameless_in}
use Rattle.expr_text.specs.Trees.{binary_tree, both, bound_at, bound_of, clock_at, clock_of, is_named, is_some, listed, stamps_of, tree_from, trees_from}
use Rattle.moment_core.proofs.Options.{or_none}

dated_token : (t : Token) → IsInRange t → is_nameless t ≡ false → HasMoment IsDated t
dated_token (tokens.Moment None) h named = absurd cc
dated_token (tokens.Moment (Some s)) h named = h
dated_token t h named = tt

dated_tokens : (ts : Tokens) → AllByRecursion IsInRange (kinds_of ts) → first_nameless ts ≡ None
    → AllByRecursion (HasMoment IsDated) (kinds_of ts)
dated_tokens [] h none = tt
dated_tokens (t ∷ ts) h none =
    let P : Bool → Type 0 =
    λ b. is_nameless t.0 ≡ b → AllByRecursion (HasMoment IsDated) (kinds_of (t ∷ ts)) in
    let go : (b : Bool) → P b = λ b. elim b as P [
      | true ↦ λ e. (let d = rw e at none in absurd cc)
      | false ↦ λ e. (dated_token t.0 h.0 e, dated_tokens ts h.1 (rw e at none))
    ] in
    go (is_nameless t.0) refl

second_made : (o : Option Form) (t : Form) → AreMade IsDated (record { first = t; second = o })
    → IsSecond (IsMade IsDated) o
second_made None t h = tt
second_made (Some u) t h = h.1

-- what tokens without a fault of their literals spell is made of moments
pub made_of : MomentsAreKept → (ts : Tokens) (p : Forms) → Spells p (kinds_of ts)
    → AllByRecursion IsInRange (kinds_of ts) → first_nameless ts ≡ None → AreBoth (IsMade IsDated) p
made_of kept ts p spelled range none =
    let made : AreMade IsDated p = kept p (kinds_of ts) spelled (dated_tokens ts range none) in
    (made.0, second_made p.second p.first made)

kinds_range : (ts : List Placed) → AllByRecursion IsInRange (plains ts) → nameless_in ts ≡ None
    → AllByRecursion (HasMoment IsDated) (plains ts)
kinds_range [] h none = tt
kinds_range (placed.Moment None place ∷ ts) h none = absurd cc
kinds_range (placed.Moment (Some s) place ∷ ts) h none = (h.0, kinds_range ts h.1 none)
kinds_range (t ∷ ts) h none = (tt, kinds_range ts h.1 none)

pub made_from : MomentsAreKept → (ts : List Placed) (p : Forms) → Spells p (plains ts)
    → AllByRecursion IsInRange (plains ts) → nameless_in ts ≡ None → AreBoth (IsMade IsDated) p
made_from kept ts p spelled range none =
    let made : AreMade IsDated p = kept p (plains ts) spelled (kinds_range ts range none) in
    (made.0, second_made p.second p.first made)

given_at : (closed : Bool) (m : Option Stamp) → IsDated m → IsGiven (bound_at closed m)
given_at closed None h = absurd h
given_at true (Some s) h = h
given_at false (Some s) h = h

pub given : (b : Option SpanBound) → BoundHas IsDated b → IsGiven (bound_of b)
given None h = tt
given (Some b) h = given_at b.closed b.stamp h

some_dated : (m : Option Stamp) → IsDated m → is_some m ≡ true
some_dated None h = absurd h
some_dated (Some s) h = refl

pub named : (b : Option SpanBound) → BoundHas IsDated b → is_named b ≡ true
named None h = refl
named (Some b) h = some_dated b.stamp h

has_spans : (t : Form) → IsMade IsDated t → AllByRecursion HasPosition (spans_of t) → HasSpans t
has_spans forms.Empty h held = tt
has_spans (forms.Listed ms) h held = tt
has_spans (forms.Span low high) h held = record {
  low_given = given low h.0;
  high_given =
      given high h.1;
  some = held.0;
}
has_spans (forms.Rule freq fields) h held = tt
has_spans (forms.Rrule text start) h held = tt
has_spans (forms.Unary op a) h held = has_spans a h held
has_spans (forms.Binary op a b) h held = (
  has_spans a h.0 (all_front HasPosition (spans_of a) (spans_of b) held),
  has_spans b h.1
      (all_behind HasPosition (spans_of a) (spans_of b) held),
)

second_spans_held : (o : Option Form) → IsSecond (IsMade IsDated) o → AllByRecursion HasPosition
    (second_spans o) → IsSecond HasSpans o
second_spans_held None h held = tt
second_spans_held (Some t) h held = has_spans t h held

pub all_have_spans : (p : Forms) → AreBoth (IsMade IsDated) p → AllByRecursion HasPosition
    (all_spans_of p) → AreBoth HasSpans p
all_have_spans p h held = (
  has_spans p.first h.0 (all_front HasPosition (spans_of p.first) (second_spans p.second) held),
  second_spans_held p.second h.1 (all_behind HasPosition (spans_of p.first)
      (second_spans p.second) held),
)

-- the moments of literals that name them
record Stamped (ms : List (Option Stamp)) : Type 0 where
  stamps : List Stamp
  are : stamps_of ms ≡ Some stamps
  in_range : AllByRecursion (λ (s : Stamp). IsCalendarMoment s.moment.0) stamps

stamped : (ms : List (Option Stamp)) → AllByRecursion IsDated ms → Stamped ms
stamped [] h = record { stamps = []; are = refl; in_range = tt }
stamped (None ∷ ms) h = absurd h.0
stamped (Some s ∷ ms) h =
    let others = stamped ms h.1 in
    record {
      stamps = s ∷ others.stamps;
      are = ap (both (λ x xs. x ∷ xs) (Some s)) others.are;
      in_range = (h.0, others.in_range);
    }

-- a filter keeps them all
stamps_kept : (ms : List (Option Stamp)) → AllByRecursion IsDated ms → stamps_of ms
    ≡ Some (filter_map (λ (m : Option Stamp). m) ms)
stamps_kept [] h = refl
stamps_kept (None ∷ ms) h = absurd h.0
stamps_kept (Some s ∷ ms) h = ap (both (λ x xs. x ∷ xs) (Some s)) (stamps_kept ms h.1)

pub listed_from : (ms : List (Option Stamp)) (stamps : List Stamp)
    → IsMade IsDated (forms.Listed ms) → stamps ≡ filter_map (λ (m : Option Stamp). m) ms
    → tree_from (forms.Listed ms) ≡ Some (listed stamps)
listed_from [] stamps h e = absurd h
listed_from (m ∷ ms) stamps h e = rw e (ap (option_map listed) (stamps_kept (m ∷ ms) h))

clock_at_moment : (absolute closed : Bool) (s : Stamp) → s.absolute ≡ absolute
    → HasClock (bound_at closed (Some s)) (clock_at (Some s))
clock_at_moment true true s e = rw e ((λ is. absurd cc), (λ is. absurd cc))
clock_at_moment true false s e = rw e ((λ is. absurd cc), (λ is. absurd cc))
clock_at_moment false true s e = rw e ((λ is. absurd cc), (λ is. absurd cc))
clock_at_moment false false s e = rw e ((λ is. absurd cc), (λ is. absurd cc))

clock_at_bound : (closed : Bool) (m : Option Stamp) → IsDated m → HasClock (bound_at closed m)
    (clock_at m)
clock_at_bound closed None h = absurd h
clock_at_bound closed (Some s) h = clock_at_moment s.absolute closed s refl

has_clock : (b : Option SpanBound) → BoundHas IsDated b → HasClock (bound_of b) (clock_of b)
has_clock None h = ((λ _. refl), (λ _. refl))
has_clock (Some b) h = clock_at_bound b.closed b.stamp h

-- a tree, which is well formed
pub record Stands (t : Form) : Type 0 where
  pub tree : Tree Rule
  pub is : tree_from t ≡ Some tree
  pub well_formed : IsWellFormed tree

-- one or two expressions, of which none has a fault
pub record AllStand (p : Forms) : Type 0 where
  pub trees : Trees
  pub are : trees_from p ≡ Some trees
  pub well_formed : AreWellFormed trees

binary_formed : (op : BinaryOp) (a b : Tree Rule) → IsWellFormed a → IsWellFormed b
    → IsWellFormed (binary_tree op a b)
binary_formed (binaries.Infix op) a b h k = (h, k)
binary_formed binaries.Pairs a b h k = (h, k)

-- no rule has a fault
pub record HasRules (t : Form) : Type 0 where
  pub fields : rule_fault t ≡ None
  pub texts : rrule_fault t ≡ None

module _ (writable : RulesAreWritable) where
  text_stands : (text : List ℕ) (s : Stamp) → IsCalendarMoment s.moment.0
      → fault_of_text text (Some s) ≡ None → Stands (forms.Rrule text (Some s))
  text_stands text s within none = by_reading (rule_of text s) refl none
    where
      by_reading : (r : Result IcalRule RruleFault) → rule_of text s ≡ r → fault_of r ≡ None
          → Stands (forms.Rrule text (Some s))
      by_reading (Err fault) e d = absurd cc
      by_reading (Ok rule) e d =
          let kept = writable text s rule e in
          record {
            tree = Ruled (Ical rule);
            is = rw e refl;
            well_formed =
                (kept.writable, kept.weekdays, rw kept.start_kept within);
          }

  pub stands : (t : Form) → IsMade IsDated t → HasSpans t → HasRules t → Stands t
  stands forms.Empty h spans rules = record { tree = Empty; is = refl; well_formed = tt }
  stands (forms.Listed []) h spans rules = absurd h
  stands (forms.Listed (None ∷ ms)) h spans rules = absurd h.0
  stands (forms.Listed (Some s ∷ ms)) h spans rules =
      let others = stamped ms h.1 in
      record {
        tree = listed (s ∷ others.stamps);
        is = rw others.are refl;
        well_formed = (
          omega arith,
          All-from_recursion (λ (x : Stamp). IsCalendarMoment x.moment.0)
              (s ∷ others.stamps) (h.0, others.in_range),
        );
      }
  stands (forms.Span low high) h spans rules = record {
    tree = Spanned (bound_of low, bound_of high) (clock_of low) (clock_of high);
    is = rw (named low h.0, named high h.1) refl;
    well_formed = (spans, has_clock low h.0, has_clock high h.1);
  }
  stands (forms.Rule freq fields) h spans rules =
      let x = started fields h.0 in
      record {
        tree = Ruled (Field (rule_with freq fields x.start));
        is = rw x.found refl;
        well_formed = (
          checked (check_of (rule_with freq fields x.start)) (rw x.found at rules.fields),
          x.in_range,
        );
      }
  stands (forms.Rrule text None) h spans rules = absurd h
  stands (forms.Rrule text (Some s)) h spans rules = text_stands text s h rules.texts
  stands (forms.Unary op a) h spans rules =
      let x = stands a h spans (record { fields = rules.fields; texts = rules.texts }) in
      record { tree = Unary op x.tree; is = rw x.is refl; well_formed = x.well_formed }
  stands (forms.Binary op a b) h spans rules =
      let fields = or_none (rule_fault a) (rule_fault b) rules.fields in
      let texts = or_none (rrule_fault a) (rrule_fault b) rules.texts in
      let x = stands a h.0 spans.0 (record { fields = fields.0; texts = texts.0 }) in
      let y = stands b h.1 spans.1 (record { fields = fields.1; texts = texts.1 }) in
      record {
        tree = binary_tree op x.tree y.tree;
        is = rw (x.is, y.is) refl;
        well_formed =
            binary_formed op x.tree y.tree x.well_formed y.well_formed;
      }

  with_second : (t : Form) (o : Option Form) → Stands t → IsSecond (IsMade IsDated) o
      → IsSecond HasSpans o
      → second_rule_fault o ≡ None → second_rrule_fault o ≡ None
      → AllStand (record { first = t; second = o })
  with_second t None x h spans fields texts =
      record {
        trees = record { first = x.tree; second = None };
        are = rw x.is refl;
        well_formed =
            (x.well_formed, tt);
      }
  with_second t (Some u) x h spans fields texts =
      let y = stands u h spans (record { fields = fields; texts = texts }) in
      record {
        trees = record { first = x.tree; second = Some y.tree };
        are = rw (x.is, y.is) refl;
        well_formed = (x.well_formed, y.well_formed);
      }

  pub all_stand : (p : Forms) → AreBoth (IsMade IsDated) p → AreBoth HasSpans p → first_rule_fault p
      ≡ None → first_rrule_fault p ≡ None → AllStand p
  all_stand p h spans ruled written =
      let fields = or_none (rule_fault p.first) (second_rule_fault p.second) ruled in
      let texts = or_none (rrule_fault p.first) (second_rrule_fault p.second) written in
      with_second p.first p.second
      (stands p.first h.0 spans.0 (record { fields = fields.0; texts = texts.0 })) h.1 spans.1
      fields.1 texts.1
