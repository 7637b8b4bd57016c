use Rattle.std.proofs.Common.{rules, ◌≡◌, [], ◌∷◌, ◌++◌, Ok, Err, refl}
use Rattle.expr_grammar.specs.Syntax.{form_of, places_of}
use Rattle.expr_tree.specs.declared.tree.Expr.TheVariants as exprs
use Rattle.expr_text.specs.declared.building.Step.TheVariants as steps
use Rattle.expr_text.specs.Fault.{fault_in}
use Rattle.expr_text.proofs.Making.{form_pushed, places_pushed, reaches_left, vacant_within}
use Rattle.expr_text.proofs.Moments.{listed_from}
use Rattle.expr_text.proofs.building.leftmost.Goals as goal

pub returns-in-List-clause-made : goal.returns-in-List-clause-made
returns-in-List-clause-made c =
    let h = c.left.invariant in
    let is = listed_from c.in-List.literals.items c.of.result (rw c.in-List.is at h.dated)
    (search rules) in
    reaches_left c.left.left.now (form_of c.args.tree.now) (places_of c.args.tree.now)
    (Ok (exprs.List c.of.result)) c.left.steps.items h.whole h.whole_places
    (rw c.in-List.is tt) (rw c.in-List.is (refl, refl, is))

pub returns-in_err-span-in-Span-clause-made : goal.returns-in_err-span-in-Span-clause-made
returns-in_err-span-in-Span-clause-made c =
    let h = c.left.invariant in
    let is : c.from_residual-in_err-span-in-Span.result ≡ Err c.in_err-span-in-Span.field-0.0 =
    search rules in
    rw is (vacant_within c.left.steps.items (form_of c.left.left.now) (form_of c.args.tree.now)
    (places_of c.left.left.now) (places_of c.args.tree.now)
    (fault_in c.in_err-span-in-Span.field-0.0) h.whole h.whole_places
    (rw c.in-Span.is c.in_err-span-in-Span.ensures.made))

pub left-preserved-in-Binary : goal.left-preserved-in-Binary
left-preserved-in-Binary c =
    let h = c.left.invariant in
    let step = steps.First c.in-Binary.op c.deref-in-Binary.result in
    let pushed : c.push.new.self.items ≡ c.left.steps.items ++ step ∷ [] = search rules in
    let left = c.in-Binary.a.value in
    record {
      whole = rw (
        pushed,
        c.deref-left.ensures,
        form_pushed c.left.steps.items step (form_of left),
        c.deref-in-Binary.ensures,
      ) (rw c.in-Binary.is at h.whole);
      whole_places = rw (
        pushed,
        c.deref-left.ensures,
        places_pushed c.left.steps.items step
            (places_of left),
        c.deref-in-Binary.ensures,
      ) (rw c.in-Binary.is at h.whole_places);
      dated = rw c.deref-left.ensures (rw c.in-Binary.is at h.dated).0;
    }

pub left-preserved : goal.left-preserved
left-preserved c =
    let h = c.left.invariant in
    let step = steps.Inner c.in-Unary.op in
    let pushed : c.push-in-Unary.new.self.items ≡ c.left.steps.items ++ step ∷ [] = search rules in
    let inner = c.in-Unary.a.value in
    record {
      whole = rw (
        pushed,
        c.deref-left-in-Unary.ensures,
        form_pushed c.left.steps.items step
            (form_of inner),
      ) (rw c.in-Unary.is at h.whole);
      whole_places = rw (
        pushed,
        c.deref-left-in-Unary.ensures,
        places_pushed c.left.steps.items
            step (places_of inner),
      ) (rw c.in-Unary.is at h.whole_places);
      dated = rw c.deref-left-in-Unary.ensures (rw c.in-Unary.is at h.dated);
    }

pub returns-in_err-recurrence-in-Rrule-clause-made :
    goal.returns-in_err-recurrence-in-Rrule-clause-made
returns-in_err-recurrence-in-Rrule-clause-made c =
    let h = c.left.invariant in
    let is : c.from_residual-in_err-recurrence-in-Rrule.result
    ≡ Err c.in_err-recurrence-in-Rrule.field-0.0 = search rules in
    rw is (vacant_within c.left.steps.items (form_of c.left.left.now) (form_of c.args.tree.now)
    (places_of c.left.left.now) (places_of c.args.tree.now)
    (fault_in c.in_err-recurrence-in-Rrule.field-0.0) h.whole h.whole_places
    (rw c.in-Rrule.is c.in_err-recurrence-in-Rrule.ensures.made))
