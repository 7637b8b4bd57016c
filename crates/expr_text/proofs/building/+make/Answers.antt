use Rattle.std.proofs.Common.{rules, ◌≡◌, Err, arith}
use Rattle.expr_grammar.specs.Syntax.{form_of, places_of}
use Rattle.expr_text.specs.Fault.{fault_in}
use Rattle.expr_text.proofs.Making.{reaches_unary, reaches_binary, second_is_made, second_within, second_vacant_in}
use Rattle.expr_text.proofs.building.+make.Goals as goal

pub make-requires : goal.make-requires
make-requires t c =
    let whole = form_of c.args.tree.now in
    let places = places_of c.args.tree.now in
    let last = rw c.in-First.is at c.in-Some.ensures.items in
    let smaller = second_within whole places c.steps.made c.steps.steps.items c.steps.invariant
    c.pop.new.self.items c.in-First.op c.in-First.second last in (
      omega (arith, c.decreases, smaller),
      second_is_made whole places c.steps.made
          c.steps.steps.items c.steps.invariant c.pop.new.self.items c.in-First.op
          c.in-First.second last
          c.requires,
    )

pub returns-in_err-second-in-First-clause-made : goal.returns-in_err-second-in-First-clause-made
returns-in_err-second-in-First-clause-made t c =
    let last = rw c.in-First.is at c.in-Some.ensures.items in
    let is : c.from_residual-in_err-second-in-First.result
    ≡ Err c.in_err-second-in-First.field-0.0 = search rules in
    rw is (second_vacant_in (form_of c.args.tree.now) (places_of c.args.tree.now) c.steps.made
    c.steps.steps.items c.steps.invariant c.pop.new.self.items c.in-First.op c.in-First.second last
    (fault_in c.in_err-second-in-First.field-0.0) c.in_err-second-in-First.ensures.made)

pub steps-preserved-in-First : goal.steps-preserved-in-First
steps-preserved-in-First t c =
    let last = rw c.in-First.is at c.in-Some.ensures.items in
    reaches_binary (form_of c.args.tree.now) (places_of c.args.tree.now) c.steps.made
    c.steps.steps.items c.steps.invariant c.pop.new.self.items c.in-First.op c.in-First.second last
    c.in_ok-second-in-First.second c.in_ok-made-in-First.made c.in_ok-second-in-First.ensures.made
    c.in_ok-made-in-First.ensures

pub steps-preserved : goal.steps-preserved
steps-preserved t c =
    let last = rw c.in-Inner.is at c.in-Some.ensures.items in
    reaches_unary (form_of c.args.tree.now) (places_of c.args.tree.now) c.steps.made
    c.steps.steps.items c.steps.invariant c.pop.new.self.items c.in-Inner.op last
    c.in_ok-made-in-Inner.made c.in_ok-made-in-Inner.ensures
