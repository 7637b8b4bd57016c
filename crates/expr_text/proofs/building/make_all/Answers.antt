use Rattle.std.proofs.Common.{rules, ◌≡◌, Err}
use Rattle.expr_text.specs.Fault.{fault_in}
use Rattle.expr_grammar.specs.Syntax.{form_of}
use Rattle.expr_text.specs.Making.{text_fault}
use Rattle.expr_text.proofs.Making.{both_faulty, both_made, both_without_memory, first_vacant, second_vacant}
use Rattle.expr_text.proofs.building.make_all.Goals as goal

pub returns-in_err-first-clause-made : goal.returns-in_err-first-clause-made
returns-in_err-first-clause-made c =
    let is : c.from_residual.result ≡ Err c.in_err-first.field-0.0 = search rules in
    rw is (first_vacant c.args.trees.now (fault_in c.in_err-first.field-0.0)
    c.in_err-first.ensures.made)

pub returns-in_err-second-clause-made : goal.returns-in_err-second-clause-made
returns-in_err-second-clause-made c =
    let is : c.from_residual-in_err-second.result ≡ Err c.in_err-second.field-0.0 = search rules in
    rw is (second_vacant c.args.trees.now c.in-Some.second (fault_in c.in_err-second.field-0.0)
    c.in-Some.is c.in_ok-first.ensures.made.0 c.in_err-second.ensures.made)

pub returns-in_err-first-3-clause-made : goal.returns-in_err-first-3-clause-made
returns-in_err-first-3-clause-made c =
    let is : c.from_residual-in_err-first-3.result ≡ Err (text_fault c.in_err-first-3.field-0.0) =
    search rules in
    rw is (both_faulty c.args.trees.now c.in-Some.second c.in-Some.is c.in_ok-first.ensures.made.0
    c.in_ok-second.ensures.made.0 c.in_err-first-3.field-0.0
    (c.in_err-first-3.ensures (form_of c.args.trees.now.first) (form_of c.in-Some.second)
    c.in_ok-first.ensures.made.1 c.in_ok-second.ensures.made.1))

pub returns-in_err-first-3-clause-memory : goal.returns-in_err-first-3-clause-memory
returns-in_err-first-3-clause-memory c =
    let is : c.from_residual-in_err-first-3.result ≡ Err (text_fault c.in_err-first-3.field-0.0) =
    search rules in
    rw is (both_without_memory (form_of c.args.trees.now.first) (form_of c.in-Some.second)
    c.in_err-first-3.field-0.0
    (c.in_err-first-3.ensures (form_of c.args.trees.now.first) (form_of c.in-Some.second)
    c.in_ok-first.ensures.made.1 c.in_ok-second.ensures.made.1))

pub returns-clause-made : goal.returns-clause-made
returns-clause-made c =
    let both = c.in_ok-first-3.ensures (form_of c.args.trees.now.first) (form_of c.in-Some.second)
    c.in_ok-first.ensures.made.1 c.in_ok-second.ensures.made.1 in
    both_made c.args.trees.now c.in-Some.second c.in-Some.is c.in_ok-first.ensures.made.0
    c.in_ok-second.ensures.made.0 c.in_ok-first-3.first c.in_ok-first-3.second both.0 both.1
