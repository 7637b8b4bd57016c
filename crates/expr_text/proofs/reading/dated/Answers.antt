use Rattle.std.proofs.Common.{rules, ◌≡◌, Err, ap, sym, ◌∙◌}
use Rattle.std.specs.Prelude.{option_map}
use Rattle.expr_grammar.specs.Syntax.{all_places_of, forms_of}
use Rattle.phases.specs.Phases.{By, fails, goes_on}
use Rattle.phases.specs.Laws.{passes}
use Rattle.expr_text.specs.Accepted.{Spelling, or_nameless, unless_nameless}
use Rattle.expr_text.specs.declared.fault.TextFault.TheVariants as texts
use Rattle.expr_text.specs.Fault.{Fault, fault_in}
use Rattle.expr_text.specs.Fault as faults
use Rattle.expr_text.specs.Sorted.{trees_of_sorted}
use Rattle.expr_text.proofs.Moments.{made_from}
use Rattle.expr_text.proofs.Places.{nameless_same, spans_same}
use Rattle.expr_text.proofs.Sorting.{part_fault, parts_sorted, parts_unsorted}
use Rattle.expr_text.proofs.reading.dated.Goals as goal

pub returns-in-Some-clause-answer : goal.returns-in-Some-clause-answer
returns-in-Some-clause-answer c = λ found are.
    let s : Spelling = record { tokens = found; forms = forms_of c.args.trees.now } in
    fails (faults.Moment c.in-Some.byte)
    (ap (or_nameless s) (sym c.in-Some.is ∙ c.first_nameless.ensures
    ∙ nameless_same c.args.tokens.now found are))

pub make_all-requires : goal.make_all-requires
make_all-requires c = made_from c.grammar_laws.ensures.moments c.args.tokens.now
    (forms_of c.args.trees.now) c.requires.spelled c.requires.in_range (sym c.first_nameless.ensures
    ∙ c.in_default.is)

pub returns-in_err-sets-clause-answer : goal.returns-in_err-sets-clause-answer
returns-in_err-sets-clause-answer c = λ found are.
    let s : Spelling = record { tokens = found; forms = forms_of c.args.trees.now } in
    let fault = fault_in c.in_err-sets.field-0.0 in
    let is : c.from_residual.result ≡ Err c.in_err-sets.field-0.0 = search rules in
    rw is (passes (By unless_nameless) _ s s (option_map (λ (f : Fault). Err f) fault)
    (ap (or_nameless s) (sym c.in_default.is ∙ c.first_nameless.ensures
    ∙ nameless_same c.args.tokens.now found are))
    (part_fault s (all_places_of c.args.trees.now) fault (c.requires.places
    ∙ spans_same c.args.tokens.now found are) c.in_err-sets.ensures.made))

pub returns-in_err-sort_all-clause-answer : goal.returns-in_err-sort_all-clause-answer
returns-in_err-sort_all-clause-answer c = λ found are.
    let s : Spelling = record { tokens = found; forms = forms_of c.args.trees.now } in
    let is : c.from_residual-in_err-sort_all.result ≡ Err (texts.Sort c.in_err-sort_all.field-0.0) =
    search rules in
    rw is (goes_on s _ (ap (or_nameless s) (sym c.in_default.is ∙ c.first_nameless.ensures
    ∙ nameless_same c.args.tokens.now found are))
    (parts_unsorted s c.in_ok-sets.sets c.in_ok-sets.ensures.made c.in_err-sort_all.field-0.0
    c.in_err-sort_all.ensures))

pub returns-clause-answer : goal.returns-clause-answer
returns-clause-answer c = λ found are.
    let s : Spelling = record { tokens = found; forms = forms_of c.args.trees.now } in
    let sorted = c.in_ok-sort_all.ensures in
    goes_on s _ (ap (or_nameless s) (sym c.in_default.is ∙ c.first_nameless.ensures
    ∙ nameless_same c.args.tokens.now found are))
    (parts_sorted s c.in_ok-sets.sets c.in_ok-sets.ensures.made
    (trees_of_sorted c.in_ok-sort_all.field-0) sorted.same sorted.none)
