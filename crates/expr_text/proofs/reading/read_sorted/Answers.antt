use Rattle.std.proofs.Common.{arith, ℕ, List, Result, Ok, Err}
use Rattle.std.specs.Prelude.{IfOk}
use Rattle.expr_text.specs.Accepted.{IsRead, tokens_in, unless_long}
use Rattle.expr_tree.specs.WellFormed.{AreWellFormed}
use Rattle.phases.specs.Phases.{By, fails, goes_on}
use Rattle.expr_text.specs.Fault as faults
use Rattle.expr_text.specs.Phases.{Tells, told}
use Rattle.expr_text.specs.Laws.{AcceptedAreWellFormed}
use Rattle.expr_text.specs.declared.fault.TextFault.{TextFault}
use Rattle.expr_text.specs.declared.sorted.SortedProgram.{SortedProgram}
use Rattle.expr_text.specs.Sorted.{trees_of_sorted}
use Rattle.phases.specs.Laws.{passes}
use Rattle.expr_text.proofs.Places.{found_in, long_text, none_at, short_text}
use Rattle.expr_text.proofs.Ranges.{tokens_in_range}
use Rattle.expr_text.proofs.reading.read_sorted.Goals as goal
use Rattle.expr_text.proofs.reading.read_sorted.Goals.{After-drop-found}

pub returns-then-text-gt-LONGEST-clause-answer : goal.returns-then-text-gt-LONGEST-clause-answer
returns-then-text-gt-LONGEST-clause-answer c =
    fails faults.Long (long_text c.args.text.now (omega (arith, c.if-text-gt-LONGEST.true)))

pub spelled-requires : goal.spelled-requires
spelled-requires c = rw c.deref.ensures.value (tokens_in_range c.args.text.now c.in-Ok.found.items
    c.in-Ok.ensures.reading)

answer : (c : After-drop-found) → Tells trees_of_sorted (IsRead c.args.text.now) c.spelled.result
answer c =
    let text = c.args.text.now in
    let there = found_in text c.in-Ok.found.items c.in-Ok.ensures.reading in
    let told_there = rw c.deref.ensures.value at (c.spelled.ensures.answer there.tokens) in
    let o = told trees_of_sorted c.spelled.result in
    passes (By unless_long) _ text text o
    (short_text text (omega (arith, c.if-text-gt-LONGEST.false)))
    (passes (By tokens_in) _ text there.tokens o there.read (told_there there.are))

pub returns-in-Ok-clause-answer : goal.returns-in-Ok-clause-answer
returns-in-Ok-clause-answer c = answer c

well_formed_if_told : AcceptedAreWellFormed → (text : List ℕ) (r : Result SortedProgram TextFault)
    → Tells trees_of_sorted (IsRead text) r
    → IfOk r (λ p. AreWellFormed (trees_of_sorted p))
well_formed_if_told well_formed text (Ok p) h = well_formed text (trees_of_sorted p) h
well_formed_if_told well_formed text (Err fault) h = tt

pub returns-in-Ok-clause-well_formed : goal.returns-in-Ok-clause-well_formed
returns-in-Ok-clause-well_formed c = well_formed_if_told c.reading_laws.ensures.well_formed
    c.args.text.now c.spelled.result (answer c)

pub returns-in-Err-Token-clause-answer : goal.returns-in-Err-Token-clause-answer
returns-in-Err-Token-clause-answer c =
    let text = c.args.text.now in
    let h = rw c.in-Err-Token.field-0-is at c.in-Err-Token.ensures.reading in
    rw c.in-Err-Token.field-0-is
    (goes_on text _ (short_text text (omega (arith, c.if-text-gt-LONGEST.false)))
    (fails (faults.Token c.in-Err-Token.byte) (none_at text c.in-Err-Token.byte h.0 h.1 h.2)))
