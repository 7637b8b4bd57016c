use Rattle.std.proofs.Common.{refl, rules, tests}
use Rattle.std.specs.Prelude.{◌==◌}
use Rattle.std.proofs.lemmas.Iterator.Search.{find_from_yields_List}
use Rattle.std.proofs.lemmas.Iterator.Splits.{YieldsList-from_slice_split}
use Rattle.rrule_text.specs.Pieces.{is_of}
use Rattle.rrule_text.specs.Reading.{value_of}
use Rattle.rrule_text.proofs.reading.value_of.Goals as goal

pub returns-in_err-piece : goal.returns-in_err-piece
unfolding value_of
returns-in_err-piece c =
    let found = find_from_yields_List (is_of c.args.part) _ _ c.find.result c.find.ensures.ran
    (YieldsList-from_slice_split _ (λ b. b == 59) c.args.body.now c.split.ensures.rest
    c.split.ensures.done c.split.ensures.closure (λ x b q k. search (rules, tests)))
    (λ x b q k. search (rules, tests)) in
    let none = rw c.in_err-piece.was at found in
    rw (c.from_residual.ensures, ← none) refl

pub returns : goal.returns
unfolding value_of
returns c =
    let found = find_from_yields_List (is_of c.args.part) _ _ c.find.result c.find.ensures.ran
    (YieldsList-from_slice_split _ (λ b. b == 59) c.args.body.now c.split.ensures.rest
    c.split.ensures.done c.split.ensures.closure (λ x b q k. search (rules, tests)))
    (λ x b q k. search (rules, tests)) in
    let some = rw c.in_ok-piece.was at found in
    rw (c.value_in.ensures, ← some) refl
