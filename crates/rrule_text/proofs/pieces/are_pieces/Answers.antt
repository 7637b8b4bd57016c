use Rattle.std.proofs.Common.{rules, tests}
use Rattle.std.specs.Prelude.{◌==◌}
use Rattle.std.proofs.lemmas.Iterator.Search.{all_from_yields_List}
use Rattle.std.proofs.lemmas.Iterator.Splits.{YieldsList-from_slice_split}
use Rattle.rrule_text.specs.Pieces.{are_pieces, is_piece}
use Rattle.rrule_text.proofs.pieces.are_pieces.Goals as goal

pub returns : goal.returns
unfolding are_pieces
returns c =
    all_from_yields_List is_piece _ _ _ c.all.ensures.ran
    (YieldsList-from_slice_split _ (λ b. b == 59) c.args.text.now c.split.ensures.rest
    c.split.ensures.done c.split.ensures.closure (λ x b q k. search (rules, tests)))
    (λ x b q k. search (rules, tests))
