use Rattle.std.proofs.Common.{rules, tests}
use Rattle.std.specs.Prelude.{◌==◌}
use Rattle.std.proofs.lemmas.Iterator.Consumers.{YieldsList-at, YieldsList-from_filter_map}
use Rattle.std.proofs.lemmas.Iterator.{items_from_collect}
use Rattle.std.proofs.lemmas.Iterator.Splits.{YieldsList-from_slice_split}
use Rattle.rrule_text.specs.Pieces.{part_of_piece}
use Rattle.rrule_text.specs.Reading.{parts_in}
use Rattle.rrule_text.proofs.reading.parts_in.Goals as goal

pub returns : goal.returns
unfolding parts_in
returns c =
    items_from_collect _ c.collect.ensures.ran
    (YieldsList-from_filter_map _ part_of_piece
    (YieldsList-at c.filter_map.ensures.source
    (YieldsList-from_slice_split _ (λ b. b == 59) c.args.body.now c.split.ensures.rest
    c.split.ensures.done c.split.ensures.closure (λ x b q k. search (rules, tests))))
    c.filter_map.ensures.closure (λ x r q k. search rules))
