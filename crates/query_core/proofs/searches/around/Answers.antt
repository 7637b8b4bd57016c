use Rattle.moment_core.specs.declared.line.Dir.TheVariants.{Back, Fore}
use Rattle.query_core.proofs.Endless.{far_in_range}
use Rattle.query_core.proofs.searches.around.Goals as goal

pub item_from-requires-clause-near : goal.item_from-requires-clause-near
item_from-requires-clause-near g c =
    far_in_range _ Back c.args.p.0 c.range_end.result.0 c.args.p.0 c.in_ok-low.low.0
    c.requires.range
    c.range_end.ensures.in_range c.in_ok-low.ensures.last

pub item_from-requires-clause-far : goal.item_from-requires-clause-far
item_from-requires-clause-far g c =
    far_in_range _ Fore c.args.p.0 c.range_end-2.result.0 c.args.p.0 c.in_ok-high.high.0
    c.requires.range
    c.range_end-2.ensures.in_range c.in_ok-high.ensures.last
