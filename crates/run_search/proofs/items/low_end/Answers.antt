use Rattle.std.proofs.Common.{rules, ◌≡◌, true}
use Rattle.std.specs.Ordering.{int_eq}
use Rattle.moment_core.specs.Line.{position_of}
use Rattle.moment_core.specs.declared.line.TheConstants.{LOW}
use Rattle.run_search.proofs.items.low_end.Goals as goal

pub returns-then-low : goal.returns-then-low
returns-then-low c =
    let at : int_eq c.args.low.0 (position_of LOW) ≡ true = search rules in
    rw at c.beyond.ensures
