use Rattle.std.proofs.Common.{rules, ◌≡◌, subst, sym}
use Rattle.stored_pair.specs.Recurrences.{AreModest}
use Rattle.search_core.specs.TreeFrames.{span_frame}
use Rattle.lowered_tree.proofs.Nearness.{span_modest}
use Rattle.lowered_tree.proofs.frames.span_frame.Goals as goal

pub returns-clause-modest : goal.returns-clause-modest
returns-clause-modest c =
    let value : c.unchanging.result ≡ span_frame c.args.span.now = search rules in
    subst AreModest (sym value) (span_modest c.args.span.now c.low.ensures.span)
