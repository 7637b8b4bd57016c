use Rattle.std.proofs.Common.{◌≡◌, ◌∙◌, Some, ap, refl, sym}
use Rattle.search_core.specs.TreeFrames.{frame_of_tree}
use Rattle.plan_core.specs.Plans.{meant_of_plan}
use Rattle.run_search.proofs.items.beyond.Goals as goal

pub returns-in-Some-window : goal.returns-in-Some-window
returns-in-Some-window c =
    let frame : frame_of_tree (meant_of_plan c.args.plan.now) ≡ Some c.in-Some.frame =
    ap frame_of_tree (sym c.ready.ensures) ∙ sym c.in-Some.ensures.value in
    rw (frame, ← c.in-Some-window.ensures) refl
