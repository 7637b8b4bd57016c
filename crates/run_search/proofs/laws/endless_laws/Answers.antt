use Rattle.moment_core.specs.declared.line.Dir.TheVariants.{Back, Fore}
use Rattle.expr_tree.specs.Members.{is_member}
use Rattle.search_core.specs.TreeFrames.{frame_of_tree}
use Rattle.plan_core.specs.Plans.{window_of}
use Rattle.run_search.proofs.Endless.{never_ends}
use Rattle.run_search.proofs.Ranging.{item_in_range}
use Rattle.run_search.proofs.laws.endless_laws.Goals as goal

pub returns-clause-none : goal.returns-clause-none
returns-clause-none c tree dir p w lawful here found =
    c.window_laws.ensures.for_ever (is_member tree) (frame_of_tree tree) dir p w
    (c.tree_frame_laws.ensures.period tree lawful) (c.tree_frame_laws.ensures.repeats tree lawful)
    here found

pub returns-clause-items : goal.returns-clause-items
returns-clause-items c tree low high lawful below above some members =
    let period = c.tree_frame_laws.ensures.period tree lawful in
    let repeats = c.tree_frame_laws.ensures.repeats tree lawful in (
      never_ends c.window_laws.ensures.for_ever (is_member tree) (frame_of_tree tree) period repeats
          Fore low high below some members,
      never_ends c.window_laws.ensures.for_ever (is_member tree) (frame_of_tree tree) period repeats
          Back high low above some
          (λ q h k. members q k h),
    )

pub returns-clause-in_range : goal.returns-clause-in_range
returns-clause-in_range c tree low high below above =
    item_in_range (window_of tree) low high below above
