-- Sets with their sorts.
use Rattle.std.specs.Prelude.{◌≡◌, Option, Some, None, Result, Ok, Err, option_map}
use Rattle.expr_tree.specs.Sorts.{sort_of_tree}
use Rattle.expr_tree.specs.Tree.{Rule, Tree, Trees, tree_of}
use Rattle.expr_tree.specs.declared.sorting.SortFault.{SortFault}
use Rattle.expr_text.specs.Faults.{sort_fault}
use Rattle.expr_text.specs.declared.sorted.SortedProgram.{SortedProgram}
use Rattle.expr_text.specs.declared.sorted.SortedSet.{SortedSet}

abbrev pub tree_of_set : SortedSet → Tree Rule
tree_of_set s = tree_of s.set

abbrev pub trees_of_sorted : SortedProgram → Trees
trees_of_sorted p = record { first = tree_of_set p.first; second = option_map tree_of_set p.second }

abbrev pub HasSort : SortedSet → Type 0
HasSort s = sort_of_tree (tree_of_set s) ≡ Ok s.sort

abbrev pub HasSecondSort : Option SortedSet → Type 0
HasSecondSort None = Unit {0}
HasSecondSort (Some s) = HasSort s

abbrev pub HaveSorts : SortedProgram → Type 0
HaveSorts p = HasSort p.first × HasSecondSort p.second

-- the set of this tree and its sort, or why it has none
abbrev pub GivesSort : Tree Rule → Result SortedSet SortFault → Type 0
GivesSort t (Ok s) = (tree_of_set s ≡ t) × HasSort s
GivesSort t (Err fault) = sort_of_tree t ≡ Err fault

-- the sets of these trees and their sorts, or the first fault
pub record AreSorted (trees : Trees) (p : SortedProgram) : Type 0 where
  pub same : trees_of_sorted p ≡ trees
  pub none : sort_fault trees ≡ None
  pub sorts : HaveSorts p

abbrev pub GivesSorts : Trees → Result SortedProgram SortFault → Type 0
GivesSorts trees (Ok p) = AreSorted trees p
GivesSorts trees (Err fault) = sort_fault trees ≡ Some fault
