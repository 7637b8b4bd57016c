-- With an ample budget no search stops.
use Rattle.std.proofs.Common.{ℕ, ℤ, pos, ◌≤ℤ◌}
use Rattle.moment_core.specs.Line.{IsCalendarPosition}
use Rattle.moment_core.specs.declared.line.Dir.{Dir}
use Rattle.moment_core.specs.declared.line.TheConstants.{REACH}
use Rattle.stored_pair.specs.Meanings.{Meaning}
use Rattle.expr_tree.specs.Members.{is_member}
use Rattle.expr_tree.specs.Sorts.{reach_of}
use Rattle.expr_tree.specs.Tree.{Tree}
use Rattle.search_core.specs.Ample.{IsAboveSearch, IsAmple}
use Rattle.search_core.specs.Due.{IsDue}
use Rattle.search_core.specs.Laws.{AmpleNeverStops, EnoughNeverStops}
use Rattle.run_search.specs.Places.{IsAmpleAt, PlacesWithin}
use Rattle.run_search.proofs.Ranging.{place_in_range}

pub ample_finds : AmpleNeverStops → (tree : Tree Meaning) (dir : Dir) (n : ℕ) (p : ℤ) (budget : ℕ)
    → pos (reach_of tree) ≤ℤ REACH → IsCalendarPosition p → IsAmple tree budget
    → IsAmpleAt (PlacesWithin (is_member tree) dir n p) (IsDue tree) budget
ample_finds never tree dir n p budget reach here ample d place (same, is) =
    never tree d place budget reach (place_in_range (is_member tree) dir n p place here is) ample

pub enough_finds : EnoughNeverStops → (tree : Tree Meaning) (dir : Dir) (n : ℕ) (p : ℤ) (budget : ℕ)
    → IsCalendarPosition p → ((d : Dir) (place : ℤ) → PlacesWithin (is_member tree) dir n p d place
    → IsAboveSearch tree d place budget) → IsAmpleAt (PlacesWithin (is_member tree) dir n p)
    (IsDue tree) budget
enough_finds never tree dir n p budget here above d place (same, is) =
    never tree d place budget (place_in_range (is_member tree) dir n p place here is)
    (above d place (same, is))
