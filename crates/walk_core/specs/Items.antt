-- The items of a window: the runs of a set that lie in it, cut at its ends, in the order of a
-- direction; and what is left of them from a place on. `window` gives for each direction and
-- position the window after which the set repeats from there, if there is one.
use Rattle.std.specs.Prelude.{◌≡◌, ℤ, Bool, ◌||◌, ◌&&◌, int_le, List, [], ◌∷◌, Option, Some, None}
use Rattle.moment_core.specs.Sets.{ahead}
use Rattle.moment_core.specs.declared.line.Dir.{Dir}
use Rattle.moment_core.specs.declared.line.Dir.TheVariants.{Fore, Back}
use Rattle.moment_core.specs.declared.line.Pos.{Pos}
use Rattle.moment_core.specs.declared.line.Window.{Window}
use Rattle.span_core.specs.declared.answers.Token.{Token}
use Rattle.span_core.specs.declared.bounds.Run.{Run}
use Rattle.run_search.specs.Runs.{HasNoMember, IsFirstRun, item_from}

-- the items from p to the end: the first run, and then the items past it
abbrev pub AreItems : (ℤ → Bool) → (Dir → ℤ → Option Window) → Dir → ℤ → ℤ → List Run → Type 0
AreItems set window dir p end [] = HasNoMember set dir p end
AreItems set window dir p end (run ∷ runs) =
    (near : ℤ) × (far : ℤ) × IsFirstRun set dir p end near far
    × (run ≡ item_from window dir near far) × AreItems set window dir (ahead dir far 1) end runs

-- the items of a window in the order of a direction
abbrev pub AreItemsIn : (ℤ → Bool) → (Dir → ℤ → Option Window) → Window → Dir → List Run → Type 0
AreItemsIn set window w Fore runs = AreItems set window Fore w.lo.0 w.hi.0 runs
AreItemsIn set window w Back runs = AreItems set window Back w.hi.0 w.lo.0 runs

-- the position lies from one to another in the direction
abbrev pub lies_from : Dir → ℤ → ℤ → ℤ → Bool
lies_from Fore near far q = int_le near q && int_le q far
lies_from Back near far q = int_le far q && int_le q near

-- the set with the positions from one to another as members
abbrev pub with_run : (ℤ → Bool) → Dir → ℤ → ℤ → ℤ → Bool
with_run set dir near far q = set q || lies_from dir near far q

-- the set of a token: where a run is open, with all positions from its beginning to the place as
-- members
abbrev pub set_with : (ℤ → Bool) → Dir → ℤ → Option Pos → ℤ → Bool
set_with set dir place None = set
set_with set dir place (Some begun) = with_run set dir begun.0 place

-- where what is left begins: at the place, or where the open run begins
abbrev pub begin_at : ℤ → Option Pos → ℤ
begin_at place None = place
begin_at place (Some begun) = begun.0

-- the runs are left from the token on: they are the items of its set from there to its end
abbrev pub AreLeft : (ℤ → Bool) → (Dir → ℤ → Option Window) → Token → List Run → Type 0
AreLeft set window t runs =
    AreItems (set_with set t.dir t.place.0 t.begun) window t.dir (begin_at t.place.0 t.begun)
    t.end.0 runs

-- the positions of the token's open run, if there is one, are members: so it is for each token that
-- a walk gives
abbrev pub IsHonest : (ℤ → Bool) → Token → Type 0
IsHonest set t = (q : ℤ) → set_with set t.dir t.place.0 t.begun q ≡ set q
