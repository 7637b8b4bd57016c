-- What items say of all whole numbers, past the calendar range too.
use Rattle.std.specs.Prelude.{◌≡◌, ℕ, ℤ, ◌≤ℤ◌, Bool, true, false}
use Rattle.moment_core.specs.Line.{position_of}
use Rattle.moment_core.specs.Sets.{seen}
use Rattle.moment_core.specs.declared.line.TheConstants.{LOW, HIGH}
use Rattle.span_core.specs.Bounds.{lies_between}
use Rattle.span_core.specs.declared.answers.Item.{Item}
use Rattle.span_core.specs.declared.answers.Item.TheVariants as items
use Rattle.span_core.specs.declared.answers.Token.{Token}
use Rattle.span_core.specs.declared.answers.Why.TheVariants as whys
use Rattle.span_core.specs.declared.bounds.Bound.TheVariants as bounds
use Rattle.span_core.specs.declared.bounds.Run.{Run}

-- between the bounds of the run all are members, for ever where it has no bound; where a bound is
-- the edge, up to the end of the range
abbrev pub HoldsMembers : (ℤ → Bool) → Run → Type 0
HoldsMembers set run =
    (p : ℤ) → lies_between run.first run.last p ≡ true
    → (run.first ≡ bounds.Edge → position_of LOW ≤ℤ p)
    → (run.last ≡ bounds.Edge → p ≤ℤ position_of HIGH) → set p ≡ true

-- what an item says: its run holds members alone; and where nothing follows for ever, none is a
-- member from the place on
abbrev pub IsItemForEver : (ℤ → Bool) → Token → Item → Type 0
IsItemForEver set t (items.Run run) = HoldsMembers set run
IsItemForEver set t (items.Done whys.To) = Unit {0}
IsItemForEver set t (items.Done (whys.None w)) = (k : ℕ) → seen set t.dir t.place.0 k ≡ false
IsItemForEver set t (items.Done whys.Edge) = Unit {0}
IsItemForEver set t (items.Budget token) = Unit {0}
