use Rattle.std.proofs.Common.{◌≢◌, ◌<◌, ℕ, slice_get, Some}
use Rattle.stored_pair.specs.Names.{names_of}
use Rattle.stored_pair.proofs.catalog.Book.find.Given as goal

abbrev pub invariant-loop-id : goal.invariant-loop-id
invariant-loop-id l = (k : ℕ) → k < l.id → slice_get (names_of l.self) k ≢ Some l.name
