-- The names of a book's entries, in the order of their numbers.
use Rattle.std.specs.Prelude.{◌≢◌, ◌<◌, ℕ, List, map, length, slice_get, Some}
use Rattle.std.specs.String.{string_bytes}
use Rattle.stored_pair.specs.Meanings.{Entries, nothing}
use Rattle.stored_pair.specs.declared.catalog.Book.{Book}

abbrev pub names_of : Book → List (List ℕ)
names_of book = map (λ entry. string_bytes entry.name) book.entries.items

-- no entry has the name
abbrev pub HasNoName : List (List ℕ) → List ℕ → Type 0
HasNoName names name = (id : ℕ) → id < length names → slice_get names id ≢ Some name

-- what a book's entries mean: each is its name alone, and has no moments yet
abbrev pub entries_of : Book → Entries
entries_of book name = nothing
