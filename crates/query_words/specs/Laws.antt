-- The laws of words.
use Rattle.std.specs.Prelude.{◌≡◌, ℕ, List, Result}
use Rattle.query_words.specs.declared.queries.Query.{Query}
use Rattle.query_words.specs.declared.queries.WordsFault.{WordsFault}
use Rattle.query_words.specs.Words.{AreRead}

-- any words ask a query or have a fault
abbrev pub WordsAreRead : Type 0
WordsAreRead = (words : List (List ℕ)) → (answer : Result Query WordsFault) × AreRead words answer

-- no words ask two queries, have two faults, or ask a query and have a fault
abbrev pub WordsAreReadOnce : Type 0
WordsAreReadOnce =
    (words : List (List ℕ)) (a b : Result Query WordsFault) → AreRead words a → AreRead words b
    → a ≡ b
