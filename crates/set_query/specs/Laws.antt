-- The laws of outcomes.
use Rattle.std.specs.Prelude.{◌≡◌, ◌≢◌, ℕ, List}
use Rattle.stored_pair.specs.Meanings.{Entries}
use Rattle.query_reply.specs.Report.{Outcome}
use Rattle.set_query.specs.Outcomes.{IsOutcome}

-- any words have an outcome over each text
abbrev pub OutcomesExist : Type 0
OutcomesExist =
    (entries : Entries) (words : List (List ℕ)) (text : List ℕ)
    → (o : Outcome) × IsOutcome entries words text o

-- no words and text have two outcomes, stops aside
abbrev pub OutcomesAreUnique : Type 0
OutcomesAreUnique =
    (entries : Entries) (words : List (List ℕ)) (text : List ℕ) (a b : Outcome)
    → IsOutcome entries words text a → IsOutcome entries words text b
    → a.status ≢ 3 → b.status ≢ 3 → a ≡ b

-- a refusal is the one outcome: where there is one there is no stop either
abbrev pub RefusalsAreAlone : Type 0
RefusalsAreAlone =
    (entries : Entries) (words : List (List ℕ)) (text : List ℕ) (a b : Outcome)
    → IsOutcome entries words text a → IsOutcome entries words text b
    → a.status ≡ 2 → a ≡ b
