-- What a query leaves behind: the bytes read and put, by its status.
use Rattle.std.specs.Prelude.{◌≡◌, ℕ, List, [], take, drop, Option, Some, IfSome}
use Rattle.outside_core.specs.Outside.{Rose}
use Rattle.outside_core.specs.declared.reads.Source.{Ghosts as Source}
use Rattle.outside_core.specs.declared.writes.Sink.{Ghosts as Sink}
use Rattle.stored_pair.specs.Meanings.{Entries}
use Rattle.query_reply.specs.Effects.{HasPut}
use Rattle.query_reply.specs.Report.{Outcome}
use Rattle.set_query.specs.Outcomes.{IsOutcome}

-- a source's count of faults rose
abbrev pub ReadFailed : {S : Type 0} → Source S → S → S → Type 0
ReadFailed source old new = Rose (source.faults old) (source.faults new)

-- of a text that was told as many bytes were read as there is room for, or all, and no others
abbrev pub ReadsUpTo : ℕ → {S : Type 0} → Source S → S → S → Type 0
ReadsUpTo room source old new =
    IfSome (source.left old) (λ text. source.left new ≡ Some (drop room text))

-- and these bytes are they
abbrev pub IsFront : ℕ → Option (List ℕ) → Option (List ℕ) → List ℕ → Type 0
IsFront room before after bytes =
    IfSome before (λ text. (bytes ≡ take room text) × (after ≡ Some (drop room text)))

abbrev pub ReadsFront : ℕ → {S : Type 0} → Source S → S → S → List ℕ → Type 0
ReadsFront room source old new bytes = IsFront room (source.left old) (source.left new) bytes

-- all bytes were read
abbrev pub IsReadOut : {S : Type 0} → Source S → S → S → Type 0
IsReadOut source old new = IfSome (source.left old) (λ text. source.left new ≡ Some [])

-- the outcome of the words over some text, which is the text of the source where the source tells
-- it
pub record IsOutcomeOf (entries : Entries) (words : List (List ℕ)) (left : Option (List ℕ))
    (outcome : Outcome) : Type 0 where
  pub text : List ℕ
  pub told : IfSome left (λ known. known ≡ text)
  pub as_asked : IsOutcome entries words text outcome

-- the status is that of the outcome, and all of its bytes were put
pub record Answers {K : Type 0} (sink : Sink K) (old new : K) (entries : Entries)
    (words : List (List ℕ))
    (left : Option (List ℕ)) (status : ℕ) : Type 0 where
  pub outcome : Outcome
  pub of_words : IsOutcomeOf entries words left outcome
  pub status_is : status ≡ outcome.status
  pub put : HasPut sink old new outcome.bytes

-- the first bytes of an outcome were put
pub record BreaksOff {K : Type 0} (sink : Sink K) (old new : K) (entries : Entries)
    (words : List (List ℕ))
    (left : Option (List ℕ)) : Type 0 where
  pub outcome : Outcome
  pub of_words : IsOutcomeOf entries words left outcome
  pub n : ℕ
  pub put : HasPut sink old new (take n outcome.bytes)
