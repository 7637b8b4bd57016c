-- What a reply leaves of the sink: the bytes put, by its status.
use Rattle.std.specs.Prelude.{◌≡◌, ◌⊎◌, ◌≤◌, ℕ, List, take}
use Rattle.outside_core.specs.Outside.{Rose, Puts}
use Rattle.outside_core.specs.declared.writes.Sink.{Ghosts as Sink}
use Rattle.query_reply.specs.Report.{Outcome}

-- a sink's count of faults rose
abbrev pub WriteFailed : {K : Type 0} → Sink K → K → K → Type 0
WriteFailed sink old new = Rose (sink.faults old) (sink.faults new)

-- these bytes were put
abbrev pub HasPut : {K : Type 0} → Sink K → K → K → List ℕ → Type 0
HasPut sink old new bytes = Puts (sink.taken old) (sink.taken new) bytes

-- a status after which everything was written
abbrev pub IsDone : ℕ → Type 0
IsDone status = (status ≡ 0) ⊎ (status ≡ 2) ⊎ (status ≡ 3)

-- memory ran out, and nothing was written
abbrev pub RanOut : {K : Type 0} → K → K → ℕ → Type 0
RanOut old new status = (status ≡ 6) × (new ≡ old)

-- what writing the bytes of an outcome leaves: its status and all of the bytes, or 5 and the
-- first of them
pub record IsWritten {K : Type 0} (sink : Sink K) (old new : K) (outcome : Outcome)
    (status : ℕ) : Type 0 where
  pub counted : sink.faults old ≤ sink.faults new
  pub either : (status ≡ outcome.status) ⊎ (status ≡ 5)
  pub whole : status ≡ outcome.status → HasPut sink old new outcome.bytes
  pub part : status ≡ 5 → (n : ℕ) × HasPut sink old new (take n outcome.bytes)
  pub failed : status ≡ 5 → WriteFailed sink old new

-- what writing an outcome that is asked leaves
pub record IsReported {K : Type 0} (sink : Sink K) (old new : K) (Is : Outcome → Type 0)
    (status : ℕ) : Type 0 where
  pub outcome : Outcome
  pub as_asked : Is outcome
  pub written : IsWritten sink old new outcome status
