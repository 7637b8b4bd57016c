use Rattle.std.specs.Prelude.{◌≡◌, ℕ, zero, suc, ◌<◌, ◌≤◌, ◌+◌, ◌-◌, ◌^◌, min, List, [], ◌++◌, length, take, ⊤, Option, Some, None}
use Rattle.std.specs.Io.KnownBytes.{Consumes, IsAtEnd}
use Rattle.outside_core.specs.declared.reads.Got.{Got}
use Rattle.outside_core.specs.declared.reads.Got.TheVariants.{Bytes, End, Failed}
use Rattle.outside_core.specs.declared.writes.Put.{Put}
use Rattle.outside_core.specs.declared.writes.Put.TheVariants.{All, Failed as FailedPut}

-- a count of faults rose: it is greater than it was, or stands at its last value, 2 ^ 64 - 1
abbrev pub Rose : ℕ → ℕ → Type 0
Rose old new = min old (2 ^ 64 - 2) < new

-- a count after one more fault
abbrev pub raised : ℕ → ℕ
raised count = min (count + 1) (2 ^ 64 - 1)

-- what a read does to the bytes left: it moves some of them to the front of the buffer, or none
abbrev pub Reads : Option (List ℕ) → Option (List ℕ) → List ℕ → Got → Type 0
Reads before after buf (Bytes n) = (0 < n) × (n ≤ length buf) × Consumes before after (take n buf)
Reads before after buf End = IsAtEnd before × Consumes before after []
Reads before after buf Failed = Consumes before after []

-- what a read answers that gave so many bytes
abbrev pub got_of : ℕ → Got
got_of zero = End
got_of (suc n) = Bytes (suc n)

abbrev pub IfReadFailed : Got → Type 0 → Type 0
IfReadFailed (Bytes n) P = ⊤
IfReadFailed End P = ⊤
IfReadFailed Failed P = P

-- a count after a read, where it rises only by a read that fails
abbrev pub count_after_read : ℕ → Got → ℕ
count_after_read count (Bytes n) = count
count_after_read count End = count
count_after_read count Failed = raised count

-- what is told afterwards was told before, and the piece follows it
abbrev pub Puts : Option (List ℕ) → Option (List ℕ) → List ℕ → Type 0
Puts before None piece = ⊤
Puts None (Some now) piece = ⊥
Puts (Some old) (Some now) piece = now ≡ old ++ piece

-- what a write does to the bytes taken: the piece follows them, or its first n bytes
abbrev pub Writes : Option (List ℕ) → Option (List ℕ) → List ℕ → Put → Type 0
Writes before after piece All = Puts before after piece
Writes before after piece (FailedPut n) = (n ≤ length piece) × Puts before after (take n piece)

abbrev pub IfWriteFailed : Put → Type 0 → Type 0
IfWriteFailed All P = ⊤
IfWriteFailed (FailedPut n) P = P

-- a count after a write, where it rises only by a write that fails
abbrev pub count_after_write : ℕ → Put → ℕ
count_after_write count All = count
count_after_write count (FailedPut n) = raised count
