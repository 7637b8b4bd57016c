use Rattle.std.specs.Prelude.{ℕ, ◌+◌, ◌^◌, ◌==◌, ◌||◌, List, length, Bool, false, nat_lt, Option, Some, None, if◌then◌else◌}
use Rattle.std.specs.List.{list_any}
use Rattle.std.specs.Option.{option_map_or}

-- The numbers, from 0, of the calls that are to fail; the number of the next call, unless that is
-- 2 ^ 64 or more; and the count of faults.
pub record Plan : Type 0 where
  pub fails : List ℕ
  pub next : Option ℕ
  pub faults : ℕ

-- a plan for the calls with these numbers, before the first call
abbrev pub planned : List ℕ → Plan
planned fails = record { fails = fails; next = Some 0; faults = 0 }

-- the number of the next call stands among those that fail
abbrev pub is_due : Plan → Bool
is_due plan = option_map_or (λ n. list_any (λ y. y == n) plan.fails) plan.next false

-- the number after a number, below 2 ^ 64
abbrev pub number_after : Option ℕ → Option ℕ
number_after None = None
number_after (Some n) = if nat_lt (n + 1) (2 ^ 64) then Some (n + 1) else None

-- a plan after one more call, with this count of faults
abbrev pub called : Plan → ℕ → Plan
called plan faults = record { fails = plan.fails; next = number_after plan.next; faults = faults }

-- what contracts see of a `MemSource`: the bytes left, and which reads fail
pub record MemBytes : Type 0 where
  pub left : List ℕ
  pub plan : Plan

-- what contracts see of a `MemSink`: the bytes taken, the room for more, and which writes fail
pub record MemRoom : Type 0 where
  pub kept : List ℕ
  pub spare : ℕ
  pub plan : Plan

-- the write of a piece fails: it is listed, or the piece is longer than the room
abbrev pub write_fails : MemRoom → List ℕ → Bool
write_fails sink piece = is_due sink.plan || nat_lt sink.spare (length piece)

-- what contracts see of a `SureSink`: the bytes kept, the room for more, and whether a piece was
-- ever longer than the room
pub record SureRoom : Type 0 where
  pub kept : List ℕ
  pub spare : ℕ
  pub full : Bool

-- the bytes kept, told until a piece is longer than the room
abbrev pub told : SureRoom → Option (List ℕ)
told sink = if sink.full then None else Some sink.kept
