-- What crates that read and write texts have in common.
use Rattle.std.specs.Prelude.{ℕ, ℤ, pos, ◌-ℤ◌, Bool, true, false, List, [], codes, Option, Some, None, if◌then◌else◌}

-- one reading and then one that depends on what it read
infixl 10 ◌>>=◌
abbrev pub ◌>>=◌ : {A B : Type 0} → Option A → (A → Option B) → Option B
(Some x) >>= f = f x
None >>= f = None

-- a number behind a minus or without one
abbrev pub with_sign : Bool → ℕ → ℤ
with_sign false n = pos n
with_sign true n = pos 0 -ℤ pos n

-- absolute moments have a Z
abbrev pub zone_text : Bool → List ℕ
zone_text absolute = if absolute then codes "Z" else []
