-- The values of a mask.
use Rattle.std.specs.Prelude.{ℕ, ℤ, pos, neg_ℤ, ◌≤ℤ◌, ◌<ℤ◌}

-- a value below len, or one that is counted back from len
abbrev pub IsValue : ℕ → ℤ → Type 0
IsValue len v = (neg_ℤ (pos len) ≤ℤ v) × (v <ℤ pos len)

-- a value below len that isn't below 0
abbrev pub IsPlain : ℕ → ℤ → Type 0
IsPlain len v = (pos 0 ≤ℤ v) × (v <ℤ pos len)
