-- What the bounds of runs say of all whole numbers, past the calendar range too.
use Rattle.std.specs.Prelude.{◌≡◌, ℕ, ℤ, Bool, true}
use Rattle.moment_core.specs.Sets.{seen}
use Rattle.moment_core.specs.declared.line.Dir.{Dir}
use Rattle.moment_core.specs.declared.line.Dir.TheVariants.{Fore, Back}
use Rattle.span_core.specs.declared.bounds.Bound.{Bound}
use Rattle.span_core.specs.declared.bounds.Bound.TheVariants as bounds
use Rattle.span_core.specs.declared.bounds.Run.{Run}

-- where the bound is none, every position from p on is a member, for ever
abbrev pub NeverEnds : (ℤ → Bool) → Dir → ℤ → Bound → Type 0
NeverEnds set dir p bound = bound ≡ bounds.Inf → (k : ℕ) → seen set dir p k ≡ true

-- a run whose positions are those from low to high, both ways
abbrev pub HoldsForEver : (ℤ → Bool) → ℤ → ℤ → Run → Type 0
HoldsForEver set low high run = NeverEnds set Fore low run.last × NeverEnds set Back high run.first
