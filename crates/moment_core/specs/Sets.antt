-- Sets of positions, each a test of all whole numbers, seen step by step in a direction.
use Rattle.std.specs.Prelude.{◌≡◌, ◌<◌, ◌+◌, ℕ, ℤ, pos, ◌+ℤ◌, ◌-ℤ◌, ◌≤ℤ◌, Bool, true, false, not, ◌&&◌}
use Rattle.std.specs.Ordering.{int_eq}
use Rattle.moment_core.specs.Line.{IsCalendarPosition, moment_of, position_of}
use Rattle.moment_core.specs.declared.line.Dir.{Dir}
use Rattle.moment_core.specs.declared.line.Dir.TheVariants.{Fore, Back}
use Rattle.moment_core.specs.declared.line.TheConstants.{LOW, HIGH}

-- the position k steps on
abbrev pub ahead : Dir → ℤ → ℕ → ℤ
ahead Fore p k = p +ℤ pos k
ahead Back p k = p -ℤ pos k

-- the position is not past the end, in the direction
abbrev pub IsUpTo : Dir → ℤ → ℤ → Type 0
IsUpTo Fore end q = q ≤ℤ end
IsUpTo Back end q = end ≤ℤ q

-- the calendar range's own first and last position in the direction
abbrev pub range_begin : Dir → ℤ
range_begin Fore = position_of LOW
range_begin Back = position_of HIGH

abbrev pub range_end : Dir → ℤ
range_end Fore = position_of HIGH
range_end Back = position_of LOW

-- whether the position k steps on is a member
abbrev pub seen : (ℤ → Bool) → Dir → ℤ → ℕ → Bool
seen set dir p k = set (ahead dir p k)

-- a set of moments as a set of positions: open seconds are no members
abbrev pub moments_in : (ℤ → Bool) → ℤ → Bool
moments_in has p = int_eq (position_of (moment_of p)) p && has (moment_of p)

-- the membership first differs n steps on
pub record DiffersFirst (f : ℕ → Bool) (n : ℕ) : Type 0 where
  pub later : 0 < n
  pub differs : f n ≡ not (f 0)
  pub same : (k : ℕ) → k < n → f k ≡ f 0

-- q is the nearest position past p, in the direction, whose membership differs from p's
abbrev pub IsNextChange : (ℤ → Bool) → Dir → ℤ → ℤ → Type 0
IsNextChange set dir p q = (n : ℕ) × (q ≡ ahead dir p n) × DiffersFirst (seen set dir p) n

-- no position past p, in the direction, differs from p up to the end of the calendar range
abbrev pub StaysInRange : (ℤ → Bool) → Dir → ℤ → Type 0
StaysInRange set dir p = (k : ℕ) → IsCalendarPosition (ahead dir p k) → seen set dir p k ≡ set p

-- a run begins n + 1 steps on, and none before
pub record BeginsFirst (f : ℕ → Bool) (n : ℕ) : Type 0 where
  pub begins : f (n + 1) ≡ true
  pub fresh : f n ≡ false
  pub none_before : (k : ℕ) → k < n → f (k + 1) ≡ true → f k ≡ true

-- q is the nearest position past p, in the direction, at which a run begins
abbrev pub IsNextBeginning : (ℤ → Bool) → Dir → ℤ → ℤ → Type 0
IsNextBeginning set dir p q = (n : ℕ) × (q ≡ ahead dir p (n + 1)) × BeginsFirst (seen set dir p) n

-- no run begins past p, in the direction, up to the end of the calendar range
abbrev pub NoneBegins : (ℤ → Bool) → Dir → ℤ → Type 0
NoneBegins set dir p =
    (k : ℕ) → IsCalendarPosition (ahead dir p (k + 1)) → seen set dir p (k + 1) ≡ true
    → seen set dir p k ≡ true
