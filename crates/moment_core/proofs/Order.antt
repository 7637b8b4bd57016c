-- The order of positions in a direction.
use Rattle.std.proofs.Common.{◌≡◌, ◌⊎◌, inl, inr, arith, ℕ, ◌<◌, ◌≤◌, ℤ, ◌-ℤ◌, unsigned_abs}
use Rattle.std.proofs.lemmas.Int.{ints}
use Rattle.moment_core.specs.Line.{IsCalendarPosition}
use Rattle.moment_core.specs.Sets.{IsUpTo, ahead, range_end}
use Rattle.moment_core.specs.declared.line.Dir.{Dir}
use Rattle.moment_core.specs.declared.line.Dir.TheVariants.{Fore, Back}
use Rattle.moment_core.proofs.Comparing.{cases_le_z}

-- how many steps lead there
pub steps_to : (dir : Dir) (p q : ℤ) → IsUpTo dir q p → (k : ℕ) × (q ≡ ahead dir p k)
steps_to Fore p q h = (unsigned_abs (q -ℤ p), omega (arith, ints))
steps_to Back p q h = (unsigned_abs (p -ℤ q), omega (arith, ints))

pub self_up_to : (dir : Dir) (p : ℤ) → IsUpTo dir p p
self_up_to Fore p = omega (arith, ints)
self_up_to Back p = omega (arith, ints)

pub trans_up_to : (dir : Dir) (p q r : ℤ) → IsUpTo dir q p → IsUpTo dir r q → IsUpTo dir r p
trans_up_to Fore p q r h k = omega (arith, ints)
trans_up_to Back p q r h k = omega (arith, ints)

pub one_on_up_to : (dir : Dir) (p q : ℤ) → IsUpTo dir q (ahead dir p 1) → IsUpTo dir q p
one_on_up_to Fore p q h = omega (arith, ints)
one_on_up_to Back p q h = omega (arith, ints)

-- a place some steps on is past the one that they begin at
pub later_by_steps : (dir : Dir) (p q : ℤ) (n : ℕ) → q ≡ ahead dir p n → 0 < n
    → IsUpTo dir q (ahead dir p 1)
later_by_steps Fore p q n e h = omega (arith, ints)
later_by_steps Back p q n e h = omega (arith, ints)

pub ahead_up_to : (dir : Dir) (p : ℤ) (n : ℕ) → IsUpTo dir (ahead dir p n) p
ahead_up_to Fore p n = omega (arith, ints)
ahead_up_to Back p n = omega (arith, ints)

pub steps_in_order : (dir : Dir) (p : ℤ) (m n : ℕ) → m ≤ n → IsUpTo dir (ahead dir p n)
    (ahead dir p m)
steps_in_order Fore p m n h = omega (arith, ints)
steps_in_order Back p m n h = omega (arith, ints)

-- each of two positions is up to the other or past it, not both
pub before_or_past : (dir : Dir) (p q : ℤ) → IsUpTo dir q p ⊎ IsUpTo dir p (ahead dir q 1)
before_or_past Fore p q = elim (cases_le_z p q) [
  | inl h ↦ inl h
  | inr h ↦ inr (omega (arith, ints))
]
before_or_past Back p q = elim (cases_le_z q p) [
  | inl h ↦ inl h
  | inr h ↦ inr (omega (arith, ints))
]

pub not_both_ways : (dir : Dir) (p q : ℤ) → IsUpTo dir q p → IsUpTo dir p (ahead dir q 1) → ⊥
not_both_ways Fore p q h k = omega (arith, ints)
not_both_ways Back p q h k = omega (arith, ints)

-- positions that are each not past the other are the same
pub one_place : (dir : Dir) (p q : ℤ) → IsUpTo dir q p → IsUpTo dir p q → p ≡ q
one_place Fore p q h k = omega (arith, ints)
one_place Back p q h k = omega (arith, ints)

-- by steps
pub fewer_steps : (dir : Dir) (p q x : ℤ) (k n : ℕ) → q ≡ ahead dir p k → x ≡ ahead dir p n
    → IsUpTo dir x (ahead dir q 1) → k < n
fewer_steps Fore p q x k n e d h = omega (arith, ints)
fewer_steps Back p q x k n e d h = omega (arith, ints)

pub no_more_steps : (dir : Dir) (p q x : ℤ) (k n : ℕ) → q ≡ ahead dir p k → x ≡ ahead dir p n
    → IsUpTo dir x q → k ≤ n
no_more_steps Fore p q x k n e d h = omega (arith, ints)
no_more_steps Back p q x k n e d h = omega (arith, ints)

-- what lies between positions of the range lies in it, and none of it past its end
pub in_range-within : (dir : Dir) (p q end : ℤ) → IsCalendarPosition p → IsCalendarPosition end
    → IsUpTo dir q p → IsUpTo dir end q → IsCalendarPosition q
in_range-within Fore p q end here there h k =
    (omega (arith, ints, here.0), omega (arith, ints, there.1))
in_range-within Back p q end here there h k =
    (omega (arith, ints, there.0), omega (arith, ints, here.1))

pub up_to_end : (dir : Dir) (p : ℤ) → IsCalendarPosition p → IsUpTo dir (range_end dir) p
up_to_end Fore p here = here.1
up_to_end Back p here = here.0
