-- The order of positions in a direction, beside what is known of it already.
use Rattle.std.proofs.Common.{arith, ℤ}
use Rattle.std.proofs.lemmas.Int.{ints}
use Rattle.moment_core.specs.Line.{IsCalendarPosition}
use Rattle.moment_core.specs.Sets.{ahead, IsUpTo, range_begin}
use Rattle.moment_core.specs.declared.line.Dir.{Dir}
use Rattle.moment_core.specs.declared.line.Dir.TheVariants.{Fore, Back}

-- the position right past another, and those beyond
pub one_on : (dir : Dir) (p : ℤ) → IsUpTo dir (ahead dir p 1) p
one_on Fore p = omega (arith, ints)
one_on Back p = omega (arith, ints)

pub past_both : (dir : Dir) (place far : ℤ) → IsUpTo dir far place → IsUpTo dir (ahead dir far 1)
    (ahead dir place 1)
past_both Fore place far h = omega (arith, ints)
past_both Back place far h = omega (arith, ints)

-- a position between the range's beginning and one of its positions lies in it
pub in_range-from : (dir : Dir) (q end : ℤ) → IsUpTo dir q (range_begin dir) → IsUpTo dir end q
    → IsCalendarPosition end → IsCalendarPosition q
in_range-from Fore q end a b there = (a, omega (arith, ints, there.1))
in_range-from Back q end a b there = (omega (arith, ints, there.0), a)
