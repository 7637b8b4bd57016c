-- A recurrence of one moment.
use Rattle.std.proofs.Common.{◌≡◌, ℕ, ◌<◌, Bool, true, false, arith, ℤ}
use Rattle.std.proofs.lemmas.Int.{ints}
use Rattle.std.specs.Ordering.{int_eq}
use Rattle.moment_core.specs.Line.{IsWorkingMoment}
use Rattle.moment_core.specs.Sets.{ahead}
use Rattle.moment_core.specs.Steps.{IsNextCandidate}
use Rattle.moment_core.specs.declared.line.Dir.{Dir}
use Rattle.moment_core.specs.declared.line.Dir.TheVariants.{Fore, Back}

abbrev once : ℤ → ℤ → Bool
once u t = int_eq t u

pub itself : (u : ℤ) → once u u ≡ true
itself u = grind (arith, ints)

not-yet : (dir : Dir) (t : ℤ) (n k : ℕ) → k < n → once (ahead dir t n) (ahead dir t k) ≡ false
not-yet Fore t n k below = grind (arith, ints)
not-yet Back t n k below = grind (arith, ints)

pub next-once : (dir : Dir) (t u : ℤ) (n : ℕ) → IsWorkingMoment u → u ≡ ahead dir t n → 0 < n
    → IsNextCandidate (once u) dir t u
next-once dir t u n working place some = (
  working,
  (
    n,
    place,
    record {
      later = some;
      meets = rw (← place) (itself u);
      none_before = λ k later below. rw place (not-yet dir t n k below);
    },
  ),
)
