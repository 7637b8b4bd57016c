-- What looking back says, in the words of the definitions.
use Rattle.std.proofs.Common.{◌≡◌, arith, ◌<◌, ℤ, pos, negsuc, ◌+ℤ◌, ◌-ℤ◌, ◌≤ℤ◌, ◌<ℤ◌}
use Rattle.std.proofs.lemmas.Int.{ints}
use Rattle.std.specs.Int.{int_gap}
use Rattle.moment_core.specs.Line.{moment_of, position_of}
use Rattle.moment_core.specs.declared.line.TheConstants.{LOW}
use Rattle.moment_core.proofs.Gaps.{gap-most}
use Rattle.moment_core.proofs.LineLaws.{halves}
use Rattle.expr_tree.specs.Laws.{IsBetweenMoments, LastsFromMoment}
use Rattle.expr_tree.specs.Members.{moments_of}
use Rattle.expr_tree.proofs.Backwards.{IsBack, IsOpenBack, is_open-is, some_back-is}

-- the gap is the difference where it is not 0
gap-some : (a b : ℤ) → 0 < int_gap a b → a +ℤ pos (int_gap a b) ≡ b
gap-some (pos a) (pos b) h = omega (arith, ints)
gap-some (pos a) (negsuc b) h = absurd (omega (arith, ints))
gap-some (negsuc a) (pos b) h = omega (arith, ints)
gap-some (negsuc a) (negsuc b) h = omega (arith, ints)

pub lasts-is : LastsFromMoment
lasts-is set seconds p =
    let n = int_gap (pos 0) seconds in
    let m = moment_of p in
    let back = some_back-is (moments_of set) m n in
    let near = halves p in (
      (λ e.
          let r : IsBack (moments_of set) m n = back.0 e in
          let t : ℤ = r.0 in
          let low : (m -ℤ pos n) <ℤ t = r.1 in
          let high : t ≤ℤ m = r.2 in
          let some : 0 < n = omega (arith, ints) in
          let length = gap-some (pos 0) seconds some in
          (t, r.3, omega (arith, ints), omega (arith, ints))),
      (λ r.
          let t : ℤ = r.0 in
          let low : position_of t ≤ℤ p = r.2 in
          let high : p <ℤ position_of (t +ℤ seconds) = r.3 in
          let least = gap-most (pos 0) seconds in
          back.1 (t, omega (arith, ints), omega (arith, ints), r.1)),
    )

pub between-is : IsBetweenMoments
between-is opens closes p =
    let m = moment_of p in
    let n = int_gap LOW (m +ℤ pos 1) in
    let back = is_open-is (moments_of opens) (moments_of closes) m n in
    let near = halves p in (
      (λ e.
          let r : IsOpenBack (moments_of opens) (moments_of closes) m n = back.0 e in
          let t : ℤ = r.0 in
          let low : (m -ℤ pos n) <ℤ t = r.1 in
          let high : t ≤ℤ m = r.2 in
          let some : 0 < n = omega (arith, ints) in
          let length = gap-some LOW (m +ℤ pos 1) some in (
            t,
            omega (arith, ints),
            r.3,
            omega (arith, ints),
            λ u past up. r.4 u past (omega (arith, ints)),
          )),
      (λ r.
          let t : ℤ = r.0 in
          let low : LOW ≤ℤ t = r.1 in
          let high : position_of t ≤ℤ p = r.3 in
          let least = gap-most LOW (m +ℤ pos 1) in
          back.1 (
            t,
            omega (arith, ints),
            omega (arith, ints),
            r.2,
            λ u past up. r.4 u past (omega (arith, ints)),
          )),
    )
