-- Numbers by their sign and their figures.
use Rattle.std.proofs.Common.{◌≡◌, ℕ, suc, negsuc, true, arith}
use Rattle.std.proofs.lemmas.Int.{ints}
use Rattle.moment_core.specs.Texts.{with_sign}

pub minus_suc : (n : ℕ) → with_sign true (suc n) ≡ negsuc n
minus_suc n = grind (arith, ints)
