-- How many numbers below an end pass a test.
use Rattle.std.proofs.Common.{◌≡◌, ℕ, suc, zero, ◌<◌, Bool, refl, arith}
use Rattle.moment_core.specs.Ranks.{count_below}

pub count-same : (f g : ℕ → Bool) (n : ℕ) → ((k : ℕ) → k < n → f k ≡ g k) → count_below f n
    ≡ count_below g n
unfolding count_below
count-same f g zero same = refl
count-same f g (suc n) same = rw (
  count-same f g n (λ k below. same k (omega arith)),
  same n
      (omega arith),
) refl
