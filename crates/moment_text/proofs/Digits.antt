-- Decimal digits as bytes.
use Rattle.std.proofs.Common.{◌≡◌, ℕ, ◌+◌, ◌%◌, ◌≤◌, true, false, arith}
use Rattle.std.specs.Prelude.{◌==◌}
use Rattle.std.specs.Char.{is_ascii_digit}
use Rattle.std.proofs.lemmas.Bool.{and_parts, leb-true}
use Rattle.std.proofs.lemmas.Bool.Decides.{nat_tests}

pub digit : (n : ℕ) → is_ascii_digit (48 + n % 10) ≡ true
digit n = grind (arith, nat_tests)

-- a digit is no sign
pub digit-sign : (n : ℕ) → (48 + n % 10 == 45) ≡ false
digit-sign n = grind (arith, nat_tests)

pub digit_within : (b : ℕ) → is_ascii_digit b ≡ true → (48 ≤ b) × (b ≤ 57)
digit_within b h = let p = and_parts _ _ h in (leb-true 48 b p.0, leb-true b 57 p.1)
