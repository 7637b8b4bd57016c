-- A bit that is set.
use Rattle.std.proofs.Common.{◌≡◌, ℕ, ◌*◌, ◌<◌, true, ◌==◌, List, length, refl, ◌∙◌, arith}
use Rattle.std.proofs.lemmas.Bool.Decides.{nat_tests}
use Rattle.std.proofs.lemmas.Bool.{or_right}
use Rattle.sieve_core.specs.Bits.{has_bit, with_bit}
use Rattle.sieve_core.specs.Laws.{SettingKeepsOthers}

pub bit_set_here : SettingKeepsOthers → (words : List ℕ) (i : ℕ) → i < 64 * length words
    → has_bit (with_bit words i) i ≡ true
bit_set_here set words i fits =
    let same : (i == i) ≡ true = grind (arith, nat_tests) in
    set words i i fits ∙ rw same (or_right (has_bit words i) true refl)
