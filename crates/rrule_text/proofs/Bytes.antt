-- The bytes of pieces: capitals leave them as they are, and no semicolon is among them.
use Rattle.std.proofs.Common.{◌≡◌, ℕ, Bool, true, ◌||◌, ◌==◌, List, [], ◌∷◌, map, refl, arith}
use Rattle.std.specs.Char.{to_ascii_uppercase}
use Rattle.std.specs.List.{list_all}
use Rattle.std.proofs.lemmas.Bool.{and_parts}
use Rattle.std.proofs.lemmas.Bool.Decides.{nat_tests}
use Rattle.moment_core.proofs.Lists.{all_weaker}
use Rattle.rrule_values.specs.Laws.{is_value_byte}
use Rattle.rrule_values.specs.Splitting.{is_other}
use Rattle.rrule_text.specs.Laws.{is_plain}

-- a byte of a name or of a value, or the `=` between them
abbrev pub spoken : ℕ → Bool
spoken b = is_value_byte b || (b == 61)

pub value_spoken : (x : List ℕ) → list_all is_value_byte x ≡ true → list_all spoken x ≡ true
value_spoken x each = all_weaker is_value_byte spoken one x each
  where
    one : (b : ℕ) → is_value_byte b ≡ true → spoken b ≡ true
    one b h = grind (arith, nat_tests)

pub spoken_lacks : (x : List ℕ) → list_all spoken x ≡ true → list_all (is_other 59) x ≡ true
spoken_lacks x each = all_weaker spoken (is_other 59) one x each
  where
    one : (b : ℕ) → spoken b ≡ true → is_other 59 b ≡ true
    one b h = grind (arith, nat_tests)

pub spoken_plain : (x : List ℕ) → list_all spoken x ≡ true → list_all is_plain x ≡ true
spoken_plain x each = all_weaker spoken is_plain one x each
  where
    one : (b : ℕ) → spoken b ≡ true → is_plain b ≡ true
    one b h = grind (arith, nat_tests)

pub spoken_upper : (x : List ℕ) → list_all spoken x ≡ true → map to_ascii_uppercase x ≡ x
spoken_upper [] each = refl
spoken_upper (b ∷ x) each =
    let parts = and_parts (spoken b) (list_all spoken x) each in
    rw (one b parts.0, spoken_upper x parts.1) refl
  where
    one : (b : ℕ) → spoken b ≡ true → to_ascii_uppercase b ≡ b
    one b h = grind (arith, nat_tests)
