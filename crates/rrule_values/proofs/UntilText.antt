-- What is written of UNTIL is read back.
use Rattle.std.proofs.Common.{◌≡◌, ℕ, ◌+◌, ◌/◌, ◌%◌, ◌<◌, ◌≤◌, Bool, true, false, ◌==◌, List, [], ◌∷◌, ◌++◌, refl, ◌∙◌, arith, append_assoc}
use Rattle.std.specs.Char.{digit_value, is_ascii_digit}
use Rattle.std.specs.List.{list_all}
use Rattle.std.specs.Str.Parse.{digits_value}
use Rattle.std.proofs.lemmas.Bool.Decides.{nat_tests}
use Rattle.std.proofs.lemmas.Str.{digit_value_digit}
use Rattle.std.proofs.lemmas.List.Folds.{list_all-append}
use Rattle.rrule_values.specs.Laws.{is_value_byte}
use Rattle.rrule_values.specs.Until.{ends_with_z, fields_text, is_date, is_date_time, is_until_text, named, named_by, two_digits, until_at, without_z}

digit : (k : ℕ) → k < 10 → is_ascii_digit (48 + k) ≡ true
digit k lt = grind (arith, nat_tests)

not_z : (k : ℕ) → k < 10 → (48 + k == 90) ≡ false
not_z k lt = grind (arith, nat_tests)

digit_plain : (k : ℕ) → k < 10 → is_value_byte (48 + k) ≡ true
digit_plain k lt = grind (arith, nat_tests)

worth : (k : ℕ) → k < 10 → digit_value (48 + k) ≡ k
worth k lt = omega (arith, digit_value_digit (48 + k) (omega arith, omega arith))

-- the number of two digits, and of four
two : (n : ℕ) → n < 100 → digits_value 10 (two_digits n) ≡ n
two n lt = omega (arith, worth (n / 10) (omega arith), worth (n % 10) (omega arith))

four : (n : ℕ) → n ≤ 9999 → digits_value 10 (two_digits (n / 100) ++ two_digits (n % 100)) ≡ n
four n le =
    omega (
      arith,
      worth (n / 100 / 10) (omega arith),
      worth (n / 100 % 10) (omega arith),
      worth
          (n % 100 / 10) (omega arith),
      worth (n % 100 % 10) (omega arith),
    )

module _ (y m d h n s : ℕ) (years : y ≤ 9999) (months : m < 100) (days : d < 100) (hours : h < 100)
    (minutes : n < 100) (seconds : s < 100) where
  abbrev bare : List ℕ
  bare = fields_text false y m d h n s

  z-of_bare : ends_with_z bare ≡ false
  unfolding ends_with_z
  z-of_bare = rw (not_z (s % 10) (omega arith)) refl

  z-of_text : ends_with_z (fields_text true y m d h n s) ≡ true
  unfolding ends_with_z
  z-of_text = refl

  without_z-bare : without_z bare ≡ bare
  unfolding without_z
  without_z-bare = rw z-of_bare refl

  without_z-text : without_z (fields_text true y m d h n s) ≡ bare
  unfolding without_z
  without_z-text = rw z-of_text refl

  date_time : is_date_time bare ≡ true
  unfolding is_date_time
  date_time =
      rw (
        digit (y / 100 / 10) (omega arith),
        digit (y / 100 % 10) (omega arith),
        digit (y % 100 / 10) (omega arith),
        digit (y % 100 % 10) (omega arith),
        digit (m / 10) (omega arith),
        digit (m % 10) (omega arith),
        digit (d / 10) (omega arith),
        digit (d % 10) (omega arith),
        digit (h / 10) (omega arith),
        digit (h % 10) (omega arith),
        digit (n / 10) (omega arith),
        digit (n % 10) (omega arith),
        digit (s / 10) (omega arith),
        digit (s % 10) (omega arith),
      ) refl

  form-bare : is_until_text bare ≡ true
  unfolding is_until_text is_date
  form-bare = rw (without_z-bare, date_time) refl

  form-text : is_until_text (fields_text true y m d h n s) ≡ true
  unfolding is_until_text is_date
  form-text = rw (without_z-text, date_time) refl

  moment : named_by (two_digits (y / 100) ++ two_digits (y % 100) ++ two_digits m ++ two_digits d)
      (two_digits h ++ two_digits n ++ two_digits s) ≡ named y m d h n s
  unfolding named_by
  moment = rw (four y years, two m months, two d days, two h hours, two n minutes, two s seconds)
      refl

  at-bare : until_at bare ≡ named y m d h n s
  unfolding until_at is_date
  at-bare = rw (without_z-bare, date_time) moment

  at-text : until_at (fields_text true y m d h n s) ≡ named y m d h n s
  unfolding until_at is_date
  at-text = rw (without_z-text, date_time) moment

  plain-bare : list_all is_value_byte bare ≡ true
  plain-bare =
      rw (
        digit_plain (y / 100 / 10) (omega arith),
        digit_plain (y / 100 % 10) (omega arith),
        digit_plain (y % 100 / 10) (omega arith),
        digit_plain (y % 100 % 10) (omega arith),
        digit_plain (m / 10) (omega arith),
        digit_plain (m % 10) (omega arith),
        digit_plain (d / 10) (omega arith),
        digit_plain (d % 10) (omega arith),
        digit_plain (h / 10) (omega arith),
        digit_plain (h % 10) (omega arith),
        digit_plain (n / 10) (omega arith),
        digit_plain (n % 10) (omega arith),
        digit_plain (s / 10) (omega arith),
        digit_plain (s % 10) (omega arith),
      ) refl

  plain-text : list_all is_value_byte (fields_text true y m d h n s) ≡ true
  plain-text =
      list_all-append is_value_byte bare (90 ∷ []) ∙ rw plain-bare refl

  -- what is written, with a Z or without, is of the form, and says the moment and the Z
  pub record IsRead (z : Bool) : Type 0 where
    pub form : is_until_text (fields_text z y m d h n s) ≡ true
    pub plain : list_all is_value_byte (fields_text z y m d h n s) ≡ true
    pub at : until_at (fields_text z y m d h n s) ≡ named y m d h n s
    pub zone : ends_with_z (fields_text z y m d h n s) ≡ z

  pub is_read : (z : Bool) → IsRead z
  is_read true = record { form = form-text; plain = plain-text; at = at-text; zone = z-of_text }
  is_read false = record { form = form-bare; plain = plain-bare; at = at-bare; zone = z-of_bare }

-- pieces put one behind the other
pub eight_put : (o0 o1 o2 o3 o4 o5 o6 o7 o8 a1 a2 a3 a4 a5 a6 a7 a8 : List ℕ)
    → o1 ≡ o0 ++ a1 → o2 ≡ o1 ++ a2 → o3 ≡ o2 ++ a3 → o4 ≡ o3 ++ a4 → o5 ≡ o4 ++ a5 → o6 ≡ o5 ++ a6
    → o7 ≡ o6 ++ a7 → o8 ≡ o7 ++ a8
    → o8 ≡ o0 ++ (a1 ++ (a2 ++ (a3 ++ (a4 ++ (a5 ++ (a6 ++ (a7 ++ a8)))))))
eight_put o0 o1 o2 o3 o4 o5 o6 o7 o8 a1 a2 a3 a4 a5 a6 a7 a8 e1 e2 e3 e4 e5 e6 e7 e8 =
    e8 ∙ rw (e7, e6, e5, e4, e3, e2, e1) (simp append_assoc)
