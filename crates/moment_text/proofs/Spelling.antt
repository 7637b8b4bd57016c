-- Literals are read back from their bytes, and what is read is spelled by the bytes.
use Rattle.std.proofs.Common.{◌≡◌, ℕ, ◌+◌, ◌-◌, ◌*◌, ◌/◌, ◌%◌, ◌<◌, Bool, true, false, ◌&&◌, List, [], ◌∷◌, ◌++◌, Some, IfSome, refl, ap, ◌∙◌, append_assoc, arith, inl, inr}
use Rattle.std.specs.Prelude.{codes, ◌==◌, if◌then◌else◌}
use Rattle.std.specs.Char.{is_ascii_digit}
use Rattle.std.proofs.lemmas.Bool.{and_parts, cases_Bool, eqb-true}
use Rattle.moment_text.specs.declared.parts.Date.{Date}
use Rattle.moment_text.specs.declared.parts.Time.{Time}
use Rattle.moment_text.specs.declared.parts.Literal.{Literal}
use Rattle.moment_text.specs.Literal.{digits_of, date_text, time_text}
use Rattle.moment_text.specs.Parts.{text_of, FitsDigits, two_at, behind, past, date_at, time_at, unsigned_at, literal_at}
use Rattle.moment_text.proofs.Digits.{digit, digit-sign, digit_within}
use Rattle.moment_text.proofs.Options.{IfSome-then}

-- two digits are read
two_read : (m n : ℕ) (rest : List ℕ) → two_at ((48 + m % 10) ∷ (48 + n % 10) ∷ rest)
    ≡ Some (10 * (m % 10) + n % 10, rest)
two_read m n rest =
    let value : 10 * (48 + m % 10 - 48) + (48 + n % 10 - 48) ≡ 10 * (m % 10) + n % 10 =
    omega arith in
    rw (digit m, digit n, value) refl

two_spelled : (bytes : List ℕ) → IfSome (two_at bytes) (λ x. (bytes ≡ digits_of 2 x.0 ++ x.1)
    × (x.0 < 100))
two_spelled [] = tt
two_spelled (a ∷ []) = tt
two_spelled (a ∷ b ∷ rest) =
    elim (cases_Bool (is_ascii_digit a && is_ascii_digit b)) [
      | inl holds ↦ (
          let digits = and_parts (is_ascii_digit a) (is_ascii_digit b) holds in
          let high = digit_within a digits.0 in
          let low = digit_within b digits.1 in
          let first : 48 + (10 * (a - 48) + (b - 48)) / 10 % 10 ≡ a = omega arith in
          let second : 48 + (10 * (a - 48) + (b - 48)) % 10 ≡ b = omega arith in
          rw holds (rw (first, second) refl, omega arith))
      | inr fails ↦ rw fails tt
    ]

behind_spelled : (sign : ℕ) (bytes : List ℕ) → IfSome (behind sign bytes)
    (λ rest. bytes ≡ sign ∷ rest)
behind_spelled sign [] = tt
behind_spelled sign (b ∷ rest) =
    elim (cases_Bool (b == sign)) [
      | inl holds ↦ rw holds (ap (λ x. x ∷ rest) (eqb-true b sign holds))
      | inr fails ↦ rw fails tt
    ]

past_spelled : (sign : ℕ) (bytes : List ℕ) → bytes ≡ (if (past sign bytes).0 then sign ∷ [] else [])
    ++ (past sign bytes).1
past_spelled sign [] = refl
past_spelled sign (b ∷ rest) =
    elim (cases_Bool (b == sign)) [
      | inl holds ↦ rw holds (ap (λ x. x ∷ rest) (eqb-true b sign holds))
      | inr fails ↦ rw fails refl
    ]

date_read : (year month day : ℕ) (rest : List ℕ) → year < 10_000 → month < 100 → day < 100
    → date_at (date_text year month day ++ rest)
    ≡ Some (record { year = year; month = month; day = day }, rest)
unfolding date_at
date_read year month day rest hy hm hd =
    let y : 100 * (10 * (year / 10 / 10 / 10 % 10) + year / 10 / 10 % 10) +
    (10 * (year / 10 % 10) + year % 10) ≡ year = omega arith in
    let m : 10 * (month / 10 % 10) + month % 10 ≡ month = omega arith in
    let d : 10 * (day / 10 % 10) + day % 10 ≡ day = omega arith in
    simp two_read (rw (y, m, d) refl)

time_read : (hour minute second : ℕ) (rest : List ℕ) → hour < 100 → minute < 100 → second < 100
    → time_at (time_text hour minute second ++ rest)
    ≡ Some (record { hour = hour; minute = minute; second = second }, rest)
unfolding time_at
time_read hour minute second rest hh hm hs =
    let h : 10 * (hour / 10 % 10) + hour % 10 ≡ hour = omega arith in
    let m : 10 * (minute / 10 % 10) + minute % 10 ≡ minute = omega arith in
    let s : 10 * (second / 10 % 10) + second % 10 ≡ second = omega arith in
    simp two_read (rw (h, m, s) refl)

literal_read : (minus absolute : Bool) (date : Date) (time : Time)
    → FitsDigits (record { minus = minus; date = date; time = time; absolute = absolute })
    → literal_at (text_of (record { minus = minus; date = date; time = time; absolute = absolute }))
    ≡ Some (record { minus = minus; date = date; time = time; absolute = absolute }, [])
unfolding literal_at unsigned_at
literal_read true true date time fit =
    let d = date_read date.year date.month date.day (codes "T" ++ time_text time.hour time.minute
    time.second ++ codes "Z") fit.year fit.month fit.day in
    let t = time_read time.hour time.minute time.second (codes "Z") fit.hour fit.minute
    fit.second in
    rw (d, t) refl
literal_read true false date time fit =
    let d = date_read date.year date.month date.day (codes "T" ++ time_text time.hour time.minute
    time.second) fit.year fit.month fit.day in
    let t = time_read time.hour time.minute time.second [] fit.hour fit.minute fit.second in
    rw (d, t) refl
literal_read false true date time fit =
    let d = date_read date.year date.month date.day (codes "T" ++ time_text time.hour time.minute
    time.second ++ codes "Z") fit.year fit.month fit.day in
    let t = time_read time.hour time.minute time.second (codes "Z") fit.hour fit.minute
    fit.second in
    rw (digit-sign (date.year / 10 / 10 / 10), d, t) refl
literal_read false false date time fit =
    let d = date_read date.year date.month date.day (codes "T" ++ time_text time.hour time.minute
    time.second) fit.year fit.month fit.day in
    let t = time_read time.hour time.minute time.second [] fit.hour fit.minute fit.second in
    rw (digit-sign (date.year / 10 / 10 / 10), d, t) refl

-- a literal is read back from its text
pub text_read : (l : Literal) → FitsDigits l → literal_at (text_of l) ≡ Some (l, [])
text_read l fit = literal_read l.minus l.absolute l.date l.time fit

four_digits : (high low : ℕ) → high < 100 → low < 100 → digits_of 4 (100 * high + low)
    ≡ digits_of 2 high ++ digits_of 2 low
four_digits high low hh hl =
    let a : (100 * high + low) / 10 / 10 / 10 % 10 ≡ high / 10 % 10 = omega arith in
    let b : (100 * high + low) / 10 / 10 % 10 ≡ high % 10 = omega arith in
    let c : (100 * high + low) / 10 % 10 ≡ low / 10 % 10 = omega arith in
    let d : (100 * high + low) % 10 ≡ low % 10 = omega arith in
    rw (a, b, c, d) refl

date_spelled : (bytes : List ℕ) → IfSome (date_at bytes)
    (λ x. (bytes ≡ date_text x.0.year x.0.month x.0.day ++ x.1) × (x.0.year < 10_000)
    × (x.0.month < 100) × (x.0.day < 100))
unfolding date_at
date_spelled bytes =
    IfSome-then _ _ (two_at bytes) _ (two_spelled bytes) (λ high h.
    IfSome-then _ _ (two_at high.1) _ (two_spelled high.1) (λ low l.
    IfSome-then _ _ (behind 45 low.1) _ (behind_spelled 45 low.1) (λ months ms.
    IfSome-then _ _ (two_at months) _ (two_spelled months) (λ month m.
    IfSome-then _ _ (behind 45 month.1) _ (behind_spelled 45 month.1) (λ days ds.
    IfSome-then _ _ (two_at days) _ (two_spelled days) (λ day d.
    (let f = four_digits high.0 low.0 h.1 l.1 in cc, omega arith, m.1, d.1)))))))

time_spelled : (bytes : List ℕ) → IfSome (time_at bytes)
    (λ x. (bytes ≡ time_text x.0.hour x.0.minute x.0.second ++ x.1) × (x.0.hour < 100)
    × (x.0.minute < 100) × (x.0.second < 100))
unfolding time_at
time_spelled bytes =
    IfSome-then _ _ (two_at bytes) _ (two_spelled bytes) (λ hour h.
    IfSome-then _ _ (behind 58 hour.1) _ (behind_spelled 58 hour.1) (λ minutes ms.
    IfSome-then _ _ (two_at minutes) _ (two_spelled minutes) (λ minute m.
    IfSome-then _ _ (behind 58 minute.1) _ (behind_spelled 58 minute.1) (λ seconds ss.
    IfSome-then _ _ (two_at seconds) _ (two_spelled seconds) (λ second s.
    (cc, h.1, m.1, s.1))))))

joined : (a b c d e rest : List ℕ) → a ++ (b ++ (c ++ (d ++ (e ++ rest)))) ≡ (a ++ b ++ c ++ d ++ e)
    ++ rest
joined a b c d e rest = simp append_assoc

-- what is read is spelled by the bytes
pub text_spelled : (bytes : List ℕ) → IfSome (literal_at bytes) (λ x. (bytes ≡ text_of x.0 ++ x.1)
    × FitsDigits x.0)
unfolding literal_at unsigned_at
text_spelled bytes =
    let sign = past 45 bytes in
    IfSome-then _ _ (date_at sign.1) _ (date_spelled sign.1) (λ date d.
    IfSome-then _ _ (behind 84 date.1) _ (behind_spelled 84 date.1) (λ times ts.
    IfSome-then _ _ (time_at times) _ (time_spelled times) (λ time t.
    let zone = past 90 time.1 in
    let before = if sign.0 then 45 ∷ [] else [] in
    let day = date_text date.0.year date.0.month date.0.day in
    let clock = time_text time.0.hour time.0.minute time.0.second in (
      past_spelled 45 bytes
          ∙ ap (λ (s : List ℕ). before ++ s)
          (d.0 ∙ ap (λ (s : List ℕ). day ++ s)
          (ts ∙ ap (λ (s : List ℕ). 84 ∷ s)
          (t.0 ∙ ap (λ (s : List ℕ). clock ++ s) (past_spelled 90 time.1))))
          ∙ joined before day (84 ∷ []) clock (if zone.0 then 90 ∷ [] else []) zone.1,
      record { year = d.1; month = d.2; day = d.3; hour = t.1; minute = t.2; second = t.3 },
    ))))
