-- The search through the calendar range finds the moment that a literal names.
use Rattle.std.proofs.Common.{◌≡◌, ℕ, zero, suc, ◌<◌, ◌≤◌, ◌⊎◌, inl, inr, ℤ, pos, ◌+ℤ◌, ◌-ℤ◌, Bool, true, false, cond, List, ◌∷◌, take, drop, Some, None, Option, refl, sym, ap, subst, ◌∙◌, arith}
use Rattle.std.specs.Prelude.{find, IfSome, unsigned_abs, nat_lt}
use Rattle.std.specs.Bool.{Decides}
use Rattle.std.proofs.lemmas.Bool.Decides.{nat_tests}
use Rattle.std.proofs.lemmas.Slice.Eq.{bytes_eq-Decides}
use Rattle.std.proofs.lemmas.Int.{ints}
use Rattle.std.proofs.lemmas.Bool.{cases_lt}
use Rattle.moment_core.specs.Line.{IsCalendarMoment}
use Rattle.moment_core.specs.declared.line.Stamp.{Stamp}
use Rattle.moment_core.specs.declared.line.TheConstants.{LOW, WIDTH}
use Rattle.moment_text.specs.Laws.{LiteralsTellMomentsApart}
use Rattle.moment_text.specs.Literal.{IsStamp, Names, literal_of, shaped_front}
use Rattle.moment_core.proofs.LineLaws.{calendar_from_low, calendar_works}
use Rattle.expr_tokens.specs.Laws.{stamp}
use Rattle.expr_tokens.specs.Plain.{Moment}
use Rattle.expr_tokens.specs.Reading.{figures_at}
use Rattle.expr_tokens.specs.Stamps.{stamp_after, stamps, is_literal, stamp_of}

-- a moment of the calendar range, as seconds from its beginning

after_low : (t : ℤ) → IsCalendarMoment t → (n : ℕ) × (n < WIDTH) × (t ≡ LOW +ℤ pos n)
after_low t within = (
  unsigned_abs (t -ℤ LOW),
  grind (arith, ints, within.0, within.1),
  grind
      (arith, ints, within.0, within.1),
)

-- what a search finds

decides : (text : List ℕ) (s : Stamp) → Decides (is_literal text s)
    (text ≡ literal_of s.moment.0 s.absolute)
decides text s = bytes_eq-Decides text (literal_of s.moment.0 s.absolute)

passes : (text : List ℕ) (s : Stamp) → text ≡ literal_of s.moment.0 s.absolute → is_literal text s
    ≡ true
passes text s is = (decides text s).1 is

found_first : (b : Bool) (x s : Stamp) (others : Option Stamp) → cond b (Some x) others ≡ Some s
    → ((b ≡ true) × (x ≡ s)) ⊎ (others ≡ Some s)
found_first true x s others e = inl (refl, cc)
found_first false x s others e = inr e

module _ (text : List ℕ) where
  named_after : (n : ℕ) (absolute : Bool) → n < WIDTH → is_literal text (stamp_after n absolute)
      ≡ true → IsStamp text (stamp_after n absolute)
  named_after n absolute lt pass = record {
    is_literal = (decides text (stamp_after n absolute)).0
        pass;
    in_range = calendar_from_low n lt;
  }

  true_false : true ≡ false → ⊥
  true_false e = absurd cc

  -- what is found has the literal
  found_is_named : (n : ℕ) (s : Stamp) → n ≤ WIDTH → find (is_literal text) (stamps n) ≡ Some s
      → IsStamp text s
  unfolding stamps
  found_is_named zero s le found = absurd cc
  found_is_named (suc n) s le found =
      elim (found_first (is_literal text (stamp_after n false)) (stamp_after n false) s
      (find (is_literal text) (stamp_after n true ∷ stamps n)) found) [
        | inl w ↦ subst (IsStamp text) w.1 (named_after n false (omega arith) w.0)
        | inr more ↦ elim (found_first (is_literal text (stamp_after n true)) (stamp_after n true) s
            (find (is_literal text) (stamps n)) more) [
              | inl w ↦ subst (IsStamp text) w.1 (named_after n true (omega arith) w.0)
              | inr more ↦ found_is_named n s (omega arith) more
            ]
      ]

  below : (n k : ℕ) (absolute : Bool) → k < suc n → is_literal text (stamp_after k absolute) ≡ true
      → is_literal text (stamp_after n false) ≡ false → is_literal text (stamp_after n true) ≡ false
      → k < n
  below n k absolute lt pass not_floating not_absolute =
      let same : k ≡ n → ⊥ =
      λ e. elim absolute as (λ (b : Bool). is_literal text (stamp_after k b) ≡ true → ⊥) [
        | true ↦ λ h. absurd
            (true_false (sym h ∙ ap (λ (m : ℕ). is_literal text (stamp_after m true)) e
            ∙ not_absolute))
        | false ↦ λ h. absurd
            (true_false (sym h ∙ ap (λ (m : ℕ). is_literal text (stamp_after m false)) e
            ∙ not_floating))
      ] pass in
      elim (cases_lt k n) [ inl lt ↦ lt | inr le ↦ absurd (same (omega (arith, le, lt))) ]

  -- where a moment has the literal, one is found
  found_some : (n k : ℕ) (absolute : Bool) → k < n → is_literal text (stamp_after k absolute) ≡ true
      → (s : Stamp) × (find (is_literal text) (stamps n) ≡ Some s)
  unfolding stamps
  found_some zero k absolute lt pass = absurd (omega arith)
  found_some (suc n) k absolute lt pass =
      let here : (b : Bool) (x : Stamp) (others : Option Stamp)
      → (b ≡ false → (s : Stamp) × (others ≡ Some s)) → (s : Stamp)
      × (cond b (Some x) others ≡ Some s) =
      λ b x others more. elim b as (λ (v : Bool). (v ≡ false → (s : Stamp) × (others ≡ Some s))
      → (s : Stamp) × (cond v (Some x) others ≡ Some s))
      [ true ↦ λ _. (x, refl) | false ↦ λ more. more refl ] more in
      here (is_literal text (stamp_after n false)) (stamp_after n false)
      (find (is_literal text) (stamp_after n true ∷ stamps n)) (λ not_floating.
      here (is_literal text (stamp_after n true)) (stamp_after n true)
      (find (is_literal text) (stamps n)) (λ not_absolute.
      found_some n k absolute (below n k absolute lt pass not_floating not_absolute) pass))

  some_stamp : (s : Stamp) → IsStamp text s → (found : Stamp) × (stamp_of text ≡ Some found)
  unfolding stamp_of
  some_stamp s named =
      let k = after_low s.moment.0 named.in_range in
      found_some WIDTH k.0 s.absolute k.1 (passes text (stamp_after k.0 s.absolute)
      (subst (λ (t : ℤ). text ≡ literal_of t s.absolute) k.2 named.is_literal))

  stamp_named : (s : Stamp) → stamp_of text ≡ Some s → IsStamp text s
  unfolding stamp_of
  stamp_named s found = found_is_named WIDTH s (omega arith) found

  -- what reads the literal of a moment of the calendar range, and gives nothing where there is none
  pub stamp_read : (r : Option Stamp) → IfSome r (λ s. Names text s.moment.0 s.absolute)
      → ((s : Stamp) → Names text s.moment.0 s.absolute → r ≡ Some s) → r ≡ stamp_of text
  stamp_read None named found =
      let P : Option Stamp → Type 0 = λ o. stamp_of text ≡ o → None ≡ stamp_of text in
      let go : (o : Option Stamp) → P o =
      λ o. elim o as P [ None ↦ λ e. sym e | Some s ↦ λ e. found s (stamp_named s e) ∙ sym e ] in
      go (stamp_of text) refl
  stamp_read (Some s) named found =
      let other = some_stamp s named in
      found other.0 (stamp_named other.0 other.1) ∙ sym other.1

stamp_same : (s : Stamp) (t : ℤ) (absolute : Bool) → t ≡ s.moment.0 → absolute ≡ s.absolute → s
    ≡ stamp t absolute
stamp_same s t absolute same also = ap (λ (x : ℤ). stamp x s.absolute) (sym same)
    ∙ ap (stamp t) (sym also)

-- a literal has the moment that was written
pub stamp_of-literal : (apart : LiteralsTellMomentsApart) (t : ℤ) (absolute : Bool)
    → IsCalendarMoment t → stamp_of (literal_of t absolute) ≡ Some (stamp t absolute)
stamp_of-literal apart t absolute within =
    let other = some_stamp (literal_of t absolute) (stamp t absolute)
    (record { is_literal = refl; in_range = within }) in
    let named = stamp_named (literal_of t absolute) other.0 other.1 in
    let same = apart t other.0.moment.0 absolute other.0.absolute (calendar_works t within)
    (calendar_works other.0.moment.0 named.in_range) named.is_literal in
    other.1 ∙ ap (λ (s : Stamp). Some s) (stamp_same other.0 t absolute same.0 same.1)

pub moment_there : (bytes : List ℕ) → 0 < shaped_front bytes → figures_at bytes
    ≡ Some (Moment (stamp_of (take (shaped_front bytes) bytes)), drop (shaped_front bytes) bytes)
unfolding figures_at
moment_there bytes some = let test : nat_lt 0 (shaped_front bytes) ≡ true =
    grind (arith, nat_tests) in rw test refl
