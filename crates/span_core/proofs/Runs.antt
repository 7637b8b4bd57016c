-- Runs and their bounds.
use Rattle.std.proofs.Common.{◌≡◌, ◌↔◌, refl, sym, ◌∙◌, arith, ℤ, pos, ◌+ℤ◌, ◌≤ℤ◌, true, false, ◌&&◌, int_le, if◌then◌else◌}
use Rattle.std.proofs.lemmas.Bool.{and_parts, and_from}
use Rattle.std.proofs.lemmas.Int.{ints}
use Rattle.moment_core.specs.Line.{is_moment, moment_of, position_of}
use Rattle.span_core.specs.Bounds.{ends_after, high_bound, lies_between, low_bound, reaches}
use Rattle.span_core.specs.declared.bounds.Bound.TheVariants.{Closed, Open}
use Rattle.moment_core.proofs.LineLaws.{at_moment, at_open_second}
use Rattle.moment_core.proofs.Comparing.{int_le-below, int_le-true, le-int_le}

-- a run's lower bound reaches the positions from its first one on, and its upper bound ends after
-- the last one
pub reaches-low_bound : (first p : ℤ) → reaches (low_bound first) p ≡ int_le first p
reaches-low_bound first p = elim (is_moment first) as (λ b. is_moment first ≡ b
    → reaches (if b then Closed (record { 0 = moment_of first }) else Open
    (record { 0 = moment_of first })) p ≡ int_le first p) [
      | true ↦ λ e. rw (at_moment first e) refl
      | false ↦ λ e. rw (at_open_second first e) refl
    ] refl

pub ends_after-high_bound : (last p : ℤ) → ends_after (high_bound last) p ≡ int_le p last
ends_after-high_bound last p = elim (is_moment last) as (λ b. is_moment last ≡ b
    → ends_after (if b then Closed (record { 0 = moment_of last }) else Open
    (record { 0 = moment_of last +ℤ pos 1 })) p ≡ int_le p last) [
      | true ↦ λ e. rw (at_moment last e) refl
      | false ↦ λ e.
          let whole : position_of (moment_of last) +ℤ pos 1 ≡ last = at_open_second last e in
          int_le-below p last (position_of (moment_of last +ℤ pos 1)) (omega (arith, ints))
    ] refl

pub lies_between-run : (first last p : ℤ) → lies_between (low_bound first) (high_bound last) p
    ≡ (int_le first p && int_le p last)
lies_between-run first last p = rw (reaches-low_bound first p, ends_after-high_bound last p) refl

pub in_run : (first last p : ℤ) → (lies_between (low_bound first) (high_bound last) p ≡ true)
    ↔ ((first ≤ℤ p) × (p ≤ℤ last))
in_run first last p = (
  λ e.
      let parts = and_parts (int_le first p) (int_le p last) (sym (lies_between-run first last p)
      ∙ e) in
      (int_le-true first p parts.0, int_le-true p last parts.1),
  λ h. lies_between-run first last p ∙ and_from (int_le first p) (int_le p last)
      (le-int_le first p h.0) (le-int_le p last h.1),
)
