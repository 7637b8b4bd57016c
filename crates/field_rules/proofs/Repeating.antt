-- A field rule without a fault repeats by its frame.
use Rattle.std.proofs.Common.{◌≡◌, ℕ, ◌≤ℤ◌, true, ap, ◌∙◌, arith, ℤ, pos, ◌+ℤ◌, unsigned_abs, Option, Some, None, refl, ◌≤◌}
use Rattle.std.proofs.lemmas.Bool.{and_parts}
use Rattle.std.proofs.lemmas.Int.{ints}
use Rattle.std.specs.Prelude.{int_le}
use Rattle.frame_core.specs.Frames.{HasPeriod, RepeatsIfFramed}
use Rattle.frame_core.specs.Laws.{RulesComeRound}
use Rattle.frame_core.specs.Periods.{in_width, period_of_rule}
use Rattle.moment_core.specs.Sets.{moments_in}
use Rattle.moment_core.specs.Units.{units_of}
use Rattle.rule_core.specs.FieldChecks.{is_interval}
use Rattle.rule_core.specs.FieldMembers.{field_unit, has_field}
use Rattle.rule_core.specs.Laws.{FieldIntervalFits, FieldRulesRepeat}
use Rattle.field_rules.specs.Laws.{CheckedRulesRepeat}
use Rattle.field_rules.specs.Leaves.{framed_everywhere}
use Rattle.field_rules.proofs.RuleLaws.{in_width-is, repeats-by}

-- an interval is at least 1
interval-positive : (n : ℤ) → is_interval n ≡ true → 1 ≤ unsigned_abs n
interval-positive n e =
    let low = (and_parts (int_le (pos 1) n) (int_le n (pos 1_000_000_000)) e).0 in
    let least : pos 1 ≤ℤ n = grind (arith, ints) in
    omega (arith, ints, least)

pub checked_rules_repeat : RulesComeRound → FieldRulesRepeat → FieldIntervalFits
    → CheckedRulesRepeat
checked_rules_repeat round repeats interval r ok = by_period (in_width (period_of_rule n k)) refl
  where
    n : ℕ
    n = units_of (field_unit r)

    k : ℕ
    k = unsigned_abs r.interval

    some : 1 ≤ k
    some = interval-positive r.interval (interval r ok)

    period-later : (t : ℤ) → has_field r (t +ℤ pos (period_of_rule n k)) ≡ has_field r t
    period-later t =
        let (m, j, period, whole) = (round n k some).1 in
        ap (λ p. has_field r (t +ℤ pos p)) period ∙ repeats r t m j some whole

    by_period : (o : Option ℕ) → o ≡ in_width (period_of_rule n k) → HasPeriod (framed_everywhere o)
        × RepeatsIfFramed (moments_in (has_field r)) (framed_everywhere o)
    by_period None e = (tt, tt)
    by_period (Some p) e =
        let is = in_width-is (period_of_rule n k) p e in (
          (omega (arith, is.0, (round n k some).0), is.1),
          repeats-by (has_field r) _ (λ t. ap (λ x. has_field r (t +ℤ pos x)) is.0
              ∙ period-later t),
        )
