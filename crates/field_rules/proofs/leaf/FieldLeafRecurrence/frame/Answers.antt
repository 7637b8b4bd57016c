use Rattle.std.proofs.Common.{◌∙◌, ◌≡◌, ap, arith}
use Rattle.frame_core.specs.Periods.{period_of_rule}
use Rattle.moment_core.specs.Units.{units_of}
use Rattle.field_rules.proofs.RuleLaws.{in_width-is, period-positive, rule-repeats}
use Rattle.field_rules.proofs.leaf.FieldLeafRecurrence.frame.Goals as goal

pub returns-in-Some-clause-period : goal.returns-in-Some-clause-period
returns-in-Some-clause-period c =
    let s = c.args.self.now.sieve in
    let is = in_width-is (period_of_rule c.in_cycle.result s.interval) c.in-Some.period
    c.in-Some.ensures in
    let whole : c.in-Some.period ≡ period_of_rule (units_of s.unit) s.interval = is.0
    ∙ ap (λ n. period_of_rule n s.interval) c.in_cycle.ensures.value in
    (omega (arith, whole, period-positive c.period_laws.ensures.rule s c.args.self.now.whole), is.1)

pub returns-in-Some-clause-repeats : goal.returns-in-Some-clause-repeats
returns-in-Some-clause-repeats c =
    let s = c.args.self.now.sieve in
    let is = in_width-is (period_of_rule c.in_cycle.result s.interval) c.in-Some.period
    c.in-Some.ensures in
    rule-repeats c.period_laws.ensures.rule c.sieve_laws.ensures.repeats s _ c.args.self.now.whole
    (is.0 ∙ ap (λ n. period_of_rule n s.interval) c.in_cycle.ensures.value)
