use Rattle.std.proofs.Common.{◌≡◌, ℤ, None, ap, refl, ◌∙◌}
use Rattle.std.specs.Prelude.{int_le}
use Rattle.moment_core.specs.declared.line.Moment.{Moment}
use Rattle.ical_rules.specs.Rules.{last_counted, without_count}
use Rattle.rule_core.specs.declared.ical.IcalRule.{IcalRule}
use Rattle.ical_rules.specs.declared.outcome.Settled.TheVariants.{Open}
use Rattle.ical_rules.proofs.Meanings.{candidates-all_same, leaf-counted, members-same}
use Rattle.ical_rules.proofs.RuleLemmas.{uncounted_from}
use Rattle.ical_rules.proofs.settling.uncounted.Goals as goal

none_last : (r : IcalRule) → last_counted (without_count r) ≡ None
unfolding last_counted
none_last r = refl

pub new-requires-clause-counted : goal.new-requires-clause-counted
new-requires-clause-counted c =
    let s = c.sieve_of-sieve in
    let r = c.args.rule.now in
    leaf-counted c.lowering_laws.ensures.members c.lowering_laws.ensures.tests r None Open s.result
    s.ensures.rule c.requires.start (λ n e. absurd cc) (none_last r)
    (λ t. ap (λ (m : Moment). int_le t m.0) s.ensures.last ∙ c.last_of.ensures t) s.ensures.sieve

pub returns : goal.returns
returns c =
    let s = c.sieve_of-sieve in
    let r = c.args.rule.now in
    let ends = λ (t : ℤ). ap (λ (m : Moment). int_le t m.0) s.ensures.last ∙ c.last_of.ensures t in
    uncounted_from r c.new.result s.result c.new.ensures.sieve c.new.ensures.until
    c.new.ensures.count
    (members-same c.lowering_laws.ensures.members c.lowering_laws.ensures.tests r None Open s.result
    s.ensures.rule c.requires.start (λ n e. absurd cc) (none_last r) ends)
    (candidates-all_same c.lowering_laws.ensures.members c.lowering_laws.ensures.tests r None Open
    s.result s.ensures.rule c.requires.start (λ n e. absurd cc) (none_last r) ends)
