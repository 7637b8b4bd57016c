use Rattle.std.proofs.Common.{ap, sym, subst, ◌∙◌, arith, Bool, Option, ℤ, int_le}
use Rattle.std.proofs.lemmas.Int.{ints}
use Rattle.frame_core.specs.declared.frames.Frame.{Frame}
use Rattle.moment_core.specs.declared.line.Moment.{Moment}
use Rattle.rule_core.specs.IcalMembers.{has_ical}
use Rattle.ical_rules.specs.Leaves.{IsFramed}
use Rattle.ical_rules.specs.Rules.{with_count}
use Rattle.ical_rules.proofs.Checks.{interval_is, until_is}
use Rattle.ical_rules.proofs.Meanings.{candidates-all_same, leaf-counted, leaf-means, members-same}
use Rattle.ical_rules.proofs.Repeating.{framed-is}
use Rattle.ical_rules.proofs.lowering.lower.Goals as goal

pub guarded-requires-clause-counted : goal.guarded-requires-clause-counted
guarded-requires-clause-counted c =
    let s = c.sieve_of-sieve in
    leaf-counted c.lowering_laws.ensures.members c.lowering_laws.ensures.tests c.args.rule.now
    c.args.count c.args.settled s.result s.ensures.rule c.requires.start c.requires.count
    c.requires.settled
    (λ t. ap (λ (m : Moment). int_le t m.0) s.ensures.last ∙ c.last_of.ensures t) s.ensures.sieve

pub guarded-requires-clause-framed : goal.guarded-requires-clause-framed
guarded-requires-clause-framed c =
    let s = c.sieve_of-sieve in
    let laws = c.rule_laws.ensures in
    let r = c.args.rule.now in
    let rule = with_count c.args.count r in
    let P : (ℤ → Bool) → Type 0 = λ f. IsFramed f c.frame_of.result in
    let Q : Option Frame → Type 0 = λ o. IsFramed (has_ical rule) o in
    let members = members-same c.lowering_laws.ensures.members c.lowering_laws.ensures.tests r
    c.args.count c.args.settled s.result s.ensures.rule c.requires.start c.requires.count
    c.requires.settled
    (λ t. ap (λ (m : Moment). int_le t m.0) s.ensures.last ∙ c.last_of.ensures t) in
    let least = (interval_is r.interval (laws.ical_interval r c.requires.checked)).0 in
    let framed = framed-is c.period_laws.ensures.rule laws.ical_repeats rule c.requires.start
    (omega (arith, ints, least)) (until_is laws.ical_values r c.requires.checked laws.until) in
    subst P (sym members) (subst Q (sym c.frame_of.ensures) framed)

pub returns : goal.returns
returns c =
    let s = c.sieve_of-sieve in
    let r = c.args.rule.now in
    let ends = λ (t : ℤ). ap (λ (m : Moment). int_le t m.0) s.ensures.last ∙ c.last_of.ensures t in
    leaf-means (with_count c.args.count r) c.guarded.result s.result r.until c.args.count
    c.frame_of.result
    c.guarded.ensures.sieve c.guarded.ensures.until c.guarded.ensures.count c.guarded.ensures.frame
    (members-same c.lowering_laws.ensures.members c.lowering_laws.ensures.tests r c.args.count
    c.args.settled s.result s.ensures.rule c.requires.start c.requires.count c.requires.settled
    ends)
    (candidates-all_same c.lowering_laws.ensures.members c.lowering_laws.ensures.tests r
    c.args.count c.args.settled s.result s.ensures.rule c.requires.start c.requires.count
    c.requires.settled ends)
    c.frame_of.ensures
