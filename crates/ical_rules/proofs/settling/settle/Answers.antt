use Rattle.ical_rules.proofs.RuleLemmas.{lies_beyond, settles}
use Rattle.ical_rules.proofs.settling.settle.Goals as goal

pub returns-clause-settled : goal.returns-clause-settled
returns-clause-settled c =
    settles c.rule_laws.ensures.ical_values c.args.rule.now c.args.budget c.settle_in.result
    c.requires.checked c.requires.start c.settle_in.ensures

pub returns-clause-beyond : goal.returns-clause-beyond
returns-clause-beyond c = lies_beyond c.args.rule.now c.args.budget c.settle_in.result
    c.requires.start c.settle_in.ensures
