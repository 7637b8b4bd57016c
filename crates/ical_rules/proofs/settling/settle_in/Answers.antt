use Rattle.std.proofs.Common.{sym}
use Rattle.ical_rules.proofs.RuleLemmas.{positive_count, settling-counted, settling-open}
use Rattle.ical_rules.proofs.settling.settle_in.Goals as goal

pub search-requires-clause-count : goal.search-requires-clause-count
search-requires-clause-count c = positive_count c.rule_laws.ensures.ical_values c.args.rule.now _
    (sym c.in-Some.ensures) c.requires.checked

pub returns-in-None : goal.returns-in-None
returns-in-None c = settling-open c.args.rule.now c.args.budget (sym c.in-None.ensures)

pub returns-in-Some : goal.returns-in-Some
returns-in-Some c =
    settling-counted c.args.rule.now _ c.args.budget _ _ c.search.result (sym c.in-Some.ensures)
    c.requires.start c.requires.leaf c.search.ensures
