use Rattle.rrule_values.proofs.Splitting.{joined_cut}
use Rattle.rrule_values.proofs.Values.{items_ordered, items_weekdays, names_weekdays, numbers_ordered, values_back}
use Rattle.rrule_values.proofs.laws.value_laws.Goals as goal

pub returns-clause-back : goal.returns-clause-back
returns-clause-back c = values_back c.rule_laws.ensures.until

pub returns-clause-numbers_ordered : goal.returns-clause-numbers_ordered
returns-clause-numbers_ordered c = numbers_ordered

pub returns-clause-items_ordered : goal.returns-clause-items_ordered
returns-clause-items_ordered c = items_ordered

pub returns-clause-item_days : goal.returns-clause-item_days
returns-clause-item_days c = items_weekdays

pub returns-clause-named_days : goal.returns-clause-named_days
returns-clause-named_days c = names_weekdays

pub returns-clause-cut : goal.returns-clause-cut
returns-clause-cut c = joined_cut
