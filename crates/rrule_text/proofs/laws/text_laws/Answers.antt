use Rattle.rrule_text.proofs.ReadBack.{read_back, written_plain}
use Rattle.rrule_text.proofs.Writable.{writable}
use Rattle.rrule_text.proofs.laws.text_laws.Goals as goal

pub returns-clause-writable : goal.returns-clause-writable
returns-clause-writable c =
    writable c.value_laws.ensures.numbers_ordered c.value_laws.ensures.items_ordered
    c.value_laws.ensures.item_days c.value_laws.ensures.named_days

pub returns-clause-back : goal.returns-clause-back
returns-clause-back c = read_back c.value_laws.ensures.back c.value_laws.ensures.cut
    c.rule_laws.ensures.ical_values c.rule_laws.ensures.ical_interval

pub returns-clause-plain : goal.returns-clause-plain
returns-clause-plain c = written_plain c.value_laws.ensures.back c.rule_laws.ensures.ical_values
    c.rule_laws.ensures.ical_interval
