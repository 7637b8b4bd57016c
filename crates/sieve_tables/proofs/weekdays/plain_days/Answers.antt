use Rattle.sieve_tables.proofs.NthTables.{day_mask_more, no_days}
use Rattle.sieve_tables.proofs.weekdays.plain_days.Goals as goal

pub loop-item-init : goal.loop-item-init
loop-item-init c = no_days

pub loop-item-preserved : goal.loop-item-preserved
loop-item-preserved c =
    day_mask_more _ _ _ _ c.item-item.result c.loop-item-test.true c.item-item.is
    c.loop-item.invariant
    c.with_day-mask.ensures.bits c.with_day-mask.ensures.below c.with_day-mask.ensures.none
    c.with_day-mask.ensures.weekday
