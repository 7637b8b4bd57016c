use Rattle.std.proofs.Common.{ℕ, List}
use Rattle.sieve_tables.specs.Lowered.{IsNthTableOf}
use Rattle.sieve_tables.proofs.NthTables.{each_day, seven_zero, weekdays_are}
use Rattle.sieve_tables.proofs.weekdays.weekday_tables.Goals as goal

pub returns : goal.returns
returns c =
    weekdays_are c.plain_days.result _ c.args.items.now
    (each_day (λ (w : ℕ) (words : List ℕ). IsNthTableOf words w c.args.items.now) _ _ _ _ _ _ _
    c.nth_table.ensures c.nth_table-2.ensures c.nth_table-3.ensures c.nth_table-4.ensures
    c.nth_table-5.ensures c.nth_table-6.ensures c.nth_table-7.ensures)
    (seven_zero _ _ _ _ _ _ _) c.requires c.plain_days.ensures.weekdays c.plain_days.ensures.bits
    c.plain_days.ensures.none
