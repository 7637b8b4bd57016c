use Rattle.std.proofs.Common.{take}
use Rattle.sieve_tables.specs.Lowered.{IsNthTableOf}
use Rattle.sieve_tables.proofs.weekdays.nth_table.Given as goal

abbrev pub invariant-loop-item : goal.invariant-loop-item
invariant-loop-item l = IsNthTableOf l.words l.day (take l.item-index l.items)
