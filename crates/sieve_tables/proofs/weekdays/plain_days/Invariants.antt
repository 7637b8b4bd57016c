use Rattle.std.proofs.Common.{take}
use Rattle.sieve_tables.proofs.NthTables.{IsDayMask}
use Rattle.sieve_tables.proofs.weekdays.plain_days.Given as goal

abbrev pub invariant-loop-item : goal.invariant-loop-item
invariant-loop-item l = IsDayMask l.mask (take l.item-index l.items)
