use Rattle.sieve_tables.proofs.NthTables.{no_nth}
use Rattle.sieve_tables.proofs.weekdays.nth_table.Goals as goal

pub loop-item-init : goal.loop-item-init
loop-item-init c = no_nth c.args.day
