use Rattle.sieve_tables.proofs.TableLemmas.{table_same}
use Rattle.sieve_tables.proofs.WeekdayLemmas.{alone_same}
use Rattle.sieve_tables.proofs.laws.table_laws.Goals as goal

pub returns-clause-signed : goal.returns-clause-signed
returns-clause-signed c = table_same

pub returns-clause-weekdays : goal.returns-clause-weekdays
returns-clause-weekdays c = alone_same
