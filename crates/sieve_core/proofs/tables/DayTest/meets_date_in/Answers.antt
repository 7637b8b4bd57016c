use Rattle.sieve_core.proofs.SeekLemmas.{in-year}
use Rattle.sieve_core.proofs.tables.DayTest.meets_date_in.Goals as goal

pub meets_signed-requires-then-meets_weekday_in-clause-within : goal.meets_signed-requires-then-meets_weekday_in-clause-within
meets_signed-requires-then-meets_weekday_in-clause-within c =
    rw c.year_len.ensures (in-year c.args.month.now c.args.i c.requires.month c.requires.i)
