use Rattle.sieve_core.proofs.SeekLemmas.{in-year}
use Rattle.sieve_core.proofs.tables.DayTest.meets_weekday_in.Goals as goal

pub is_nth-requires-else-self : goal.is_nth-requires-else-self
is_nth-requires-else-self c =
    rw c.year_len.ensures (in-year c.args.month.now c.args.i c.requires.month c.requires.i)
