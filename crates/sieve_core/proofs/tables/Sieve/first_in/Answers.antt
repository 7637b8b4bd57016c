use Rattle.std.proofs.Common.{◌∙◌, sym}
use Rattle.sieve_core.specs.Seek.{day_at}
use Rattle.sieve_core.specs.Times.{turn}
use Rattle.civil_core.proofs.MonthLemmas.{day-in}
use Rattle.sieve_core.proofs.SeekLemmas.{closed-month, turned-within}
use Rattle.sieve_core.proofs.tables.Sieve.first_in.Goals as goal

pub returns-else-is_month_open : goal.returns-else-is_month_open
returns-else-is_month_open c = λ k low below.
    let m = c.args.month.now in
    let dir = c.args.dir in
    let i = turn dir m.len k in
    closed-month c.args.self.now m i (day_at m dir k)
    (day-in m i c.requires.month (turned-within dir m.len k below))
    (sym c.is_month_open.ensures ∙ c.if-is_month_open.false)
