use Rattle.std.proofs.Common.{◌≡◌, ◌∙◌, sym, arith, w64, to_z, of_z, pos, ◌+ℤ◌}
use Rattle.moment_core.proofs.FloorLemmas.{floor_arith}
use Rattle.sieve_core.specs.Days.{meets_weeks}
use Rattle.civil_core.proofs.MonthLemmas.{day-in}
use Rattle.sieve_core.proofs.SeekLemmas.{open-months, sought-by-dates, sought-not-dates}
use Rattle.sieve_core.proofs.tables.Sieve.seeks_in.Goals as goal

pub returns-then-not-meets_date_in : goal.returns-then-not-meets_date_in
returns-then-not-meets_date_in c =
    let m = c.args.month.now in
    let d = m.first +ℤ pos c.args.i in
    let day = day-in m c.args.i c.requires.month c.requires.i in
    let opened = open-months c.args.self.now m c.args.i d day c.requires.open_month in
    let dates = c.meets_date_in.ensures d day opened.0 in
    sym (sought-not-dates c.args.self.now d
    (meets_weeks c.args.self.now.days.weeks c.args.self.now.days.first d)
    (rw c.if-not-meets_date_in.true at dates))

pub returns : goal.returns
returns c =
    let m = c.args.month.now in
    let d = m.first +ℤ pos c.args.i in
    let day = day-in m c.args.i c.requires.month c.requires.i in
    let opened = open-months c.args.self.now m c.args.i d day c.requires.open_month in
    let dates = c.meets_date_in.ensures d day opened.0 in
    let number : to_z w64 (of_z w64 c.nth_day.result) ≡ d = omega (
      arith,
      floor_arith,
      c.nth_day.ensures.value,
      c.nth_day.ensures.low,
      c.nth_day.ensures.high,
    ) in
    (rw number at c.seeks_day.ensures)
    ∙ sym (sought-by-dates c.args.self.now d (rw c.if-not-meets_date_in.false at dates) opened.1)
