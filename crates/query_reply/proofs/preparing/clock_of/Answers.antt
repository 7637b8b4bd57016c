use Rattle.std.proofs.Common.{rules, ◌≡◌, true, Some, None, Ok, Err}
use Rattle.expr_text.specs.Sorted.{trees_of_sorted}
use Rattle.moment_core.specs.Clocks.{one_clock}
use Rattle.report_text.specs.declared.refusals.Refusal.TheVariants as refusals
use Rattle.query_reply.specs.Reading.{sets_clock, takes, words_clock}
use Rattle.query_reply.specs.Preparing.{sorts_of}
use Rattle.query_reply.proofs.PreparingLemmas.{no_clock_of, not_taken, one_clock_of, taken}
use Rattle.query_reply.proofs.preparing.clock_of.Goals as goal

pub returns-then-not-takes-clause-clock : goal.returns-then-not-takes-clause-clock
returns-then-not-takes-clause-clock c = not_taken c.args.query c.args.program.now (search rules)

pub returns-in-Some-clause-clock : goal.returns-in-Some-clause-clock
returns-in-Some-clause-clock c =
    let p = c.args.program.now in
    let fits : takes c.args.query (trees_of_sorted p).second ≡ true = search rules in
    let one : one_clock (sets_clock (sorts_of p)) (words_clock c.args.query)
    ≡ Some c.in-Some.clock = search rules in
    taken c.args.query p (Ok c.in-Some.clock) fits (one_clock_of c.args.query p c.in-Some.clock one)

pub returns-in-None-clause-clock : goal.returns-in-None-clause-clock
returns-in-None-clause-clock c =
    let p = c.args.program.now in
    let fits : takes c.args.query (trees_of_sorted p).second ≡ true = search rules in
    let none : one_clock (sets_clock (sorts_of p)) (words_clock c.args.query) ≡ None =
    search rules in
    taken c.args.query p (Err refusals.Clock) fits (no_clock_of c.args.query p none)
