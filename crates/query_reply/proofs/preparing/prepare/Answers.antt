use Rattle.std.proofs.Common.{rules, ◌≡◌, Err}
use Rattle.stored_pair.specs.Names.{entries_of}
use Rattle.query_reply.specs.Preparing.{reading_of}
use Rattle.query_reply.proofs.PreparingLemmas.{not_fitting, not_meant, replies}
use Rattle.query_reply.proofs.preparing.prepare.Goals as goal

pub returns-in_err-program : goal.returns-in_err-program
returns-in_err-program c =
    let is : c.from_residual.result ≡ Err c.in_err-program.field-0.0 = search rules in
    rw is (not_meant (entries_of c.args.book.now) c.args.query c.args.text.now
    c.in_err-program.field-0.0 c.in_err-program.ensures.meant)

pub returns-in-Ok : goal.returns-in-Ok
returns-in-Ok c = replies (entries_of c.args.book.now) c.args.query c.args.text.now
    (reading_of c.in_ok-program.program) c.in-Ok.clock c.make_report.result
    c.in_ok-program.ensures.meant c.in-Ok.ensures.clock c.make_report.ensures

pub returns : goal.returns
returns c = not_fitting (entries_of c.args.book.now) c.args.query c.args.text.now
    (reading_of c.in_ok-program.program) c.in-Err.refusal c.in-Err.ensures.printable
    c.in_ok-program.ensures.meant c.in-Err.ensures.clock
