use Rattle.std.proofs.Common.{IfSome, Option, sym, subst, ◌∙◌}
use Rattle.expr_text.specs.Fault.{fault_in}
use Rattle.report_text.specs.Refusals.{IsPrintable}
use Rattle.report_text.specs.declared.refusals.Refusal.{Refusal}
use Rattle.query_reply.specs.Reading.{sets}
use Rattle.query_reply.specs.Preparing.{reading_of}
use Rattle.query_reply.proofs.PreparingLemmas.{are_sorts, fault_meant}
use Rattle.query_reply.proofs.preparing.meant.Goals as goal

pub returns-in-Ok-clause-meant : goal.returns-in-Ok-clause-meant
returns-in-Ok-clause-meant c = sets (reading_of c.in-Ok.program) c.in-Ok.ensures.answer
    (are_sorts c.in-Ok.program c.in-Ok.ensures.sorts)

pub returns-in-Some-clause-meant : goal.returns-in-Some-clause-meant
returns-in-Some-clause-meant c = (
  subst (λ (o : Option Refusal). IfSome o IsPrintable) c.in-Some.is
      c.text_refusal.ensures.printable,
  fault_meant c.args.text.now (fault_in c.in-Err.fault) c.in-Some.refusal
      (sym c.text_refusal.ensures.value ∙ c.in-Some.is) c.in-Err.ensures.answer,
)
