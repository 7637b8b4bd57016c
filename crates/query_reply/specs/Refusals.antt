-- What refuses a text.
use Rattle.expr_text.specs.Fault.{Fault}
use Rattle.expr_text.specs.Fault as texts
use Rattle.rrule_text.specs.Fault as rrules
use Rattle.report_text.specs.declared.refusals.Refusal.{Refusal}
use Rattle.report_text.specs.declared.refusals.Refusal.TheVariants as refusals

-- the refusal of a text with this fault
abbrev pub text_refusal : Fault → Refusal
text_refusal texts.Long = refusals.Long
text_refusal (texts.Token byte) = refusals.Token byte
text_refusal texts.Unbuilt = refusals.Unbuilt
text_refusal texts.Syntax = refusals.Syntax
text_refusal (texts.Moment byte) = refusals.Moment byte
text_refusal (texts.Rule fault) = refusals.Rule fault
text_refusal (texts.Rrule rrules.Syntax) = refusals.RruleSyntax
text_refusal (texts.Rrule (rrules.Repeated part)) = refusals.RruleRepeated part
text_refusal (texts.Rrule (rrules.Rule fault)) = refusals.Rrule fault
text_refusal (texts.Sort fault) = refusals.Sort fault
