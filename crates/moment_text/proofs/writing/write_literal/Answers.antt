use Rattle.std.proofs.Common.{ap, ◌∙◌}
use Rattle.moment_text.specs.declared.parts.Literal.{Literal}
use Rattle.moment_text.specs.Parts.{text_of}
use Rattle.moment_text.proofs.Moments.{text_of-parts_of}
use Rattle.moment_text.proofs.writing.write_literal.Goals as goal

pub returns : goal.returns
returns c = c.text.ensures ∙ ap (λ (l : Literal). text_of l) c.of.ensures.parts
    ∙ text_of-parts_of c.args.stamp.moment.0 c.args.stamp.absolute
