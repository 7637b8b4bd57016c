use Rattle.std.proofs.Common.{◌∙◌, sym}
use Rattle.moment_text.proofs.Shapes.{front_found, none_found}
use Rattle.moment_text.proofs.reading.shaped_front.Goals as goal

pub returns-in-Some : goal.returns-in-Some
returns-in-Some c = c.width.ensures
    ∙ sym (front_found c.args.bytes.now c.in-Some.literal c.in-Some.field-0-1.now c.in-Some.ensures)

pub returns-in-None : goal.returns-in-None
returns-in-None c = sym (none_found c.args.bytes.now c.in-None.ensures)
