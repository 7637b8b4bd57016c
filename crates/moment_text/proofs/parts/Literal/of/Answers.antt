use Rattle.std.proofs.Common.{◌≡◌, FitsSigned, w32, to_z, of_z, refl, ap, ◌∙◌, rules}
use Rattle.std.proofs.lemmas.Int.{to_z-of_z}
use Rattle.std.specs.Prelude.{unsigned_abs}
use Rattle.moment_text.specs.Parts.{is_below_zero}
use Rattle.moment_text.proofs.Moments.{parts_from, lt_z-zero}
use Rattle.moment_text.proofs.parts.Literal.of.Goals as goal

pub returns-clause-parts : goal.returns-clause-parts
returns-clause-parts c =
    let e = c.fields-parts.ensures in
    let y = c.fields-parts.result.year in
    let fits : FitsSigned w32 y = search rules in
    let same : to_z w32 (of_z w32 y) ≡ y = rw to_z-of_z refl in
    parts_from c.args.stamp.moment.0 c.args.stamp.absolute _ _ _ _ _ _ _
    (lt_z-zero (to_z w32 (of_z w32 y)) ∙ ap is_below_zero (same ∙ e.year))
    (c.unsigned_abs.ensures.value ∙ ap unsigned_abs (same ∙ e.year))
    e.month e.day e.hour e.minute e.second
