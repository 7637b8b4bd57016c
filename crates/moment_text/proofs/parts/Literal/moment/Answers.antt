use Rattle.std.proofs.Common.{◌≡◌, Some, FitsSigned, w32, to_z, of_z, refl, sym, ap, ◌∙◌, rules}
use Rattle.std.proofs.lemmas.Int.{to_z-of_z}
use Rattle.moment_text.proofs.Options.{not_both}
use Rattle.moment_text.proofs.Moments.{moment_named, moment_found, year_of_parts}
use Rattle.moment_text.proofs.parts.Literal.moment.Goals as goal

pub returns-in_err-year-clause-found : goal.returns-in_err-year-clause-found
returns-in_err-year-clause-found c = λ t work is.
    absurd (not_both _ _ (sym c.year.ensures ∙ c.in_err-year.was)
    (year_of_parts c.args.self.now t c.args.self.now.absolute is))

pub returns-clause-named : goal.returns-clause-named
returns-clause-named c =
    let y = c.in_ok-year.year in
    let fits : FitsSigned w32 y = search rules in
    let same : to_z w32 (of_z w32 y) ≡ y = rw to_z-of_z refl in
    let year = sym c.year.ensures ∙ c.in_ok-year.was ∙ ap (λ z. Some z) (sym same) in
    moment_named c.calendar_laws.ensures.times_name_moments c.args.self.now _ c.moment.result year
    c.moment.ensures.some.0 c.moment.ensures.value

pub returns-clause-found : goal.returns-clause-found
returns-clause-found c =
    let y = c.in_ok-year.year in
    let fits : FitsSigned w32 y = search rules in
    let same : to_z w32 (of_z w32 y) ≡ y = rw to_z-of_z refl in
    let year = sym c.year.ensures ∙ c.in_ok-year.was ∙ ap (λ z. Some z) (sym same) in
    moment_found c.calendar_laws.ensures.times_name_moments c.args.self.now _ c.moment.result year
    c.moment.ensures.some.1 c.moment.ensures.value
