use Rattle.std.proofs.Common.{◌≡◌, ℤ, pos, ◌+ℤ◌, ◌-ℤ◌, w32, to_z, of_z, ap, refl, sym, ◌∙◌}
use Rattle.moment_core.specs.declared.line.TheConstants.{G}
use Rattle.rrule_values.proofs.Untils.{named-found, named-lost, year_fits}
use Rattle.rrule_values.proofs.until.DateTime.moment.Goals as goal

pub returns-in-Some : goal.returns-in-Some
returns-in-Some c =
    let d = c.args.self.now in
    let early : to_z w32 (of_z w32 c.year_before-year.result) ≡ pos d.year -ℤ pos 400 =
    year_fits c.year_before-year.result d.year c.year_before-year.ensures d.four_digits
    ∙ c.year_before-year.ensures in
    c.cycle_past.ensures ∙ ap (λ (z : ℤ). z +ℤ pos G) c.in-Some.ensures.value
    ∙ named-found d.year d.month d.day d.hour d.minute d.second
    (to_z w32 (of_z w32 c.year_before-year.result)) early (c.in-Some.ensures.some.0 refl).0

pub returns-in-None : goal.returns-in-None
returns-in-None c =
    let d = c.args.self.now in
    let early : to_z w32 (of_z w32 c.year_before-year.result) ≡ pos d.year -ℤ pos 400 =
    year_fits c.year_before-year.result d.year c.year_before-year.ensures d.four_digits
    ∙ c.year_before-year.ensures in
    sym (named-lost d.year d.month d.day d.hour d.minute d.second
    (to_z w32 (of_z w32 c.year_before-year.result)) early d.four_digits
    (λ x. let no = c.in-None.ensures.some.1 x in absurd cc))
