use Rattle.moment_text.specs.Parts.{parts_of}
use Rattle.moment_text.proofs.Fronts.{length_of, shape_of}
use Rattle.moment_text.proofs.Moments.{text_of-parts_of, moments_apart}
use Rattle.moment_text.proofs.Shapes.{shaped_text, width_of, longest_front, shapes_end}
use Rattle.moment_text.proofs.laws.literal_laws.Goals as goal

pub returns-clause-shaped : goal.returns-clause-shaped
returns-clause-shaped c =
    λ t absolute. rw (← text_of-parts_of t absolute) (shaped_text (parts_of t absolute))

pub returns-clause-short : goal.returns-clause-short
returns-clause-short c =
    λ t absolute. rw (← text_of-parts_of t absolute) (width_of (parts_of t absolute))

pub returns-clause-apart : goal.returns-clause-apart
returns-clause-apart c = moments_apart c.calendar_laws.ensures.times_name_moments
    c.calendar_laws.ensures.ranges_are_of_years

pub returns-clause-longest : goal.returns-clause-longest
returns-clause-longest c = longest_front

pub returns-clause-end : goal.returns-clause-end
returns-clause-end c = shapes_end

pub returns-clause-form : goal.returns-clause-form
returns-clause-form c = shape_of

pub returns-clause-length : goal.returns-clause-length
returns-clause-length c = length_of
