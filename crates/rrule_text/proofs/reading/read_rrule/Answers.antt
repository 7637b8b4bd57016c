use Rattle.std.proofs.Common.{◌≡◌, ap, ◌∙◌}
use Rattle.rrule_text.specs.Reading.{body_of, without_end, without_prefix}
use Rattle.rrule_text.proofs.Writable.{told_writable}
use Rattle.rrule_text.proofs.reading.read_rrule.Goals as goal

pub returns-clause-writable : goal.returns-clause-writable
unfolding body_of
returns-clause-writable c =
    let body : c.without_end-body.result.now ≡ body_of c.args.text.now =
    c.without_end-body.ensures ∙ ap without_end (c.without_prefix.ensures
    ∙ ap without_prefix (c.as_slice.ensures.value ∙ c.in_ok-text.ensures.ok)) in
    told_writable c.text_laws.ensures.writable c.args.text.now c.args.start c.rule_in.result
    (rw body at c.rule_in.ensures)
