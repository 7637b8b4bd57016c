use Rattle.rule_core.specs.declared.part.Part.TheVariants as parts
use Rattle.rule_core.specs.IcalChecks.{is_bad_part}
use Rattle.rrule_text.proofs.ReadBack.{back_if_written}
use Rattle.rrule_text.proofs.Values.{until_fine}
use Rattle.rrule_text.proofs.writing.write_rrule.Goals as goal

pub written-requires : goal.written-requires
unfolding is_bad_part
written-requires c =
    until_fine c.args.rule.now.until (c.rule_laws.ensures.ical_values c.args.rule.now parts.Until
    c.requires.checked)

pub returns-clause-back : goal.returns-clause-back
returns-clause-back c =
    back_if_written c.text_laws.ensures.back c.args.rule.now c.requires (λ text. text.items)
    c.written.result c.written.ensures.form c.written.ensures.weekdays
