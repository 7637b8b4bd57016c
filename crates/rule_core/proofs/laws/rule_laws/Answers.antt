use Rattle.rule_core.proofs.Checked.{field_interval_fits, field_keys_fit, field_values_fit, ical_interval_fits, ical_parts_fit, ical_values_fit}
use Rattle.rule_core.proofs.IcalRepeating.{has_uncounted-cycles}
use Rattle.rule_core.proofs.Repeating.{has_field-cycles}
use Rattle.rule_core.proofs.Untils.{untils_are_of_years}
use Rattle.rule_core.proofs.WeekStarts.{week_start_fits}
use Rattle.rule_core.proofs.laws.rule_laws.Goals as goal

pub returns-clause-field_values : goal.returns-clause-field_values
returns-clause-field_values c = field_values_fit

pub returns-clause-field_keys : goal.returns-clause-field_keys
returns-clause-field_keys c = field_keys_fit

pub returns-clause-field_interval : goal.returns-clause-field_interval
returns-clause-field_interval c = field_interval_fits

pub returns-clause-week_start : goal.returns-clause-week_start
returns-clause-week_start c = week_start_fits

pub returns-clause-field_repeats : goal.returns-clause-field_repeats
returns-clause-field_repeats c = has_field-cycles

pub returns-clause-ical_values : goal.returns-clause-ical_values
returns-clause-ical_values c = ical_values_fit

pub returns-clause-ical_parts : goal.returns-clause-ical_parts
returns-clause-ical_parts c = ical_parts_fit

pub returns-clause-ical_interval : goal.returns-clause-ical_interval
returns-clause-ical_interval c = ical_interval_fits

pub returns-clause-until : goal.returns-clause-until
returns-clause-until c = untils_are_of_years

pub returns-clause-ical_repeats : goal.returns-clause-ical_repeats
returns-clause-ical_repeats c = has_uncounted-cycles
