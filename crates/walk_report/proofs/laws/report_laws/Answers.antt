use Rattle.walk_report.proofs.Reporting.{ample_reports, enough_reports, reports_exist, reports_go_on, reports_tell_windows}
use Rattle.walk_report.proofs.Uniqueness.{reports_one}
use Rattle.walk_report.proofs.laws.report_laws.Goals as goal

pub returns-clause-exist : goal.returns-clause-exist
returns-clause-exist c = reports_exist c.items_laws.ensures.left c.items_laws.ensures.first
    c.items_laws.ensures.ends c.step_laws.ensures.hold

pub returns-clause-unique : goal.returns-clause-unique
returns-clause-unique c =
    reports_one c.run_laws.ensures.unique c.answer_laws.ensures.one c.items_laws.ensures.left
    c.items_laws.ensures.one_left
    c.items_laws.ensures.follow

pub returns-clause-goes_on : goal.returns-clause-goes_on
returns-clause-goes_on c = reports_go_on c.items_laws.ensures.follow

pub returns-clause-windows : goal.returns-clause-windows
returns-clause-windows c = reports_tell_windows c.items_laws.ensures.follow
    c.step_laws.ensures.begin

pub returns-clause-ample : goal.returns-clause-ample
returns-clause-ample c = ample_reports c.items_laws.ensures.follow c.ample_step_laws.ensures.ample

pub returns-clause-enough : goal.returns-clause-enough
returns-clause-enough c = enough_reports c.items_laws.ensures.follow
    c.ample_step_laws.ensures.enough
