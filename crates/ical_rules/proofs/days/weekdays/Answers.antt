use Rattle.std.proofs.Common.{ℕ, List, pos, ap, arith, sym, subst}
use Rattle.std.specs.Prelude.{All}
use Rattle.std.proofs.lemmas.Int.{ints}
use Rattle.moment_core.specs.Calendar.{weekday_of}
use Rattle.moment_core.specs.TimeOfDay.{day_of}
use Rattle.rule_core.specs.IcalMembers.{filled, takes_weekday}
use Rattle.rule_core.specs.declared.lists.DayItem.{DayItem}
use Rattle.sieve_tables.specs.Lowered.{IsDayEntry, IsDayTableOf}
use Rattle.ical_rules.specs.Rules.{start_of}
use Rattle.ical_rules.proofs.Checks.{days_are, taken_are, taken_list}
use Rattle.ical_rules.proofs.days.weekdays.Goals as goal

abbrev itself : ℕ → DayItem
itself w = record { nth = pos 0; day = w }

pub weekday_tables-requires : goal.weekday_tables-requires
weekday_tables-requires c =
    let r = c.args.rule.now in
    let P : List DayItem → Type 0 = λ items. All IsDayEntry items in
    let listed = taken_list c.or_taken.result.now c.items.result.now r.by_day c.takes_weekday.result
    (takes_weekday r) _ _ c.or_taken.ensures c.items.ensures c.takes_weekday.ensures
    (ap itself c.requires.start.weekday) in
    subst P (sym listed)
    (taken_are IsDayEntry (takes_weekday r) (itself (weekday_of (day_of (start_of r)))) r.by_day
    (omega (arith, ints), omega (arith, ints))
    (days_are c.rule_laws.ensures.ical_values r c.requires.checked))

pub returns : goal.returns
unfolding filled
returns c =
    let r = c.args.rule.now in
    let P : List DayItem → Type 0 =
    λ items. IsDayTableOf c.weekday_tables.result.0 c.weekday_tables.result.1 items in
    let listed = taken_list c.or_taken.result.now c.items.result.now r.by_day c.takes_weekday.result
    (takes_weekday r) _ _ c.or_taken.ensures c.items.ensures c.takes_weekday.ensures
    (ap itself c.requires.start.weekday) in
    subst P listed c.weekday_tables.ensures
