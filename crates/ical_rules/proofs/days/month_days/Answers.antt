use Rattle.std.proofs.Common.{List, ℤ, pos, [], ◌∷◌, arith, sym, subst}
use Rattle.std.specs.Prelude.{All}
use Rattle.moment_core.specs.Calendar.{day_of_month}
use Rattle.moment_core.specs.TimeOfDay.{day_of}
use Rattle.rule_core.specs.IcalMembers.{filled, takes_month_day}
use Rattle.sieve_tables.specs.Lowered.{IsEntry, IsTableOf}
use Rattle.ical_rules.specs.Rules.{start_of}
use Rattle.ical_rules.proofs.Checks.{entry_small, month_days_are, small, taken_are, taken_list}
use Rattle.ical_rules.proofs.days.month_days.Goals as goal

pub signed_word-requires : goal.signed_word-requires
signed_word-requires c =
    let r = c.args.rule.now in
    let start = c.requires.start in
    let P : List ℤ → Type 0 = λ values. All (IsEntry 32) values in
    let listed = taken_list c.or_taken.result.now c.items.result.now r.by_month_day
    c.takes_month_day.result (takes_month_day r) _ _ c.or_taken.ensures c.items.ensures
    c.takes_month_day.ensures
    (small c.args.start.now.day (day_of_month (day_of (start_of r))) start.month_day
    (omega (arith, start.month_days.1))) in
    subst P (sym listed)
    (taken_are (IsEntry 32) (takes_month_day r) (pos (day_of_month (day_of (start_of r))))
    r.by_month_day
    (entry_small (day_of_month (day_of (start_of r))) 32
    (omega (arith, start.month_day, start.month_days.0))
    (omega (arith, start.month_day, start.month_days.1)))
    (month_days_are c.rule_laws.ensures.ical_values r c.requires.checked))

pub returns : goal.returns
unfolding filled
returns c =
    let r = c.args.rule.now in
    let start = c.requires.start in
    let P : List ℤ → Type 0 = λ values. IsTableOf (c.signed_word.result ∷ []) 32 values in
    let listed = taken_list c.or_taken.result.now c.items.result.now r.by_month_day
    c.takes_month_day.result (takes_month_day r) _ _ c.or_taken.ensures c.items.ensures
    c.takes_month_day.ensures
    (small c.args.start.now.day (day_of_month (day_of (start_of r))) start.month_day
    (omega (arith, start.month_days.1))) in
    subst P listed c.signed_word.ensures
