use Rattle.std.proofs.Common.{◌≡◌, ◌++◌, false, List, [], ◌∷◌, ℕ, ℤ, Option, Some, None, ap, refl, FitsSigned, w64, to_z, of_z, rules}
use Rattle.std.specs.Option.{MatchOption, option_to_list}
use Rattle.std.proofs.lemmas.Int.{to_z-of_z}
use Rattle.expr_grammar.specs.declared.syntax.Key.TheVariants as keys
use Rattle.expr_print.specs.Fields.{interval_printed, numbers_before, printed_fields, start_before, with_spaces}
use Rattle.expr_print.proofs.FieldTexts.{past_all, past_numbers, past_start}
use Rattle.expr_print.proofs.fields.put_fields.Goals as goal

as_list : (o : Option ℤ) (xs : List ℤ) → MatchOption o (xs ≡ []) (λ x. xs ≡ x ∷ []) → xs
    ≡ option_to_list o
as_list None xs h = h
as_list (Some x) xs h = h

pub returns : goal.returns
returns c =
    let r = c.args.rule.now in
    let from_week_start : List (List ℕ) = numbers_before keys.WeekStart
    (option_to_list r.week_start) [] in
    let from_start : List (List ℕ) = start_before r.start from_week_start in
    let from_interval : List (List ℕ) = numbers_before keys.Interval (interval_printed r.interval)
    from_start in
    let from_seconds : List (List ℕ) = numbers_before keys.Seconds r.seconds from_interval in
    let from_minutes : List (List ℕ) = numbers_before keys.Minutes r.minutes from_seconds in
    let from_hours : List (List ℕ) = numbers_before keys.Hours r.hours from_minutes in
    let from_days : List (List ℕ) = numbers_before keys.Days r.days from_hours in
    let from_weeks : List (List ℕ) = numbers_before keys.Weeks r.weeks from_days in
    let fits : FitsSigned w64 r.interval = search rules in
    let same_interval : to_z w64 (of_z w64 r.interval) ≡ r.interval = rw to_z-of_z refl in
    let total = c.args.out.now.items ++ with_spaces (printed_fields r) in
    let weeks = past_numbers total _ _ false _ keys.Months r.months _ from_weeks c.items.ensures
    refl c.in_ok-months.ensures.put c.in_ok-months.ensures.told in
    let days = past_numbers total _ _ _ _ keys.Weeks r.weeks _ from_days c.items-2.ensures weeks
    c.in_ok-weeks.ensures.put c.in_ok-weeks.ensures.told in
    let hours = past_numbers total _ _ _ _ keys.Days r.days _ from_hours c.items-3.ensures days
    c.in_ok-days.ensures.put c.in_ok-days.ensures.told in
    let minutes = past_numbers total _ _ _ _ keys.Hours r.hours _ from_minutes c.items-4.ensures
    hours c.in_ok-hours.ensures.put c.in_ok-hours.ensures.told in
    let seconds = past_numbers total _ _ _ _ keys.Minutes r.minutes _ from_seconds c.items-5.ensures
    minutes c.in_ok-minutes.ensures.put c.in_ok-minutes.ensures.told in
    let interval = past_numbers total _ _ _ _ keys.Seconds r.seconds _ from_interval
    c.items-6.ensures seconds c.in_ok-seconds.ensures.put c.in_ok-seconds.ensures.told in
    let start = past_numbers total _ _ _ _ keys.Interval (interval_printed r.interval) _ from_start
    (ap interval_printed same_interval) interval c.in_ok-interval.ensures.put
    c.in_ok-interval.ensures.told in
    let week_start = past_start total _ _ _ _ r.start from_week_start start
    c.in_ok-start.ensures.put c.in_ok-start.ensures.told in
    past_all total _ _ (past_numbers total _ _ _ _ keys.WeekStart (option_to_list r.week_start) _ []
    (as_list r.week_start _ c.as_slice.ensures) week_start c.in_ok-put_numbers.ensures.put
    c.in_ok-put_numbers.ensures.told)
