use Rattle.std.proofs.Common.{List, ℤ, pos, arith, sym, subst}
use Rattle.std.specs.Prelude.{All}
use Rattle.std.proofs.lemmas.Int.{ints}
use Rattle.moment_core.specs.TimeOfDay.{minute_of}
use Rattle.rule_core.specs.FieldChecks.{has_minutes}
use Rattle.rule_core.specs.IcalMembers.{filled}
use Rattle.sieve_tables.specs.Lowered.{IsMaskOf}
use Rattle.sieve_tables.specs.Masks.{IsPlain}
use Rattle.ical_rules.specs.Rules.{start_of}
use Rattle.ical_rules.proofs.Checks.{minutes_are, small, taken_are, taken_list}
use Rattle.ical_rules.proofs.times.minutes.Goals as goal

pub listed_mask-requires-clause-values : goal.listed_mask-requires-clause-values
listed_mask-requires-clause-values c =
    let r = c.args.rule.now in
    let start = c.requires.start in
    let P : List ℤ → Type 0 = λ values. All (IsPlain 60) values in
    let listed = taken_list c.or_taken.result.now c.items.result.now r.by_minute
    c.may_give-is_taken.result (has_minutes r.freq) _ _ c.or_taken.ensures c.items.ensures
    c.may_give-is_taken.ensures
    (small c.args.start.now.minute (minute_of (start_of r)) start.minute
    (omega (arith, start.minutes))) in
    subst P (sym listed)
    (taken_are (IsPlain 60) (has_minutes r.freq) (pos (minute_of (start_of r))) r.by_minute
    (omega (arith, ints), omega (arith, ints, start.minute, start.minutes))
    (minutes_are c.rule_laws.ensures.ical_values r c.requires.checked))

pub returns : goal.returns
unfolding filled
returns c =
    let r = c.args.rule.now in
    let start = c.requires.start in
    let P : List ℤ → Type 0 = λ values. IsMaskOf c.listed_mask.result 60 values in
    let listed = taken_list c.or_taken.result.now c.items.result.now r.by_minute
    c.may_give-is_taken.result (has_minutes r.freq) _ _ c.or_taken.ensures c.items.ensures
    c.may_give-is_taken.ensures
    (small c.args.start.now.minute (minute_of (start_of r)) start.minute
    (omega (arith, start.minutes))) in
    subst P listed c.listed_mask.ensures.mask
