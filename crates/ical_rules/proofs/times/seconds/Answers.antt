use Rattle.std.proofs.Common.{List, ℤ, pos, arith, sym, subst}
use Rattle.std.specs.Prelude.{All}
use Rattle.std.proofs.lemmas.Int.{ints}
use Rattle.moment_core.specs.TimeOfDay.{second_of}
use Rattle.rule_core.specs.FieldChecks.{has_seconds}
use Rattle.rule_core.specs.IcalMembers.{filled}
use Rattle.sieve_tables.specs.Lowered.{IsMaskOf}
use Rattle.sieve_tables.specs.Masks.{IsPlain}
use Rattle.ical_rules.specs.Rules.{start_of}
use Rattle.ical_rules.proofs.Checks.{seconds_are, small, taken_are, taken_list}
use Rattle.ical_rules.proofs.times.seconds.Goals as goal

pub listed_mask-requires-clause-values : goal.listed_mask-requires-clause-values
listed_mask-requires-clause-values c =
    let r = c.args.rule.now in
    let start = c.requires.start in
    let P : List ℤ → Type 0 = λ values. All (IsPlain 61) values in
    let listed = taken_list c.or_taken.result.now c.items.result.now r.by_second
    c.may_give-is_taken.result (has_seconds r.freq) _ _ c.or_taken.ensures c.items.ensures
    c.may_give-is_taken.ensures
    (small c.args.start.now.second (second_of (start_of r)) start.second
    (omega (arith, start.seconds))) in
    subst P (sym listed)
    (taken_are (IsPlain 61) (has_seconds r.freq) (pos (second_of (start_of r))) r.by_second
    (omega (arith, ints), omega (arith, ints, start.second, start.seconds))
    (seconds_are c.rule_laws.ensures.ical_values r c.requires.checked))

pub returns : goal.returns
unfolding filled
returns c =
    let r = c.args.rule.now in
    let start = c.requires.start in
    let P : List ℤ → Type 0 = λ values. IsMaskOf c.listed_mask.result 61 values in
    let listed = taken_list c.or_taken.result.now c.items.result.now r.by_second
    c.may_give-is_taken.result (has_seconds r.freq) _ _ c.or_taken.ensures c.items.ensures
    c.may_give-is_taken.ensures
    (small c.args.start.now.second (second_of (start_of r)) start.second
    (omega (arith, start.seconds))) in
    let mask = subst P listed c.listed_mask.ensures.mask in
    λ v below. mask v (omega arith)
