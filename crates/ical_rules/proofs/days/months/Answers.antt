use Rattle.std.proofs.Common.{◌≡◌, ◌<◌, ℕ, List, ℤ, pos, not, ◌||◌, ◌==◌, [], ◌∷◌, refl, arith, sym, subst}
use Rattle.std.specs.Prelude.{All}
use Rattle.std.proofs.lemmas.Int.{ints}
use Rattle.moment_core.specs.Calendar.{month_of}
use Rattle.moment_core.specs.TimeOfDay.{day_of}
use Rattle.rule_core.specs.IcalMembers.{filled, takes_date}
use Rattle.rule_core.specs.Values.{is_given}
use Rattle.sieve_core.specs.Bits.{has_bit}
use Rattle.sieve_tables.specs.Lowered.{lists}
use Rattle.sieve_tables.specs.Masks.{IsPlain}
use Rattle.ical_rules.specs.Rules.{start_of}
use Rattle.ical_rules.proofs.Checks.{months_are, small, taken_are, taken_list}
use Rattle.ical_rules.proofs.days.months.Goals as goal

pub plain_mask-requires-clause-values : goal.plain_mask-requires-clause-values
plain_mask-requires-clause-values c =
    let r = c.args.rule.now in
    let start = c.requires.start in
    let P : List ℤ → Type 0 = λ values. All (IsPlain 13) values in
    let listed = taken_list c.or_taken.result.now c.items.result.now r.by_month c.takes_date.result
    (takes_date r) _ _ c.or_taken.ensures c.items.ensures c.takes_date.ensures
    (small c.args.start.now.month (month_of (day_of (start_of r))) start.month
    (omega (arith, start.months.1))) in
    subst P (sym listed)
    (taken_are (IsPlain 13) (takes_date r) (pos (month_of (day_of (start_of r)))) r.by_month
    (omega (arith, ints), omega (arith, ints, start.month, start.months.1))
    (months_are c.rule_laws.ensures.ical_values r c.requires.checked))

pub returns : goal.returns
unfolding filled
returns c =
    let r = c.args.rule.now in
    let start = c.requires.start in
    let mask = c.plain_mask.result in
    let P : List ℤ → Type 0 =
    λ values. (m : ℕ) → 0 < m → m < 13 → ((mask == 0) || has_bit (mask ∷ []) m)
    ≡ (not (is_given values) || lists values (pos m)) in
    let listed = taken_list c.or_taken.result.now c.items.result.now r.by_month c.takes_date.result
    (takes_date r) _ _ c.or_taken.ensures c.items.ensures c.takes_date.ensures
    (small c.args.start.now.month (month_of (day_of (start_of r))) start.month
    (omega (arith, start.months.1))) in
    subst P listed
    (λ m some below. rw (c.plain_mask.ensures.none, c.plain_mask.ensures.bits m (omega arith)) refl)
