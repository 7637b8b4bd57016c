use Rattle.std.proofs.Common.{List, ℤ, sym, subst}
use Rattle.std.specs.Prelude.{All}
use Rattle.sieve_tables.specs.Lowered.{IsEntry}
use Rattle.ical_rules.proofs.Checks.{ranks_are}
use Rattle.ical_rules.proofs.days.ranks.Goals as goal

pub fill-requires-clause-entries : goal.fill-requires-clause-entries
fill-requires-clause-entries c =
    let P : List ℤ → Type 0 = λ values. All (IsEntry 384) values in
    subst P (sym c.items.ensures) (ranks_are c.rule_laws.ensures.ical_values c.args.rule.now
    c.requires)
