use Rattle.std.proofs.Common.{◌∙◌, sym}
use Rattle.std.proofs.lemmas.Bool.{true≢false}
use Rattle.std.proofs.lemmas.Option.{IfSome_then}
use Rattle.sieve_core.specs.Seek.{is_sought_moment}
use Rattle.sieve_core.proofs.MomentLemmas.{if-none_then, nearest-from, none-from, none-past, none-same_day, none-times}
use Rattle.sieve_core.proofs.tables.Sieve.next_moment_past.Goals as goal

pub returns-then-not-in_work-clause-none : goal.returns-then-not-in_work-clause-none
returns-then-not-in_work-clause-none c =
    none-past c.args.self.now c.args.dir c.args.t.0 c.steps_on-next.result.0 c.args.from
    c.requires.moment c.requires.from c.requires.day c.requires.none c.steps_on-next.ensures
    (λ inside. true≢false (sym (c.in_work.ensures.1 inside) ∙ c.if-not-in_work.true))

pub returns-in-None-clause-none : goal.returns-in-None-clause-none
returns-in-None-clause-none c = none-times c.args.self.now c.args.dir c.args.t.0 c.in-None.ensures

pub returns-in-Some-clause-some : goal.returns-in-Some-clause-some
returns-in-Some-clause-some c =
    IfSome_then c.next_moment_from.result c.next_moment_from.ensures.some (λ u near.
    nearest-from (is_sought_moment c.args.self.now) c.args.dir c.args.t.0
    c.steps_on-next.result.0 u.0 _
    c.steps_on-next.ensures
    (none-same_day c.args.self.now c.args.dir c.args.t.0 c.args.from c.requires.from
    c.requires.none) near)

pub returns-in-Some-clause-none : goal.returns-in-Some-clause-none
returns-in-Some-clause-none c =
    if-none_then c.next_moment_from.result c.next_moment_from.ensures.none (λ none.
    none-from (is_sought_moment c.args.self.now) c.args.dir c.args.t.0 c.steps_on-next.result.0 _
    c.steps_on-next.ensures
    (none-same_day c.args.self.now c.args.dir c.args.t.0 c.args.from c.requires.from
    c.requires.none) none)
