use Rattle.std.proofs.Common.{◌∙◌, sym}
use Rattle.std.proofs.lemmas.Bool.{true≢false}
use Rattle.sieve_core.proofs.MomentLemmas.{met-working, moments-fewer, next-member, none-left-closed, none-left-met, none-left-unmet, reached-past, reached-start}
use Rattle.sieve_core.proofs.tables.Sieve.seek.Goals as goal

pub loop-dir-init : goal.loop-dir-init
loop-dir-init c =
    reached-start c.args.self.now c.args.dir c.args.t.0 _ c.requires.moment c.start-at.ensures

pub returns-clause-none : goal.returns-clause-none
returns-clause-none c =
    none-left-closed c.args.self.now c.args.dir c.args.t.0 c.loop-dir.at.0 c.loop-dir.invariant
    (λ inside. true≢false (sym (c.is_open.ensures.1 inside) ∙ c.loop-dir-test.false))

pub returns-in-None-clause-none : goal.returns-in-None-clause-none
returns-in-None-clause-none c =
    none-left-unmet c.args.self.now c.args.dir c.args.t.0 c.loop-dir.at.0 c.loop-dir.invariant
    c.in-None.ensures.none

pub returns-then-not-is_between-clause-none : goal.returns-then-not-is_between-clause-none
returns-then-not-is_between-clause-none c =
    none-left-met c.args.self.now c.args.dir c.args.t.0 c.loop-dir.at.0 c.in-Some.u.0
    c.loop-dir.invariant c.in-Some.ensures.some
    (sym c.is_between.ensures ∙ c.if-not-is_between.true)

pub meets_turn-requires-clause-moment : goal.meets_turn-requires-clause-moment
meets_turn-requires-clause-moment c =
    met-working c.args.self.now c.in-Some.u.0 c.in-Some.ensures.some.meets

pub steps_on-at-requires-clause-moment : goal.steps_on-at-requires-clause-moment
steps_on-at-requires-clause-moment c =
    met-working c.args.self.now c.in-Some.u.0 c.in-Some.ensures.some.meets

pub returns-then-meets_turn-clause-some : goal.returns-then-meets_turn-clause-some
returns-then-meets_turn-clause-some c =
    next-member c.args.self.now c.args.dir c.args.t.0 c.loop-dir.at.0 c.in-Some.u.0
    c.loop-dir.invariant c.in-Some.ensures.some
    (sym c.is_between.ensures ∙ c.if-not-is_between.false)
    (sym c.meets_turn.ensures ∙ c.if-meets_turn.true)

pub loop-dir-preserved : goal.loop-dir-preserved
loop-dir-preserved c =
    reached-past c.args.self.now c.args.dir c.args.t.0 c.loop-dir.at.0 c.in-Some.u.0 _
    c.loop-dir.invariant c.in-Some.ensures.some
    (sym c.meets_turn.ensures ∙ c.if-meets_turn.false) c.steps_on-at.ensures

pub loop-dir-smaller : goal.loop-dir-smaller
loop-dir-smaller c =
    moments-fewer c.args.self.now c.args.dir c.loop-dir.at.0 c.in-Some.u.0 _
    (c.is_open.ensures.0 c.loop-dir-test.true).0
    (met-working c.args.self.now c.in-Some.u.0 c.in-Some.ensures.some.meets)
    c.in-Some.ensures.some c.steps_on-at.ensures
