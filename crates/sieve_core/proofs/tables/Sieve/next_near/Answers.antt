use Rattle.std.proofs.Common.{◌∙◌, sym}
use Rattle.std.proofs.lemmas.Bool.{true≢false}
use Rattle.sieve_core.proofs.CandidateLemmas.{next-candidate, none-left-nearest, none-left-start}
use Rattle.sieve_core.proofs.tables.Sieve.next_near.Goals as goal

pub returns-then-not-is_open-clause-none : goal.returns-then-not-is_open-clause-none
returns-then-not-is_open-clause-none c = none-left-start c.args.self.now c.args.dir c.args.t.0 _
    c.requires c.start-start.ensures (λ open_there. true≢false (sym (c.is_open.ensures.1 open_there)
    ∙ c.if-not-is_open.true))

pub returns-then-is_open-clause-next : goal.returns-then-is_open-clause-next
returns-then-is_open-clause-next c =
    let open_there = c.is_open-2.ensures.0 c.if-is_open.true in
    next-candidate c.args.self.now c.args.dir c.args.t.0 _ _ c.start-start.ensures
    c.nearest-near.ensures.near open_there.0 open_there.1

pub returns-else-is_open-clause-none : goal.returns-else-is_open-clause-none
returns-else-is_open-clause-none c = none-left-nearest c.args.self.now c.args.dir c.args.t.0 _ _
    c.requires c.start-start.ensures c.nearest-near.ensures.near
    (λ open_there. true≢false (sym (c.is_open-2.ensures.1 open_there) ∙ c.if-is_open.false))
