use Rattle.std.proofs.Common.{◌∙◌, sym, ap}
use Rattle.std.specs.Int.{IsInRange}
use Rattle.sieve_core.specs.Members.{rank_of}
use Rattle.sieve_core.proofs.CycleLemmas.{rank_of-cycle}
use Rattle.sieve_core.proofs.RankLemmas.{capped-same}
use Rattle.sieve_core.proofs.tables.Sieve.rank.Goals as goal

pub returns-then-t-lt0 : goal.returns-then-t-lt0
returns-then-t-lt0 c =
    let s = c.args.self.now in
    let first : IsInRange 1 7 s.days.first = rw c.number-first.ensures.value at
    c.number-first.ensures.within in
    capped-same c.args.cap _ _ c.rank_of_deep.result
    (ap (rank_of s c.args.dir) c.cycle_on.ensures.place ∙ rank_of-cycle s c.args.dir c.args.t.0
    first) c.rank_of_deep.ensures

pub returns-else-t-lt0 : goal.returns-else-t-lt0
returns-else-t-lt0 c =
    let s = c.args.self.now in
    let first : IsInRange 1 7 s.days.first = rw c.number-first.ensures.value at
    c.number-first.ensures.within in
    capped-same c.args.cap _ _ c.rank_of_deep-else-t-lt0.result
    (sym (rank_of-cycle s c.args.dir c.cycle_back.result.0 first) ∙ ap (rank_of s c.args.dir)
    c.cycle_back.ensures.place) c.rank_of_deep-else-t-lt0.ensures
