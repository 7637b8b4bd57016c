use Rattle.std.proofs.Common.{arith}
use Rattle.sieve_core.proofs.KnownLemmas.{rank-whole}
use Rattle.sieve_core.proofs.tables.Sieve.whole_rank.Goals as goal

pub returns : goal.returns
returns c = rank-whole c.args.self.now c.args.dir c.args.t.0 32_659_201 c.rank.result (omega arith)
    c.rank.ensures
