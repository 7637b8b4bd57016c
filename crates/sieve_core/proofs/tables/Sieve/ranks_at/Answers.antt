use Rattle.std.proofs.Common.{arith}
use Rattle.moment_core.specs.declared.line.Dir.TheVariants.{Fore}
use Rattle.sieve_core.proofs.KnownLemmas.{rank-met}
use Rattle.sieve_core.proofs.tables.Sieve.ranks_at.Goals as goal

pub overflow_sub-result : goal.overflow_sub-result
overflow_sub-result c = omega (
  arith,
  c.whole_rank-2.ensures,
  rank-met c.args.self.now Fore
      c.args.t.0 c.requires.met,
)

pub returns-clause-known : goal.returns-clause-known
returns-clause-known c = record {
  between = c.requires.between;
  interval = c.requires.interval;
  so_far = c.whole_rank.ensures;
  to_come = rw c.requires.met
      (omega (
        arith,
        c.whole_rank-2.ensures,
        rank-met c.args.self.now Fore c.args.t.0
            c.requires.met,
      ));
}
