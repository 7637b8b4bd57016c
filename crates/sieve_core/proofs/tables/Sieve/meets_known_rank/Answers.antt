use Rattle.std.proofs.Common.{arith}
use Rattle.moment_core.specs.declared.line.Dir.TheVariants.{Fore}
use Rattle.sieve_core.proofs.KnownLemmas.{rank-least}
use Rattle.sieve_core.proofs.tables.Sieve.meets_known_rank.Goals as goal

pub overflow_add-ranks : goal.overflow_add-ranks
overflow_add-ranks c = omega (
  arith,
  c.requires.known.to_come,
  rank-least c.args.self.now Fore
      c.args.ranks.now.place.0,
)
