use Rattle.std.proofs.Common.{arith, refl}
use Rattle.moment_core.specs.declared.line.Dir.TheVariants.{Back}
use Rattle.sieve_core.proofs.KnownLemmas.{known-on, rank-least}
use Rattle.sieve_core.proofs.tables.Sieve.ranks_on.Goals as goal

pub overflow_add-result : goal.overflow_add-result
overflow_add-result c = omega (
  arith,
  c.requires.known.so_far,
  rank-least c.args.self.now Back
      c.args.ranks.place.0,
)

pub returns-then-met-clause-known : goal.returns-then-met-clause-known
returns-then-met-clause-known c =
    known-on c.args.self.now c.args.ranks c.args.t _ c.check_weekday.ensures c.requires.known
    c.requires.more c.requires.next refl (rw (← c.requires.met, c.if-met.true) refl)
    (rw (← c.requires.met, c.if-met.true) (omega (arith, c.requires.more)))

pub returns-else-met-clause-known : goal.returns-else-met-clause-known
returns-else-met-clause-known c =
    known-on c.args.self.now c.args.ranks c.args.t _ c.check_weekday.ensures c.requires.known
    c.requires.more c.requires.next refl (rw (← c.requires.met, c.if-met.false) (omega arith))
    (rw (← c.requires.met, c.if-met.false) (omega arith))
