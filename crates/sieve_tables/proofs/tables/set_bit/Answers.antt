use Rattle.sieve_tables.proofs.Filled.{not_zero}
use Rattle.sieve_tables.proofs.SetBits.{bit_set_here}
use Rattle.sieve_tables.proofs.tables.set_bit.Goals as goal

pub returns-clause-bits : goal.returns-clause-bits
returns-clause-bits c = λ j. c.sieve_laws.ensures.set c.args.words.now c.args.i j c.requires

pub returns-clause-nonzero : goal.returns-clause-nonzero
returns-clause-nonzero c =
    not_zero _ c.args.i (bit_set_here c.sieve_laws.ensures.set c.args.words.now c.args.i c.requires)
