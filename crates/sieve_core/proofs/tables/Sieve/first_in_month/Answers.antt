use Rattle.std.proofs.Common.{arith}
use Rattle.sieve_core.proofs.tables.Sieve.first_in_month.Goals as goal

pub returns : goal.returns
returns c = λ k low below. c.loop-i.invariant k low (omega (arith, low, below, c.loop-i-test.false))
