use Rattle.std.proofs.Common.{arith, ◌<ℤ◌}
use Rattle.std.proofs.lemmas.Int.{ints}
use Rattle.sieve_core.proofs.CandidateLemmas.{start-at_end, start-at_last}
use Rattle.sieve_core.proofs.tables.Sieve.start.Goals as goal

pub returns-then-next-self : goal.returns-then-next-self
returns-then-next-self c =
    let below : c.steps_on-next.result.0 <ℤ c.args.self.now.first.0 =
    grind (arith, ints, c.if-next-self.true) in
    rw c.in-Fore.is (start-at_end c.args.self.now c.args.t.0 c.steps_on-next.result.0
    (rw c.in-Fore.is at c.steps_on-next.ensures) below)

pub returns-then-self-next : goal.returns-then-self-next
returns-then-self-next c =
    let above : c.args.self.now.last.0 <ℤ c.steps_on-next.result.0 =
    grind (arith, ints, c.if-self-next.true) in
    rw c.in-Back.is (start-at_last c.args.self.now c.args.t.0 c.steps_on-next.result.0
    (rw c.in-Back.is at c.steps_on-next.ensures) above)
