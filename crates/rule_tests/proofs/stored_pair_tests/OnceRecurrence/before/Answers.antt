use Rattle.std.proofs.Common.{◌-ℤ◌, arith, unsigned_abs}
use Rattle.std.proofs.lemmas.Int.{ints}
use Rattle.moment_core.specs.declared.line.Dir.TheVariants.{Back}
use Rattle.rule_tests.proofs.Once.{itself, next-once}
use Rattle.rule_tests.proofs.stored_pair_tests.OnceRecurrence.before.Goals as goal

pub returns-then-self-t-clause-next : goal.returns-then-self-t-clause-next
returns-then-self-t-clause-next c =
    let t = c.args.t.0 in
    let u = c.args.self.now.moment.0 in (
      next-once Back t u (unsigned_abs (t -ℤ u)) c.args.self.now.working
          (omega (arith, ints, c.if-self-t.true)) (omega (arith, ints, c.if-self-t.true)),
      itself u,
    )
