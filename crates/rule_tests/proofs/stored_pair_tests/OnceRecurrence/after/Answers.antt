use Rattle.std.proofs.Common.{◌-ℤ◌, arith, unsigned_abs}
use Rattle.std.proofs.lemmas.Int.{ints}
use Rattle.moment_core.specs.declared.line.Dir.TheVariants.{Fore}
use Rattle.rule_tests.proofs.Once.{itself, next-once}
use Rattle.rule_tests.proofs.stored_pair_tests.OnceRecurrence.after.Goals as goal

pub returns-then-t-self-clause-next : goal.returns-then-t-self-clause-next
returns-then-t-self-clause-next c =
    let t = c.args.t.0 in
    let u = c.args.self.now.moment.0 in (
      next-once Fore t u (unsigned_abs (u -ℤ t)) c.args.self.now.working
          (omega (arith, ints, c.if-t-self.true)) (omega (arith, ints, c.if-t-self.true)),
      itself u,
    )
