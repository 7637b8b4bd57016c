use Rattle.std.proofs.Common.{refl, subst, inr, ℕ}
use Rattle.moment_core.specs.declared.line.Dir.TheVariants.{Fore}
use Rattle.stored_pair.specs.Meanings.{Meaning}
use Rattle.expr_tree.specs.Members.{is_member}
use Rattle.expr_tree.specs.Tree.{Tree}
use Rattle.search_core.specs.Due.{IsDue}
use Rattle.plan_core.specs.Plans.{window_of}
use Rattle.walk_core.specs.Both.{meant_of_items}
use Rattle.walk_core.specs.Items.{AreItems}
use Rattle.walk_core.specs.Steps.{IsStopOfStep}
use Rattle.walk_core.specs.Tokens.{window_token}
use Rattle.walk_core.proofs.Taking.{fewer_left, take_given, take_none, take_stop, take_stretch}
use Rattle.walk_core.proofs.both.Items.take.Goals as goal

pub from-self-requires : goal.from-self-requires
from-self-requires g c =
    (take_stretch (is_member (meant_of_items c.args.self.now))
    (IsDue (meant_of_items c.args.self.now)) (window_of (meant_of_items c.args.self.now))
    c.get.result c.args.self.now.left c.step_from-stepped.result.next c.args.dir c.in-Some.t
    c.step_from-stepped.result.found
    c.in-Some.ensures.some.2 c.in-Some.ensures.some.0 c.step_from-stepped.ensures.answer
    c.in-Given.run' c.token.ensures.stretch c.in-Given.is).0

pub returns-in-Given-clause-takes : goal.returns-in-Given-clause-takes
returns-in-Given-clause-takes g c = (
  c.if-self.false,
  c.if-self.false,
  λ runs rest.
      let P : Tree Meaning → Type 0 =
      λ t. AreItems (is_member t) (window_of t) Fore c.from-self.result.lo.0 c.from-self.result.hi.0
      runs in
      take_given (is_member (meant_of_items c.args.self.now))
      (IsDue (meant_of_items c.args.self.now)) (window_of (meant_of_items c.args.self.now))
      c.get.result c.args.self.now.left c.step_from-stepped.result.next c.args.dir c.in-Some.t
      c.step_from-stepped.result.found
      c.in-Some.ensures.some.2 c.in-Some.ensures.some.0 c.step_from-stepped.ensures.answer
      c.from-self.result c.in-Given.run' runs
      c.in-Given.is c.from-self.ensures (subst P c.step_from-stepped.ensures.same rest),
)

pub returns-in-Given-clause-fewer : goal.returns-in-Given-clause-fewer
returns-in-Given-clause-fewer g c =
    fewer_left c.args.self.now.stopped c.args.self.now.left c.from-self.result c.args.dir
    c.step_from-stepped.result.next.place c.if-self.false
    c.from-self.ensures
    (take_stretch (is_member (meant_of_items c.args.self.now))
    (IsDue (meant_of_items c.args.self.now)) (window_of (meant_of_items c.args.self.now))
    c.get.result c.args.self.now.left c.step_from-stepped.result.next c.args.dir c.in-Some.t
    c.step_from-stepped.result.found
    c.in-Some.ensures.some.2 c.in-Some.ensures.some.0 c.step_from-stepped.ensures.answer
    c.in-Given.run' c.token.ensures.stretch c.in-Given.is).1

pub returns-in-Done-clause-takes : goal.returns-in-Done-clause-takes
returns-in-Done-clause-takes g c = (
  refl,
  refl,
  inr (take_none (is_member (meant_of_items c.args.self.now))
      (IsDue (meant_of_items c.args.self.now)) (window_of (meant_of_items c.args.self.now))
      c.get.result c.args.self.now.left c.step_from-stepped.result.next c.args.dir c.in-Some.t
      c.step_from-stepped.result.found
      c.in-Some.ensures.some.2 c.in-Some.ensures.some.0 c.step_from-stepped.ensures.answer
      c.in-Done.field-0 c.in-Done.is),
)

pub returns-in-Stopped-clause-takes : goal.returns-in-Stopped-clause-takes
returns-in-Stopped-clause-takes g c =
    let B : ℕ → Type 0 =
    λ b. IsStopOfStep (is_member (meant_of_items c.args.self.now))
    (IsDue (meant_of_items c.args.self.now)) (window_token c.args.self.now.left c.args.dir) b
    c.in-Stopped.stop in (
      c.if-self.false,
      refl,
      refl,
      subst B c.get.ensures.value
          (take_stop (is_member (meant_of_items c.args.self.now))
          (IsDue (meant_of_items c.args.self.now)) (window_of (meant_of_items c.args.self.now))
          c.get.result c.args.self.now.left c.step_from-stepped.result.next c.args.dir c.in-Some.t
          c.step_from-stepped.result.found
          c.in-Some.ensures.some.2 c.in-Some.ensures.some.0 c.step_from-stepped.ensures.answer
          c.in-Stopped.stop c.in-Stopped.is),
    )
