use Rattle.std.proofs.Common.{◌↔◌, ◌∙◌, sym, subst}
use Rattle.span_core.specs.declared.answers.Token.{Token}
use Rattle.stored_pair.specs.Meanings.{Meaning}
use Rattle.expr_tree.specs.Members.{is_member}
use Rattle.expr_tree.specs.Tree.{Tree}
use Rattle.plan_core.specs.Plans.{meant_of_plan, window_of}
use Rattle.walk_core.specs.Items.{IsHonest}
use Rattle.walk_core.specs.Walks.{AreItemsOf, AreLeftOf, meant_of_walk, token_of_walk}
use Rattle.walk_core.proofs.Taking.{honest_window, window_items}
use Rattle.walk_core.proofs.walk.Walk.start.Goals as goal

pub returns-clause-items : goal.returns-clause-items
returns-clause-items c runs =
    let T : Tree Meaning → Type 0 =
    λ x. AreLeftOf x (token_of_walk c.resume.result) runs
    ↔ AreItemsOf (meant_of_plan c.args.plan.now) c.args.w c.args.dir runs in
    let U : Token → Type 0 =
    λ x. AreLeftOf (meant_of_plan c.args.plan.now) x runs
    ↔ AreItemsOf (meant_of_plan c.args.plan.now) c.args.w c.args.dir runs in
    subst T (sym c.resume.ensures.meant)
    (subst U (sym (c.resume.ensures.token ∙ c.window_token.ensures.value))
    (window_items (is_member (meant_of_plan c.args.plan.now))
    (window_of (meant_of_plan c.args.plan.now)) c.args.w c.args.dir runs))

pub returns-clause-honest : goal.returns-clause-honest
returns-clause-honest c =
    let U : Token → Type 0 = λ x. IsHonest (is_member (meant_of_walk c.resume.result)) x in
    subst U (sym (c.resume.ensures.token ∙ c.window_token.ensures.value))
    (honest_window (is_member (meant_of_walk c.resume.result)) c.args.w c.args.dir)
