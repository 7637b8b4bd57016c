use Rattle.std.proofs.Common.{subst}
use Rattle.span_core.specs.Tokens.{IsFit}
use Rattle.span_core.specs.declared.answers.Item.TheVariants as items
use Rattle.span_core.specs.declared.answers.Token.{Token}
use Rattle.stored_pair.specs.Meanings.{Meaning}
use Rattle.expr_tree.specs.Members.{is_member}
use Rattle.expr_tree.specs.Tree.{Tree}
use Rattle.search_core.specs.Lawful.{AreLawful}
use Rattle.walk_core.specs.Walks.{meant_of_walk, token_of_walk}
use Rattle.walk_core.proofs.Endless.{walk_holds}
use Rattle.walk_core.proofs.Ranging.{walk_in_range, walks_on}
use Rattle.walk_core.proofs.Stepping.{walk_done, walk_given, walk_honest, walk_rest, walk_stopped}
use Rattle.walk_core.proofs.walk.Walk.step.Goals as goal

pub returns-in-Given-clause-answer : goal.returns-in-Given-clause-answer
returns-in-Given-clause-answer g c =
    walk_given (meant_of_walk c.args.self.now) c.args.budget (token_of_walk c.args.self.now)
    c.token.result c.step_from-stepped.result.next
    c.of-self.result c.step_from-stepped.result.found c.in-Given.run' c.token.ensures.value
    c.step_from-stepped.ensures.answer
    c.in-Given.is c.of-self.ensures

pub returns-in-Done-clause-answer : goal.returns-in-Done-clause-answer
returns-in-Done-clause-answer g c =
    walk_done (meant_of_walk c.args.self.now) c.args.budget (token_of_walk c.args.self.now)
    c.token.result c.step_from-stepped.result.next
    c.of-self.result c.step_from-stepped.result.found c.in-Done.why c.token.ensures.value
    c.step_from-stepped.ensures.answer
    c.in-Done.is c.of-self.ensures

pub returns-in-Stopped-clause-answer : goal.returns-in-Stopped-clause-answer
returns-in-Stopped-clause-answer g c =
    walk_stopped (meant_of_walk c.args.self.now) c.args.budget (token_of_walk c.args.self.now)
    c.token.result c.step_from-stepped.result.next
    c.of-self.result c.step_from-stepped.result.found c.in-Stopped.field-0 c.token.ensures.value
    c.step_from-stepped.ensures.answer
    c.in-Stopped.is c.of-self.ensures

pub returns-in-Given-clause-rest : goal.returns-in-Given-clause-rest
returns-in-Given-clause-rest g c run same runs rest =
    walk_rest (meant_of_walk c.args.self.now) c.args.budget (token_of_walk c.args.self.now)
    c.token.result c.step_from-stepped.result.next
    c.of-self.result c.step_from-stepped.result.found c.in-Given.run' run c.token.ensures.value
    c.token.ensures.fit
    c.step_from-stepped.ensures.answer c.in-Given.is c.of-self.ensures same runs rest

pub returns-in-Stopped-clause-complete : goal.returns-in-Stopped-clause-complete
returns-in-Stopped-clause-complete g c ample =
    walks_on (meant_of_walk c.args.self.now) c.args.budget (token_of_walk c.args.self.now)
    c.of-self.result
    (items.Budget c.step_from-stepped.result.next) (returns-in-Stopped-clause-answer g c) ample

pub returns-in-Given-clause-for_ever : goal.returns-in-Given-clause-for_ever
returns-in-Given-clause-for_ever g c honest =
    let L : Tree Meaning → Type 0 = λ t. AreLawful t in
    let F : Token → Type 0 = λ t. IsFit t in
    walk_holds c.answer_laws.ensures.run c.endless_laws.ensures.items
    (meant_of_walk c.args.self.now)
    (subst L c.ready.ensures c.ready_laws.ensures.lawful) c.endless_laws.ensures.none c.args.budget
    (token_of_walk c.args.self.now)
    c.of-self.result (items.Run c.in-Given.run') (subst F c.token.ensures.value c.token.ensures.fit)
    honest (returns-in-Given-clause-answer g c)

pub returns-in-Done-clause-for_ever : goal.returns-in-Done-clause-for_ever
returns-in-Done-clause-for_ever g c honest =
    let L : Tree Meaning → Type 0 = λ t. AreLawful t in
    let F : Token → Type 0 = λ t. IsFit t in
    walk_holds c.answer_laws.ensures.run c.endless_laws.ensures.items
    (meant_of_walk c.args.self.now)
    (subst L c.ready.ensures c.ready_laws.ensures.lawful) c.endless_laws.ensures.none c.args.budget
    (token_of_walk c.args.self.now)
    c.of-self.result (items.Done c.in-Done.why) (subst F c.token.ensures.value c.token.ensures.fit)
    honest (returns-in-Done-clause-answer g c)

pub returns-in-Given-clause-in_range : goal.returns-in-Given-clause-in_range
returns-in-Given-clause-in_range g c =
    let F : Token → Type 0 = λ t. IsFit t in
    walk_in_range c.window_laws.ensures.lie c.endless_laws.ensures.in_range
    (meant_of_walk c.args.self.now) c.args.budget
    (token_of_walk c.args.self.now) c.of-self.result (items.Run c.in-Given.run')
    (subst F c.token.ensures.value c.token.ensures.fit)
    (returns-in-Given-clause-answer g c)

pub returns-in-Done-clause-in_range : goal.returns-in-Done-clause-in_range
returns-in-Done-clause-in_range g c =
    let F : Token → Type 0 = λ t. IsFit t in
    walk_in_range c.window_laws.ensures.lie c.endless_laws.ensures.in_range
    (meant_of_walk c.args.self.now) c.args.budget
    (token_of_walk c.args.self.now) c.of-self.result (items.Done c.in-Done.why)
    (subst F c.token.ensures.value c.token.ensures.fit)
    (returns-in-Done-clause-answer g c)

pub returns-in-Given-clause-honest : goal.returns-in-Given-clause-honest
returns-in-Given-clause-honest g c honest =
    walk_honest (is_member (meant_of_walk c.args.self.now)) (token_of_walk c.args.self.now)
    c.token.result c.step_from-stepped.result.next
    c.of-self.result c.token.ensures.value c.of-self.ensures c.step_from-stepped.ensures.honest
    honest

pub returns-in-Done-clause-honest : goal.returns-in-Done-clause-honest
returns-in-Done-clause-honest g c honest =
    walk_honest (is_member (meant_of_walk c.args.self.now)) (token_of_walk c.args.self.now)
    c.token.result c.step_from-stepped.result.next
    c.of-self.result c.token.ensures.value c.of-self.ensures c.step_from-stepped.ensures.honest
    honest

pub returns-in-Stopped-clause-honest : goal.returns-in-Stopped-clause-honest
returns-in-Stopped-clause-honest g c honest =
    walk_honest (is_member (meant_of_walk c.args.self.now)) (token_of_walk c.args.self.now)
    c.token.result c.step_from-stepped.result.next
    c.of-self.result c.token.ensures.value c.of-self.ensures c.step_from-stepped.ensures.honest
    honest
