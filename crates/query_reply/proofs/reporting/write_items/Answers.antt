use Rattle.std.proofs.Common.{subst}
use Rattle.expr_tree.specs.Tree.{Tree}
use Rattle.span_core.specs.declared.answers.Token.{Token}
use Rattle.stored_pair.specs.Meanings.{Meaning}
use Rattle.plan_core.specs.Plans.{meant_of_plan}
use Rattle.walk_core.specs.Walks.{token_of_walk}
use Rattle.walk_report.specs.Report.{IsWalked}
use Rattle.query_reply.proofs.WalkLemmas.{walk_reported}
use Rattle.query_reply.proofs.reporting.write_items.Goals as goal

pub returns-clause-outcome : goal.returns-clause-outcome
returns-clause-outcome g c =
    let w = c.args.walking.now in
    let old = c.args.sink.now in
    let new = c.write_walk.new.sink in
    let P : Tree Meaning → Token → Type 0 =
    λ x y. IsWalked g.K.Sink old new (record {
      tree = x;
      kind = w.kind;
      clock = w.clock;
      budget =
          w.budget;
    }) w.limit y c.write_walk.result in
    walk_reported g.K.Sink old new (meant_of_plan w.plan) w.kind w.clock w.from w.limit w.budget
    c.write_walk.result
    (subst (λ (y : Token). P (meant_of_plan w.plan) y) c.resume-walk.ensures.token
    (subst (λ (x : Tree Meaning). P x (token_of_walk c.resume-walk.result))
    c.resume-walk.ensures.meant c.write_walk.ensures.walked))
