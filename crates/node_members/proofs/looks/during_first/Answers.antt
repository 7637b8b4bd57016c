use Rattle.std.proofs.Common.{arith, ap, ◌≤ℤ◌, ◌<ℤ◌}
use Rattle.std.proofs.lemmas.Int.{ints}
use Rattle.moment_core.specs.declared.line.Pos.{Pos}
use Rattle.expr_tree.specs.Members.{is_member}
use Rattle.search_core.specs.Candidates.{is_candidate}
use Rattle.lowered_tree.specs.Nodes.{meant_of_node}
use Rattle.node_members.proofs.Looking.{during_out}
use Rattle.node_members.proofs.looks.during_first.Goals as goal

pub returns-then-lt-clause-none : goal.returns-then-lt-clause-none
returns-then-lt-clause-none c =
    let h : c.args.p.0 <ℤ c.earliest.result.0 = grind (arith, ints) in
    let e = c.earliest.ensures in
    during_out c.member_laws.ensures.during c.due_laws.ensures.during
    c.candidate_laws.ensures.places (is_member (meant_of_node c.args.a.now)) c.args.seconds
    c.args.p.0 (λ z low high. absurd (omega (arith, ints)))

pub returns-clause-some : goal.returns-clause-some
returns-clause-some c =
    let h : c.earliest.result.0 ≤ℤ c.args.p.0 = grind (arith, ints) in
    let e = c.earliest.ensures in
    let here = ap (λ (q : Pos). q.0) c.from.ensures.here in (
      c.from.ensures.start (is_member (meant_of_node c.args.a.now))
          (is_candidate (meant_of_node c.args.a.now)),
      omega (arith, ints),
    )
