use Rattle.std.proofs.Common.{arith, ap, ◌≤ℤ◌, ◌<ℤ◌}
use Rattle.std.proofs.lemmas.Int.{ints}
use Rattle.moment_core.specs.Line.{position_of}
use Rattle.moment_core.specs.declared.line.Pos.{Pos}
use Rattle.moment_core.specs.declared.line.TheConstants.{LOW}
use Rattle.expr_tree.specs.Members.{is_member}
use Rattle.lowered_tree.specs.Nodes.{meant_of_node}
use Rattle.node_members.specs.Looking.{candidate_of_either, in_either}
use Rattle.node_members.proofs.Looking.{pairs_out}
use Rattle.node_members.proofs.looks.pairs_first.Goals as goal

pub returns-then-lt-clause-none : goal.returns-then-lt-clause-none
returns-then-lt-clause-none c =
    let h : c.args.p.0 <ℤ position_of LOW = grind (arith, ints) in
    pairs_out c.member_laws.ensures.pairs c.due_laws.ensures.pairs
    c.candidate_laws.ensures.places (is_member (meant_of_node c.args.opens.now))
    (is_member (meant_of_node c.args.closes.now)) c.args.p.0 (λ z low high. absurd
    (omega (arith, ints)))

pub returns-clause-some : goal.returns-clause-some
returns-clause-some c =
    let a = meant_of_node c.args.opens.now in
    let b = meant_of_node c.args.closes.now in
    let h : position_of LOW ≤ℤ c.args.p.0 = grind (arith, ints) in
    let here = ap (λ (q : Pos). q.0) c.from.ensures.here in
    (c.from.ensures.start (in_either a b) (candidate_of_either a b), omega (arith, ints))
