use Rattle.std.proofs.Common.{◌+◌, [], ◌∷◌, ◌∙◌, sym, ap, arith}
use Rattle.sieve_core.specs.Bits.{has_bit}
use Rattle.sieve_core.specs.Times.{turned_bit}
use Rattle.sieve_core.proofs.CountLemmas.{count-zero, count-met, count-unmet}
use Rattle.sieve_core.proofs.ranks.ones_below.Goals as goal
use Rattle.sieve_core.proofs.ranks.ones_below.Goals.{then-has_bit, else-has_bit}

pub loop-i-init : goal.loop-i-init
loop-i-init c = (sym (count-zero (turned_bit c.args.dir c.args.mask c.args.len)), omega arith)

pub loop-i-preserved : goal.loop-i-preserved
loop-i-preserved c =
    let f = turned_bit c.args.dir c.args.mask c.args.len in
    let bit = ap (has_bit (c.args.mask ∷ [])) (sym c.turn.ensures) ∙ sym c.has_bit.ensures in
    elim c.if-has_bit.branch [
      | then-has_bit w ↦ (
        w.count-is ∙ ap (λ n. n + 1) c.loop-i.invariant.0
            ∙ sym (count-met f c.loop-i.i (bit ∙ w.if-has_bit.true)),
        omega
            (arith, w.count-is, c.loop-i.invariant.1),
      )
      | else-has_bit w ↦ (
        w.count-is ∙ c.loop-i.invariant.0
            ∙ sym (count-unmet f c.loop-i.i (bit ∙ w.if-has_bit.false)),
        omega
            (arith, w.count-is, c.loop-i.invariant.1),
      )
    ]
