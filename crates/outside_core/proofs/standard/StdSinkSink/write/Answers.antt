use Rattle.std.proofs.Common.{◌≡◌, ◌+◌, ◌-◌, ◌++◌, ℕ, List, length, take, drop, Option, Some, None, sym, ◌∙◌, ap, append_assoc, arith}
use Rattle.std.proofs.Math.Seq.{take-add}
use Rattle.std.proofs.lemmas.Grind.{common_steps}
use Rattle.std.specs.Io.KnownBytes.{Appends}
use Rattle.outside_core.proofs.standard.StdSinkSink.write.Goals as goal

-- the first n bytes of a piece, and then more of the rest
Appends-more : (a b c : Option (List ℕ)) (piece : List ℕ) (n more : ℕ) → Appends a b (take n piece)
    → Appends b c (take more (take (length piece - n) (drop n piece)))
    → Appends a c (take (n + more) piece)
Appends-more None b c piece n more first second = tt
Appends-more (Some a) None c piece n more first second = absurd first
Appends-more (Some a) (Some b) None piece n more first second = absurd second
Appends-more (Some a) (Some b) (Some c) piece n more first second =
    let rest : take (length piece - n) (drop n piece) ≡ drop n piece =
    grind (arith, common_steps) in
    second
    ∙ ap (λ z. z ++ take more (take (length piece - n) (drop n piece))) first
    ∙ append_assoc a (take n piece) (take more (take (length piece - n) (drop n piece)))
    ∙ ap (λ z. a ++ (take n piece ++ take more z)) rest
    ∙ ap (λ z. a ++ z) (sym (take-add n more piece))

pub loop-done-preserved : goal.loop-done-preserved
loop-done-preserved g c = record {
  within = grind (arith, common_steps, c.in-Some.ensures.some.1);
  taken = Appends-more _ _ _ c.args.piece.now c.loop-done.done c.in-Some.n
      c.loop-done.invariant.taken c.in-Some.ensures.some.2;
  no_fault = c.loop-done.invariant.no_fault;
}
