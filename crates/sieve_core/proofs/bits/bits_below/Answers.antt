use Rattle.sieve_core.proofs.BitLemmas.{clear-more}
use Rattle.sieve_core.proofs.bits.bits_below.Goals as goal

pub loop-i-preserved : goal.loop-i-preserved
loop-i-preserved c = record {
  clear = clear-more c.args.words.now c.args.half c.loop-i.i c.loop-i.end c.end_with-end.result
      c.loop-i.invariant.clear c.end_with-end.ensures.clear c.end_with-end.ensures.low;
  most = c.end_with-end.ensures.high;
}
