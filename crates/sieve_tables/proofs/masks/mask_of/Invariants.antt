use Rattle.std.proofs.Common.{take}
use Rattle.sieve_tables.proofs.MaskLemmas.{IsMasked}
use Rattle.sieve_tables.proofs.masks.mask_of.Given as goal

abbrev pub invariant-loop-v : goal.invariant-loop-v
invariant-loop-v l = IsMasked l.mask l.len (take l.v-index l.values)
