use Rattle.std.proofs.Common.{◌<◌, arith}
use Rattle.sieve_tables.proofs.MaskLemmas.{full_bits}
use Rattle.sieve_tables.proofs.masks.full_mask.Goals as goal

pub returns-clause-bits : goal.returns-clause-bits
returns-clause-bits c = let small : c.args.len < 64 = omega arith in
    full_bits c.sieve_laws.ensures.word c.args.len small
