use Rattle.std.proofs.Common.{◌<◌, ◌^◌, arith}
use Rattle.std.proofs.Math.Pow.{pow-lt}
use Rattle.std.proofs.lemmas.Nat.{or_lt}
use Rattle.sieve_tables.proofs.MaskLemmas.{more-nonzero, one-more-bit}
use Rattle.sieve_tables.proofs.masks.with_bit.Goals as goal

pub returns-clause-bits : goal.returns-clause-bits
returns-clause-bits c =
    λ k below. let small : c.args.bit < 64 = omega arith in one-more-bit c.sieve_laws.ensures.set
    c.args.mask c.args.bit k small

pub returns-clause-below : goal.returns-clause-below
returns-clause-below c =
    let lower : 2 ^ c.args.bit < 2 ^ c.args.len = pow-lt c.requires.bit in
    or_lt c.args.len c.args.mask _ c.requires.mask (omega (arith, lower))

pub returns-clause-some : goal.returns-clause-some
returns-clause-some c = let small : c.args.bit < 64 = omega arith in more-nonzero c.args.mask
    c.args.bit small
