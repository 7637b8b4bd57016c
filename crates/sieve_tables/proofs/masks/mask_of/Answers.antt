use Rattle.std.proofs.Common.{◌≡◌, arith, ap, ◌∙◌, get_or, pos, to_z, of_z, w64}
use Rattle.std.proofs.lemmas.Int.{ints}
use Rattle.std.specs.Ordering.{int_eq}
use Rattle.rule_core.specs.Values.{meant}
use Rattle.sieve_tables.proofs.MaskLemmas.{empty_masked, one_masked, whole_masked}
use Rattle.sieve_tables.proofs.masks.mask_of.Goals as goal

pub loop-v-init : goal.loop-v-init
loop-v-init c = empty_masked c.args.len

pub loop-v-preserved : goal.loop-v-preserved
loop-v-preserved c =
    let v = get_or c.args.values.now c.loop-v.v-index (pos 0) in
    let within = c.requires.values c.loop-v.v-index (pos 0) c.loop-v-test.true in
    let same : v ≡ to_z w64 (of_z w64 v) = omega (arith, ints, within.0, within.1) in
    one_masked c.loop-v.mask c.with_bit-mask.result c.args.len c.bit_of.result c.loop-v.v-index
    c.args.values.now (pos 0) c.loop-v-test.true
    c.loop-v.invariant c.with_bit-mask.ensures.bits c.with_bit-mask.ensures.below
    c.with_bit-mask.ensures.some
    (λ k. ap (λ z. int_eq (meant c.args.len z) (pos k)) same ∙ c.bit_of.ensures.means k)

pub returns-clause-bits : goal.returns-clause-bits
returns-clause-bits c = (whole_masked c.loop-v.mask c.args.len c.loop-v.v-index c.args.values.now
    c.loop-v-test.false c.loop-v.invariant).bits

pub returns-clause-none : goal.returns-clause-none
returns-clause-none c = (whole_masked c.loop-v.mask c.args.len c.loop-v.v-index c.args.values.now
    c.loop-v-test.false c.loop-v.invariant).none
