use Rattle.std.proofs.Common.{◌∙◌}
use Rattle.frame_core.proofs.Multiples.{gcd_some, in_width-least_common}
use Rattle.frame_core.proofs.periods.least_common.Goals as goal

pub nonzero_div-a : goal.nonzero_div-a
nonzero_div-a c = gcd_some c.args.a c.args.b c.gcd.result c.requires.a c.gcd.ensures

pub returns : goal.returns
returns c =
    c.product_in_width.ensures ∙ in_width-least_common c.args.a c.args.b c.gcd.result c.requires.a
    c.gcd.ensures
