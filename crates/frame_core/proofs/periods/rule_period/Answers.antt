use Rattle.std.proofs.Common.{◌∙◌}
use Rattle.frame_core.proofs.Multiples.{gcd_some, in_width-period_of_rule}
use Rattle.frame_core.proofs.periods.rule_period.Goals as goal

pub nonzero_div-interval : goal.nonzero_div-interval
nonzero_div-interval c = gcd_some c.args.interval c.args.units c.gcd.result c.requires.interval
    c.gcd.ensures

pub returns : goal.returns
returns c =
    c.product_in_width.ensures
    ∙ in_width-period_of_rule c.args.units c.args.interval c.gcd.result c.requires.interval
    c.gcd.ensures
