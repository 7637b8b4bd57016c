-- Membership in two sets that are joined.
use Rattle.std.specs.Prelude.{Bool, not, ◌&&◌, ◌||◌}
use Rattle.moment_core.specs.declared.joining.Op.{Op}
use Rattle.moment_core.specs.declared.joining.Op.TheVariants.{Union, Meet, Minus}

abbrev pub joined : Op → Bool → Bool → Bool
joined Union a b = a || b
joined Meet a b = a && b
joined Minus a b = a && not b
