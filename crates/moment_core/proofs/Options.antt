-- What an `Option` made of two others, or by a test, tells of what it is made of.
use Rattle.std.proofs.Common.{◌≡◌, Bool, true, false, Option, Some, None, refl}
use Rattle.std.specs.Prelude.{if◌then◌else◌}
use Rattle.std.specs.Option.{option_or}

pub or_none : {X : Type 0} (a b : Option X) → option_or a b ≡ None → (a ≡ None) × (b ≡ None)
or_none None b e = (refl, e)
or_none (Some x) b e = absurd cc

pub no_head : {X : Type 0} (b : Bool) (x : X) (rest : Option X)
    → (if b then Some x else rest) ≡ None → (b ≡ false) × (rest ≡ None)
no_head true x rest e = absurd cc
no_head false x rest e = (refl, e)
