use Rattle.std.proofs.Common.{refl}
use Rattle.rrule_text.specs.Pieces.{is_of}
use Rattle.rrule_text.proofs.names.is_of.Goals as goal

pub returns : goal.returns
unfolding is_of
returns c = rw (c.starts_with.ensures.value, c.key.ensures) refl
