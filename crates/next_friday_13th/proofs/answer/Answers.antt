use Rattle.std.proofs.Common.{ap, inl, is_ok}
use Rattle.next_friday_13th.proofs.answer.Goals as goal

pub make-requires : goal.make-requires
make-requires g c = record {
  well_formed = c.in-Ok.ensures.well_formed.0;
  sorted = inl (ap is_ok c.in-Ok.ensures.sorts.0);
}
