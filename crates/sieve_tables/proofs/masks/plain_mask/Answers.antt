use Rattle.std.proofs.Common.{◌∙◌}
use Rattle.sieve_tables.proofs.TableLemmas.{plain_lists}
use Rattle.sieve_tables.proofs.masks.plain_mask.Goals as goal

pub returns-clause-bits : goal.returns-clause-bits
returns-clause-bits c =
    λ k small. c.mask_of.ensures.bits k small ∙ plain_lists c.args.len k c.args.values.now
    c.requires.values
