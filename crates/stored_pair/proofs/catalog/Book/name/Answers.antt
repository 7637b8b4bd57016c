use Rattle.stored_pair.proofs.ListParts.{slice_get-map_read}
use Rattle.stored_pair.proofs.catalog.Book.name.Goals as goal

pub returns : goal.returns
returns c = rw c.as_str.ensures.value (slice_get-map_read _ c.args.self.now.entries.items c.args.id
    c.index.result.now c.index.ensures c.requires)
