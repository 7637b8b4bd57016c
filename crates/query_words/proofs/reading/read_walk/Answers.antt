use Rattle.std.proofs.Common.{map}
use Rattle.std.specs.String.{string_bytes}
use Rattle.query_words.proofs.Asking.{walk_asks}
use Rattle.query_words.proofs.reading.read_walk.Goals as goal

pub returns : goal.returns
returns c =
    let words = map string_bytes c.args.later.now in
    let s = c.in_ok-settings.settings in
    rw (c.stamp.ensures, c.stamp-2.ensures, c.dir.ensures, c.limit.ensures, c.budget.ensures)
    (walk_asks words s c.in_ok-settings.ensures.0 c.in_ok-settings.ensures.1)
