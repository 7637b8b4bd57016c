use Rattle.std.proofs.Common.{map}
use Rattle.std.specs.String.{string_bytes}
use Rattle.query_words.proofs.Asking.{show_asks}
use Rattle.query_words.proofs.reading.read_show.Goals as goal

pub returns : goal.returns
returns c = show_asks (map string_bytes c.args.later.now) c.in_ok-read_settings.ensures.0
