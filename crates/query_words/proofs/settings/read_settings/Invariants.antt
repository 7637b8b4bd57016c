use Rattle.std.proofs.Common.{map, take}
use Rattle.std.specs.String.{string_bytes}
use Rattle.query_words.specs.Reading.{FitBelow, Holds}
use Rattle.query_words.proofs.settings.read_settings.Given as goal

abbrev pub invariant-loop-i : goal.invariant-loop-i
invariant-loop-i l = FitBelow l.fn.command (map string_bytes l.fn.later) l.i
    × Holds (take l.i (map string_bytes l.fn.later)) l.settings
