use Rattle.std.proofs.Common.{◌≡◌, ◌≤◌, ◌-◌, length}
use Rattle.std.specs.Io.KnownBytes.{Consumes}
use Rattle.set_query.specs.declared.reading.TheConstants.{ROOM}
use Rattle.set_query.proofs.reading.read_text.Given as goal

abbrev pub invariant-loop-buf : goal.invariant-loop-buf
invariant-loop-buf g l =
    (length l.text.items ≤ ROOM)
    × (g.S.Source.faults l.fn.source ≤ g.S.Source.faults l.source)
    × Consumes (g.S.Source.left l.fn.source) (g.S.Source.left l.source) l.text.items
    × (length l.buf ≡ 4096)

abbrev pub decreases-loop-buf : goal.decreases-loop-buf
decreases-loop-buf g l = ROOM - length l.text.items
