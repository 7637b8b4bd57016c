use Rattle.std.proofs.Common.{◌≡◌, [], take, drop}
use Rattle.rrule_text.specs.Reading.{repeated_after}
use Rattle.rrule_text.proofs.reading.repeated.Given as goal

abbrev pub invariant-loop-i : goal.invariant-loop-i
invariant-loop-i l = repeated_after (take l.i l.parts) (drop l.i l.parts)
    ≡ repeated_after [] l.parts
