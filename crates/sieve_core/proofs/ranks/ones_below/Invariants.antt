use Rattle.std.proofs.Common.{◌≡◌, ◌≤◌}
use Rattle.moment_core.specs.Ranks.{count_below}
use Rattle.sieve_core.specs.Times.{turned_bit}
use Rattle.sieve_core.proofs.ranks.ones_below.Given as goal

abbrev pub invariant-loop-i : goal.invariant-loop-i
invariant-loop-i l = (l.count ≡ count_below (turned_bit l.dir l.mask l.len) l.i) × (l.count ≤ l.i)
