use Rattle.std.specs.Prelude.{IfSome}
use Rattle.ical_rules.specs.Leaves.{has_counted}
use Rattle.ical_rules.proofs.SearchLemmas.{IsOnWay}
use Rattle.sieve_core.specs.Known.{IsKnown}
use Rattle.sieve_core.specs.Members.{is_candidate}
use Rattle.ical_rules.proofs.settling.search.Given as goal

abbrev pub invariant-loop-passed : goal.invariant-loop-passed
invariant-loop-passed l =
    IsOnWay (has_counted l.leaf.sieve l.leaf.until l.leaf.count) (is_candidate l.leaf.sieve)
    l.fn.start.0 l.at.0 l._passed l.members l.count
    × IfSome l.known (IsKnown l.leaf.sieve)
