use Rattle.moment_core.specs.declared.line.Dir.TheVariants.{Back}
use Rattle.sieve_core.specs.Members.{has}
use Rattle.stored_pair.proofs.RecurrenceLemmas.{alike-member}
use Rattle.ical_rules.specs.Leaves.{has_counted}
use Rattle.ical_rules.proofs.leaf.IcalLeafMembers.previous_member.Goals as goal

pub returns-clause-next : goal.returns-clause-next
returns-clause-next c =
    let leaf = c.args.self.now in
    alike-member (has leaf.sieve) (has_counted leaf.sieve leaf.until leaf.count) Back c.args.t.0
    c.previous_member.result c.requires leaf.counted.working c.previous_member.ensures.some
    c.previous_member.ensures.none
