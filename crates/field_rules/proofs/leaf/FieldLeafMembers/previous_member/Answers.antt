use Rattle.moment_core.specs.declared.line.Dir.TheVariants.{Back}
use Rattle.sieve_core.specs.Members.{has, meets_rule}
use Rattle.stored_pair.proofs.RecurrenceLemmas.{alike-member}
use Rattle.field_rules.proofs.RuleLaws.{candidates, has-working}
use Rattle.field_rules.proofs.leaf.FieldLeafMembers.previous_member.Goals as goal

pub returns-clause-next : goal.returns-clause-next
returns-clause-next c =
    let s = c.args.self.now.sieve in
    alike-member (has s) (meets_rule s) Back c.args.t.0 c.previous_member.result c.requires
    (λ u here. has-working c.sieve_laws.ensures.between s u c.args.self.now.whole here)
    c.previous_member.ensures.some c.previous_member.ensures.none

pub returns-clause-candidates : goal.returns-clause-candidates
returns-clause-candidates c = candidates c.sieve_laws.ensures.between c.sieve_laws.ensures.members
    c.args.self.now.sieve c.args.self.now.whole
