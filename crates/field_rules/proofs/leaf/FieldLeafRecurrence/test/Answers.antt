use Rattle.std.proofs.Common.{◌∙◌}
use Rattle.field_rules.proofs.RuleLaws.{candidates, has-working}
use Rattle.field_rules.proofs.leaf.FieldLeafRecurrence.test.Goals as goal

pub returns-clause-value : goal.returns-clause-value
returns-clause-value c = c.test.ensures ∙ has-working c.sieve_laws.ensures.between
    c.args.self.now.sieve c.args.t.0 c.args.self.now.whole c.requires

pub returns-clause-candidates : goal.returns-clause-candidates
returns-clause-candidates c = candidates c.sieve_laws.ensures.between c.sieve_laws.ensures.members
    c.args.self.now.sieve c.args.self.now.whole
