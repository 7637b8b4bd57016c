use Rattle.moment_core.specs.declared.line.Dir.TheVariants.{Back}
use Rattle.sieve_core.specs.Members.{is_candidate, meets_rule}
use Rattle.field_rules.proofs.RuleLaws.{candidates, step-of_rule}
use Rattle.field_rules.proofs.leaf.FieldLeafRecurrence.before.Goals as goal

pub returns-clause-next : goal.returns-clause-next
returns-clause-next c = step-of_rule c.sieve_laws.ensures.between c.args.self.now.sieve Back
    c.args.t.0 c.before-step.result c.args.self.now.whole c.before-step.ensures.next

pub returns-clause-members : goal.returns-clause-members
returns-clause-members c =
    let s = c.args.self.now.sieve in
    c.recurrence_laws.ensures.skips (meets_rule s) (is_candidate s) Back c.args.t.0
    c.before-step.result (candidates c.sieve_laws.ensures.between c.sieve_laws.ensures.members s
    c.args.self.now.whole) c.requires (step-of_rule c.sieve_laws.ensures.between s Back c.args.t.0
    c.before-step.result c.args.self.now.whole c.before-step.ensures.next)
