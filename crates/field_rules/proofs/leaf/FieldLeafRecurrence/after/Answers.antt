use Rattle.moment_core.specs.declared.line.Dir.TheVariants.{Fore}
use Rattle.sieve_core.specs.Members.{is_candidate, meets_rule}
use Rattle.field_rules.proofs.RuleLaws.{candidates, step-of_rule}
use Rattle.field_rules.proofs.leaf.FieldLeafRecurrence.after.Goals as goal

pub returns-clause-next : goal.returns-clause-next
returns-clause-next c = step-of_rule c.sieve_laws.ensures.between c.args.self.now.sieve Fore
    c.args.t.0 c.after.result c.args.self.now.whole c.after.ensures.next

pub returns-clause-members : goal.returns-clause-members
returns-clause-members c =
    let s = c.args.self.now.sieve in
    c.recurrence_laws.ensures.skips (meets_rule s) (is_candidate s) Fore c.args.t.0 c.after.result
    (candidates c.sieve_laws.ensures.between c.sieve_laws.ensures.members s c.args.self.now.whole)
    c.requires (step-of_rule c.sieve_laws.ensures.between s Fore c.args.t.0 c.after.result
    c.args.self.now.whole c.after.ensures.next)
