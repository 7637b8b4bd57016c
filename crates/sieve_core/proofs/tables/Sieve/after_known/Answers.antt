use Rattle.std.proofs.Common.{◌∙◌, sym}
use Rattle.sieve_core.proofs.tables.Sieve.after_known.Goals as goal

pub returns-then-is_member_known-clause-next : goal.returns-then-is_member_known-clause-next
returns-then-is_member_known-clause-next c =
    (c.in-Some.ensures.next, sym c.is_member_known.ensures.value ∙ c.if-is_member_known.true)

pub returns-else-is_member_known-clause-next : goal.returns-else-is_member_known-clause-next
returns-else-is_member_known-clause-next c =
    (c.in-Some.ensures.next, sym c.is_member_known.ensures.value ∙ c.if-is_member_known.false)
