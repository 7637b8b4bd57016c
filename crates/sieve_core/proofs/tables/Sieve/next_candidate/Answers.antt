use Rattle.std.proofs.Common.{◌∙◌, sym}
use Rattle.sieve_core.proofs.tables.Sieve.next_candidate.Goals as goal

pub returns-then-is_member : goal.returns-then-is_member
returns-then-is_member c = (c.in-Some.ensures.next, sym c.is_member.ensures ∙ c.if-is_member.true)

pub returns-else-is_member : goal.returns-else-is_member
returns-else-is_member c = (c.in-Some.ensures.next, sym c.is_member.ensures ∙ c.if-is_member.false)
