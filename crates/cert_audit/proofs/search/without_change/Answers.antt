use Rattle.std.proofs.Common.{refl}
use Rattle.cert_audit.proofs.search.without_change.Goals as goal

pub returns-in-Some : goal.returns-in-Some
returns-in-Some c = rw c.in-Some.is refl
