use Rattle.cert_audit.proofs.ready.Ready.test.Goals as goal

pub returns-in-Err-clause-value : goal.returns-in-Err-clause-value
returns-in-Err-clause-value g c = c.in-Err.ensures.due
