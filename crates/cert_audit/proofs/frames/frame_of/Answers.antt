use Rattle.cert_audit.specs.Lowered.{meant_of_ready}
use Rattle.cert_audit.proofs.frames.frame_of.Goals as goal

pub returns-clause-period : goal.returns-clause-period
returns-clause-period c =
    rw c.args.r.now.framed (c.tree_frame_laws.ensures.period (meant_of_ready c.args.r.now)
    c.args.r.now.searchable.lawful)

pub returns-clause-repeats : goal.returns-clause-repeats
returns-clause-repeats c =
    rw c.args.r.now.framed (c.tree_frame_laws.ensures.repeats (meant_of_ready c.args.r.now)
    c.args.r.now.searchable.lawful)
