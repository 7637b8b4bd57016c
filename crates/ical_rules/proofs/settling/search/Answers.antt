use Rattle.std.proofs.Common.{arith}
use Rattle.ical_rules.proofs.SearchLemmas.{cuts_off, ends, finds, hits, passes, starts}
use Rattle.ical_rules.proofs.settling.search.Goals as goal
use Rattle.ical_rules.proofs.settling.search.Goals.{in-Pass, in-Hit+else-members-count}

pub loop-passed-init : goal.loop-passed-init
loop-passed-init c = (
  rw c.just_before-at.ensures (starts _ _ c.args.start.0 c.args.count c.requires.start
      c.requires.count),
  tt,
)

pub returns-in-End : goal.returns-in-End
returns-in-End c =
    ends _ _ _ _ _ _ _ _ c.loop-passed.invariant.0 c.in-End.ensures.next c.in-End.ensures.members
    (omega (arith, c.loop-passed.auto._passed-end))

pub returns-then-members-count : goal.returns-then-members-count
returns-then-members-count c =
    finds _ _ _ _ _ _ _ _ _ c.loop-passed.invariant.0 c.in-Hit.ensures.next.0
    c.in-Hit.ensures.members c.in-Hit.ensures.next.1 c.if-members-count.true c.loop-passed-test.true

pub loop-passed-preserved : goal.loop-passed-preserved
loop-passed-preserved c = elim c.match-after_known.branch [
  | in-Pass w ↦ (
    rw (w.at-is, w.members-is) (passes _ _ _ _ _ _ _ _ c.loop-passed.invariant.0
        w.in-Pass.ensures.next.0 w.in-Pass.ensures.members w.in-Pass.ensures.next.1),
    w.in-Pass.ensures.known,
  )
  | in-Hit+else-members-count w ↦ (
    rw (w.at-is, w.members-is) (hits _ _ _ _ _ _ _ _ c.loop-passed.invariant.0
        w.in-Hit.ensures.next.0 w.in-Hit.ensures.members w.in-Hit.ensures.next.1
        w.if-members-count.false),
    w.in-Hit.ensures.known,
  )
]

pub returns-in-End-after_known : goal.returns-in-End-after_known
returns-in-End-after_known c =
    ends _ _ _ _ _ _ _ _ c.loop-passed.invariant.0 c.in-End-after_known.ensures.next
    c.in-End-after_known.ensures.members (omega (arith, c.loop-passed.auto._passed-end))

pub returns-in_default : goal.returns-in_default
returns-in_default c =
    cuts_off _ _ _ _ _ _ _ _ _ c.loop-passed.invariant.0 c.after_known-2.ensures.next
    c.after_known-2.ensures.members c.in_default.not-End
    (omega (arith, c.loop-passed.auto._passed-end, c.loop-passed-test.false)) c.requires.budget
