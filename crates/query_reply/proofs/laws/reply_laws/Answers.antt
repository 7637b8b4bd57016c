use Rattle.query_reply.proofs.ReplyLaws.{refused_texts_have_one_reply, replies_are_unique, replies_exist}
use Rattle.query_reply.proofs.ReplyLemmas.{Budgets, Reads, ample_replies_never_stop, answered_texts_are_short, long_fronts_decide, replies_are_done}
use Rattle.query_reply.proofs.WalkLemmas.{Walks}
use Rattle.query_reply.proofs.laws.reply_laws.Goals as goal
use Rattle.query_reply.proofs.laws.reply_laws.Goals.{After-report_laws}

reads : (c : After-report_laws) → Reads
reads c = record {
  exist = c.reading_laws.ensures.exist;
  unique = c.reading_laws.ensures.unique;
  well_formed = c.reading_laws.ensures.well_formed;
  sorted = c.reading_laws.ensures.sorted;
  long = c.reading_laws.ensures.long;
  lawful = c.lawful_laws.ensures;
  settled = c.settle_laws.ensures.exist;
  one = c.settle_laws.ensures.one;
  apart = c.settle_laws.ensures.apart;
}

walks : (c : After-report_laws) → Walks
walks c = record {
  begin = c.step_laws.ensures.begin;
  exist = c.report_laws.ensures.exist;
  unique = c.report_laws.ensures.unique;
  ample = c.report_laws.ensures.ample;
  enough = c.report_laws.ensures.enough;
}

budgets : (c : After-report_laws) → Budgets
budgets c = record {
  ahead = c.ample_laws.ensures.ahead;
  tests = c.ample_laws.ensures.tests;
  above = c.budget_laws.ensures.enough;
  finds = c.budget_laws.ensures.ample;
  walks = walks c;
  reach = c.tree_laws.ensures.reach;
}

pub returns-clause-exist : goal.returns-clause-exist
returns-clause-exist c = replies_exist (reads c) c.neighbour_laws.ensures.exist
    c.endless_laws.ensures.for_ever (walks c)

pub returns-clause-unique : goal.returns-clause-unique
returns-clause-unique c = replies_are_unique (reads c) c.neighbour_laws.ensures.unique (walks c)

pub returns-clause-alone : goal.returns-clause-alone
returns-clause-alone c = refused_texts_have_one_reply (reads c) c.neighbour_laws.ensures.unique
    (walks c)

pub returns-clause-done : goal.returns-clause-done
returns-clause-done c = replies_are_done

pub returns-clause-ample : goal.returns-clause-ample
returns-clause-ample c = ample_replies_never_stop (reads c) (budgets c)

pub returns-clause-fronts : goal.returns-clause-fronts
returns-clause-fronts c = long_fronts_decide (reads c)

pub returns-clause-short : goal.returns-clause-short
returns-clause-short c = answered_texts_are_short (reads c)
