use Rattle.std.proofs.Common.{subst}
use Rattle.expr_text.specs.Sorted.{tree_of_set, trees_of_sorted}
use Rattle.expr_tree.specs.Tree.{Tree}
use Rattle.stored_pair.specs.Meanings.{Meaning}
use Rattle.stored_pair.specs.Names.{entries_of}
use Rattle.query_words.specs.declared.queries.Query.TheVariants.{Near, Resume, Walk}
use Rattle.walk_core.specs.Tokens.{window_token}
use Rattle.query_reply.specs.Preparing.{on, reading_of}
use Rattle.query_reply.specs.Reading.{settled}
use Rattle.query_reply.specs.Report.{IsAskedBy, window_given}
use Rattle.query_reply.proofs.PreparingLemmas.{can_be_ready, no_plan, printed_as, walk_is_report}
use Rattle.query_reply.proofs.preparing.make_report.Goals as goal

pub make-requires : goal.make-requires
make-requires c = can_be_ready c.args.program.first c.requires.well_formed.0 c.requires.sorts.0

pub returns-in-Ok : goal.returns-in-Ok
returns-in-Ok c =
    rw c.in-Near.is (
      settled c.in-Ok.ensures.settled,
      λ o h.
          subst (λ (t : Tree Meaning). IsAskedBy t c.in-Near.side c.args.program.first.sort.kind
          c.args.clock c.in-Near.at.moment.0 c.in-Near.budget o) c.in-Ok.ensures.meant h,
    )

pub returns-in-Near : goal.returns-in-Near
returns-in-Near c =
    let t = tree_of_set c.args.program.first in
    rw (c.in-Near.is, c.why_unready.ensures)
    (no_plan (Near c.in-Near.side c.in-Near.at c.in-Near.budget)
    (on (reading_of c.args.program) c.args.clock) t c.in-Err.fault (λ u first. first)
    (c.settle_laws.ensures.working t) c.in-Err.ensures.fault)

pub returns-in-Walk : goal.returns-in-Walk
returns-in-Walk c =
    rw c.in-Walk.is (walk_is_report (entries_of c.args.book.now)
    (Walk c.in-Walk.from c.in-Walk.to c.in-Walk.dir c.in-Walk.limit c.in-Walk.budget)
    (reading_of c.args.program) c.args.clock
    (window_token (window_given c.in-Walk.from c.in-Walk.to) c.in-Walk.dir) c.in-Walk.limit
    c.in-Walk.budget
    c.walk_over.result (λ are. are) (λ u first. first) (λ o is. is)
    (rw c.first_token-first.ensures.value at c.walk_over.ensures))

pub returns-in-Resume : goal.returns-in-Resume
returns-in-Resume c =
    rw c.in-Resume.is (walk_is_report (entries_of c.args.book.now)
    (Resume c.in-Resume.token c.in-Resume.limit c.in-Resume.budget)
    (reading_of c.args.program) c.args.clock c.in-Resume.token c.in-Resume.limit c.in-Resume.budget
    c.walk_over-in-Resume.result
    (λ are. are) (λ u first. first) (λ o is. is) c.walk_over-in-Resume.ensures)

pub returns : goal.returns
returns c =
    rw c.in-Show.is (
      settled tt,
      λ o h.
          printed_as (trees_of_sorted c.args.program) c.in_ok-printed_line-in-Show.field-0.items o
          c.in_ok-printed_line-in-Show.ensures h,
    )
