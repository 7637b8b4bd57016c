use Rattle.walk_core.proofs.Following.{first_of, first_then, next_fits, some_why}
use Rattle.walk_core.proofs.Listing.{items_back, one_in, one_left, some_in, some_left}
use Rattle.walk_core.proofs.laws.items_laws.Goals as goal

pub returns-clause-left : goal.returns-clause-left
returns-clause-left c = λ set window t fit. some_left c.run_laws.ensures.exist set window t fit

pub returns-clause-one_left : goal.returns-clause-one_left
returns-clause-one_left c =
    λ set window t xs ys a b. one_left c.run_laws.ensures.unique set window t xs ys a b

pub returns-clause-some : goal.returns-clause-some
returns-clause-some c =
    λ set window w dir low high. some_in c.run_laws.ensures.exist set window w dir low high

pub returns-clause-one : goal.returns-clause-one
returns-clause-one c =
    λ set window w dir xs ys a b. one_in c.run_laws.ensures.unique set window w dir xs ys a b

pub returns-clause-reversed : goal.returns-clause-reversed
returns-clause-reversed c = λ set window w runs h. items_back set window w.hi.0 w.lo.0 runs h

pub returns-clause-first : goal.returns-clause-first
returns-clause-first c = λ set window t run runs fit are. first_of set window t fit run runs are

pub returns-clause-follow : goal.returns-clause-follow
returns-clause-follow c =
    λ set window t run next fit first. (
      next_fits set window t fit run next first,
      λ runs rest.
          first_then set window t fit run next runs first rest,
    )

pub returns-clause-ends : goal.returns-clause-ends
returns-clause-ends c =
    λ set window t fit none. some_why set window t fit c.answer_laws.ensures.some none
