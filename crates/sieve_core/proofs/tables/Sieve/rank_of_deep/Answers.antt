use Rattle.std.proofs.Common.{◌≡◌, ◌-◌, ◌∙◌, sym, ap}
use Rattle.moment_core.specs.Ranks.{count_below}
use Rattle.sieve_core.specs.Members.{rank_of}
use Rattle.sieve_core.specs.Ranks.{counted}
use Rattle.sieve_core.specs.Times.{turn}
use Rattle.moment_core.specs.TimeOfDay.{second_of_day}
use Rattle.sieve_core.proofs.RankLemmas.{capped-exact, count-in-block, days-block_end, rank-in-block}
use Rattle.sieve_core.proofs.tables.Sieve.rank_of_deep.Goals as goal

pub count_days-requires-clause-first : goal.count_days-requires-clause-first
count_days-requires-clause-first c =
    let from : c.turn-from.result ≡ turn c.args.dir 86_400 (second_of_day c.args.t.0) =
    c.turn-from.ensures ∙ ap (turn c.args.dir 86_400) c.second_of_day.ensures.value in
    let end : c.block_end-end.result ≡ 86_400 = c.block_end-end.ensures.value
    ∙ days-block_end c.args.self.now.unit c.turn-from.result (sym c.is_of_days.ensures
    ∙ c.if-is_of_days.true) in
    c.count_in_day-count.ensures.value
    ∙ sym (count-in-block c.args.self.now c.args.dir c.args.t.0 c.turn-from.result
    c.block_end-end.result from c.block_end-end.ensures.value)
    ∙ ap (λ n. count_below (counted c.args.self.now c.args.dir c.args.t.0) (n - c.turn-from.result))
    end

pub returns-else-is_of_days : goal.returns-else-is_of_days
returns-else-is_of_days c =
    let from : c.turn-from.result ≡ turn c.args.dir 86_400 (second_of_day c.args.t.0) =
    c.turn-from.ensures ∙ ap (turn c.args.dir 86_400) c.second_of_day.ensures.value in
    capped-exact c.args.cap (rank_of c.args.self.now c.args.dir c.args.t.0)
    c.count_in_day-count.result
    (c.count_in_day-count.ensures.value
    ∙ sym (count-in-block c.args.self.now c.args.dir c.args.t.0 c.turn-from.result
    c.block_end-end.result from c.block_end-end.ensures.value)
    ∙ sym (rank-in-block c.args.self.now c.args.dir c.args.t.0 c.turn-from.result
    c.block_end-end.result c.requires.weekday (sym c.is_of_days.ensures ∙ c.if-is_of_days.false)
    from c.block_end-end.ensures.value))
