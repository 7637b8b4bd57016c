use Rattle.std.proofs.Common.{◌≡◌, ◌*◌, ◌+◌, ◌-◌, ◌∙◌, sym, ap, arith, to_z, of_z, w64, if◌then◌else◌}
use Rattle.std.proofs.lemmas.Int.{ints}
use Rattle.moment_core.specs.TimeOfDay.{day_of}
use Rattle.sieve_core.specs.Days.{meets_days}
use Rattle.moment_core.specs.Units.{unit_of}
use Rattle.std.proofs.lemmas.Bool.{true≢false}
use Rattle.sieve_core.specs.Members.{rank_of}
use Rattle.sieve_core.proofs.RankLemmas.{capped-enough, capped-exact, counted-first, counted-more, rank-changed, rank-long}
use Rattle.sieve_core.proofs.tables.Sieve.count_days.Goals as goal

pub loop-day-init : goal.loop-day-init
loop-day-init c = counted-first c.args.self.now c.args.dir c.args.t.0 _ c.args.from c.args.first
    c.requires.deep c.requires.day c.steps_on-at.ensures c.requires.first c.requires.most

pub returns-then-count-cap : goal.returns-then-count-cap
returns-then-count-cap c =
    let is = c.loop-day.invariant in
    capped-enough c.args.self.now c.args.dir c.args.t.0 c.args.cap
    (86_400 - c.args.from + 86_400 * c.loop-day.day) c.loop-day.count (omega (arith, is.days))
    is.counts c.if-count-cap.true

pub returns-then-not-has_number : goal.returns-then-not-has_number
returns-then-not-has_number c =
    let is = c.loop-day.invariant in
    let number : to_z w64 (of_z w64 c.number-number.result) ≡ unit_of c.args.self.now.unit
    c.args.t.0 = omega (
      arith,
      ints,
      c.number-number.ensures.value,
      c.number-number.ensures.low,
      c.number-number.ensures.high,
    ) in
    capped-exact c.args.cap (rank_of c.args.self.now c.args.dir c.args.t.0) c.loop-day.count
    (is.counts ∙ sym (rank-changed c.args.self.now c.args.dir c.args.t.0 c.loop-day.at.0
    (86_400 - c.args.from + 86_400 * c.loop-day.day) c.requires.weekday (omega (arith, is.days))
    is.place (λ same. true≢false (sym (c.has_number.ensures.1 (same ∙ sym number))
    ∙ c.if-not-has_number.true))))

pub loop-day-preserved : goal.loop-day-preserved
loop-day-preserved c =
    let is = c.loop-day.invariant in
    let number : to_z w64 (of_z w64 c.number-number.result) ≡ unit_of c.args.self.now.unit
    c.args.t.0 = omega (
      arith,
      ints,
      c.number-number.ensures.value,
      c.number-number.ensures.low,
      c.number-number.ensures.high,
    ) in
    counted-more c.args.self.now c.args.dir c.args.t.0 c.loop-day.at.0
    c.steps_on-at-in-loop-day.result.0 c.args.from c.loop-day.day c.loop-day.count _ c.requires.deep
    c.requires.days c.requires.from c.requires.day c.loop-day-test.true is
    (c.has_number.ensures.0 c.if-not-has_number.false ∙ number) c.steps_on-at-in-loop-day.ensures
    (ap (λ n. c.loop-day.count + n) (c.whole_day-count.ensures.value
    ∙ ap (λ n. if meets_days c.args.self.now.days (day_of c.loop-day.at.0) then n else 0)
    c.seconds_below-whole.ensures.value))

pub returns : goal.returns
returns c =
    let is = c.loop-day.invariant in
    capped-exact c.args.cap (rank_of c.args.self.now c.args.dir c.args.t.0) c.loop-day.count
    (is.counts ∙ sym (rank-long c.args.self.now c.args.dir c.args.t.0
    (86_400 - c.args.from + 86_400 * c.loop-day.day) c.requires.weekday (omega (arith, is.days))
    (omega (arith, c.loop-day-test.false))))
