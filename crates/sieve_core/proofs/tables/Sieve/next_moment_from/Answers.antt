use Rattle.std.proofs.Common.{◌≡◌, ◌∙◌, sym, ap, arith, w64, to_z, of_z}
use Rattle.moment_core.proofs.FloorLemmas.{floor_arith}
use Rattle.moment_core.specs.TimeOfDay.{day_of}
use Rattle.sieve_core.proofs.MomentLemmas.{nearest-later_day, nearest-same_day, none-met, turned_day-below}
use Rattle.sieve_core.proofs.SeekLemmas.{nearest-works, working_day-fits}
use Rattle.sieve_core.proofs.tables.Sieve.next_moment_from.Goals as goal

pub returns-in-None-clause-none : goal.returns-in-None-clause-none
returns-in-None-clause-none c =
    none-met c.args.self.now c.args.dir c.args.t.0 c.in-None.ensures.none

pub second_of-requires-clause-day : goal.second_of-requires-clause-day
second_of-requires-clause-day c =
    let working = nearest-works c.args.self.now c.args.dir _ c.in-Some.day c.in-Some.ensures.some in
    rw (working_day-fits c.in-Some.day working) working

pub returns-then-day-div_euclid-clause-some : goal.returns-then-day-div_euclid-clause-some
returns-then-day-div_euclid-clause-some c =
    let near = c.in-Some.ensures.some in
    let day = working_day-fits c.in-Some.day
    (nearest-works c.args.self.now c.args.dir _ c.in-Some.day near) in
    let here : to_z w64 (of_z w64 c.div_euclid.result) ≡ day_of c.args.t.0 = omega (
      arith,
      floor_arith,
      c.div_euclid.ensures,
      c.requires.moment,
    ) in
    nearest-same_day c.args.self.now c.args.dir c.args.t.0 c.in-Some.day
    c.second_of.result.0 c.args.n near
    (sym day ∙ ap (to_z w64) c.if-day-div_euclid.true ∙ here)
    (c.second_of.ensures.day ∙ day) (c.second_of.ensures.second ∙ c.turn.ensures) c.requires.least

pub second_of-requires-in-Some-first_second-clause-day : goal.second_of-requires-in-Some-first_second-clause-day
second_of-requires-in-Some-first_second-clause-day c =
    let working = nearest-works c.args.self.now c.args.dir _ c.in-Some.day c.in-Some.ensures.some in
    rw (working_day-fits c.in-Some.day working) working

pub returns-in-Some-first_second-clause-some : goal.returns-in-Some-first_second-clause-some
returns-in-Some-first_second-clause-some c =
    let near = c.in-Some.ensures.some in
    let day = working_day-fits c.in-Some.day
    (nearest-works c.args.self.now c.args.dir _ c.in-Some.day near) in
    let here : c.div_euclid.result ≡ day_of c.args.t.0 = omega (
      arith,
      floor_arith,
      c.div_euclid.ensures,
      c.requires.moment,
    ) in
    nearest-later_day c.args.self.now c.args.dir c.args.t.0 c.in-Some.day
    c.second_of-in-Some-first_second.result.0 c.in-Some-first_second.first near
    (λ same. c.if-day-div_euclid.false (ap (of_z w64) (same ∙ sym here)))
    (c.second_of-in-Some-first_second.ensures.day ∙ day)
    (c.second_of-in-Some-first_second.ensures.second ∙ c.turn-in-Some-first_second.ensures)
    c.in-Some-first_second.ensures (turned_day-below c.args.dir c.args.t.0)
