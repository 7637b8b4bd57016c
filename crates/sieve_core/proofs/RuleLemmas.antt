-- The tests of a rule together.
use Rattle.std.proofs.Common.{◌≡◌, true, ◌&&◌, refl, ℤ, pos, negsuc, arith}
use Rattle.std.proofs.Math.Bool.{and_comm}
use Rattle.std.proofs.lemmas.Bool.{and_from, and_parts, or_right}
use Rattle.std.proofs.lemmas.Bool.Decides.{nat_tests}
use Rattle.moment_core.specs.Calendar.{divides}
use Rattle.moment_core.specs.TimeOfDay.{day_of, second_of_day}
use Rattle.sieve_core.specs.Days.{meets_days}
use Rattle.sieve_core.specs.Times.{meets_time}
use Rattle.sieve_core.specs.declared.tables.Sieve.{Sieve}
use Rattle.sieve_core.specs.Members.{has, is_between, is_candidate, is_mark, is_midnight, meets_interval, meets_rank, meets_rule, meets_tests}

-- the time of day first
pub meets_tests_by_time : (s : Sieve) (t : ℤ) → meets_tests s t
    ≡ (meets_time s (second_of_day t) && meets_days s.days (day_of t))
unfolding meets_tests meets_time
meets_tests_by_time s t = and_comm (meets_days s.days (day_of t)) (meets_time s (second_of_day t))

pub divides-one : (z : ℤ) → divides 1 z ≡ true
divides-one (pos n) = grind (arith, nat_tests)
divides-one (negsuc n) = grind (arith, nat_tests)

pub meets_interval_of_one : (s : Sieve) (t : ℤ) → s.interval ≡ 1 → meets_interval s t ≡ true
unfolding meets_interval
meets_interval_of_one s t e = rw e (divides-one _)

-- between the ends the rule decides
pub has_between : (s : Sieve) (t : ℤ) → is_between s t ≡ true → has s t ≡ meets_rule s t
unfolding has
has_between s t e = rw e refl

pub member_is_candidate : (s : Sieve) (t : ℤ) → has s t ≡ true → is_candidate s t ≡ true
unfolding has is_candidate is_mark meets_rule
member_is_candidate s t e =
    let parts = and_parts (is_between s t) (meets_tests s t && meets_interval s t && meets_rank s t)
    e in
    let tests = and_parts (meets_tests s t) _ (and_parts (meets_tests s t && meets_interval s t)
    (meets_rank s t) parts.1).0 in
    and_from (is_between s t) _ parts.0 (or_right (is_midnight t) (meets_tests s t) tests.0)

pub candidate-between : (s : Sieve) (t : ℤ) → is_candidate s t ≡ true → is_between s t ≡ true
unfolding is_candidate
candidate-between s t e = (and_parts (is_between s t) (is_mark s t) e).0
