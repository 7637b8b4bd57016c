-- What a search forwards knows of the ranks in the unit in which it stands.
use Rattle.std.specs.Prelude.{◌≡◌, ◌+◌, true, if◌then◌else◌}
use Rattle.moment_core.specs.declared.line.Dir.TheVariants.{Fore, Back}
use Rattle.sieve_core.specs.Members.{is_between, meets_interval, meets_tests, rank_of}
use Rattle.sieve_core.specs.declared.known.KnownRanks.{KnownRanks}
use Rattle.sieve_core.specs.declared.tables.Sieve.{Sieve}

-- how many moments of the place's unit meet the tests, up to the place and after it; the place lies
-- between the sieve's ends, in a unit that the interval takes
pub record IsKnown (s : Sieve) (k : KnownRanks) : Type 0 where
  pub between : is_between s k.place.0 ≡ true
  pub interval : meets_interval s k.place.0 ≡ true
  pub so_far : k.so_far ≡ rank_of s Back k.place.0
  pub to_come : (if meets_tests s k.place.0 then 1 else 0) + k.to_come ≡ rank_of s Fore k.place.0
