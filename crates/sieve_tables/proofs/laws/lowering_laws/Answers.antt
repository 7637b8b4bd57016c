use Rattle.sieve_tables.proofs.Members.{tests_same, members_same}
use Rattle.sieve_tables.proofs.laws.lowering_laws.Goals as goal

pub returns-clause-tests : goal.returns-clause-tests
returns-clause-tests c =
    λ r s is t. tests_same c.calendar_laws.ensures.week_years_hold_days r s is t

pub returns-clause-members : goal.returns-clause-members
returns-clause-members c =
    λ r s is t. members_same c.calendar_laws.ensures.week_years_hold_days r s is t
