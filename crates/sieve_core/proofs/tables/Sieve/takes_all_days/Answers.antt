use Rattle.std.proofs.Common.{refl}
use Rattle.sieve_core.proofs.SeekLemmas.{days_turn-one}
use Rattle.sieve_core.proofs.tables.Sieve.takes_all_days.Goals as goal

pub returns-then-self-eq1 : goal.returns-then-self-eq1
returns-then-self-eq1 c = λ all year month day.
    let s = c.args.self.now in
    days_turn-one s.unit s.interval s.phase year month day c.if-self-eq1.true

pub returns-in-Hour : goal.returns-in-Hour
returns-in-Hour c = λ all year month day. rw c.in-Hour.is refl

pub returns-in-Minute : goal.returns-in-Minute
returns-in-Minute c = λ all year month day. rw c.in-Minute.is refl

pub returns-in-Second : goal.returns-in-Second
returns-in-Second c = λ all year month day. rw c.in-Second.is refl
