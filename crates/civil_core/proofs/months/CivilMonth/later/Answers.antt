use Rattle.std.proofs.Common.{refl, arith}
use Rattle.moment_core.proofs.FloorLemmas.{floor_arith}
use Rattle.civil_core.proofs.MonthLemmas.{month-january, month-later}
use Rattle.civil_core.proofs.months.CivilMonth.later.Goals as goal

pub returns-then-self-eq12-clause-month : goal.returns-then-self-eq12-clause-month
returns-then-self-eq12-clause-month c =
    month-january c.args.self.now _ c.requires.month c.if-self-eq12.true
    (omega (arith, floor_arith, c.requires.near)) refl
    c.is_leap.ensures
    (omega (arith, floor_arith, c.requires.near, c.requires.month.lens)) refl refl refl

pub returns-else-self-eq12-clause-month : goal.returns-else-self-eq12-clause-month
returns-else-self-eq12-clause-month c =
    month-later c.args.self.now _ c.requires.month
    (omega (arith, c.requires.month.month, c.if-self-eq12.false))
    (omega (arith, floor_arith, c.requires.near)) refl refl
    (omega (arith, floor_arith, c.requires.near, c.requires.month.lens)) refl
    c.month_len.ensures.value refl
