use Rattle.std.proofs.Common.{refl, arith}
use Rattle.moment_core.proofs.FloorLemmas.{floor_arith}
use Rattle.civil_core.proofs.MonthLemmas.{before-earlier, month-december, month-earlier}
use Rattle.civil_core.proofs.months.CivilMonth.earlier.Goals as goal

pub overflow_sub-result-else-self-eq1-3 : goal.overflow_sub-result-else-self-eq1-3
overflow_sub-result-else-self-eq1-3 c =
    before-earlier c.args.self.now _ c.requires.month
    (omega (arith, c.requires.month.month, c.if-self-eq1.false)) c.month_len-len.ensures.value

pub returns-then-leap-clause-month : goal.returns-then-leap-clause-month
returns-then-leap-clause-month c =
    month-december c.args.self.now _ c.requires.month c.if-self-eq1.true
    (omega (arith, floor_arith, c.requires.near)) refl
    c.is_leap-leap.ensures
    (omega (arith, floor_arith, c.requires.near)) refl refl (rw c.if-leap.true refl)

pub returns-else-leap-clause-month : goal.returns-else-leap-clause-month
returns-else-leap-clause-month c =
    month-december c.args.self.now _ c.requires.month c.if-self-eq1.true
    (omega (arith, floor_arith, c.requires.near)) refl
    c.is_leap-leap.ensures
    (omega (arith, floor_arith, c.requires.near)) refl refl (rw c.if-leap.false refl)

pub returns-else-self-eq1-clause-month : goal.returns-else-self-eq1-clause-month
returns-else-self-eq1-clause-month c =
    let before = before-earlier c.args.self.now _ c.requires.month
    (omega (arith, c.requires.month.month, c.if-self-eq1.false)) c.month_len-len.ensures.value in
    month-earlier c.args.self.now _ c.requires.month
    (omega (arith, c.requires.month.month, c.if-self-eq1.false))
    (omega (arith, floor_arith, c.requires.near)) (omega
    (arith, c.requires.month.month, c.if-self-eq1.false)) refl
    (omega (arith, floor_arith, c.requires.near, c.month_len-len.ensures.within)) refl
    c.month_len-len.ensures.value (omega (arith, before))
