use Rattle.std.proofs.Common.{◌≡◌, ◌≤◌, drop}
use Rattle.expr_tokens.specs.Reading.{value_from}
use Rattle.expr_tokens.proofs.Digits.{most}
use Rattle.expr_tokens.proofs.reading.value.Given as goal

abbrev pub invariant-loop-d : goal.invariant-loop-d
invariant-loop-d l = (value_from l.n (drop l.d-index l.digits) ≡ value_from 0 l.digits)
    × (l.n ≤ most l.d-index)
