use Rattle.span_core.proofs.Stretches.{ends_after-all, ends_after-to, reaches-all, reaches-from}
use Rattle.span_core.proofs.laws.bound_laws.Goals as goal

pub returns-clause-low : goal.returns-clause-low
returns-clause-low c = λ low. (reaches-from low, reaches-all low)

pub returns-clause-high : goal.returns-clause-high
returns-clause-high c = λ high. (ends_after-to high, ends_after-all high)
