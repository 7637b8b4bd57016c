use Rattle.frame_core.proofs.Repeating.{Repeats-apart, Repeats-constant, Repeats-join, join_of-IsPeriod, keeps}
use Rattle.frame_core.proofs.laws.frame_laws.Goals as goal

pub returns-clause-keeps : goal.returns-clause-keeps
returns-clause-keeps c set frame dir p positive r near = keeps set frame dir p positive r near

pub returns-clause-join : goal.returns-clause-join
returns-clause-join c f g op a b joined x y e r s = Repeats-join op f g a b joined x y e r s

pub returns-clause-period : goal.returns-clause-period
returns-clause-period c = join_of-IsPeriod

pub returns-clause-apart : goal.returns-clause-apart
returns-clause-apart c f op frame r = Repeats-apart op f frame r

pub returns-clause-constant : goal.returns-clause-constant
returns-clause-constant c = Repeats-constant
