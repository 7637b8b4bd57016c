use Rattle.frame_core.proofs.Windows.{never_differs, windows_keep, windows_lie}
use Rattle.frame_core.proofs.laws.window_laws.Goals as goal

pub returns-clause-lie : goal.returns-clause-lie
returns-clause-lie c = windows_lie

pub returns-clause-keep : goal.returns-clause-keep
returns-clause-keep c = windows_keep

pub returns-clause-for_ever : goal.returns-clause-for_ever
returns-clause-for_ever c = never_differs
