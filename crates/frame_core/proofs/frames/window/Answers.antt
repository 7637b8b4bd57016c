use Rattle.frame_core.proofs.frames.window.Goals as goal

pub returns-in-Fore : goal.returns-in-Fore
returns-in-Fore c = rw (c.in-Fore.is, ← c.greater.ensures) c.window_from.ensures

pub returns-in-Back : goal.returns-in-Back
returns-in-Back c = rw (c.in-Back.is, ← c.lesser.ensures) c.window_up_to.ensures
