use Rattle.walk_core.proofs.Together.{all_taken}
use Rattle.walk_core.proofs.both.both_laws.Goals as goal

pub returns : goal.returns
returns g c = λ s t calls h. all_taken s t calls h
