use Rattle.token_text.proofs.Apart.{tokens_apart}
use Rattle.token_text.proofs.laws.token_laws.Goals as goal

pub returns : goal.returns
returns c = record { apart = tokens_apart }
