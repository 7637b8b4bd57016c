use Rattle.token_text.proofs.Cutting.{cut_at}
use Rattle.token_text.proofs.reading.cut.Goals as goal

pub returns : goal.returns
returns c = λ a b lacks is. cut_at a b c.args.text.now c.split_once.result
    c.split_once.ensures.cases lacks is
