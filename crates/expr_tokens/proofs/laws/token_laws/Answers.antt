use Rattle.expr_tokens.proofs.Readings.{reads_longest, spells_one}
use Rattle.expr_tokens.proofs.laws.token_laws.Goals as goal

pub returns-clause-longest : goal.returns-clause-longest
returns-clause-longest c = reads_longest c.literal_laws.ensures.form c.literal_laws.ensures.longest
    c.literal_laws.ensures.end c.literal_laws.ensures.length

pub returns-clause-one : goal.returns-clause-one
returns-clause-one c = spells_one c.literal_laws.ensures.form c.literal_laws.ensures.longest
    c.literal_laws.ensures.end c.literal_laws.ensures.length
