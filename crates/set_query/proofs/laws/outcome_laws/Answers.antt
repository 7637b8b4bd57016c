use Rattle.set_query.proofs.OutcomeLaws.{outcomes_are_unique, outcomes_exist, refusals_are_alone}
use Rattle.set_query.proofs.laws.outcome_laws.Goals as goal

pub returns-clause-exist : goal.returns-clause-exist
returns-clause-exist c = outcomes_exist c.words_laws.ensures.exist c.reply_laws.ensures.exist

pub returns-clause-unique : goal.returns-clause-unique
returns-clause-unique c = outcomes_are_unique c.words_laws.ensures.unique
    c.reply_laws.ensures.unique

pub returns-clause-alone : goal.returns-clause-alone
returns-clause-alone c = refusals_are_alone c.words_laws.ensures.unique c.reply_laws.ensures.alone
