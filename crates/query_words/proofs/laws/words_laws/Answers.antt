use Rattle.query_words.proofs.OneReading.{words_are_read_once}
use Rattle.query_words.proofs.SomeReading.{words_are_read}
use Rattle.query_words.proofs.laws.words_laws.Goals as goal

pub returns-clause-exist : goal.returns-clause-exist
returns-clause-exist c = words_are_read c.literal_laws.ensures.apart c.token_laws.ensures.apart

pub returns-clause-unique : goal.returns-clause-unique
returns-clause-unique c = words_are_read_once c.literal_laws.ensures.apart
    c.token_laws.ensures.apart
