use Rattle.expr_text.proofs.OneReading.{accepted, long_reading, readings_are_unique, readings_exist}
use Rattle.expr_text.proofs.RoundTrip.{printed_is_read}
use Rattle.expr_text.proofs.laws.reading_laws.Goals as goal

pub returns-clause-exist : goal.returns-clause-exist
returns-clause-exist c =
    let g = c.grammar_laws.ensures in
    let b = c.bound_laws.ensures in
    readings_exist g.one g.decided g.moments g.spans b.low b.high c.text_laws.ensures.writable

pub returns-clause-unique : goal.returns-clause-unique
returns-clause-unique c =
    let g = c.grammar_laws.ensures in
    let b = c.bound_laws.ensures in
    readings_are_unique g.one g.decided g.moments g.spans b.low b.high c.text_laws.ensures.writable

pub returns-clause-well_formed : goal.returns-clause-well_formed
returns-clause-well_formed c =
    let g = c.grammar_laws.ensures in
    let b = c.bound_laws.ensures in
    λ text p h. (accepted g.one g.decided g.moments g.spans b.low b.high
    c.text_laws.ensures.writable text p h).well_formed

pub returns-clause-sorted : goal.returns-clause-sorted
returns-clause-sorted c =
    let g = c.grammar_laws.ensures in
    let b = c.bound_laws.ensures in
    λ text p h. (accepted g.one g.decided g.moments g.spans b.low b.high
    c.text_laws.ensures.writable text p h).sorted

pub returns-clause-long : goal.returns-clause-long
returns-clause-long c = long_reading

pub returns-clause-printed : goal.returns-clause-printed
returns-clause-printed c =
    let w = c.writing_laws.ensures in
    printed_is_read c.grammar_laws.ensures.printed (record {
      nothing = w.nothing;
      parts = w.parts;
      texts = w.texts;
      spaces = w.spaces;
      signs = w.signs;
      words = w.words;
      strings = w.strings;
      numbers = w.numbers;
      moments = w.moments;
    }) c.rule_laws.ensures.field_values c.rule_laws.ensures.field_interval c.text_laws.ensures.back
    c.text_laws.ensures.plain
