-- Each clause follows from one fact for each way through the words: that the query was answered
-- over the text, or the words refused.
use Rattle.std.proofs.Common.{map, Ok, Err}
use Rattle.std.specs.String.{string_bytes}
use Rattle.stored_pair.specs.Names.{entries_of}
use Rattle.set_query.specs.Effects.{ReadsFront}
use Rattle.set_query.specs.declared.reading.TheConstants.{ROOM}
use Rattle.set_query.proofs.OutcomeLemmas.{Ends, refused-ends, replied-ends, ends_ample, ends_complete, ends_done, ends_ended, ends_memory, ends_read, ends_sink_fault, ends_statuses}
use Rattle.set_query.proofs.RangeLemmas.{asks_in_range}
use Rattle.set_query.proofs.query.run.Given as given
use Rattle.set_query.proofs.query.run.Goals as goal
use Rattle.set_query.proofs.query.run.Goals.{After-drop-text, After-refuse}

front : (g : given.Over) (c : After-drop-text g) → ReadsFront ROOM g.S.Source c.args.source.now
    c.read_text.new.source c.deref.result.now
front g c = rw c.deref.ensures.value c.in-Ok-read_text.ensures.front

replied : (g : given.Over) (c : After-drop-text g) → Ends g.K.Sink c.args.sink.now c.reply.new.sink
    (entries_of c.args.book.now) (map string_bytes c.args.words.now)
    (g.S.Source.left c.args.source.now) c.reply.result
replied g c = replied-ends _ _ _ _ _ _ _ c.reply_laws.ensures.fronts c.reply_laws.ensures.done
    (g.S.Source.left c.read_text.new.source) c.in-Ok.query c.deref.result.now c.in-Ok.ensures
    (front g c) c.reply.ensures.outcome

refused : (g : given.Over) (c : After-refuse g) → Ends g.K.Sink c.args.sink.now c.refuse.new.sink
    (entries_of c.args.book.now) (map string_bytes c.args.words.now)
    (g.S.Source.left c.args.source.now) c.refuse.result
refused g c = refused-ends _ _ _ _ _ _ _ c.in-Err.fault c.in-Err.ensures
    (rw c.words_refusal.ensures.value at c.refuse.ensures)

pub reply-requires : goal.reply-requires
reply-requires g c = asks_in_range (map string_bytes c.args.words.now) c.in-Ok.query c.in-Ok.ensures

pub returns-in-Ok-read_text-clause-statuses : goal.returns-in-Ok-read_text-clause-statuses
returns-in-Ok-read_text-clause-statuses g c = ends_statuses _ _ _ _ _ _ _ (replied g c)

pub returns-in-Ok-read_text-clause-complete : goal.returns-in-Ok-read_text-clause-complete
returns-in-Ok-read_text-clause-complete g c =
    λ source sink. ends_complete _ _ _ _ _ _ _ (replied g c) sink

pub returns-in-Ok-read_text-clause-done : goal.returns-in-Ok-read_text-clause-done
returns-in-Ok-read_text-clause-done g c = ends_done _ _ _ _ _ _ _ (replied g c)

pub returns-in-Ok-read_text-clause-ample : goal.returns-in-Ok-read_text-clause-ample
returns-in-Ok-read_text-clause-ample g c = λ query asks.
    ends_ample c.words_laws.ensures.unique c.reply_laws.ensures.ample _ _ _ _ _ _ _ query asks
    (replied g c)

pub returns-in-Ok-read_text-clause-unread : goal.returns-in-Ok-read_text-clause-unread
returns-in-Ok-read_text-clause-unread g c = λ fault refused.
    let both = c.words_laws.ensures.unique (map string_bytes c.args.words.now) (Ok c.in-Ok.query)
    (Err fault) c.in-Ok.ensures refused in
    absurd cc

pub returns-in-Ok-read_text-clause-ended : goal.returns-in-Ok-read_text-clause-ended
returns-in-Ok-read_text-clause-ended g c = ends_ended _ _ _ _ _ _ _ c.reply_laws.ensures.short _ _
    (front g c) (replied g c)

pub returns-in-Ok-read_text-clause-source_fault : goal.returns-in-Ok-read_text-clause-source_fault
returns-in-Ok-read_text-clause-source_fault g c =
    λ four. absurd (ends_read _ _ _ _ _ _ _ (replied g c) four)

pub returns-in-Ok-read_text-clause-sink_fault : goal.returns-in-Ok-read_text-clause-sink_fault
returns-in-Ok-read_text-clause-sink_fault g c = ends_sink_fault _ _ _ _ _ _ _ (replied g c)

pub returns-in-Ok-read_text-clause-memory : goal.returns-in-Ok-read_text-clause-memory
returns-in-Ok-read_text-clause-memory g c =
    λ six. ((c.in-Ok.query, c.in-Ok.ensures), ends_memory _ _ _ _ _ _ _ (replied g c) six)

pub returns-in-Err-Failed-clause-unread : goal.returns-in-Err-Failed-clause-unread
returns-in-Err-Failed-clause-unread g c = λ fault refused.
    let both = c.words_laws.ensures.unique (map string_bytes c.args.words.now) (Ok c.in-Ok.query)
    (Err fault) c.in-Ok.ensures refused in
    absurd cc

pub returns-in-Err-Memory-clause-unread : goal.returns-in-Err-Memory-clause-unread
returns-in-Err-Memory-clause-unread g c = λ fault refused.
    let both = c.words_laws.ensures.unique (map string_bytes c.args.words.now) (Ok c.in-Ok.query)
    (Err fault) c.in-Ok.ensures refused in
    absurd cc

pub returns-in-Err-clause-done : goal.returns-in-Err-clause-done
returns-in-Err-clause-done g c = ends_done _ _ _ _ _ _ _ (refused g c)

pub returns-in-Err-clause-read : goal.returns-in-Err-clause-read
returns-in-Err-clause-read g c = λ query asks is.
    let both = c.words_laws.ensures.unique (map string_bytes c.args.words.now) (Err c.in-Err.fault)
    (Ok query) c.in-Err.ensures asks in
    absurd cc

pub returns-in-Err-clause-sink_fault : goal.returns-in-Err-clause-sink_fault
returns-in-Err-clause-sink_fault g c = ends_sink_fault _ _ _ _ _ _ _ (refused g c)
