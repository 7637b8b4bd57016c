-- What the words and the text ask to be written.
use Rattle.std.specs.Prelude.{ℕ, List}
use Rattle.query_words.specs.Words.{Asks, IsRefused}
use Rattle.query_words.specs.declared.queries.Query.{Query}
use Rattle.query_words.specs.declared.queries.WordsFault.{WordsFault}
use Rattle.query_words.specs.declared.queries.WordsFault.TheVariants as words
use Rattle.report_text.specs.declared.refusals.Refusal.{Refusal}
use Rattle.report_text.specs.declared.refusals.Refusal.TheVariants as refusals
use Rattle.stored_pair.specs.Meanings.{Entries}
use Rattle.query_reply.specs.Report.{IsReply, Outcome, refused_by}

abbrev pub words_refusal : WordsFault → Refusal
words_refusal words.Unbuilt = refusals.Unbuilt
words_refusal (words.Bad n) = refusals.Words n

-- the outcome of the words over the text
pub data IsOutcome (entries : Entries) (words : List (List ℕ)) (text : List ℕ) : Outcome
    → Type 0 where
  bad_words : (fault : WordsFault) → IsRefused words fault
      → IsOutcome entries words text (refused_by (words_refusal fault))
  asked : (query : Query) (o : Outcome) → Asks words query → IsReply entries query text o
      → IsOutcome entries words text o
