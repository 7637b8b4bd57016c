-- The laws of replies, where the words are in their range.
use Rattle.std.specs.Prelude.{◌≡◌, ◌≢◌, ◌≤◌, ◌<◌, ℕ, List, length, take}
use Rattle.expr_text.specs.declared.fault.TheConstants.{LONGEST}
use Rattle.query_words.specs.declared.queries.Query.{Query}
use Rattle.stored_pair.specs.Meanings.{Entries}
use Rattle.query_reply.specs.Effects.{IsDone}
use Rattle.query_reply.specs.Report.{HasAmpleBudget, IsInRange, IsReply, Outcome}

-- a query has a reply over each text
abbrev pub RepliesExist : Type 0
RepliesExist =
    (entries : Entries) (query : Query) (text : List ℕ) → IsInRange query
    → (o : Outcome) × IsReply entries query text o

-- none has two over a text, stops aside
abbrev pub RepliesAreUnique : Type 0
RepliesAreUnique =
    (entries : Entries) (query : Query) (text : List ℕ) (a b : Outcome) → IsInRange query
    → IsReply entries query text a → IsReply entries query text b
    → a.status ≢ 3 → b.status ≢ 3 → a ≡ b

-- a text that is refused has no other reply: where there is a refusal there is no stop either
abbrev pub RefusedTextsHaveOneReply : Type 0
RefusedTextsHaveOneReply =
    (entries : Entries) (query : Query) (text : List ℕ) (a b : Outcome) → IsInRange query
    → IsReply entries query text a → IsReply entries query text b
    → a.status ≡ 2 → a ≡ b

-- the status of a reply is 0, 2 or 3
abbrev pub RepliesAreDone : Type 0
RepliesAreDone =
    (entries : Entries) (query : Query) (text : List ℕ) (o : Outcome)
    → IsReply entries query text o → IsDone o.status

-- with an ample budget no reply is a stop
abbrev pub AmpleRepliesNeverStop : Type 0
AmpleRepliesNeverStop =
    (entries : Entries) (query : Query) (text : List ℕ) (o : Outcome) → IsInRange query
    → IsReply entries query text o → HasAmpleBudget entries text query → o.status ≢ 3

-- the reply over more first bytes than a text may have is one over the whole text
abbrev pub LongFrontsDecide : Type 0
LongFrontsDecide =
    (entries : Entries) (query : Query) (text : List ℕ) (n : ℕ) (o : Outcome) → LONGEST < n
    → IsReply entries query (take n text) o → IsReply entries query text o

-- a text that isn't refused has no more bytes than a text may have
abbrev pub AnsweredTextsAreShort : Type 0
AnsweredTextsAreShort =
    (entries : Entries) (query : Query) (text : List ℕ) (o : Outcome)
    → IsReply entries query text o → o.status ≢ 2 → length text ≤ LONGEST
