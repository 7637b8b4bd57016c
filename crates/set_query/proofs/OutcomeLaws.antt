-- Words and a text have one outcome.
use Rattle.std.proofs.Common.{◌≡◌, ℕ, List, ap, subst, Result, Ok, Err}
use Rattle.query_words.specs.Laws.{WordsAreRead, WordsAreReadOnce}
use Rattle.query_words.specs.Words.{AreRead}
use Rattle.query_words.specs.declared.queries.Query.{Query}
use Rattle.query_words.specs.declared.queries.WordsFault.{WordsFault}
use Rattle.stored_pair.specs.Meanings.{Entries}
use Rattle.query_reply.specs.Laws.{RefusedTextsHaveOneReply, RepliesAreUnique, RepliesExist}
use Rattle.query_reply.specs.Report.{IsInRange, IsReply, Outcome, refused_by}
use Rattle.set_query.specs.Laws.{OutcomesAreUnique, OutcomesExist, RefusalsAreAlone}
use Rattle.set_query.specs.Outcomes.{IsOutcome, asked, bad_words, words_refusal}
use Rattle.set_query.proofs.RangeLemmas.{asks_in_range}

-- two outcomes are one where two replies are
one_outcome : WordsAreReadOnce → (entries : Entries) (words : List (List ℕ)) (text : List ℕ)
    (a b : Outcome)
    → ((query : Query) → IsInRange query → IsReply entries query text a
    → IsReply entries query text b → a ≡ b)
    → IsOutcome entries words text a → IsOutcome entries words text b → a ≡ b
one_outcome unique entries words text a b one (bad_words fault r) (bad_words other k) =
    let both = unique words (Err fault) (Err other) r k in
    let same : fault ≡ other = cc in
    ap (λ (f : WordsFault). refused_by (words_refusal f)) same
one_outcome unique entries words text a b one (bad_words fault r) (asked query o asks k) =
    let both = unique words (Err fault) (Ok query) r asks in absurd cc
one_outcome unique entries words text a b one (asked query o asks r) (bad_words fault k) =
    let both = unique words (Ok query) (Err fault) asks k in absurd cc
one_outcome unique entries words text a b one (asked query o asks r) (asked other o_b asks_b k) =
    let both = unique words (Ok other) (Ok query) asks_b asks in
    let same : other ≡ query = cc in
    one query (asks_in_range words query asks) r
    (subst (λ (q : Query). IsReply entries q text b) same k)

pub outcomes_are_unique : WordsAreReadOnce → RepliesAreUnique → OutcomesAreUnique
outcomes_are_unique unique replies entries words text a b h k d e =
    one_outcome unique entries words text a b
    (λ query within r s. replies entries query text a b within r s d e) h k

pub refusals_are_alone : WordsAreReadOnce → RefusedTextsHaveOneReply → RefusalsAreAlone
refusals_are_alone unique alone entries words text a b h k two =
    one_outcome unique entries words text a b
    (λ query within r s. alone entries query text a b within r s two) h k

pub outcomes_exist : WordsAreRead → RepliesExist → OutcomesExist
outcomes_exist read replies entries words text = by_answer (read words).0 (read words).1
  where
    by_answer : (answer : Result Query WordsFault) → AreRead words answer
        → (o : Outcome) × IsOutcome entries words text o
    by_answer (Ok query) asks =
        let reply = replies entries query text (asks_in_range words query asks) in
        (reply.0, asked query reply.0 asks reply.1)
    by_answer (Err fault) r = (refused_by (words_refusal fault), bad_words fault r)
