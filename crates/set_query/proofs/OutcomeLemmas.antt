-- The outcome of words over a text from its first bytes, and what was put of it.
use Rattle.std.proofs.Common.{◌≡◌, ◌≢◌, ◌≤◌, ◌<◌, ◌⊎◌, [], ℕ, List, length, drop, sym, ◌∙◌, ap, subst, arith, inl, inr, lit<, Option, Some, None, IfSome, Ok, refl}
use Rattle.expr_text.specs.declared.fault.TheConstants.{LONGEST}
use Rattle.outside_core.specs.declared.writes.Sink.{Ghosts as Sink}
use Rattle.query_words.specs.Laws.{WordsAreReadOnce}
use Rattle.query_words.specs.Words.{Asks, IsRefused}
use Rattle.query_words.specs.declared.queries.Query.{Query}
use Rattle.query_words.specs.declared.queries.WordsFault.{WordsFault}
use Rattle.stored_pair.specs.Meanings.{Entries}
use Rattle.query_reply.specs.Effects.{IsDone, IsReported, IsWritten, RanOut, WriteFailed}
use Rattle.query_reply.specs.Laws.{AmpleRepliesNeverStop, AnsweredTextsAreShort, LongFrontsDecide, RepliesAreDone}
use Rattle.query_reply.specs.Report.{HasAmpleBudget, IsReply, Outcome, refused_by}
use Rattle.set_query.specs.Effects.{Answers, BreaksOff, IsFront, IsOutcomeOf}
use Rattle.set_query.specs.Outcomes.{IsOutcome, asked, bad_words, words_refusal}
use Rattle.set_query.specs.declared.reading.TheConstants.{ROOM}
use Rattle.set_query.proofs.RangeLemmas.{asks_in_range}
use Rattle.std.proofs.lemmas.List.{drop_all}

-- what is asked over the first bytes is asked over the text
IsOutcomeOf-front : LongFrontsDecide → {entries : Entries} (words : List (List ℕ)) (query : Query)
    (before after : Option (List ℕ)) (bytes : List ℕ) (o : Outcome) → Asks words query
    → IsFront ROOM before after bytes → IsReply entries query bytes o
    → IsOutcomeOf entries words before o
IsOutcomeOf-front fronts words query None after bytes o asks front is =
    record { text = bytes; told = tt; as_asked = asked query o asks is }
IsOutcomeOf-front fronts {entries} words query (Some text) after bytes o asks front is =
    let whole = fronts entries query text ROOM o (omega arith)
    (subst (λ z. IsReply entries query z o) front.0 is) in
    record { text = text; told = refl; as_asked = asked query o asks whole }

-- the words alone decide
IsOutcomeOf-any : {entries : Entries} (words : List (List ℕ)) (left : Option (List ℕ)) (o : Outcome)
    → ((text : List ℕ) → IsOutcome entries words text o) → IsOutcomeOf entries words left o
IsOutcomeOf-any words None o all = record { text = []; told = tt; as_asked = all [] }
IsOutcomeOf-any words (Some text) o all = record { text = text; told = refl; as_asked = all text }

-- with an ample budget no outcome is a stop
outcome_stops : WordsAreReadOnce → AmpleRepliesNeverStop → {entries : Entries}
    (words : List (List ℕ)) (text : List ℕ) (query : Query) (o : Outcome)
    → IsOutcome entries words text o → Asks words query → HasAmpleBudget entries text query
    → o.status ≡ 3 → ⊥
outcome_stops unique never words text query o (bad_words fault r) asks ample e =
    absurd (omega (arith, e))
outcome_stops unique never {entries} words text query o (asked query_r o_r asks_r r) asks ample e =
    let both = unique words (Ok query_r) (Ok query) asks_r asks in
    let same : query ≡ query_r = cc in
    never entries query_r text o (asks_in_range words query_r asks_r) r
    (subst (λ (q : Query). HasAmpleBudget entries text q) same ample) e

-- a text that is answered has fewer bytes than are read
outcome_short : AnsweredTextsAreShort → {entries : Entries} {words : List (List ℕ)} {text : List ℕ}
    {o : Outcome} → IsOutcome entries words text o → o.status ≢ 2 → length text ≤ LONGEST
outcome_short short (bad_words fault r) e = absurd (e refl)
outcome_short short {entries} {words} {text} (asked query o asks r) e =
    short entries query text o r e

-- so it was read to its end
read_out : AnsweredTextsAreShort → {entries : Entries} (words : List (List ℕ))
    (left rest : Option (List ℕ)) (bytes : List ℕ) (o : Outcome) → IsFront ROOM left rest bytes
    → IsOutcomeOf entries words left o → o.status ≢ 2 → IfSome left (λ text. rest ≡ Some [])
read_out short words None rest bytes o front is not = tt
read_out short words (Some text) rest bytes o front is not =
    let few : length text ≤ LONGEST = rw is.told (outcome_short short is.as_asked not) in
    let all : drop ROOM text ≡ [] = drop_all ROOM text (omega (arith, few)) in
    front.1 ∙ ap Some all

module _ {K : Type 0} (sink : Sink K) (old new : K) (entries : Entries) (words : List (List ℕ))
    (left : Option (List ℕ)) (status : ℕ) where
  -- an outcome of the words was written, whose status is 0, 2 or 3
  abbrev pub IsOutcomeReported : Type 0
  IsOutcomeReported =
      IsReported sink old new (λ o. IsOutcomeOf entries words left o × IsDone o.status) status

  -- or nothing for want of memory
  abbrev pub Ends : Type 0
  Ends = IsOutcomeReported ⊎ RanOut old new status

  pub refused-ends : (fault : WordsFault) → IsRefused words fault
      → IsWritten sink old new (refused_by (words_refusal fault)) status → Ends
  refused-ends fault r w =
      let o : Outcome = refused_by (words_refusal fault) in
      inl (record {
        outcome = o;
        as_asked = (IsOutcomeOf-any words left o (λ text. bad_words fault r), inr (inl refl));
        written = w;
      })

  pub replied-ends : LongFrontsDecide → RepliesAreDone → (rest : Option (List ℕ)) (query : Query)
      (bytes : List ℕ) → Asks words query → IsFront ROOM left rest bytes
      → IsReported sink old new (IsReply entries query bytes) status ⊎ RanOut old new status
      → Ends
  replied-ends fronts done rest query bytes asks front (inr six) = inr six
  replied-ends fronts done rest query bytes asks front (inl r) =
      let o : Outcome = r.outcome in
      let is = IsOutcomeOf-front fronts words query left rest bytes o asks front r.as_asked in
      let ends = done entries query bytes o r.as_asked in
      inl (record { outcome = o; as_asked = (is, ends); written = r.written })

  -- the status is one of an outcome, or 5
  reported_status : IsOutcomeReported → IsDone status ⊎ (status ≡ 5)
  reported_status r = elim r.written.either [
    | inl same ↦ inl (subst IsDone (sym same) r.as_asked.1)
    | inr five ↦ inr five
  ]

  pub ends_statuses : Ends → IsDone status ⊎ (status ≡ 4) ⊎ (status ≡ 5) ⊎ (status ≡ 6)
  ends_statuses (inr six) = inr (inr (inr six.0))
  ends_statuses (inl r) = elim (reported_status r) [
    | inl done ↦ inl done
    | inr five ↦
        inr (inr (inl five))
  ]

  pub ends_complete : Ends → ¬ (WriteFailed sink old new) → IsDone status ⊎ (status ≡ 6)
  ends_complete (inr six) none = inr six.0
  ends_complete (inl r) none = elim (reported_status r) [
    | inl done ↦ inl done
    | inr five ↦
        absurd (none (r.written.failed five))
  ]

  not_done : (n : ℕ) → 3 < n → status ≡ n → IsDone status → ⊥
  not_done n more e (inl a) = absurd (omega (arith, a, e, more))
  not_done n more e (inr (inl a)) = absurd (omega (arith, a, e, more))
  not_done n more e (inr (inr a)) = absurd (omega (arith, a, e, more))

  pub ends_done : Ends → IsDone status → Answers sink old new entries words left status
  ends_done (inr six) done = absurd (not_done 6 (lit< tt) six.0 done)
  ends_done (inl r) done =
      elim r.written.either [
        | inl same ↦ record {
          outcome = r.outcome;
          of_words = r.as_asked.0;
          status_is = same;
          put = r.written.whole same;
        }
        | inr five ↦ absurd (not_done 5 (lit< tt) five done)
      ]

  pub ends_read : Ends → status ≡ 4 → ⊥
  ends_read (inr six) four = let is = six.0 in absurd (omega (arith, is, four))
  ends_read (inl r) four = elim (reported_status r) [
    | inl done ↦ absurd (not_done 4 (lit< tt) four done)
    | inr five ↦
        absurd (omega (arith, five, four))
  ]

  pub ends_sink_fault : Ends → status ≡ 5 → WriteFailed sink old new × BreaksOff sink old new
      entries words left
  ends_sink_fault (inr six) five = let is = six.0 in absurd (omega (arith, is, five))
  ends_sink_fault (inl r) five =
      let some = r.written.part five in (
        r.written.failed five,
        record { outcome = r.outcome; of_words = r.as_asked.0; n = some.0; put = some.1 },
      )

  pub ends_memory : Ends → status ≡ 6 → new ≡ old
  ends_memory (inr six) e = six.1
  ends_memory (inl r) e = elim (reported_status r) [
    | inl done ↦ absurd (not_done 6 (lit< tt) e done)
    | inr five ↦ absurd (omega (arith, five, e))
  ]

  pub ends_ended : AnsweredTextsAreShort → (rest : Option (List ℕ)) (bytes : List ℕ)
      → IsFront ROOM left rest bytes → Ends → ((status ≡ 0) ⊎ (status ≡ 3))
      → IfSome left (λ text. rest ≡ Some [])
  ends_ended short rest bytes front e (inl zero) =
      let a = ends_done e (inl zero) in
      read_out short words left rest bytes a.outcome front a.of_words (λ two_s. let is =
      a.status_is in absurd (omega (arith, zero, is, two_s)))
  ends_ended short rest bytes front e (inr three) =
      let a = ends_done e (inr (inr three)) in
      read_out short words left rest bytes a.outcome front a.of_words (λ two_s. let is =
      a.status_is in absurd (omega (arith, three, is, two_s)))

pub ends_ample : WordsAreReadOnce → AmpleRepliesNeverStop → {K : Type 0} (sink : Sink K)
    (old new : K) (entries : Entries) (words : List (List ℕ)) (left : Option (List ℕ)) (status : ℕ)
    (query : Query) → Asks words query → Ends sink old new entries words left status
    → IfSome left (λ text. HasAmpleBudget entries text query → status ≢ 3)
ends_ample unique never sink old new entries words None status query asks e = tt
ends_ample unique never sink old new entries words (Some text) status query asks e = λ ample three.
    let a = ends_done sink old new entries words (Some text) status e (inr (inr three)) in
    let same : text ≡ a.of_words.text = a.of_words.told in
    outcome_stops unique never words a.of_words.text query a.outcome a.of_words.as_asked asks
    (subst (λ z. HasAmpleBudget entries z query) same ample) (sym a.status_is ∙ three)
