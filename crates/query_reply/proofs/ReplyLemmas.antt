-- Replies from the first bytes of a text, their status, and ample budgets.
use Rattle.std.proofs.Common.{◌≡◌, ◌≤◌, ◌<◌, ◌⊎◌, ℕ, ℤ, List, length, take, ◌∙◌, ap, subst, arith, inl, inr, Option, Some, None, Ok, Err, refl, take_all}
use Rattle.std.proofs.lemmas.Bool.{cases_lt}
use Rattle.std.proofs.lemmas.Grind.{common_steps}
use Rattle.std.proofs.Common.{Result, Bool, true, false, cond}
use Rattle.lowered_tree.specs.Laws.{FirstUnsettledIsOne, SettledHaveNone, TreesSettleOrNot, WellFormedAreLawful}
use Rattle.expr_text.specs.Accepted.{IsRead}
use Rattle.expr_text.specs.Fault.{Fault}
use Rattle.expr_text.specs.Fault as faults
use Rattle.expr_text.specs.Laws.{AcceptedAreWellFormed, AcceptedHaveSorts, LongTextsAreRefused, ReadingsAreUnique, ReadingsExist}
use Rattle.expr_text.specs.declared.fault.TheConstants.{LONGEST}
use Rattle.phases.specs.Laws.{instead}
use Rattle.phases.specs.Phases.{goes_on}
use Rattle.expr_tree.specs.Tree.{Rule, Tree, Trees, meant_of}
use Rattle.expr_tree.specs.declared.tree.Kind.{Kind}
use Rattle.moment_core.specs.Clocks.{one_clock}
use Rattle.moment_core.specs.declared.line.Clock.{Clock}
use Rattle.stored_pair.specs.Meanings.{Entries, Meaning}
use Rattle.query_words.specs.declared.queries.Query.{Query}
use Rattle.query_words.specs.declared.queries.Query.TheVariants.{Near as NearBy, Resume, Show, Walk}
use Rattle.query_words.specs.declared.queries.Neighbour.{Neighbour}
use Rattle.query_words.specs.declared.queries.Neighbour.TheVariants.{Next, Previous, Current, Closest, Contains}
use Rattle.report_text.specs.declared.refusals.Refusal.{Refusal}
use Rattle.report_text.specs.declared.refusals.Refusal.TheVariants as refusals
use Rattle.expr_tree.specs.Sorts.{sort_of_tree}
use Rattle.expr_tree.specs.Laws.{SortedStayInReach}
use Rattle.expr_tree.specs.declared.sorting.Sort.{Sort}
use Rattle.query_core.specs.Laws.{AmpleFindsNeighbours, EnoughFindsNeighbours}
use Rattle.moment_core.specs.Line.{IsCalendarMoment, position_of}
use Rattle.moment_core.specs.declared.line.Dir.{Dir}
use Rattle.moment_core.specs.declared.line.Dir.TheVariants.{Fore, Back}
use Rattle.span_core.specs.declared.answers.Near.{Near}
use Rattle.span_core.specs.declared.answers.Stop.{Stop}
use Rattle.run_search.specs.Places.{IsAmpleAt}
use Rattle.query_core.specs.Neighbours.{IsClosestRun, IsCurrentRun, IsNextRun, closer_of}
use Rattle.expr_tree.specs.Members.{is_member}
use Rattle.plan_core.specs.Plans.{window_of}
use Rattle.span_core.specs.declared.answers.Near.TheVariants as nears
use Rattle.query_reply.specs.Effects.{IsDone}
use Rattle.query_reply.specs.Laws.{AmpleRepliesNeverStop, AnsweredTextsAreShort, LongFrontsDecide, RepliesAreDone}
use Rattle.query_reply.specs.Reading.{AreSorts, IsMeant, Reading, OnClock, Passes, Settles, faulty, on_clock, sets, sets_clock, settled, takes, words_clock}
use Rattle.query_reply.specs.Report.{Outcome, HasAmpleBudget, IsAmpleBy, IsAbovePlaces, IsAskedBy, IsEnough, IsFoundBy, IsInRange, IsPrinted, IsReportOf, IsSearched, IsTested, answers, printed, refused, replied, status_of, stops, tested, window_given}
use Rattle.search_core.specs.Ample.{IsAmple}
use Rattle.search_core.specs.Due.{IsDueInTest}
use Rattle.search_core.specs.Laws.{AheadNeverStopsTests, AmpleNeverStopsTests}
use Rattle.moment_core.proofs.LineLaws.{position_in_range}
use Rattle.span_core.specs.declared.answers.Test.TheVariants as tests
use Rattle.walk_core.specs.Tokens.{window_token}
use Rattle.query_reply.proofs.WalkLemmas.{Walks, walk_done, walk_never_stops, walk_not_refused, window_fits}

length-front : (n : ℕ) (text : List ℕ) → n ≤ length text → length (take n text) ≡ n
length-front n text h = grind (arith, common_steps)

-- what is known of reading texts, and of what they are read as
pub record Reads : Type 0 where
  pub exist : ReadingsExist
  pub unique : ReadingsAreUnique
  pub well_formed : AcceptedAreWellFormed
  pub sorted : AcceptedHaveSorts
  pub long : LongTextsAreRefused
  pub lawful : WellFormedAreLawful
  pub settled : TreesSettleOrNot
  pub one : FirstUnsettledIsOne
  pub apart : SettledHaveNone

-- what more first bytes than a text may have are read as, the text is read as: a longer text is too
-- long, and so is its front
read_whole : Reads → (text : List ℕ) (n : ℕ) (r : Result Trees Fault) → LONGEST < n
    → IsRead (take n text) r → IsRead text r
read_whole reads text n r many h =
    elim (cases_lt (length text) n) [
      | inl few ↦ subst (λ z. IsRead z r) (take_all n text (omega (arith, few))) h
      | inr more ↦ (let front : List ℕ = take n text in
          let full : length front ≡ n = length-front n text (omega (arith, more)) in
          let too_long = reads.long front (omega (arith, full, many)) in
          let long : Err faults.Long ≡ r = reads.unique front (Err faults.Long) r too_long h in
          subst (IsRead text) long (reads.long text (omega (arith, more, many))))
    ]

-- so a text that is accepted isn't too long
accepted_short : Reads → (text : List ℕ) (trees : Trees) → IsRead text (Ok trees)
    → length text ≤ LONGEST
accepted_short reads text trees h =
    elim (cases_lt LONGEST (length text)) [
      | inl many ↦ (let e : Err faults.Long ≡ Ok trees =
          reads.unique text (Err faults.Long) (Ok trees) (reads.long text many) h in absurd cc)
      | inr few ↦ few
    ]

-- what is asked over the first bytes is asked over the text
meant_whole : Reads → (text : List ℕ) (n : ℕ) → LONGEST < n → (r : Result Reading Refusal)
    → IsMeant (take n text) r → IsMeant text r
meant_whole reads text n many r (sets reading h are) =
    sets reading (read_whole reads text n (Ok reading.trees) many h) are
meant_whole reads text n many r (faulty fault h) =
    faulty fault (read_whole reads text n (Err fault) many h)

passes_whole : Reads → (query : Query) (text : List ℕ) (n : ℕ) → LONGEST < n
    → (r : Result OnClock Refusal) → Passes query (take n text) r → Passes query text r
passes_whole reads query text n many r h =
    instead IsMeant _ IsMeant (take n text) text r (meant_whole reads text n many) h

pub long_fronts_decide : Reads → LongFrontsDecide
long_fronts_decide reads entries query text n o many (refused refusal h) =
    refused refusal (passes_whole reads query text n many (Err refusal) h)
long_fronts_decide reads entries query text n o many (replied x _ h report) =
    replied x o (passes_whole reads query text n many (Ok x) h) report

-- replies have status 0, 2 or 3
near_done : (near : Near) → IsDone (status_of near)
near_done (nears.Found run) = inl refl
near_done (nears.None w) = inl refl
near_done nears.Edge = inl refl
near_done (nears.Budget s) = inr (inr refl)

near_not_refused : (near : Near) → status_of near ≡ 2 → ⊥
near_not_refused (nears.Found run) e = absurd (omega (arith, e))
near_not_refused (nears.None w) e = absurd (omega (arith, e))
near_not_refused nears.Edge e = absurd (omega (arith, e))
near_not_refused (nears.Budget s) e = absurd (omega (arith, e))

module _ {found : Near → Type 0} {places : Dir → ℤ → Type 0} {due : Dir → ℤ → ℕ → Stop → Type 0}
    {kind : Kind} {clock : Clock} {budget : ℕ} where
  searched_done : {o : Outcome} → IsSearched found places due kind clock budget o → IsDone o.status
  searched_done (answers near is) = near_done near
  searched_done (stops s is not) = inr (inr refl)

  searched_not_refused : {o : Outcome} → IsSearched found places due kind clock budget o → o.status
      ≡ 2 → ⊥
  searched_not_refused (answers near is) e = near_not_refused near e
  searched_not_refused (stops s is not) e = absurd (omega (arith, e))

  -- with an ample budget no search stops
  searched_never_stops : ((s : Stop) → found (nears.Budget s) → ⊥) → {o : Outcome}
      → IsSearched found places due kind clock budget o → o.status ≡ 3 → IsAmpleAt places due budget
      → ⊥
  searched_never_stops none (answers (nears.Found run) is) e ample = absurd (omega (arith, e))
  searched_never_stops none (answers (nears.None w) is) e ample = absurd (omega (arith, e))
  searched_never_stops none (answers nears.Edge is) e ample = absurd (omega (arith, e))
  searched_never_stops none (answers (nears.Budget s) is) e ample = none s is
  searched_never_stops none (stops s is not) e ample = not ample

tested_done : {t : Tree Meaning} {p : ℤ} {budget : ℕ} {o : Outcome} → IsTested t p budget o
    → IsDone o.status
tested_done (tested tests.In is) = inl refl
tested_done (tested tests.Out is) = inl refl
tested_done (tested (tests.Budget s) is) = inr (inr refl)

tested_not_refused : {t : Tree Meaning} {p : ℤ} {budget : ℕ} {o : Outcome} → IsTested t p budget o
    → o.status ≡ 2 → ⊥
tested_not_refused (tested tests.In is) e = absurd (omega (arith, e))
tested_not_refused (tested tests.Out is) e = absurd (omega (arith, e))
tested_not_refused (tested (tests.Budget s) is) e = absurd (omega (arith, e))

tested_never_stops : {t : Tree Meaning} {p : ℤ} {budget : ℕ} {o : Outcome} → IsTested t p budget o
    → o.status ≡ 3 → ((s : Stop) → IsDueInTest t p budget s → ⊥) → ⊥
tested_never_stops (tested tests.In is) e none = absurd (omega (arith, e))
tested_never_stops (tested tests.Out is) e none = absurd (omega (arith, e))
tested_never_stops (tested (tests.Budget s) is) e none = none s is

asked_done : (t : Tree Meaning) (side : Neighbour) (kind : Kind) (clock : Clock) (at : ℤ)
    (budget : ℕ) (o : Outcome) → IsAskedBy t side kind clock at budget o → IsDone o.status
asked_done t Next kind clock at budget o h = searched_done h
asked_done t Previous kind clock at budget o h = searched_done h
asked_done t Current kind clock at budget o h = searched_done h
asked_done t Closest kind clock at budget o h = searched_done h
asked_done t Contains kind clock at budget o h = tested_done h

asked_not_refused : (t : Tree Meaning) (side : Neighbour) (kind : Kind) (clock : Clock) (at : ℤ)
    (budget : ℕ) (o : Outcome) → IsAskedBy t side kind clock at budget o → o.status ≡ 2 → ⊥
asked_not_refused t Next kind clock at budget o h e = searched_not_refused h e
asked_not_refused t Previous kind clock at budget o h e = searched_not_refused h e
asked_not_refused t Current kind clock at budget o h e = searched_not_refused h e
asked_not_refused t Closest kind clock at budget o h e = searched_not_refused h e
asked_not_refused t Contains kind clock at budget o h e = tested_not_refused h e

printed_done : {trees : Trees} {o : Outcome} → IsPrinted trees o → o.status ≡ 0
printed_done printed = refl

report_done : (entries : Entries) (query : Query) (reading : Reading) (clock : Clock) (o : Outcome)
    → IsReportOf entries query reading clock o → IsDone o.status
report_done entries Show reading clock o h = inl (printed_done h)
report_done entries (NearBy side at budget) reading clock o h =
    asked_done (meant_of entries reading.trees.first) side reading.sorts.first.kind clock
    at.moment.0 budget o h
report_done entries (Walk from to dir limit budget) reading clock o h =
    walk_done (meant_of entries reading.trees.first) reading.sorts.first.kind clock
    (window_token (window_given from to) dir) limit budget o h
report_done entries (Resume token limit budget) reading clock o h =
    walk_done (meant_of entries reading.trees.first) reading.sorts.first.kind clock token limit
    budget o h

-- a report is no refusal
pub report_not_refused : (entries : Entries) (query : Query) (reading : Reading) (clock : Clock)
    (o : Outcome) → IsReportOf entries query reading clock o → o.status ≡ 2 → ⊥
report_not_refused entries Show reading clock o h e = let zero = printed_done h in
    absurd (omega (arith, e, zero))
report_not_refused entries (NearBy side at budget) reading clock o h e =
    asked_not_refused (meant_of entries reading.trees.first) side reading.sorts.first.kind clock
    at.moment.0 budget o h e
report_not_refused entries (Walk from to dir limit budget) reading clock o h e =
    walk_not_refused (meant_of entries reading.trees.first) reading.sorts.first.kind clock
    (window_token (window_given from to) dir) limit budget o h e
report_not_refused entries (Resume token limit budget) reading clock o h e =
    walk_not_refused (meant_of entries reading.trees.first) reading.sorts.first.kind clock token
    limit budget o h e

pub replies_are_done : RepliesAreDone
replies_are_done entries query text o (refused refusal h) = inr (inl refl)
replies_are_done entries query text o (replied x _ h report) =
    report_done entries query x.reading x.clock o report

-- no answer is a stop
no_current_stop : (t : Tree Meaning) (at : ℤ) (s : Stop) → IsCurrentRun (is_member t)
    (window_of t) at (nears.Budget s) → ⊥
no_current_stop t at s (inl around) = around.1
no_current_stop t at s (inr past) = past.1

no_closer_stop : (t : Tree Meaning) (at : ℤ) (s : Stop) (before after : Near)
    → IsNextRun (is_member t) (window_of t) Back at before → IsNextRun (is_member t) (window_of t)
    Fore at after → nears.Budget s ≡ closer_of at before after → ⊥
no_closer_stop t at s (nears.Budget x) after h k e = h
no_closer_stop t at s before (nears.Budget x) h k e = k
no_closer_stop t at s (nears.Found x) (nears.Found y) h k e = absurd cc
no_closer_stop t at s (nears.Found x) (nears.None w) h k e = absurd cc
no_closer_stop t at s (nears.Found x) nears.Edge h k e = absurd cc
no_closer_stop t at s (nears.None w) (nears.Found y) h k e = absurd cc
no_closer_stop t at s (nears.None w) (nears.None v) h k e = absurd cc
no_closer_stop t at s (nears.None w) nears.Edge h k e = absurd cc
no_closer_stop t at s nears.Edge (nears.Found y) h k e = absurd cc
no_closer_stop t at s nears.Edge (nears.None w) h k e = absurd cc
no_closer_stop t at s nears.Edge nears.Edge h k e = absurd cc

no_closest_stop : (t : Tree Meaning) (at : ℤ) (s : Stop) → IsClosestRun (is_member t)
    (window_of t) at (nears.Budget s) → ⊥
no_closest_stop t at s (inl around) = around.1
no_closest_stop t at s (inr beside) = let x = beside.1 in no_closer_stop t at s x.0 x.1 x.2 x.3 x.4

no_stop : (t : Tree Meaning) (side : Neighbour) (at : ℤ) (s : Stop)
    → IsFoundBy t side at (nears.Budget s) → ⊥
no_stop t Next at s h = h.0
no_stop t Previous at s h = h.0
no_stop t Current at s h = no_current_stop t at s h.0
no_stop t Closest at s h = no_closest_stop t at s h.0
no_stop t Contains at s h = h

never_stops : (t : Tree Meaning) (side : Neighbour) (kind : Kind) (clock : Clock) (at : ℤ)
    (budget : ℕ) (o : Outcome) → IsAskedBy t side kind clock at budget o → o.status ≡ 3
    → IsAmpleBy t side at budget → ⊥
never_stops t Next kind clock at budget o h e ample = searched_never_stops (no_stop t Next at) h e
    ample
never_stops t Previous kind clock at budget o h e ample =
    searched_never_stops (no_stop t Previous at) h e ample
never_stops t Current kind clock at budget o h e ample = searched_never_stops (no_stop t Current at)
    h e ample
never_stops t Closest kind clock at budget o h e ample = searched_never_stops (no_stop t Closest at)
    h e ample
never_stops t Contains kind clock at budget o h e ample = tested_never_stops h e ample

-- a budget that is enough stops no search, for a tree with a sort
never_due : AheadNeverStopsTests → AmpleNeverStopsTests → EnoughFindsNeighbours
    → AmpleFindsNeighbours → SortedStayInReach → (entries : Entries) (t : Tree Rule)
    (side : Neighbour) (sort : Sort) (at : ℤ) (budget : ℕ) → sort_of_tree t ≡ Ok sort
    → IsCalendarMoment at → (IsAbovePlaces (meant_of entries t) side at budget
    ⊎ IsAmple (meant_of entries t) budget) → IsAmpleBy (meant_of entries t) side at budget
never_due ahead ample_tests enough finds reach entries t Next sort at budget sorted here
    (inl above) = enough.next (meant_of entries t) Fore budget at here above
never_due ahead ample_tests enough finds reach entries t Next sort at budget sorted here
    (inr ample) = finds.next (meant_of entries t) Fore budget at (reach entries t sort sorted) here
    ample
never_due ahead ample_tests enough finds reach entries t Previous sort at budget sorted here
    (inl above) = enough.next (meant_of entries t) Back budget at here above
never_due ahead ample_tests enough finds reach entries t Previous sort at budget sorted here
    (inr ample) = finds.next (meant_of entries t) Back budget at (reach entries t sort sorted) here
    ample
never_due ahead ample_tests enough finds reach entries t Current sort at budget sorted here
    (inl above) = enough.current (meant_of entries t) budget at here above
never_due ahead ample_tests enough finds reach entries t Current sort at budget sorted here
    (inr ample) = finds.current (meant_of entries t) budget at (reach entries t sort sorted) here
    ample
never_due ahead ample_tests enough finds reach entries t Closest sort at budget sorted here
    (inl above) = enough.closest (meant_of entries t) budget at here above
never_due ahead ample_tests enough finds reach entries t Closest sort at budget sorted here
    (inr ample) = finds.closest (meant_of entries t) budget at (reach entries t sort sorted) here
    ample
never_due ahead ample_tests enough finds reach entries t Contains sort at budget sorted here
    (inl looks) = ahead (meant_of entries t) (position_of at) budget looks
never_due ahead ample_tests enough finds reach entries t Contains sort at budget sorted here
    (inr ample) =
    ample_tests (meant_of entries t) (position_of at) budget (reach entries t sort sorted)
    (position_in_range at here) ample

-- no phase behind the text's own changes what it is read as
pub reading_kept : (query : Query) (text : List ℕ) (x : OnClock) → Passes query text (Ok x)
    → IsMeant text (Ok x.reading)
reading_kept query text x (goes_on m _ meant (goes_on y _ (goes_on n _ two clock) settles)) =
    subst (λ (k : Reading). IsMeant text (Ok k)) (kept_two m n (takes query m.trees.second) two
    ∙ kept_clock n y (one_clock (sets_clock n.sorts) (words_clock query)) clock
    ∙ ap (λ (z : OnClock). z.reading) (kept_settled y x settles)) meant
  where
    kept_two : (m n : Reading) (b : Bool) → Ok n ≡ cond b (Ok m) (Err refusals.Two) → m ≡ n
    kept_two m n true e = cc
    kept_two m n false e = absurd cc

    kept_clock : (m : Reading) (y : OnClock) (o : Option Clock) → Ok y ≡ on_clock m o → m
        ≡ y.reading
    kept_clock m y None e = absurd cc
    kept_clock m y (Some clock) e = ap (λ (z : OnClock). z.reading)
        (let same : record { reading = m; clock = clock } ≡ y = cc in same)

    kept_settled : (y z : OnClock) → Settles query y (Ok z) → y ≡ z
    kept_settled y z (settled are) = refl

-- sets are the text's trees with their sorts
record HasTrees (text : List ℕ) (reading : Reading) : Type 0 where
  read : IsRead text (Ok reading.trees)
  sorted : AreSorts reading.trees reading.sorts

meant_trees : (text : List ℕ) (reading other : Reading) → other ≡ reading → IsMeant text (Ok other)
    → HasTrees text reading
meant_trees text reading other e (sets _ h are) = subst (HasTrees text) e
    (record { read = h; sorted = are })

-- what is known of ample budgets
pub record Budgets : Type 0 where
  pub ahead : AheadNeverStopsTests
  pub tests : AmpleNeverStopsTests
  pub above : EnoughFindsNeighbours
  pub finds : AmpleFindsNeighbours
  pub walks : Walks
  pub reach : SortedStayInReach

asks_no_stop : Budgets → (entries : Entries) (query : Query) (reading : Reading) (clock : Clock)
    (o : Outcome) → IsInRange query → sort_of_tree reading.trees.first ≡ Ok reading.sorts.first
    → IsReportOf entries query reading clock o → o.status ≡ 3
    → IsEnough (meant_of entries reading.trees.first) query → ⊥
asks_no_stop budgets entries Show reading clock o within sorted h e enough = let zero =
    printed_done h in absurd (omega (arith, e, zero))
asks_no_stop budgets entries (NearBy side at budget) reading clock o within sorted h e enough =
    never_stops (meant_of entries reading.trees.first) side reading.sorts.first.kind clock
    at.moment.0 budget o h e
    (never_due budgets.ahead budgets.tests budgets.above budgets.finds budgets.reach entries
    reading.trees.first side reading.sorts.first at.moment.0 budget sorted within.0 enough)
asks_no_stop budgets entries (Walk from to dir limit budget) reading clock o within sorted h e
    enough =
    walk_never_stops budgets.walks budgets.reach entries reading.trees.first reading.sorts.first
    reading.sorts.first.kind clock (window_token (window_given from to) dir) limit budget o sorted
    (window_fits budgets.walks.begin from to dir within.0 within.1) h e enough
asks_no_stop budgets entries (Resume token limit budget) reading clock o within sorted h e enough =
    walk_never_stops budgets.walks budgets.reach entries reading.trees.first reading.sorts.first
    reading.sorts.first.kind clock token limit budget o sorted within.0 h e enough

report_stops : {entries : Entries} → Reads → Budgets → (text : List ℕ) (query : Query)
    (reading : Reading) (clock : Clock) (o : Outcome) → IsInRange query → IsMeant text (Ok reading)
    → IsReportOf entries query reading clock o → o.status ≡ 3 → HasAmpleBudget entries text query
    → ⊥
report_stops {entries} reads budgets text query reading clock o within meant h e ample =
    let has = meant_trees text reading reading refl meant in
    let both : Ok ample.trees ≡ Ok reading.trees = reads.unique text (Ok ample.trees)
    (Ok reading.trees) ample.read has.read in
    let same : ample.trees ≡ reading.trees = cc in
    asks_no_stop budgets entries query reading clock o within has.sorted.0 h e
    (subst (λ (t : Trees). IsEnough (meant_of entries t.first) query) same ample.ample)

pub ample_replies_never_stop : Reads → Budgets → AmpleRepliesNeverStop
ample_replies_never_stop reads budgets entries query text o within (refused refusal h) ample e =
    absurd (omega (arith, e))
ample_replies_never_stop reads budgets entries query text o within (replied x _ h report) ample e =
    report_stops reads budgets text query x.reading x.clock o within (reading_kept query text x h)
    report e ample

-- a text that is answered is no longer than a text may be
meant_short : Reads → (text : List ℕ) (reading : Reading) → IsMeant text (Ok reading)
    → length text ≤ LONGEST
meant_short reads text reading h =
    accepted_short reads text reading.trees (meant_trees text reading reading refl h).read

pub answered_texts_are_short : Reads → AnsweredTextsAreShort
answered_texts_are_short reads entries query text o (refused refusal h) e = absurd (e refl)
answered_texts_are_short reads entries query text o (replied x _ h report) e =
    meant_short reads text x.reading (reading_kept query text x h)
