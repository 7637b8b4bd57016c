-- A query and a text have one reply.
use Rattle.std.proofs.Common.{◌≡◌, ◌≢◌, ◌⊎◌, inl, inr, ℕ, ℤ, Bool, true, false, List, sym, ◌∙◌, ap, subst, refl, Option, Some, None, Result, Ok, Err, cond, option_map}
use Rattle.std.proofs.lemmas.Bool.{cases_Bool, both_ways}
use Rattle.search_core.specs.Lawful.{AreLawful}
use Rattle.span_core.specs.declared.answers.Test.TheVariants as tests
use Rattle.expr_text.specs.Accepted.{IsRead}
use Rattle.expr_text.specs.Fault.{Fault}
use Rattle.expr_text.specs.Faults.{fault_of, sort_fault}
use Rattle.expr_print.specs.Printing.{print_program}
use Rattle.expr_tree.specs.Members.{is_member}
use Rattle.expr_tree.specs.Sorts.{sort_of_tree}
use Rattle.expr_tree.specs.Tree.{Rule, Tree, Trees, meant_of}
use Rattle.expr_tree.specs.WellFormed.{IsWellFormed}
use Rattle.expr_tree.specs.declared.sorting.Sort.{Sort}
use Rattle.ical_rules.specs.declared.outcome.Unsettled.{Unsettled}
use Rattle.expr_tree.specs.declared.sorting.SortFault.{SortFault}
use Rattle.expr_tree.specs.declared.tree.Kind.{Kind}
use Rattle.moment_core.specs.Clocks.{one_clock}
use Rattle.moment_core.specs.declared.line.Clock.{Clock}
use Rattle.moment_core.specs.Line.{IsCalendarMoment, position_of}
use Rattle.moment_core.specs.declared.line.Dir.{Dir}
use Rattle.moment_core.specs.declared.line.Dir.TheVariants.{Fore, Back}
use Rattle.phases.specs.Laws.{by_phase, then_phase}
use Rattle.phases.specs.Phases.{Anything, By, IsPhase}
use Rattle.stored_pair.specs.Meanings.{Entries, Meaning}
use Rattle.plan_core.specs.Plans.{window_of}
use Rattle.query_core.specs.Laws.{NeighboursAreUnique, NeighboursExist, NeighboursHoldForEver}
use Rattle.query_words.specs.declared.queries.Query.{Query}
use Rattle.query_words.specs.declared.queries.Query.TheVariants.{Near as NearBy, Resume, Show, Walk}
use Rattle.query_words.specs.declared.queries.Neighbour.{Neighbour}
use Rattle.query_words.specs.declared.queries.Neighbour.TheVariants.{Next, Previous, Current, Closest, Contains}
use Rattle.span_core.specs.declared.answers.Near.{Near}
use Rattle.span_core.specs.declared.answers.Stop.{Stop}
use Rattle.report_text.specs.declared.refusals.Refusal.{Refusal}
use Rattle.report_text.specs.declared.refusals.Refusal.TheVariants as refusals
use Rattle.query_reply.specs.Laws.{RefusedTextsHaveOneReply, RepliesAreUnique, RepliesExist}
use Rattle.query_reply.specs.Reading.{AreSecondSorts, AreSettledFor, AreSorts, Fits, IsMeant, IsUnsettledFor, Reading, OnClock, Passes, Settles, Sorts, faulty, on_clock, sets, sets_clock, settled, takes, unless_clock, unless_two, unsettled, words_clock}
use Rattle.query_reply.specs.Refusals.{text_refusal}
use Rattle.query_reply.specs.Report.{Outcome, IsInRange, IsPrinted, IsReply, IsAskedBy, IsReportOf, IsSearched, IsTested, answered, answers, printed, refused, refused_by, replied, stops, tested, told, told_test, window_given}
use Rattle.query_reply.proofs.ReplyLemmas.{Reads, report_not_refused as not_refused}
use Rattle.walk_core.specs.Tokens.{window_token}
use Rattle.query_reply.proofs.WalkLemmas.{Walks, one_walk, some_walk, window_fits}

-- a search has one outcome, stops aside
one_searched : {found : Near → Type 0} {places : Dir → ℤ → Type 0} {due : Dir → ℤ → ℕ → Stop
    → Type 0} {kind : Kind} {clock : Clock} {budget : ℕ}
    → ((x y : Near) → found x → found y → x ≡ y)
    → (a b : Outcome) → IsSearched found places due kind clock budget a → IsSearched found places
    due kind clock budget b → a.status ≢ 3 → b.status ≢ 3 → a ≡ b
one_searched one a b (stops s is not) k d e = absurd (d refl)
one_searched one a b (answers near is) (stops s also not) d e = absurd (e refl)
one_searched {found} {places} {due} {kind} {clock} one a b (answers near is) (answers other also) d
    e = ap (told kind clock) (one near other is also)

one_tested : {t : Tree Meaning} {p : ℤ} {budget : ℕ} (a b : Outcome) → IsTested t p budget a
    → IsTested t p budget b → a.status ≢ 3 → b.status ≢ 3 → a ≡ b
one_tested a b (tested (tests.Budget s) is) k d e = absurd (d refl)
one_tested a b h (tested (tests.Budget s) is) d e = absurd (e refl)
one_tested a b (tested tests.In is) (tested tests.In also) d e = refl
one_tested a b (tested tests.Out is) (tested tests.Out also) d e = refl
one_tested {t} {p} a b (tested tests.In is) (tested tests.Out also) d e =
    absurd (both_ways (is_member t p) also is)
one_tested {t} {p} a b (tested tests.Out is) (tested tests.In also) d e =
    absurd (both_ways (is_member t p) is also)

one_asked : NeighboursAreUnique → (t : Tree Meaning) (side : Neighbour) (kind : Kind)
    (clock : Clock) (at : ℤ) (budget : ℕ) (a b : Outcome) → IsAskedBy t side kind clock at budget a
    → IsAskedBy t side kind clock at budget b → a.status ≢ 3 → b.status ≢ 3 → a ≡ b
one_asked runs t Next kind clock at budget a b h k =
    one_searched (λ x y is also. runs.next (is_member t) (window_of t) Fore at x y is.0 also.0) a b
    h k
one_asked runs t Previous kind clock at budget a b h k =
    one_searched (λ x y is also. runs.next (is_member t) (window_of t) Back at x y is.0 also.0) a b
    h k
one_asked runs t Current kind clock at budget a b h k =
    one_searched (λ x y is also. runs.current (is_member t) (window_of t) at x y is.0 also.0) a b h
    k
one_asked runs t Closest kind clock at budget a b h k =
    one_searched (λ x y is also. runs.closest (is_member t) (window_of t) at x y is.0 also.0) a b h
    k
one_asked runs t Contains kind clock at budget a b h k = one_tested a b h k

one_printed : {trees : Trees} (a b : Outcome) → IsPrinted trees a → IsPrinted trees b → a ≡ b
one_printed a b printed printed = refl

one_report : NeighboursAreUnique → Walks → (entries : Entries) (query : Query) (reading : Reading)
    (clock : Clock) (a b : Outcome) → IsInRange query → IsReportOf entries query reading clock a
    → IsReportOf entries query reading clock b → a.status ≢ 3 → b.status ≢ 3 → a ≡ b
one_report runs walks entries Show reading clock a b within h k d e = one_printed a b h k
one_report runs walks entries (NearBy side at budget) reading clock a b within h k d e =
    one_asked runs (meant_of entries reading.trees.first) side reading.sorts.first.kind clock
    at.moment.0 budget a b h k d e
one_report runs walks entries (Walk from to dir limit budget) reading clock a b within h k d e =
    one_walk (meant_of entries reading.trees.first) reading.sorts.first.kind clock
    (window_token (window_given from to) dir) limit budget walks a b
    (window_fits walks.begin from to dir within.0 within.1) h k d e
one_report runs walks entries (Resume token limit budget) reading clock a b within h k d e =
    one_walk (meant_of entries reading.trees.first) reading.sorts.first.kind clock token limit
    budget walks a b within.0 h k d e

-- what is given to a phase behind the words: any text
-- the first tree is well formed, and its rules are lawful
abbrev CanMean : Entries → Reading → Type 0
CanMean entries reading = IsWellFormed reading.trees.first
    × AreLawful (meant_of entries reading.trees.first)

abbrev CanMeanOn : Entries → OnClock → Type 0
CanMeanOn entries x = CanMean entries x.reading

pair_sorts : (t : Tree Rule) (o : Option (Tree Rule)) (r : Result Sort SortFault)
    (s : Option (Result Sort SortFault)) → sort_of_tree t ≡ r → option_map sort_of_tree o ≡ s
    → fault_of r s ≡ None → (sorts : Sorts) × AreSorts (record { first = t; second = o }) sorts
pair_sorts t None (Ok a) s e d none = (record { first = a; second = None }, (e, tt))
pair_sorts t (Some u) (Ok a) None e d none = absurd cc
pair_sorts t (Some u) (Ok a) (Some (Err fault)) e d none = absurd cc
pair_sorts t (Some u) (Ok a) (Some (Ok b)) e d none =
    (record { first = a; second = Some b }, (e, (let same : sort_of_tree u ≡ Ok b = cc in same)))
pair_sorts t o (Err fault) s e d none = absurd cc

sorts_of_accepted : (trees : Trees) → sort_fault trees ≡ None → (sorts : Sorts)
    × AreSorts trees sorts
sorts_of_accepted trees e = pair_sorts trees.first trees.second (sort_of_tree trees.first)
    (option_map sort_of_tree trees.second) refl refl e

one_second : (o : Option (Tree Rule)) (a b : Option Sort) → AreSecondSorts o a → AreSecondSorts o b
    → a ≡ b
one_second None None None h k = refl
one_second None None (Some b) h k = absurd k
one_second None (Some a) b h k = absurd h
one_second (Some t) None b h k = absurd h
one_second (Some t) (Some a) None h k = absurd k
one_second (Some t) (Some a) (Some b) h k = let same : a ≡ b = cc in ap (λ (s : Sort). Some s) same

one_sorts : (trees : Trees) (a b : Sorts) → AreSorts trees a → AreSorts trees b → a ≡ b
one_sorts trees a b h k =
    let first : a.first ≡ b.first = (let x = h.0 in let y = k.0 in cc) in
    let second : a.second ≡ b.second = one_second trees.second a.second b.second h.1 k.1 in
    ap (λ (s : Sort). let r : Sorts = record { first = s; second = a.second } in r) first
    ∙ ap (λ (o : Option Sort). let r : Sorts = record { first = b.first; second = o } in r) second

meant_phase : Reads → (entries : Entries) → IsPhase Anything IsMeant (CanMean entries)
meant_phase reads entries =
    record {
      some =
          λ text h. let read = reads.exist text in by_read text read.0 read.1;
      one = one;
      gives = gives;
    }
  where
    by_read : (text : List ℕ) (r : Result Trees Fault) → IsRead text r
        → (m : Result Reading Refusal) × IsMeant text m
    by_read text (Ok trees) h =
        let sorts = sorts_of_accepted trees (reads.sorted text trees h) in
        let reading : Reading = record { trees = trees; sorts = sorts.0 } in
        (Ok reading, sets reading h sorts.1)
    by_read text (Err fault) h = (Err (text_refusal fault), faulty fault h)

    one : (text : List ℕ) (r s : Result Reading Refusal) → IsMeant text r → IsMeant text s → r ≡ s
    one text r s (sets a h are) (sets b k also) =
        let both : Ok b.trees ≡ Ok a.trees = reads.unique text (Ok b.trees) (Ok a.trees) k h in
        let trees_same : b.trees ≡ a.trees = cc in
        let sorts_same : a.sorts ≡ b.sorts = one_sorts a.trees a.sorts b.sorts are
        (subst (λ (t : Trees). AreSorts t b.sorts) trees_same also) in
        ap (λ (x : Sorts). let m : Reading = record { trees = a.trees; sorts = x } in Ok m)
        sorts_same
        ∙ ap (λ (t : Trees). let m : Reading = record { trees = t; sorts = b.sorts } in Ok m)
        (sym trees_same)
    one text r s (sets a h are) (faulty fault k) = let both : Ok a.trees ≡ Err fault =
        reads.unique text (Ok a.trees) (Err fault) h k in absurd cc
    one text r s (faulty fault h) (sets b k also) = let both : Ok b.trees ≡ Err fault =
        reads.unique text (Ok b.trees) (Err fault) k h in absurd cc
    one text r s (faulty fault h) (faulty other k) =
        let both : Err fault ≡ Err other = reads.unique text (Err fault) (Err other) h k in
        let same : fault ≡ other = cc in
        ap (λ (f : Fault). Err (text_refusal f)) same

    gives : (text : List ℕ) (m : Reading) → Anything text → IsMeant text (Ok m) → CanMean entries m
    gives text m h (sets _ k are) = let formed = (reads.well_formed text m.trees k).0 in
        (formed, reads.lawful entries m.trees.first formed)

two_phase : (entries : Entries) (query : Query) → IsPhase (CanMean entries) (By (unless_two query))
    (CanMean entries)
two_phase entries query = by_phase (CanMean entries) (CanMean entries) (unless_two query)
    (λ m n h e. by_number (takes query m.trees.second) m n h e)
  where
    by_number : (b : Bool) (m n : Reading) → CanMean entries m → cond b (Ok m) (Err refusals.Two)
        ≡ Ok n → CanMean entries n
    by_number true m n h e = subst (CanMean entries) (let same : m ≡ n = cc in same) h
    by_number false m n h e = absurd cc

clock_phase : (entries : Entries) (query : Query) → IsPhase (CanMean entries)
    (By (unless_clock query)) (CanMeanOn entries)
clock_phase entries query = by_phase (CanMean entries) (CanMeanOn entries) (unless_clock query)
    (λ m x h e. by_clock m (one_clock (sets_clock m.sorts) (words_clock query)) x h e)
  where
    by_clock : (m : Reading) (o : Option Clock) (x : OnClock) → CanMean entries m → on_clock m o
        ≡ Ok x → CanMeanOn entries x
    by_clock m (Some clock) x h e = subst (CanMeanOn entries)
        (let same : record { reading = m; clock = clock } ≡ x = cc in same) h
    by_clock m None x h e = absurd cc

settle_phase : Reads → (entries : Entries) (query : Query) → IsPhase (CanMeanOn entries)
    (Settles query) (CanMeanOn entries)
settle_phase reads entries query =
    record {
      some =
          λ x h. some query x (settles_or_not query x h.0);
      one = one query;
      gives =
          λ x y h s. subst (CanMeanOn entries) (kept x y s) h;
    }
  where
    -- the counts are settled, or one is the first that isn't
    settles_or_not : (q : Query) (x : OnClock) → IsWellFormed x.reading.trees.first
        → AreSettledFor q x.reading.trees ⊎ ((u : Unsettled) × IsUnsettledFor q x.reading.trees u)
    settles_or_not Show x h = inl tt
    settles_or_not (NearBy side at budget) x h = reads.settled x.reading.trees.first h
    settles_or_not (Walk from to dir limit budget) x h = reads.settled x.reading.trees.first h
    settles_or_not (Resume token limit budget) x h = reads.settled x.reading.trees.first h

    some : (q : Query) (x : OnClock) → AreSettledFor q x.reading.trees
        ⊎ ((u : Unsettled) × IsUnsettledFor q x.reading.trees u) → (r : Result OnClock Refusal)
        × Settles q x r
    some q x (inl are) = (Ok x, settled are)
    some q x (inr none) = (Err (refusals.Settle none.0.passed none.0.at), unsettled none.0 none.1)

    apart : (q : Query) (x : OnClock) (u : Unsettled) → AreSettledFor q x.reading.trees
        → IsUnsettledFor q x.reading.trees u → ⊥
    apart Show x u are none = none
    apart (NearBy side at budget) x u are none = reads.apart x.reading.trees.first u are none
    apart (Walk from to dir limit budget) x u are none = reads.apart x.reading.trees.first u are
        none
    apart (Resume token limit budget) x u are none = reads.apart x.reading.trees.first u are none

    same_unsettled : (q : Query) (x : OnClock) (u v : Unsettled) → IsUnsettledFor q x.reading.trees
        u → IsUnsettledFor q x.reading.trees v → u ≡ v
    same_unsettled Show x u v h k = absurd h
    same_unsettled (NearBy side at budget) x u v h k = reads.one x.reading.trees.first u v h k
    same_unsettled (Walk from to dir limit budget) x u v h k = reads.one x.reading.trees.first u v h
        k
    same_unsettled (Resume token limit budget) x u v h k = reads.one x.reading.trees.first u v h k

    one : (q : Query) (x : OnClock) (r s : Result OnClock Refusal) → Settles q x r → Settles q x s
        → r ≡ s
    one q x r s (settled are) (settled also) = refl
    one q x r s (settled are) (unsettled u none) = absurd (apart q x u are none)
    one q x r s (unsettled u none) (settled are) = absurd (apart q x u are none)
    one q x r s (unsettled u h) (unsettled v k) =
        ap (λ (w : Unsettled). Err (refusals.Settle w.passed w.at)) (same_unsettled q x u v h k)

    kept : (x y : OnClock) → Settles query x (Ok y) → x ≡ y
    kept x y (settled are) = refl

all_phases : Reads → (entries : Entries) (query : Query) → IsPhase Anything (Passes query)
    (CanMeanOn entries)
all_phases reads entries query =
    then_phase IsMeant _ Anything (CanMean entries) (CanMeanOn entries) (meant_phase reads entries)
    (then_phase (Fits query) (Settles query) (CanMean entries) (CanMeanOn entries)
    (CanMeanOn entries)
    (then_phase (By (unless_two query)) (By (unless_clock query)) (CanMean entries)
    (CanMean entries) (CanMeanOn entries) (two_phase entries query) (clock_phase entries query))
    (settle_phase reads entries query))

-- a text has one outcome for a query, and a refusal is alone
one_reply : Reads → NeighboursAreUnique → Walks → (entries : Entries) (query : Query)
    (text : List ℕ) (a b : Outcome) → IsInRange query → IsReply entries query text a
    → IsReply entries query text b → (a.status ≡ 2) ⊎ ((a.status ≢ 3) × (b.status ≢ 3)) → a ≡ b
one_reply reads runs walks entries query text a b within (refused r h) (refused s k) d =
    let both : Err r ≡ Err s = (all_phases reads entries query).one text (Err r) (Err s) h k in
    let same : r ≡ s = cc in
    ap refused_by same
one_reply reads runs walks entries query text a b within (refused r h) (replied x o k report) d =
    let both : Err r ≡ Ok x = (all_phases reads entries query).one text (Err r) (Ok x) h k in
    absurd cc
one_reply reads runs walks entries query text a b within (replied x o h report) (refused r k) d =
    let both : Ok x ≡ Err r = (all_phases reads entries query).one text (Ok x) (Err r) h k in
    absurd cc
one_reply reads runs walks entries query text a b within (replied x o h report)
    (replied y p k other) d =
    let both : Ok y ≡ Ok x = (all_phases reads entries query).one text (Ok y) (Ok x) k h in
    let same : y ≡ x = cc in
    let also = subst (λ (z : OnClock). IsReportOf entries query z.reading z.clock b) same other in
    elim d [
      | inl two ↦ absurd (not_refused entries query x.reading x.clock a report two)
      | inr free ↦ one_report runs walks entries query x.reading x.clock a b within report also
          free.0 free.1
    ]

pub replies_are_unique : Reads → NeighboursAreUnique → Walks → RepliesAreUnique
replies_are_unique reads runs walks entries query text a b within h k d e =
    one_reply reads runs walks entries query text a b within h k (inr (d, e))

pub refused_texts_have_one_reply : Reads → NeighboursAreUnique → Walks → RefusedTextsHaveOneReply
refused_texts_have_one_reply reads runs walks entries query text a b within h k two =
    one_reply reads runs walks entries query text a b within h k (inl two)

-- each command asks something that is told
some_asked : NeighboursExist → NeighboursHoldForEver → (t : Tree Meaning) (side : Neighbour)
    (kind : Kind) (clock : Clock) (at : ℤ) (budget : ℕ) → IsCalendarMoment at → AreLawful t
    → (o : Outcome) × IsAskedBy t side kind clock at budget o
some_asked runs hold t Next kind clock at budget range h =
    let near = runs.next (is_member t) (window_of t) Fore at range in
    (told kind clock near.0, answers near.0 (near.1, hold.next t Fore at near.0 h range near.1))
some_asked runs hold t Previous kind clock at budget range h =
    let near = runs.next (is_member t) (window_of t) Back at range in
    (told kind clock near.0, answers near.0 (near.1, hold.next t Back at near.0 h range near.1))
some_asked runs hold t Current kind clock at budget range h =
    let near = runs.current (is_member t) (window_of t) at range in
    (told kind clock near.0, answers near.0 (near.1, hold.current t at near.0 h range near.1))
some_asked runs hold t Closest kind clock at budget range h =
    let near = runs.closest (is_member t) (window_of t) at range in
    (told kind clock near.0, answers near.0 (near.1, hold.closest t at near.0 h range near.1))
some_asked runs hold t Contains kind clock at budget range h =
    elim (cases_Bool (is_member t (position_of at))) [
      | inl within ↦ (told_test tests.In, tested tests.In within)
      | inr without ↦ (told_test tests.Out, tested tests.Out without)
    ]

-- some report is made of a reading
some_report : NeighboursExist → NeighboursHoldForEver → Walks → (entries : Entries) (query : Query)
    (reading : Reading) (clock : Clock) → IsInRange query → CanMean entries reading → (o : Outcome)
    × IsReportOf entries query reading clock o
some_report runs hold walks entries Show reading clock range h =
    (answered (print_program reading.trees), printed)
some_report runs hold walks entries (NearBy side at budget) reading clock range h =
    some_asked runs hold (meant_of entries reading.trees.first) side reading.sorts.first.kind clock
    at.moment.0 budget range.0 h.1
some_report runs hold walks entries (Walk from to dir limit budget) reading clock range h =
    some_walk (meant_of entries reading.trees.first) reading.sorts.first.kind clock
    (window_token (window_given from to) dir) limit budget walks h.1
    (window_fits walks.begin from to dir range.0 range.1)
some_report runs hold walks entries (Resume token limit budget) reading clock range h =
    some_walk (meant_of entries reading.trees.first) reading.sorts.first.kind clock token limit
    budget walks h.1 range.0

pub replies_exist : Reads → NeighboursExist → NeighboursHoldForEver → Walks → RepliesExist
replies_exist reads runs hold walks entries query text range = let x =
    (all_phases reads entries query).some text tt in by_result x.0 x.1
  where
    by_result : (r : Result OnClock Refusal) → Passes query text r → (o : Outcome)
        × IsReply entries query text o
    by_result (Err refusal) h = (refused_by refusal, refused refusal h)
    by_result (Ok x) h = let o = some_report runs hold walks entries query x.reading x.clock range
        ((all_phases reads entries query).gives text x tt h) in (o.0, replied x o.0 h o.1)
