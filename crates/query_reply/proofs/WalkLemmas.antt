-- The outcomes of walks.
use Rattle.std.proofs.Common.{◌≡◌, ◌≢◌, ◌⊎◌, ℕ, ℤ, List, arith, inl, inr, refl, subst, ap, ◌∙◌, false, Option, Some, None, Ok}
use Rattle.std.proofs.lemmas.Int.{ints}
use Rattle.moment_core.specs.Line.{IsCalendarMoment, IsCalendarPosition}
use Rattle.moment_core.specs.declared.line.Clock.{Clock}
use Rattle.moment_core.specs.declared.line.Dir.{Dir}
use Rattle.moment_core.specs.declared.line.Stamp.{Stamp}
use Rattle.moment_core.specs.declared.line.TheConstants.{LOW, HIGH}
use Rattle.outside_core.specs.declared.writes.Sink.{Ghosts as Sink}
use Rattle.span_core.specs.Tokens.{IsFit}
use Rattle.span_core.specs.declared.answers.Token.{Token}
use Rattle.span_core.specs.declared.bounds.Run.{Run}
use Rattle.stored_pair.specs.Meanings.{Entries, Meaning}
use Rattle.expr_tree.specs.Laws.{SortedStayInReach}
use Rattle.expr_tree.specs.Sorts.{sort_of_tree}
use Rattle.expr_tree.specs.Tree.{Rule, Tree, meant_of}
use Rattle.expr_tree.specs.declared.sorting.Sort.{Sort}
use Rattle.expr_tree.specs.declared.tree.Kind.{Kind}
use Rattle.search_core.specs.Ample.{IsAmple}
use Rattle.search_core.specs.Lawful.{AreLawful}
use Rattle.walk_core.specs.Laws.{WindowsBegin}
use Rattle.walk_core.specs.Tokens.{window_token}
use Rattle.walk_report.specs.Laws.{AmpleReportsNeverStop, EnoughReportsNeverStop, ReportsAreUnique, ReportsExist}
use Rattle.walk_report.specs.Report.{IsAboveWalk, IsLast, IsReport, IsWalked, Telling, done, more, stopped}
use Rattle.query_reply.specs.Effects.{IsDone, IsReported}
use Rattle.query_reply.specs.Report.{IsGivenInRange, IsWalkOf, Outcome, end_of, window_given}

-- what is known of the reports of walks
pub record Walks : Type 0 where
  pub begin : WindowsBegin
  pub exist : ReportsExist
  pub unique : ReportsAreUnique
  pub ample : AmpleReportsNeverStop
  pub enough : EnoughReportsNeverStop

-- the ends of a walk's window are in the range, and its token fits
end_in_range : (default : ℤ) (given : Option Stamp) → IsCalendarMoment default
    → IsGivenInRange given → IsCalendarPosition (end_of default given).0
end_in_range default None here h = let a = here.0 in let b = here.1 in
    (omega (arith, ints, a), omega (arith, ints, b))
end_in_range default (Some at) here h = let a = h.0 in let b = h.1 in
    (omega (arith, ints, a), omega (arith, ints, b))

pub window_fits : WindowsBegin → (from to : Option Stamp) (dir : Dir) → IsGivenInRange from
    → IsGivenInRange to → IsFit (window_token (window_given from to) dir)
window_fits begin from to dir low high =
    (begin (λ p. false) (λ d p. None) (window_given from to) dir
    (end_in_range LOW from (omega (arith, ints), omega (arith, ints)) low)
    (end_in_range HIGH to (omega (arith, ints), omega (arith, ints)) high)).0

-- a walk's status is 0 or 3
last_done : (telling : Telling) (limit : ℕ) (runs : List Run) (t : Token) (status : ℕ)
    (line : List ℕ) → IsLast telling limit runs t status line → (status ≡ 0) ⊎ (status ≡ 3)
last_done telling limit runs t status line (more all) = inl refl
last_done telling limit runs t status line (done why few ends) = inl refl
last_done telling limit runs t status line (stopped next s few stops) = inr refl

module _ (tree : Tree Meaning) (kind : Kind) (clock : Clock) (t : Token) (limit budget : ℕ) where
  abbrev told_so : Telling
  told_so = record { tree = tree; kind = kind; clock = clock; budget = budget }

  walk_status : (o : Outcome) → IsWalkOf tree kind clock t limit budget o → (o.status ≡ 0)
      ⊎ (o.status ≡ 3)
  walk_status o r = last_done told_so limit r.runs r.next o.status r.line r.last

  pub walk_done : (o : Outcome) → IsWalkOf tree kind clock t limit budget o → IsDone o.status
  walk_done o r = elim (walk_status o r) [ inl zero ↦ inl zero | inr three ↦ inr (inr three) ]

  pub walk_not_refused : (o : Outcome) → IsWalkOf tree kind clock t limit budget o → o.status ≡ 2
      → ⊥
  walk_not_refused o r two = elim (walk_status o r) [
    | inl zero ↦ omega (arith, two, zero)
    | inr
        three ↦ omega (arith, two, three)
  ]

  -- it has one outcome, stops aside
  pub one_walk : Walks → (a b : Outcome) → IsFit t → IsWalkOf tree kind clock t limit budget a
      → IsWalkOf tree kind clock t limit budget b → a.status ≢ 3 → b.status ≢ 3 → a ≡ b
  one_walk walks a b fit h k d e =
      let both = walks.unique told_so limit t a.status b.status a.bytes b.bytes fit h k d e in
      ap (λ (n : ℕ). let o : Outcome = record { status = n; bytes = a.bytes } in o) both.0
      ∙ ap (λ (x : List ℕ). let o : Outcome = record { status = b.status; bytes = x } in o) both.1

  pub some_walk : Walks → AreLawful tree → IsFit t → (o : Outcome) × IsWalkOf tree kind clock t
      limit budget o
  some_walk walks lawful fit = let r = walks.exist told_so limit t lawful fit in
      (record { status = 0; bytes = r.0 }, r.1)

-- with an ample budget no walk over a tree with a sort stops
pub walk_never_stops : Walks → SortedStayInReach → (entries : Entries) (tree : Tree Rule)
    (sort : Sort) (kind : Kind) (clock : Clock) (t : Token) (limit budget : ℕ) (o : Outcome)
    → sort_of_tree tree ≡ Ok sort → IsFit t → IsWalkOf (meant_of entries tree) kind clock t limit
    budget o → o.status ≡ 3 → (IsAboveWalk (meant_of entries tree) limit t budget
    ⊎ IsAmple (meant_of entries tree) budget) → ⊥
walk_never_stops walks reach entries tree sort kind clock t limit budget o sorted fit r three
    enough =
    let telling = told_so (meant_of entries tree) kind clock t limit budget in
    let stop : IsReport telling limit t 3 o.bytes = subst (λ n. IsReport telling limit t n o.bytes)
    three r in
    elim enough [
      | inl above ↦ walks.enough telling limit t o.bytes fit above stop
      | inr ample ↦ walks.ample telling limit t o.bytes (reach entries tree sort sorted) fit ample
          stop
    ]

-- what a walk wrote is an outcome
pub walk_reported : {K : Type 0} (sink : Sink K) (old new : K) (tree : Tree Meaning) (kind : Kind)
    (clock : Clock) (t : Token) (limit budget status : ℕ) → IsWalked sink old new
    (told_so tree kind clock t limit budget) limit t status → IsReported sink old new
    (IsWalkOf tree kind clock t limit budget) status
walk_reported sink old new tree kind clock t limit budget status w = record {
  outcome = record { status = w.meant; bytes = w.bytes };
  as_asked = w.report;
  written = record {
    counted = w.counted;
    either = w.either;
    whole = w.whole;
    part = w.part;
    failed = w.failed;
  };
}
