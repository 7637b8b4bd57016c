-- Reports put together from their front, and that there is one from each token.
use Rattle.std.proofs.Common.{◌≡◌, ap, refl, sym, subst, ◌∙◌, arith, ℕ, zero, suc, ◌<◌, List, [], ◌∷◌, ◌++◌, length}
use Rattle.std.proofs.lemmas.List.{append_assoc}
use Rattle.span_core.specs.declared.answers.Item.TheVariants as items
use Rattle.span_core.specs.declared.answers.Token.{Token}
use Rattle.span_core.specs.declared.answers.Why.{Why}
use Rattle.span_core.specs.declared.bounds.Run.{Run}
use Rattle.stored_pair.specs.Meanings.{Meaning}
use Rattle.expr_tree.specs.Members.{is_member}
use Rattle.expr_tree.specs.Tree.{Tree}
use Rattle.plan_core.specs.Plans.{window_of}
use Rattle.report_text.specs.Items.{item_line, more_line}
use Rattle.span_core.specs.Tokens.{IsFit}
use Rattle.search_core.specs.Lawful.{AreLawful}
use Rattle.walk_core.specs.Laws.{AmpleSteps, EndsHaveReasons, EnoughSteps, FirstItemsLead, ItemsAreLeft, ItemsFollow, StepsHoldForEver, WindowsBegin}
use Rattle.walk_core.specs.Tokens.{window_token}
use Rattle.walk_core.specs.Walks.{AreLeftOf, IsAmpleForStep}
use Rattle.walk_report.specs.Laws.{AmpleReportsNeverStop, EnoughReportsNeverStop, ReportsExist, ReportsGoOn, ReportsTellWindows}
use Rattle.walk_report.specs.Report.{AreFirstItems, ComesFirst, HoldsFrom, IsLast, IsReport, Telling, done, lines_of, more, run_line, stopped}

-- a last line after one item more
last_more : (telling : Telling) (limit : ℕ) (run : Run) (runs : List Run) (t : Token) (status : ℕ)
    (line : List ℕ) → IsLast telling limit runs t status line → IsLast telling (suc limit)
    (run ∷ runs) t status line
last_more telling limit run runs t status line (more all) = more (omega (arith, all))
last_more telling limit run runs t status line (done why few ends) = done why (omega (arith, few))
    ends
last_more telling limit run runs t status line (stopped next s few stops) =
    stopped next s (omega (arith, few)) stops

-- a report after one item more
pub report_more : (telling : Telling) (limit : ℕ) (t next : Token) (run : Run) (status : ℕ)
    (bytes : List ℕ) → ComesFirst telling.tree t run next → IsReport telling limit next status bytes
    → IsReport telling (suc limit) t status (run_line telling run ++ bytes)
report_more telling limit t next run status bytes first r = record {
  runs = run ∷ r.runs;
  next = r.next;
  first = (next, first, r.first);
  line = r.line;
  last = last_more telling limit run r.runs r.next status r.line r.last;
  whole = ap (λ z. run_line telling run ++ z) r.whole
      ∙ sym (append_assoc (run_line telling run) (lines_of telling r.runs) r.line);
}

-- a report of a last line alone
pub report_last : (telling : Telling) (limit : ℕ) (t : Token) (status : ℕ) (line : List ℕ)
    → IsLast telling limit [] t status line → IsReport telling limit t status line
report_last telling limit t status line last = record {
  runs = [];
  next = t;
  first = refl;
  line = line;
  last = last;
  whole = refl;
}

pub no_break : (telling : Telling) (limit : ℕ) (t : Token) (status : ℕ) (bytes : List ℕ)
    → IsReport telling limit t status bytes → status ≡ 5 → ⊥
no_break telling limit t status bytes r e = not_five r.last e
  where
    not_five : {runs : List Run} {at : Token} {n : ℕ} {line : List ℕ} → IsLast telling limit runs at
        n line → n ≡ 5 → ⊥
    not_five (more all) e = absurd cc
    not_five (done why few ends) e = absurd cc
    not_five (stopped next s few stops) e = absurd cc

abbrev why_line : Telling → Why → List ℕ
why_line telling why = item_line (items.Done why) telling.kind telling.clock

-- a report without a stop
module _ (left : ItemsAreLeft) (first : FirstItemsLead) (reasons : EndsHaveReasons)
    (hold : StepsHoldForEver) where
  report_of : (telling : Telling) (limit : ℕ) (t : Token) (runs : List Run) → AreLawful telling.tree
      → IsFit t → AreLeftOf telling.tree t runs → (bytes : List ℕ) × IsReport telling limit t 0
      bytes
  report_of telling zero t runs lawful fit rest =
      (more_line t, report_last telling zero t 0 (more_line t) (more refl))
  report_of telling (suc limit) t [] lawful fit rest =
      let why = reasons (is_member telling.tree) (window_of telling.tree) t fit rest in
      let holds : HoldsFrom telling.tree t (items.Done why.0) =
      λ honest. hold telling.tree telling.budget t t (items.Done why.0) lawful fit honest
      (why.1, refl) in (
        why_line telling why.0,
        report_last telling (suc limit) t 0 (why_line telling why.0)
            (done why.0 (omega arith) (why.1, holds)),
      )
  report_of telling (suc limit) t (run ∷ runs) lawful fit rest =
      let on = first (is_member telling.tree) (window_of telling.tree) t run runs fit rest in
      let holds : HoldsFrom telling.tree t (items.Run run) =
      λ honest. hold telling.tree telling.budget t on.0 (items.Run run) lawful fit honest on.1 in
      let r = report_of telling limit on.0 runs lawful on.2 on.3 in
      (run_line telling run ++ r.0, report_more telling limit t on.0 run 0 r.0 (on.1, holds) r.1)

  pub reports_exist : ReportsExist
  reports_exist telling limit t lawful fit =
      let runs = left (is_member telling.tree) (window_of telling.tree) t fit in
      report_of telling limit t runs.0 lawful fit runs.1

-- what was written, and what is left
pub reports_go_on : ItemsFollow → ReportsGoOn
reports_go_on follow tree t next [] rest fit on are = subst (λ n. AreLeftOf tree n rest) on are
reports_go_on follow tree t next (run ∷ runs) rest fit (mid, first, others) are =
    let then = follow (is_member tree) (window_of tree) t run mid fit first.0 in
    then.1 (runs ++ rest) (reports_go_on follow tree mid next runs rest then.0 others are)

pub reports_tell_windows : ItemsFollow → WindowsBegin → ReportsTellWindows
reports_tell_windows follow begin tree w dir next runs rest low high first are =
    let at = begin (is_member tree) (window_of tree) w dir low high in
    (at.2 (runs ++ rest)).0 (reports_go_on follow tree (window_token w dir) next runs rest at.0
    first are)

-- the token right past items fits
fits_after : ItemsFollow → (tree : Tree Meaning) (t next : Token) (runs : List Run) → IsFit t
    → AreFirstItems tree t runs next → IsFit next
fits_after follow tree t next [] fit on = subst (λ n. IsFit n) (sym on) fit
fits_after follow tree t next (run ∷ runs) fit (mid, first, others) =
    fits_after follow tree mid next runs (follow (is_member tree) (window_of tree) t run mid fit
    first.0).0 others

-- a stop comes before the limit, and its budget isn't ample
stop_of : (telling : Telling) (limit : ℕ) (runs : List Run) (t : Token) (status : ℕ) (line : List ℕ)
    → IsLast telling limit runs t status line → status ≡ 3 → (length runs < limit)
    × ¬ (IsAmpleForStep telling.tree t telling.budget)
stop_of telling limit runs t status line (more all) e = absurd cc
stop_of telling limit runs t status line (done why few ends) e = absurd cc
stop_of telling limit runs t status line (stopped next s few stops) e = (few, stops.1)

pub ample_reports : ItemsFollow → AmpleSteps → AmpleReportsNeverStop
ample_reports follow steps telling limit t bytes reach fit ample r =
    let stop = stop_of telling limit r.runs r.next 3 r.line r.last refl in
    stop.1 (steps telling.tree r.next telling.budget reach (fits_after follow telling.tree t r.next
    r.runs fit r.first) ample)

pub enough_reports : ItemsFollow → EnoughSteps → EnoughReportsNeverStop
enough_reports follow steps telling limit t bytes fit above r =
    let stop = stop_of telling limit r.runs r.next 3 r.line r.last refl in
    stop.1 (steps telling.tree r.next telling.budget (fits_after follow telling.tree t r.next r.runs
    fit r.first) (above r.runs r.next stop.0 r.first))
