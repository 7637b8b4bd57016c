-- The lines of a walk put one after another.
use Rattle.std.proofs.Common.{◌≡◌, inl, inr, ap, refl, sym, subst, ◌∙◌, arith, ℕ, suc, ◌+◌, ◌-◌, ◌<◌, ◌≤◌, Bool, true, false, List, ◌++◌, length, take, Option, Some, None, if◌then◌else◌}
use Rattle.std.proofs.Math.Seq.{take-append-add}
use Rattle.std.proofs.lemmas.Grind.{common_steps}
use Rattle.std.proofs.lemmas.List.{append_assoc, take-append-le}
use Rattle.outside_core.specs.Outside.{Puts, Rose}
use Rattle.outside_core.specs.declared.writes.Sink.{Ghosts as Sink}
use Rattle.span_core.specs.declared.answers.Item.{Item}
use Rattle.span_core.specs.declared.answers.Item.TheVariants as items
use Rattle.span_core.specs.declared.answers.Stop.{Stop}
use Rattle.span_core.specs.declared.answers.Token.{Token}
use Rattle.expr_tree.specs.Members.{is_member}
use Rattle.search_core.specs.Due.{IsDue}
use Rattle.plan_core.specs.Plans.{window_of}
use Rattle.report_text.specs.Items.{item_line, more_line}
use Rattle.walk_core.specs.Steps.{WalksTo}
use Rattle.walk_core.specs.Walks.{IsAmpleForStep, IsNoStop}
use Rattle.walk_report.specs.Report.{HoldsFrom, IsReport, IsWalked, Stops, Telling, done, more, run_line, stopped}
use Rattle.walk_report.specs.Turns.{IsOnTheWay, PutsOrBreaks, TurnsTo, turn_of}
use Rattle.walk_report.specs.declared.writing.Turn.TheVariants as turns
use Rattle.walk_report.proofs.Reporting.{no_break, report_last, report_more}

-- one piece put after another
puts_both : (before mid after : Option (List ℕ)) (x y : List ℕ) → Puts before mid x
    → Puts mid after y → Puts before after (x ++ y)
puts_both before mid None x y h k = tt
puts_both before None (Some after) x y h k = absurd k
puts_both None (Some mid) (Some after) x y h k = absurd h
puts_both (Some before) (Some mid) (Some after) x y h k = k ∙ ap (λ z. z ++ y) h
    ∙ append_assoc before x y

rose_later : (old there new : ℕ) → old ≤ there → Rose there new → Rose old new
rose_later old there new up rose = grind (arith, common_steps)

-- a walk that left all bytes of a report, or the first of them
walked_whole : {K : Type 0} (sink : Sink K) (old new : K) (telling : Telling) (limit : ℕ)
    (t : Token) (status : ℕ) (bytes : List ℕ) → IsReport telling limit t status bytes
    → sink.faults old ≤ sink.faults new → Puts (sink.taken old) (sink.taken new) bytes
    → IsWalked sink old new telling limit t status
walked_whole sink old new telling limit t status bytes report up put = record {
  meant = status;
  bytes = bytes;
  report = report;
  counted = up;
  either = inl refl;
  whole = λ e. put;
  part = λ e. absurd (no_break telling limit t status bytes report e);
  failed = λ e. absurd (no_break telling limit t status bytes report e);
}

walked_part : {K : Type 0} (sink : Sink K) (old new : K) (telling : Telling) (limit : ℕ) (t : Token)
    (status : ℕ) (bytes : List ℕ) (n : ℕ) → IsReport telling limit t status bytes
    → sink.faults old ≤ sink.faults new → Puts (sink.taken old) (sink.taken new) (take n bytes)
    → Rose (sink.faults old) (sink.faults new) → IsWalked sink old new telling limit t 5
walked_part sink old new telling limit t status bytes n report up put rose = record {
  meant = status;
  bytes = bytes;
  report = report;
  counted = up;
  either = inr refl;
  whole = λ e. absurd (no_break telling limit t status bytes report (sym e));
  part = λ e. (n, put);
  failed = λ e. rose;
}

more_report : (telling : Telling) (left : ℕ) (t : Token) (line : List ℕ) → left ≡ 0 → line
    ≡ more_line t → IsReport telling left t 0 line
more_report telling left t line none is =
    subst (λ z. IsReport telling left t 0 z) (sym is) (report_last telling left t 0 (more_line t)
    (more (sym none)))

module _ {K : Type 0} (sink : Sink K) (old new : K) (telling : Telling) (t next : Token) where
  abbrev Steps : Item → Type 0
  Steps item = WalksTo (is_member telling.tree) (IsDue telling.tree) (window_of telling.tree)
      telling.budget t item next

  stop_report : (limit : ℕ) (token : Token) → token ≡ next → (s : Stop)
      → Stops telling.tree telling.budget t s next → IsReport telling (suc limit) t 3
      (item_line (items.Budget token) telling.kind telling.clock)
  stop_report limit token e s stops =
      subst (λ n. IsReport telling (suc limit) t 3 (item_line (items.Budget n) telling.kind
      telling.clock)) (sym e)
      (report_last telling (suc limit) t 3 (item_line (items.Budget next) telling.kind
      telling.clock) (stopped next s (omega arith) stops))

  -- one turn by its item, with a report from the token right past it
  module _ (rest : (limit : ℕ) → (bytes : List ℕ) × IsReport telling limit next 0 bytes) where
    pub turned : (item : Item) (whole : Bool) → Steps item → HoldsFrom telling.tree t item
        → (IsAmpleForStep telling.tree t telling.budget → IsNoStop item)
        → PutsOrBreaks sink (item_line item telling.kind telling.clock) old new whole
        → TurnsTo sink old new telling t next (turn_of item whole)
    turned (items.Run run) true is holds ample put = (run, (is, holds), put)
    turned (items.Run run) false is holds ample (rose, (n, few, put)) = (
      rose,
      λ limit.
          let r = rest limit in
          let P : List ℕ → Type 0 = λ z. Puts (sink.taken old) (sink.taken new) z in (
            0,
            run_line telling run ++ r.0,
            report_more telling limit t next run 0 r.0 (is, holds) r.1,
            (n, subst P (sym (take-append-le n (run_line telling run) r.0 few)) put),
          ),
    )
    turned (items.Done why) true is holds ample put = (
      item_line (items.Done why) telling.kind telling.clock,
      λ limit. report_last telling (suc limit) t 0 (item_line (items.Done why) telling.kind
          telling.clock) (done why (omega arith) (is.0, holds)),
      put,
    )
    turned (items.Done why) false is holds ample (rose, (n, few, put)) = (
      rose,
      λ limit. (
        0,
        item_line (items.Done why) telling.kind telling.clock,
        report_last telling (suc limit) t 0 (item_line (items.Done why) telling.kind telling.clock)
            (done why (omega arith) (is.0, holds)),
        (n, put),
      ),
    )
    turned (items.Budget token) true is holds ample put = (
      item_line (items.Budget token) telling.kind telling.clock,
      λ limit. stop_report limit token is.0 is.1.0 (is.1.1, ample),
      put,
    )
    turned (items.Budget token) false is holds ample (rose, (n, few, put)) = (
      rose,
      λ limit. (
        3,
        item_line (items.Budget token) telling.kind telling.clock,
        stop_report
            limit token is.0 is.1.0 (is.1.1, ample),
        (n, put),
      ),
    )

module _ {K : Type 0} (sink : Sink K) (telling : Telling) (limit left : ℕ) (t mid : Token)
    (before now after : K) (way : IsOnTheWay sink before now telling limit left t mid)
    (some : 0 < left) (up : sink.faults now ≤ sink.faults after) where
  abbrev Put_both : List ℕ → Type 0
  Put_both z = Puts (sink.taken before) (sink.taken after) z

  puts_on : (line : List ℕ) → Puts (sink.taken now) (sink.taken after) line
      → Put_both (way.written ++ line)
  puts_on line put = puts_both (sink.taken before) (sink.taken now) (sink.taken after) way.written
      line way.put put

  all_counted : sink.faults before ≤ sink.faults after
  all_counted = let c = way.counted in omega (arith, c, up)

  one_less : suc (left - 1) ≡ left
  one_less = omega (arith, some)

  here : (status : ℕ) (bytes : List ℕ) → IsReport telling (suc (left - 1)) mid status bytes
      → IsReport telling limit t status (way.written ++ bytes)
  here status bytes r = way.goes_on status bytes (subst (λ n. IsReport telling n mid status bytes)
      one_less r)

  -- one item's line more
  pub way_on : (next : Token) → TurnsTo sink now after telling mid next turns.Wrote
      → IsOnTheWay sink before after telling limit (left - 1) t next
  way_on next (run, first, put) = record {
    written = way.written ++ run_line telling run;
    counted = all_counted;
    put = puts_on (run_line telling run) put;
    goes_on = λ status bytes r.
        subst (λ z. IsReport telling limit t status z)
        (sym (append_assoc way.written (run_line telling run) bytes))
        (here status (run_line telling run ++ bytes) (report_more telling (left - 1) mid next run
        status bytes first r));
  }

  -- the last line, or a part of one
  pub way_ends : (next : Token) (status : ℕ) → TurnsTo sink now after telling mid next
      (turns.Last status) → IsWalked sink before after telling limit t status
  way_ends next status (line, report, put) = walked_whole sink before after telling limit t status
      (way.written ++ line) (here status line (report (left - 1))) all_counted (puts_on line put)

  pub way_breaks : (next : Token) → TurnsTo sink now after telling mid next turns.Broke
      → IsWalked sink before after telling limit t 5
  way_breaks next (rose, reports) =
      let r = reports (left - 1) in
      walked_part sink before after telling limit t r.0 (way.written ++ r.1)
      (length way.written + r.3.0) (here r.0 r.1 r.2) all_counted
      (subst Put_both (sym (take-append-add way.written r.1 r.3.0))
      (puts_on (take r.3.0 r.1) r.3.1))
      (rose_later (sink.faults before) (sink.faults now) (sink.faults after) way.counted rose)

-- as many items as the limit says were written
pub way_more : {K : Type 0} (sink : Sink K) (telling : Telling) (limit left : ℕ) (t mid : Token)
    (before now after : K) (line : List ℕ) (whole : Bool) → IsOnTheWay sink before now telling limit
    left t mid → left ≡ 0 → sink.faults now ≤ sink.faults after → line ≡ more_line mid
    → PutsOrBreaks sink line now after whole → IsWalked sink before after telling limit t
    (if whole then 0 else 5)
way_more sink telling limit left t mid before now after line true way none up is put =
    let c = way.counted in
    walked_whole sink before after telling limit t 0 (way.written ++ line)
    (way.goes_on 0 line (more_report telling left mid line none is)) (omega (arith, c, up))
    (puts_both (sink.taken before) (sink.taken now) (sink.taken after) way.written line way.put put)
way_more sink telling limit left t mid before now after line false way none up is
    (rose, (n, few, put)) =
    let c = way.counted in
    walked_part sink before after telling limit t 0 (way.written ++ line) (length way.written + n)
    (way.goes_on 0 line (more_report telling left mid line none is)) (omega (arith, c, up))
    (subst (λ z. Puts (sink.taken before) (sink.taken after) z)
    (sym (take-append-add way.written line n))
    (puts_both (sink.taken before) (sink.taken now) (sink.taken after) way.written (take n line)
    way.put put))
    (rose_later (sink.faults before) (sink.faults now) (sink.faults after) way.counted rose)
