-- From a token there is one report, stops aside.
use Rattle.std.proofs.Common.{◌≡◌, ◌≢◌, inl, inr, ap, refl, sym, subst, ◌∙◌, arith, ℕ, ◌-◌, ℤ, Bool, List, [], ◌∷◌, ◌++◌, Option, None}
use Rattle.std.proofs.lemmas.Int.{ints}
use Rattle.std.proofs.lemmas.List.{append_assoc}
use Rattle.moment_core.specs.Sets.{ahead, IsUpTo}
use Rattle.moment_core.specs.declared.line.Dir.{Dir}
use Rattle.moment_core.specs.declared.line.Dir.TheVariants.{Fore, Back}
use Rattle.moment_core.specs.declared.line.Window.{Window}
use Rattle.span_core.specs.Laws.{AnswersAreUnique}
use Rattle.span_core.specs.Tokens.{IsFit}
use Rattle.span_core.specs.declared.answers.Answer.TheVariants as answers
use Rattle.span_core.specs.declared.answers.Item.TheVariants as items
use Rattle.span_core.specs.declared.answers.Token.{Token}
use Rattle.span_core.specs.declared.answers.Why.{Why}
use Rattle.span_core.specs.declared.answers.Why.TheVariants as whys
use Rattle.span_core.specs.declared.bounds.Run.{Run}
use Rattle.expr_tree.specs.Members.{is_member}
use Rattle.plan_core.specs.Plans.{window_of}
use Rattle.report_text.specs.Items.{item_line}
use Rattle.run_search.specs.Finding.{IsWhy}
use Rattle.run_search.specs.Laws.{RunsAreUnique}
use Rattle.run_search.specs.Runs.{item_from}
use Rattle.walk_core.specs.Items.{begin_at, set_with}
use Rattle.walk_core.specs.Laws.{ItemsAreLeft, ItemsFollow, LeftIsOneList}
use Rattle.walk_core.specs.Steps.{IsFirstItem}
use Rattle.walk_core.specs.Tokens.{token_at}
use Rattle.walk_report.specs.Report.{AreFirstItems, ComesFirst, Ends, IsLast, IsReport, Telling, done, lines_of, more, run_line, stopped}

-- a place isn't past the end and within it
past_or_within : (dir : Dir) (place end : ℤ) → IsUpTo dir place (ahead dir end 1)
    → IsUpTo dir end place → ⊥
past_or_within Fore place end past within = omega (arith, ints, past, within)
past_or_within Back place end past within = omega (arith, ints, past, within)

-- one reason
module _ (one : AnswersAreUnique) (set : ℤ → Bool) (window : Dir → ℤ → Option Window) (dir : Dir)
    (place end : ℤ) where
  one_why : (a b : Why) → IsWhy set window dir place end a → IsWhy set window dir place end b → a
      ≡ b
  one_why whys.To whys.To h k = refl
  one_why whys.To (whys.None w) (inl past) k = absurd (past_or_within dir place end past k.1)
  one_why whys.To (whys.None w) (inr cut) k = absurd (cut k.0)
  one_why whys.To whys.Edge (inl past) k = absurd (past_or_within dir place end past k.1)
  one_why whys.To whys.Edge (inr cut) k = absurd (cut k.0)
  one_why (whys.None w) whys.To h (inl past) = absurd (past_or_within dir place end past h.1)
  one_why (whys.None w) whys.To h (inr cut) = absurd (cut h.0)
  one_why whys.Edge whys.To h (inl past) = absurd (past_or_within dir place end past h.1)
  one_why whys.Edge whys.To h (inr cut) = absurd (cut h.0)
  one_why (whys.None w) (whys.None v) h k =
      let both : answers.None w ≡ answers.None v = one set (window dir place) dir place
      (answers.None w) (answers.None v) h.2 k.2 in
      let same : w ≡ v = cc in
      ap (λ (x : Window). whys.None x) same
  one_why (whys.None w) whys.Edge h k = let both : answers.None w ≡ answers.Edge =
      one set (window dir place) dir place (answers.None w) answers.Edge h.2 k.2 in absurd cc
  one_why whys.Edge (whys.None v) h k = let both : answers.Edge ≡ answers.None v =
      one set (window dir place) dir place answers.Edge (answers.None v) h.2 k.2 in absurd cc
  one_why whys.Edge whys.Edge h k = refl

-- one first item, and the token right past it
one_first : RunsAreUnique → (set : ℤ → Bool) (window : Dir → ℤ → Option Window) (t : Token)
    (run other : Run) (next after : Token) → IsFirstItem set window t run next
    → IsFirstItem set window t other after → (run ≡ other) × (next ≡ after)
one_first unique set window t run other next after (near, far, first, is, on)
    (low, high, also, same, past) =
    let both = unique (set_with set t.dir t.place.0 t.begun) t.dir (begin_at t.place.0 t.begun)
    t.end.0 near far low high first also in (
      is ∙ ap (λ z. item_from window t.dir z far) both.0 ∙ ap (λ z. item_from window t.dir low z)
          both.1 ∙ sym same,
      on ∙ ap (λ z. token_at t.dir (ahead t.dir z 1) None t.end) both.1 ∙ sym past,
    )

module _ (runs_one : RunsAreUnique) (why_one : AnswersAreUnique) (left : ItemsAreLeft)
    (one_list : LeftIsOneList) (follow : ItemsFollow) (telling : Telling) where
  -- nothing is left where an item comes first
  not_both : (t next : Token) (run : Run) (why : Why) → IsFit t → ComesFirst telling.tree t run next
      → Ends telling.tree t why → ⊥
  not_both t next run why fit first ends =
      let then = follow (is_member telling.tree) (window_of telling.tree) t run next fit first.0 in
      let rest = left (is_member telling.tree) (window_of telling.tree) next then.0 in
      let same : run ∷ rest.0 ≡ [] = one_list (is_member telling.tree) (window_of telling.tree) t
      (run ∷ rest.0) [] (then.1 rest.0 rest.1) ends.0.0 in
      absurd cc

  -- a last line after one item less
  last_less : (limit : ℕ) (run : Run) (runs : List Run) (t : Token) (status : ℕ) (line : List ℕ)
      → IsLast telling limit (run ∷ runs) t status line → IsLast telling (limit - 1) runs t status
      line
  last_less limit run runs t status line (more all) = more (omega (arith, all))
  last_less limit run runs t status line (done why few ends) = done why (omega (arith, few)) ends
  last_less limit run runs t status line (stopped next s few stops) =
      stopped next s (omega (arith, few)) stops

  -- the same last line where no item was written
  one_last : (limit : ℕ) (t : Token) (m n : ℕ) (line other : List ℕ) → IsLast telling limit [] t m
      line → IsLast telling limit [] t n other → m ≢ 3 → n ≢ 3 → (m ≡ n) × (line ≡ other)
  one_last limit t m n line other (stopped next s few stops) k d e = absurd (d refl)
  one_last limit t m n line other h (stopped next s few stops) d e = absurd (e refl)
  one_last limit t m n line other (more all) (more also) d e = (refl, refl)
  one_last limit t m n line other (more all) (done why few ends) d e =
      absurd (omega (arith, all, few))
  one_last limit t m n line other (done why few ends) (more all) d e =
      absurd (omega (arith, all, few))
  one_last limit t m n line other (done why few ends) (done because fewer also) d e = (
    refl,
    ap (λ (w : Why). item_line (items.Done w) telling.kind telling.clock)
        (one_why why_one (is_member telling.tree) (window_of telling.tree) t.dir t.place.0 t.end.0
        why
        because ends.0.1 also.0.1),
  )

  -- no last line comes both at once and after an item
  last_apart : (limit : ℕ) (t next after : Token) (run : Run) (runs : List Run) (m n : ℕ)
      (line other : List ℕ) → IsFit t → ComesFirst telling.tree t run next → IsLast telling limit []
      t m line → IsLast telling limit (run ∷ runs) after n other → m ≢ 3 → ⊥
  last_apart limit t next after run runs m n line other fit first (stopped token s few stops) k d =
      d refl
  last_apart limit t next after run runs m n line other fit first (done why few ends) k d =
      not_both t next run why fit first ends
  last_apart limit t next after run runs m n line other fit first (more all) (more also) d =
      omega (arith, all, also)
  last_apart limit t next after run runs m n line other fit first (more all) (done why few ends) d =
      omega (arith, all, few)
  last_apart limit t next after run runs m n line other fit first (more all)
      (stopped token s few stops) d = omega (arith, all, few)

  one_walk : (runs others : List Run) (limit : ℕ) (t next after : Token) (m n : ℕ)
      (line other : List ℕ) → IsFit t → AreFirstItems telling.tree t runs next
      → AreFirstItems telling.tree t others after → IsLast telling limit runs next m line
      → IsLast telling limit others after n other → m ≢ 3 → n ≢ 3
      → (m ≡ n) × (lines_of telling runs ++ line ≡ lines_of telling others ++ other)
  one_walk [] [] limit t next after m n line other fit at there h k d e =
      one_last limit t m n line other (subst (λ x. IsLast telling limit [] x m line) at h)
      (subst (λ x. IsLast telling limit [] x n other) there k) d e
  one_walk [] (run ∷ others) limit t next after m n line other fit at (mid, first, past) h k d e =
      absurd (last_apart limit t mid after run others m n line other fit first
      (subst (λ x. IsLast telling limit [] x m line) at h) k d)
  one_walk (run ∷ runs) [] limit t next after m n line other fit (mid, first, past) there h k d e =
      absurd (last_apart limit t mid next run runs n m other line fit first
      (subst (λ x. IsLast telling limit [] x n other) there k) h e)
  one_walk (run ∷ runs) (same ∷ others) limit t next after m n line other fit (mid, first, past)
      (place, also, beyond) h k d e =
      let both = one_first runs_one (is_member telling.tree) (window_of telling.tree) t run same mid
      place first.0 also.0 in
      let fits = (follow (is_member telling.tree) (window_of telling.tree) t run mid fit
      first.0).0 in
      let rest = one_walk runs others (limit - 1) mid next after m n line other fits past
      (subst (λ x. AreFirstItems telling.tree x others after) (sym both.1) beyond)
      (last_less limit run runs next m line h) (last_less limit same others after n other k)
      d e in (
        rest.0,
        append_assoc (run_line telling run) (lines_of telling runs) line
            ∙ ap (λ z. run_line telling run ++ z) rest.1
            ∙ ap (λ (r : Run). run_line telling r ++ (lines_of telling others ++ other)) both.0
            ∙ sym (append_assoc (run_line telling same) (lines_of telling others) other),
      )

  pub reports_one : (limit : ℕ) (t : Token) (m n : ℕ) (xs ys : List ℕ) → IsFit t
      → IsReport telling limit t m xs → IsReport telling limit t n ys → m ≢ 3 → n ≢ 3 → (m ≡ n)
      × (xs ≡ ys)
  reports_one limit t m n xs ys fit a b d e =
      let both = one_walk a.runs b.runs limit t a.next b.next m n a.line b.line fit a.first b.first
      a.last b.last d e in
      (both.0, a.whole ∙ both.1 ∙ sym b.whole)
