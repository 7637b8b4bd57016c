-- How many candidates were passed on the way to a turn.
use Rattle.std.proofs.Common.{◌≡◌, refl, ap, sym, subst, inl, inr, arith, ℕ, ◌+◌, ◌<◌, ◌≤◌, ℤ, pos, ◌+ℤ◌, ◌-ℤ◌, ◌≤ℤ◌, Bool, true, false, ◌&&◌, ◌||◌, Some, if◌then◌else◌}
use Rattle.std.proofs.lemmas.Bool.{and_parts, or_cases}
use Rattle.std.proofs.lemmas.Int.{ints}
use Rattle.std.specs.Ordering.{int_eq}
use Rattle.moment_core.proofs.LineLaws.{halves}
use Rattle.moment_core.specs.Sets.{ahead, IsUpTo}
use Rattle.moment_core.specs.declared.line.Dir.{Dir}
use Rattle.moment_core.specs.declared.line.Dir.TheVariants.{Fore, Back}
use Rattle.span_core.specs.Answers.{counted_to}
use Rattle.search_core.specs.Candidates.{count_between}
use Rattle.search_core.specs.Laws.{OnePasses, PartsAdd, WiderCountsMore}
use Rattle.node_turns.specs.Turns.{StandsIfCounted, candidate_at, is_past, passed_by}
use Rattle.node_turns.specs.declared.turns.Turn.{Turn}

-- the candidate of a turn lies between the start and the turn
candidate-near : (dir : Dir) (p : ℤ) (m : ℕ) → 0 < m → IsUpTo dir (ahead dir p m) (candidate_at dir
    (ahead dir p m)) × IsUpTo dir (candidate_at dir (ahead dir p m)) p
candidate-near Fore p m h =
    let near = halves (p +ℤ pos m) in
    (omega (arith, ints), omega (arith, ints))
candidate-near Back p m h =
    let near = halves (p -ℤ pos m +ℤ pos 1) in
    (omega (arith, ints), omega (arith, ints))

same_place : (dir : Dir) (p place : ℤ) (n : ℕ) → place ≡ ahead dir p n → int_eq place p ≡ true
    → n ≡ 0
same_place Fore p place n e h = grind (arith, ints)
same_place Back p place n e h = grind (arith, ints)

more_counted : (b : Bool) (passed : ℕ) (c c' : ℕ) → (b ≡ true → passed + 1 ≤ c') → passed ≤ c
    → c ≤ c' → (if b then passed + 1 else passed) ≤ c'
more_counted true passed c c' h below grows = h refl
more_counted false passed c c' h below grows = omega arith

module _ (one : OnePasses) (parts : PartsAdd) (wider : WiderCountsMore) (candidate : ℤ → Bool) where
  -- the candidates from p to a place so many steps on
  abbrev count : Dir → ℤ → ℕ → ℕ
  count dir p n = counted_to (count_between candidate) dir p n

  counted-more : (dir : Dir) (p c : ℤ) (n m : ℕ) → is_past dir c (ahead dir p n) ≡ true
      → IsUpTo dir (ahead dir p m) c → 1 ≤ count_between candidate c c → count dir p n + 1 ≤ count
      dir p m
  counted-more Fore p c n m past near some =
      let past' : (p +ℤ pos n +ℤ pos 1) ≤ℤ c = grind (arith, ints) in
      let cut =
      parts candidate p (p +ℤ pos n) (p +ℤ pos m) (omega (arith, ints)) (omega (arith, ints)) in
      let more = wider candidate c c (p +ℤ pos n +ℤ pos 1) (p +ℤ pos m) past' near in
      omega arith
  counted-more Back p c n m past near some =
      let past' : (c +ℤ pos 1) ≤ℤ (p -ℤ pos n) = grind (arith, ints) in
      let cut =
      parts candidate (p -ℤ pos m) (p -ℤ pos n -ℤ pos 1) p (omega (arith, ints))
      (omega (arith, ints)) in
      let place : p -ℤ pos n -ℤ pos 1 +ℤ pos 1 ≡ p -ℤ pos n = omega (arith, ints) in
      let there : count_between candidate (p -ℤ pos n -ℤ pos 1 +ℤ pos 1) p ≡ count_between candidate
      (p -ℤ pos n) p = ap (λ z. count_between candidate z p) place in
      let more =
      wider candidate c c (p -ℤ pos m) (p -ℤ pos n -ℤ pos 1) near (omega (arith, ints)) in
      omega arith

  counted-grows : (dir : Dir) (p : ℤ) (n m : ℕ) → n < m → count dir p n ≤ count dir p m
  counted-grows Fore p n m h =
      wider candidate p (p +ℤ pos n) p (p +ℤ pos m) (omega (arith, ints)) (omega (arith, ints))
  counted-grows Back p n m h =
      wider candidate (p -ℤ pos n) p (p -ℤ pos m) p (omega (arith, ints)) (omega (arith, ints))

  counted-some : (dir : Dir) (p c : ℤ) (m : ℕ) → IsUpTo dir (ahead dir p m) c → IsUpTo dir c p
      → 1 ≤ count_between candidate c c → 1 ≤ count dir p m
  counted-some Fore p c m near far some =
      let h = wider candidate c c p (p +ℤ pos m) far near in
      omega arith
  counted-some Back p c m near far some =
      let h = wider candidate c c (p -ℤ pos m) p near far in
      omega arith

  pub passed_on : (dir : Dir) (p place : ℤ) (passed more n far : ℕ) (next : Turn)
      → more ≡ passed_by passed dir p place next → place ≡ ahead dir p n
      → next.place.0 ≡ ahead dir p far → n < far → passed ≤ count dir p n → (n ≡ 0 → passed ≡ 0)
      → StandsIfCounted candidate dir (Some next) → more ≤ count dir p far
  passed_on dir p place passed more n far next is at there later so_far begun stands =
      let q : ℤ = next.place.0 in
      let c = candidate_at dir q in
      let N : ℤ → Type 0 =
      λ z. IsUpTo dir z (candidate_at dir z) × IsUpTo dir (candidate_at dir z) p in
      let between : IsUpTo dir q c × IsUpTo dir c p =
      subst N (sym there) (candidate-near dir p far (omega arith)) in
      let U : ℤ → Type 0 = λ z. IsUpTo dir z c in
      let before : IsUpTo dir (ahead dir p far) c = subst U there between.0 in
      let test = next.counts && (int_eq place p || is_past dir c place) in
      let counted = λ (e : test ≡ true).
      let both = and_parts next.counts (int_eq place p || is_past dir c place) e in
      let some : 1 ≤ count_between candidate c c = one candidate c (stands both.0) in
      elim (or_cases (int_eq place p) (is_past dir c place) both.1) as (λ _. passed + 1 ≤ count dir
      p far) [
        | inl start ↦
            let none : passed ≡ 0 = begun (same_place dir p place n at start) in
            let first : 1 ≤ count dir p far = counted-some dir p c far before between.1 some in
            omega arith
        | inr past ↦
            let P : ℤ → Type 0 = λ z. is_past dir c z ≡ true in
            let grown : count dir p n + 1 ≤ count dir p far =
            counted-more dir p c n far (subst P at past) before some in
            omega arith
      ] in
      let M : ℕ → Type 0 = λ z. z ≤ count dir p far in
      subst M (sym is) (more_counted test passed (count dir p n) (count dir p far) counted so_far
      (counted-grows dir p n far later))
