-- The ranks at the next candidate by those at the place before.
use Rattle.std.proofs.Common.{inl, inr, ◌≡◌, ℕ, ◌+◌, ◌-◌, ◌*◌, ◌<◌, ◌≤◌, true, false, refl, sym, ap, ◌∙◌, arith, if◌then◌else◌, ℤ, pos, ◌+ℤ◌, ◌-ℤ◌}
use Rattle.std.proofs.lemmas.Bool.{and_from, and_right, cases_Bool, cases_lt, or_right, true≢false}
use Rattle.std.proofs.lemmas.Int.{by_lt_z}
use Rattle.moment_core.proofs.Comparing.{int_eq-refl}
use Rattle.moment_core.proofs.FloorLemmas.{floor_arith}
use Rattle.moment_core.proofs.LineLaws.{ahead-zero}
use Rattle.moment_core.proofs.UnitLaws.{unit_of_mono}
use Rattle.moment_core.specs.Ranks.{count_below, rank_in}
use Rattle.moment_core.specs.Sets.{ahead, seen}
use Rattle.moment_core.specs.Steps.{IsNextCandidate}
use Rattle.moment_core.specs.Units.{HasWeekday, unit_of}
use Rattle.moment_core.specs.declared.line.Dir.{Dir}
use Rattle.moment_core.specs.declared.line.Moment.{Moment}
use Rattle.moment_core.specs.declared.line.Dir.TheVariants.{Fore, Back}
use Rattle.sieve_core.proofs.CandidateLemmas.{between-from, between-parts}
use Rattle.sieve_core.proofs.CountLemmas.{count-none, count-split, count-stays, count-suc, count-zero, count_le}
use Rattle.sieve_core.proofs.RankLemmas.{count-on, none-later, unit-is-short}
use Rattle.sieve_core.proofs.RuleLemmas.{candidate-between}
use Rattle.sieve_core.specs.Known.{IsKnown}
use Rattle.sieve_core.specs.Members.{is_between, is_candidate, is_mark, meets_interval, meets_tests, rank_of}
use Rattle.sieve_core.specs.Ranks.{IsCapped, counted}
use Rattle.sieve_core.specs.declared.known.KnownRanks.{KnownRanks}
use Rattle.sieve_core.specs.declared.tables.Sieve.{Sieve}

counted-here : (s : Sieve) (dir : Dir) (t : ℤ) → counted s dir t 0 ≡ meets_tests s t
counted-here s dir t = rw (ahead-zero dir t, int_eq-refl (unit_of s.unit t)) refl

-- the moment itself comes first
count-first : (s : Sieve) (dir : Dir) (t : ℤ) (n : ℕ) → count_below (counted s dir t) (1 + n)
    ≡ (if meets_tests s t then 1 else 0) + count_below (λ k. counted s dir t (1 + k)) n
count-first s dir t n =
    let first : count_below (counted s dir t) 1 ≡ (if meets_tests s t then 1 else 0) =
    count-suc (counted s dir t) 0 ∙ rw (count-zero (counted s dir t), counted-here s dir t)
    (omega arith) in
    count-split (counted s dir t) 1 n ∙ ap (λ x. x + count_below (λ k. counted s dir t (1 + k)) n)
    first

pub rank-met : (s : Sieve) (dir : Dir) (t : ℤ) → meets_tests s t ≡ true → 0 < rank_of s dir t
unfolding rank_in
rank-met s dir t met = omega (arith, rw met at (count-first s dir t (54 * 604_800 - 1)))

pub rank-least : (s : Sieve) (dir : Dir) (t : ℤ) → rank_of s dir t ≤ 54 * 604_800
unfolding rank_in
rank-least s dir t = count_le (counted s dir t) (54 * 604_800)

-- no rank is as high as the cap
pub rank-whole : (s : Sieve) (dir : Dir) (t : ℤ) (cap r : ℕ) → 54 * 604_800 < cap
    → IsCapped cap (rank_of s dir t) r → r ≡ rank_of s dir t
rank-whole s dir t cap r high is = elim (cases_lt r cap) [
  | inl below ↦ is.below below
  | inr above ↦ absurd (omega (arith, is.above above, rank-least s dir t))
]

-- between a moment and one further on no moment meets the tests
abbrev IsClear : Sieve → Dir → ℤ → ℕ → Type 0
IsClear s dir t n = (k : ℕ) → 0 < k → k < n → seen (meets_tests s) dir t k ≡ false

-- so that up to there the moment itself decides
count-clear : (s : Sieve) (dir : Dir) (t : ℤ) (n : ℕ) → 0 < n → IsClear s dir t n
    → count_below (counted s dir t) n ≡ (if meets_tests s t then 1 else 0)
count-clear s dir t n some clear =
    let whole : 1 + (n - 1) ≡ n = omega arith in
    let rest = count-none (λ k. counted s dir t (1 + k)) (n - 1)
    (λ k below. and_right _ _ (clear (1 + k) (omega arith) (omega arith))) in
    ap (count_below (counted s dir t)) (sym whole) ∙ count-first s dir t (n - 1)
    ∙ omega (arith, rest)

-- counting on past the unit's end adds nothing
rank-far : (s : Sieve) (dir : Dir) (t : ℤ) (n : ℕ) → HasWeekday s.unit
    → count_below (counted s dir t) (n + 54 * 604_800) ≡ rank_of s dir t
unfolding rank_in
rank-far s dir t n weekday =
    let most = 54 * 604_800 in
    count-stays (counted s dir t) most (n + most) (omega arith)
    (λ k le. none-later s dir t most k weekday (unit-is-short s.unit dir t most weekday
    (omega arith)) le)

-- the rank by that at a place of the unit further on
rank-on : (s : Sieve) (dir : Dir) (t at : ℤ) (n : ℕ) → HasWeekday s.unit → 0 < n → at
    ≡ ahead dir t n → unit_of s.unit at ≡ unit_of s.unit t → IsClear s dir t n → rank_of s dir t
    ≡ (if meets_tests s t then 1 else 0) + rank_of s dir at
rank-on s dir t at n weekday some place same clear =
    sym (rank-far s dir t n weekday) ∙ count-on s dir t at n (54 * 604_800) place same
    ∙ ap (λ x. x + count_below (counted s dir at) (54 * 604_800)) (count-clear s dir t n some clear)
    ∙ ap (λ x. (if meets_tests s t then 1 else 0) + x) (rank-far s dir at 0 weekday)

-- and in another unit nothing is to come
rank-over : (s : Sieve) (dir : Dir) (t at : ℤ) (n : ℕ) → HasWeekday s.unit → 0 < n → at
    ≡ ahead dir t n → (unit_of s.unit at ≡ unit_of s.unit t → ⊥) → IsClear s dir t n
    → rank_of s dir t ≡ (if meets_tests s t then 1 else 0)
rank-over s dir t at n weekday some place other clear =
    sym (rank-far s dir t n weekday)
    ∙ count-stays (counted s dir t) n (n + 54 * 604_800) (omega arith)
    (λ k le. none-later s dir t n k weekday (λ same. other (ap (unit_of s.unit) place ∙ same)) le)
    ∙ count-clear s dir t n some clear

same-unit : (s : Sieve) (k : KnownRanks) (u : ℤ) (n : ℕ) → HasWeekday s.unit → IsKnown s k
    → 0 < k.to_come → 0 < n → u ≡ k.place.0 +ℤ pos n → IsClear s Fore k.place.0 n → unit_of s.unit u
    ≡ unit_of s.unit k.place.0
same-unit s k u n weekday is more some place clear = by_lt_z (unit_of s.unit k.place.0)
    (unit_of s.unit u)
    (λ other. absurd
    (omega (
      arith,
      is.to_come,
      rank-over s Fore k.place.0 u n weekday some place
          (λ same. omega (arith, floor_arith, same, other)) clear,
    )))
    (λ le. omega (
      arith,
      floor_arith,
      le,
      unit_of_mono s.unit k.place.0 u weekday
          (omega (arith, floor_arith)),
    ))

not-tests : (s : Sieve) (t : ℤ) → is_between s t ≡ true → is_candidate s t ≡ false → meets_tests s t
    ≡ false
unfolding is_candidate is_mark
not-tests s t between not = elim (cases_Bool (meets_tests s t)) [
  | inl met ↦ absurd (true≢false (sym (and_from _ _ between (or_right _ _ met)) ∙ not))
  | inr other ↦ other
]

-- from a place between the ends up to the next candidate no moment meets the tests
clear-on : (s : Sieve) (t u : ℤ) → is_between s t ≡ true
    → (next : IsNextCandidate (is_candidate s) Fore t u) → IsClear s Fore t next.1.0
clear-on s t u between next k some below =
    let low = between-parts s t between in
    let place = next.1.1 in
    let high = between-parts s (t +ℤ pos next.1.0) (candidate-between s _ next.1.2.meets) in
    not-tests s (t +ℤ pos k) (between-from s _ (omega (arith, floor_arith))
    (omega (arith, floor_arith))) (next.1.2.none_before k some below)

-- seen from there, too
clear-back : (s : Sieve) (t u : ℤ) (n : ℕ) → u ≡ t +ℤ pos n → IsClear s Fore t n
    → IsClear s Back u n
clear-back s t u n place clear k some below =
    let same : u -ℤ pos k ≡ t +ℤ pos (n - k) = omega (arith, floor_arith) in
    ap (meets_tests s) same ∙ clear (n - k) (omega arith) (omega arith)

pub known-on : (s : Sieve) (k : KnownRanks) (u : Moment) (next : KnownRanks) → HasWeekday s.unit
    → IsKnown s k → 0 < k.to_come → IsNextCandidate (is_candidate s) Fore k.place.0 u.0 → next.place
    ≡ u → next.so_far ≡ k.so_far + (if meets_tests s u.0 then 1 else 0)
    → next.to_come + (if meets_tests s u.0 then 1 else 0) ≡ k.to_come → IsKnown s next
unfolding meets_interval
known-on s k u next weekday is more step place so_far to_come =
    let n = step.1.0 in
    let on : u.0 ≡ k.place.0 +ℤ pos n = step.1.1 in
    let back : k.place.0 ≡ u.0 -ℤ pos n = omega (arith, floor_arith) in
    let clear = clear-on s k.place.0 u.0 is.between step in
    let same = same-unit s k u.0 n weekday is more step.1.2.later on clear in
    let fore = rank-on s Fore k.place.0 u.0 n weekday step.1.2.later on same clear in
    let rank = rank-on s Back u.0 k.place.0 n weekday step.1.2.later back (sym same)
    (clear-back s k.place.0 u.0 n on clear) in
    record {
      between = rw place (rw on (candidate-between s _ step.1.2.meets));
      interval = rw place (rw same is.interval);
      so_far = rw place (omega (arith, so_far, is.so_far, rank));
      to_come = rw place (omega (arith, to_come, is.to_come, fore));
    }
