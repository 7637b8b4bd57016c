-- That no stop is due for an ample budget, nor in a tree that doesn't look back for one above the
-- candidates of a search.
use Rattle.std.proofs.Common.{arith, inl, inr, ℕ, ◌+◌, ◌*◌, ◌<◌, ◌≤◌, ℤ, pos, ◌+ℤ◌, ◌-ℤ◌, ◌≤ℤ◌, Bool, Option, max, subst}
use Rattle.std.proofs.Math.Nat.{le-max_left, le-max_right}
use Rattle.std.proofs.lemmas.Bool.{both_ways}
use Rattle.std.proofs.lemmas.Int.{ints}
use Rattle.moment_core.specs.Line.{IsCalendarPosition, position_of}
use Rattle.moment_core.specs.Sets.{ahead, IsUpTo}
use Rattle.moment_core.specs.declared.line.Dir.{Dir}
use Rattle.moment_core.specs.declared.line.Dir.TheVariants.{Fore, Back}
use Rattle.moment_core.specs.declared.line.TheConstants.{HIGH, REACH}
use Rattle.moment_core.specs.declared.line.Window.{Window}
use Rattle.span_core.specs.Answers.{IsFound, StopsAt, counted_to, end_of}
use Rattle.span_core.specs.Laws.{SearchesAreAnswered}
use Rattle.span_core.specs.declared.answers.Answer.{Answer}
use Rattle.span_core.specs.declared.answers.Answer.TheVariants as answers
use Rattle.span_core.specs.declared.answers.Stop.{Stop}
use Rattle.frame_core.specs.Frames.{window_if_framed}
use Rattle.frame_core.specs.Laws.{IsWindowPast, WindowsLie}
use Rattle.frame_core.specs.declared.frames.Frame.{Frame}
use Rattle.expr_tree.specs.Members.{is_member}
use Rattle.expr_tree.specs.Sorts.{nodes_of, reach_of}
use Rattle.expr_tree.specs.Sound.{looks_back}
use Rattle.stored_pair.specs.Meanings.{Meaning}
use Rattle.expr_tree.specs.Tree.{Tree, Empty, Spanned, Ruled, Joined, Pairs, Unary}
use Rattle.search_core.specs.Ample.{IsAmple, IsMost, LooksAhead, copies_of, counted_up_to}
use Rattle.search_core.specs.Candidates.{candidates}
use Rattle.search_core.specs.Due.{IsDueAt}
use Rattle.search_core.specs.Laws.{AheadNeverStopsTests, AmpleNeverStops, AmpleNeverStopsTests, EnoughNeverStops}
use Rattle.search_core.specs.LookingBack.{pairs_from}
use Rattle.search_core.specs.TreeFrames.{frame_of_tree}
use Rattle.search_core.specs.Unary.{looks_from, looks_to}
use Rattle.search_core.proofs.Candidates.{candidates-within}
use Rattle.search_core.proofs.Days.{above_all, below_ample, longest, longest-working, most_candidates, on_all_days}
use Rattle.search_core.proofs.Latest.{pairs_from-least}
use Rattle.search_core.proofs.Unary.{IsShort, looks_from-least, looks_to-most, unary-copied}

no_more : (t : Tree Meaning) (dir : Dir) (p end : ℤ) (n : ℕ) → IsUpTo dir end (ahead dir p n)
    → counted_to (candidates t) dir p n ≤ counted_up_to (candidates t) dir p end
no_more t Fore p end n h = candidates-within t p (p +ℤ pos n) p end (omega (arith, ints)) h
no_more t Back p end n h = candidates-within t (p -ℤ pos n) p end p h (omega (arith, ints))

window_end : (dir : Dir) (p : ℤ) (w : Window) → IsWindowPast dir p w
    → IsCalendarPosition (end_of dir (answers.None w))
window_end Fore p w lies = lies.high
window_end Back p w lies = lies.low

range_end : (dir : Dir) → IsCalendarPosition (end_of dir answers.Edge)
range_end Fore = (omega (arith, ints), omega (arith, ints))
range_end Back = (omega (arith, ints), omega (arith, ints))

-- a search ends in the range
end_in_calendar : WindowsLie → (set : ℤ → Bool) (frame : Option Frame) (dir : Dir) (p : ℤ)
    (a : Answer) → IsFound set (window_if_framed frame dir p) dir p a
    → IsCalendarPosition (end_of dir a)
end_in_calendar lie set frame dir p (answers.At q) f = f.1
end_in_calendar lie set frame dir p (answers.None w) f = window_end dir p w (lie frame dir p w f.1)
end_in_calendar lie set frame dir p answers.Edge f = range_end dir
end_in_calendar lie set frame dir p (answers.Budget s) f = absurd f

below : (tree : Tree Meaning) (dir : Dir) (budget : ℕ) (p end : ℤ) → pos (reach_of tree) ≤ℤ REACH
    → IsCalendarPosition p → IsCalendarPosition end → IsAmple tree budget
    → counted_up_to (candidates tree) dir p end < budget
below tree Fore budget p end reach here there ample =
    below_ample tree budget p end reach here there ample
below tree Back budget p end reach here there ample =
    below_ample tree budget end p reach there here ample

-- a search whose candidates are fewer than the budget doesn't stop
never_used : SearchesAreAnswered → (tree : Tree Meaning) (dir : Dir) (p : ℤ) (budget : ℕ) (s : Stop)
    (n : ℕ) → IsCalendarPosition p
    → ((a : Answer) → IsFound (is_member tree) (window_if_framed (frame_of_tree tree) dir p) dir p a
    → counted_up_to (candidates tree) dir p (end_of dir a) < budget)
    → StopsAt (is_member tree) (candidates tree) (window_if_framed (frame_of_tree tree) dir p) dir p
    budget s n → ⊥
never_used some tree dir p budget s n here above stops =
    let a = some (is_member tree) (window_if_framed (frame_of_tree tree) dir p) dir p here in
    let up : IsUpTo dir (end_of dir a.0) (ahead dir p n) =
    subst (λ z. IsUpTo dir (end_of dir a.0) z) stops.place (stops.within a.0 a.1) in
    let used : budget ≤ counted_to (candidates tree) dir p n = stops.used in
    let few : counted_up_to (candidates tree) dir p (end_of dir a.0) < budget = above a.0 a.1 in
    let more = no_more tree dir p (end_of dir a.0) n up in
    omega arith

-- a tree that doesn't look back has no stop of its own
ahead_never : (tree : Tree Meaning) (n budget : ℕ) (s : Stop) (q : ℤ) → LooksAhead tree
    → IsDueAt tree n budget s q → ⊥
ahead_never Empty n budget s q ahead due = absurd due
ahead_never (Spanned bounds low high) n budget s q ahead due = absurd due
ahead_never (Ruled rule) n budget s q ahead due = absurd due
ahead_never (Joined op x y) n budget s q ahead due = elim due [
  | inl one ↦ ahead_never x (n + 1) budget s q ahead.0 one
  | inr other ↦ ahead_never y (n + 1 + nodes_of x) budget s q ahead.1 other
]
ahead_never (Pairs x y) n budget s q ahead due = absurd ahead
ahead_never (Unary op x) n budget s q ahead due = elim due [
  | inl own ↦ both_ways (looks_back op) ahead.0 own.0
  | inr inner ↦ ahead_never x (n + 1) budget s inner.0 ahead.1 inner.3
]

pub ahead_never_stops_tests : AheadNeverStopsTests
ahead_never_stops_tests tree p budget ahead s due = ahead_never tree 1 budget s p ahead due

pub enough : SearchesAreAnswered → EnoughNeverStops
enough some tree dir p budget here above s due = elim due [
  | inl own ↦ never_used some tree dir p budget s own.0 here above.1 own.1
  | inr way ↦ ahead_never tree 1 budget s (ahead dir p way.0) above.0 way.1.due
]

-- a position from which so many seconds lead up to the working range's end at most
abbrev IsLow : ℕ → ℤ → Type 0
IsLow reach q = (q +ℤ pos (2 * reach)) ≤ℤ position_of (HIGH +ℤ REACH)

less_low : (m n : ℕ) (q : ℤ) → m ≤ n → IsLow n q → IsLow m q
less_low m n q h low = omega (arith, ints)

less_reach : (m n : ℕ) → m ≤ n → pos n ≤ℤ REACH → pos m ≤ℤ REACH
less_reach m n h near = omega (arith, ints)

below_sum : (x y : Tree Meaning) (m budget : ℕ) → budget ≤ copies_of x * on_all_days m
    → budget ≤ (copies_of x + copies_of y) * on_all_days m
below_sum x y m budget h = most (copies_of x) (copies_of y) (on_all_days m) h
  where
    most : (c d n : ℕ) → budget ≤ c * n → budget ≤ (c + d) * n
    most c d n h = grind (arith, h)

below_other : (x y : Tree Meaning) (m budget : ℕ) → budget ≤ copies_of y * on_all_days m
    → budget ≤ (copies_of x + copies_of y) * on_all_days m
below_other x y m budget h = most (copies_of x) (copies_of y) (on_all_days m) h
  where
    most : (c d n : ℕ) → budget ≤ d * n → budget ≤ (c + d) * n
    most c d n h = grind (arith, h)

-- a stop of looking back tells that the budget isn't above what the leaves have on all days
due_most : (t : Tree Meaning) (number m budget : ℕ) (s : Stop) (q : ℤ) → IsMost t m
    → pos (reach_of t) ≤ℤ REACH → IsLow (reach_of t) q → IsDueAt t number budget s q
    → budget ≤ copies_of t * on_all_days m
due_most Empty number m budget s q most reach low due = absurd due
due_most (Spanned bounds x y) number m budget s q most reach low due = absurd due
due_most (Ruled rule) number m budget s q most reach low due = absurd due
due_most (Joined op x y) number m budget s q most reach low due =
    let r = reach_of x in
    let k = reach_of y in
    elim due as (λ _. budget ≤ copies_of (Joined op x y) * on_all_days m) [
      | inl one ↦ below_sum x y m budget
          (due_most x (number + 1) m budget s q (λ leaf of. most leaf (inl of))
          (less_reach r (max r k) (le-max_left r k) reach) (less_low r (max r k) q
          (le-max_left r k) low) one)
      | inr other ↦ below_other x y m budget
          (due_most y (number + 1 + nodes_of x) m budget s q (λ leaf of. most leaf (inr of))
          (less_reach k (max r k) (le-max_right r k) reach) (less_low k (max r k) q
          (le-max_right r k) low) other)
    ]
due_most (Pairs x y) number m budget s q most reach low due =
    let from = pairs_from-least (is_member x) (is_member y) q in
    let r = reach_of x in
    let k = reach_of y in
    elim due as (λ _. budget ≤ copies_of (Pairs x y) * on_all_days m) [
      | inl own ↦
          let length = longest-working in
          let within : pairs_from (is_member x) (is_member y) q ≤ℤ s.at.0 = own.1.within in
          let before : s.at.0 ≤ℤ q = own.1.before in
          let used : budget ≤ candidates (Pairs x y) s.at.0 q = own.1.used in
          let short : IsShort longest (max r k) s.at.0 q = elim from [
            | inl same ↦ omega (arith, ints)
            | inr above ↦ omega (arith, ints)
          ] in
          let all = most_candidates (Pairs x y) m most s.at.0 q short in
          omega arith
      | inr inner ↦
          let high : inner.0 ≤ℤ q = inner.2 in
          let under : IsLow (max r k) inner.0 = omega (arith, ints) in
          elim inner.3 as (λ _. budget ≤ copies_of (Pairs x y) * on_all_days m) [
            | inl one ↦ below_sum x y m budget
                (due_most x (number + 1) m budget s inner.0 (λ leaf of. most leaf (inl of))
                (less_reach r (max r k) (le-max_left r k) reach) (less_low r (max r k) inner.0
                (le-max_left r k) under) one)
            | inr other ↦ below_other x y m budget
                (due_most y (number + 1 + nodes_of x) m budget s inner.0 (λ leaf of. most leaf
                (inr of)) (less_reach k (max r k) (le-max_right r k) reach)
                (less_low k (max r k) inner.0 (le-max_right r k) under) other)
          ]
    ]
due_most (Unary op x) number m budget s q most reach low due =
    let from = looks_from-least op (is_member x) q in
    let to = looks_to-most op q in
    elim due as (λ _. budget ≤ copies_of (Unary op x) * on_all_days m) [
      | inl own ↦
          let length = longest-working in
          let within : looks_from op (is_member x) q ≤ℤ s.at.0 = own.2.within in
          let all = most_candidates (Unary op x) m most s.at.0 q (omega (arith, ints)) in
          let used : budget ≤ candidates (Unary op x) s.at.0 q = own.2.used in
          omega arith
      | inr inner ↦
          let high : inner.0 ≤ℤ looks_to op q = inner.2 in
          unary-copied op (copies_of x) (on_all_days m) budget
          (due_most x (number + 1) m budget s inner.0 most (omega (arith, ints))
          (omega (arith, ints)) inner.3)
    ]

-- from the calendar range a tree looks no farther than the working range
calendar_is_low : (reach : ℕ) (q : ℤ) → pos reach ≤ℤ REACH → IsCalendarPosition q → IsLow reach q
calendar_is_low reach q near here = omega (arith, ints, here.1)

pub ample_never_stops_tests : AmpleNeverStopsTests
ample_never_stops_tests tree p budget reach here ample s due =
    let m : ℕ = ample.0 in
    let most : IsMost tree m = ample.2 in
    let few = due_most tree 1 m budget s p most reach (calendar_is_low (reach_of tree) p reach here)
    due in
    let above = above_all tree m budget ample.3 in
    omega arith

-- a place of a search lies in the range
way_in_calendar : (dir : Dir) (p end : ℤ) (n : ℕ) → IsCalendarPosition p → IsCalendarPosition end
    → IsUpTo dir end (ahead dir p n) → IsCalendarPosition (ahead dir p n)
way_in_calendar Fore p end n here there near = (omega (arith, ints), omega (arith, ints))
way_in_calendar Back p end n here there near = (omega (arith, ints), omega (arith, ints))

pub ample_never_stops : SearchesAreAnswered → WindowsLie → AmpleNeverStops
ample_never_stops some lie tree dir p budget reach here ample s due =
    let Found : Answer → Type 0 =
    IsFound (is_member tree) (window_if_framed (frame_of_tree tree) dir p) dir p in
    let ends = λ (a : Answer) (found : Found a).
    end_in_calendar lie (is_member tree) (frame_of_tree tree) dir p a found in
    elim due [
      | inl own ↦ never_used some tree dir p budget s own.0 here
          (λ a found. below tree dir budget p (end_of dir a) reach here (ends a found) ample) own.1
      | inr way ↦
          let a = some (is_member tree) (window_if_framed (frame_of_tree tree) dir p) dir p here in
          ample_never_stops_tests tree (ahead dir p way.0) budget reach
          (way_in_calendar dir p (end_of dir a.0) way.0 here (ends a.0 a.1) (way.1.within a.0 a.1))
          ample s way.1.due
    ]
