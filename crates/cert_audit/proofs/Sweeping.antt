-- A search that goes from turn to turn.
use Rattle.std.proofs.Common.{◌≡◌, refl, ap, sym, subst, ◌∙◌, inl, inr, arith, ℕ, ◌+◌, ◌-◌, ◌<◌, ◌≤◌, ℤ, pos, ◌+ℤ◌, ◌-ℤ◌, unsigned_abs, Bool, true, false, not, Option, Some, None}
use Rattle.std.proofs.Math.Bool.{beq}
use Rattle.std.proofs.lemmas.Bool.{cases_lt, cases_order}
use Rattle.std.proofs.lemmas.Int.{ints}
use Rattle.moment_core.specs.Line.{IsCalendarPosition}
use Rattle.moment_core.specs.Sets.{ahead, seen, IsNextChange, IsUpTo}
use Rattle.moment_core.specs.declared.line.Dir.{Dir}
use Rattle.moment_core.specs.declared.line.Dir.TheVariants.{Fore, Back}
use Rattle.moment_core.specs.declared.line.Pos.{Pos}
use Rattle.moment_core.specs.declared.line.Window.{Window}
use Rattle.span_core.specs.Answers.{IsAnswer, IsFound, counted_to, end_of}
use Rattle.span_core.specs.declared.answers.Answer.{Answer}
use Rattle.span_core.specs.declared.answers.Answer.TheVariants.{At, None as Never, Edge, Budget}
use Rattle.moment_core.proofs.LineLaws.{ahead-ahead, ahead-zero, seen-zero}
use Rattle.moment_core.proofs.Order.{steps_in_order}
use Rattle.moment_core.proofs.Truths.{not_both}
use Rattle.span_core.specs.declared.answers.Stop.{Stop}
use Rattle.frame_core.specs.Frames.{window_if_framed}
use Rattle.frame_core.specs.declared.frames.Frame.{Frame}
use Rattle.frame_core.specs.Laws.{IsWindowPast, WindowsKeep, WindowsLie}
use Rattle.expr_tree.specs.Members.{is_member}
use Rattle.expr_tree.specs.Tree.{Tree}
use Rattle.stored_pair.specs.Meanings.{Meaning}
use Rattle.search_core.specs.Lawful.{AreLawful}
use Rattle.search_core.specs.Candidates.{candidates, count_between, is_candidate}
use Rattle.search_core.specs.Due.{IsDue, IsDueInTest}
use Rattle.search_core.specs.Laws.{FramesHavePeriods, PlacesAreFewer, TreesRepeat}
use Rattle.cert_audit.specs.Searches.{unchanged}
use Rattle.search_core.specs.TreeFrames.{frame_of_tree}
use Rattle.node_turns.specs.Room.{IsWorkingPosition}
use Rattle.node_turns.specs.Turns.{IsTurn, StandsIfCounted, StaysCounted}
use Rattle.node_turns.specs.declared.turns.Turn.{Turn}

pub works_in_range : (p : ℤ) → IsCalendarPosition p → IsWorkingPosition p
works_in_range p here = (omega (arith, ints, here.0), omega (arith, ints, here.1))

-- nothing differs from p up to the place n steps on, and so many candidates were passed
pub record Visited (t : Tree Meaning) (dir : Dir) (p end place : ℤ) (passed n : ℕ) : Type 0 where
  pub place_is : place ≡ ahead dir p n
  pub stays : (k : ℕ) → k ≤ n → seen (is_member t) dir p k ≡ is_member t p
  pub within : IsUpTo dir end place
  pub counted : passed ≤ counted_to (count_between (is_candidate t)) dir p n
  pub begun : n ≡ 0 → passed ≡ 0

abbrev pub HasVisited : Tree Meaning → Dir → ℤ → ℤ → ℤ → ℕ → Type 0
HasVisited t dir p end place passed = (n : ℕ) × Visited t dir p end place passed n

pub at_start : (t : Tree Meaning) (dir : Dir) (p end : ℤ) → IsUpTo dir end p
    → HasVisited t dir p end p 0
at_start t dir p end h = (
  0,
  record {
    place_is = sym (ahead-zero dir p);
    stays = λ k b. ap (λ m. seen (is_member t) dir p m) (omega arith) ∙ seen-zero (is_member t) dir
        p;
    within = h;
    counted = omega arith;
    begun = λ e. refl;
  },
)

-- so many steps to a place, and so many more to its turn
pub visit : (t : Tree Meaning) (dir : Dir) (p end place : ℤ) (passed more : ℕ) (next : Turn)
    → HasVisited t dir p end place passed → IsTurn (is_member t) dir place end (Some next)
    → StandsIfCounted (is_candidate t) dir (Some next) → is_member t next.place.0 ≡ is_member t p
    → StaysCounted passed dir p place next more → HasVisited t dir p end next.place.0 more
visit t dir p end place passed more next v turn stands same few =
    let set = is_member t in
    let n = v.0 in
    let m = turn.0 in
    let far : ℕ = n + (m + 1) in
    let further = λ (j : ℕ). ap (λ z. ahead dir z j) v.1.place_is ∙ ahead-ahead dir p n j in
    let here : set place ≡ set p = ap set v.1.place_is ∙ v.1.stays n (omega arith) in
    let there : next.place.0 ≡ ahead dir p far = turn.1.place ∙ further (m + 1) in (
      far,
      record {
        place_is = there;
        stays = λ k b. elim (cases_order k far) [
          | inl last ↦ ap (λ j. set (ahead dir p j)) last ∙ ap set (sym there) ∙ same
          | inr other ↦ elim (cases_lt n k) [
            | inl past ↦
                let j : ℕ = k - n in
                let sum : n + j ≡ k = omega arith in
                ap (λ i. set (ahead dir p i)) (sym sum) ∙ ap set (sym (further j))
                ∙ turn.1.stays j (elim other [
                  | inl below ↦ omega arith
                  | inr above ↦ absurd (omega arith)
                ]) ∙ here
            | inr within ↦ v.1.stays k within
          ]
        ];
        within = turn.1.within;
        counted =
            few (is_candidate t) n far v.1.place_is there (omega arith) v.1.counted v.1.begun
            stands;
        begun = λ e. absurd (omega arith);
      },
    )

-- a position between the start and an end of the calendar range lies in it
pub in_range : (dir : Dir) (p end q : ℤ) (n : ℕ) → IsCalendarPosition p → IsCalendarPosition end
    → q ≡ ahead dir p n → IsUpTo dir end q → IsCalendarPosition q
in_range Fore p end q n here there e near = (omega (arith, ints), omega (arith, ints))
in_range Back p end q n here there e near = (omega (arith, ints), omega (arith, ints))

-- the place of a turn past a visited place
pub turn_in_range : (t : Tree Meaning) (dir : Dir) (p end place : ℤ) (passed : ℕ) (next : Turn)
    → HasVisited t dir p end place passed → IsTurn (is_member t) dir place end (Some next)
    → IsCalendarPosition p → IsCalendarPosition end → IsCalendarPosition next.place.0
turn_in_range t dir p end place passed next v turn here there =
    in_range dir p end next.place.0 (v.0 + (turn.0 + 1)) here there
    (turn.1.place ∙ ap (λ z. ahead dir z (turn.0 + 1)) v.1.place_is
    ∙ ahead-ahead dir p v.0 (turn.0 + 1)) turn.1.within

-- the first turn with another membership is the answer
pub changes : (t : Tree Meaning) (dir : Dir) (p end place : ℤ) (passed : ℕ) (next : Turn)
    → HasVisited t dir p end place passed → IsTurn (is_member t) dir place end (Some next)
    → is_member t next.place.0 ≡ not (is_member t p) → IsNextChange (is_member t) dir p next.place.0
changes t dir p end place passed next v turn differs =
    let set = is_member t in
    let n = v.0 in
    let m = turn.0 in
    let far : ℕ = n + (m + 1) in
    let further = λ (j : ℕ). ap (λ z. ahead dir z j) v.1.place_is ∙ ahead-ahead dir p n j in
    let here : set place ≡ set p = ap set v.1.place_is ∙ v.1.stays n (omega arith) in
    let there : next.place.0 ≡ ahead dir p far = turn.1.place ∙ further (m + 1) in
    let start : seen set dir p 0 ≡ set p = seen-zero set dir p in (
      far,
      there,
      record {
        later = omega arith;
        differs = ap set (sym there) ∙ differs ∙ ap not (sym start);
        same = λ k b. elim (cases_lt n k) [
          | inl past ↦
              let j : ℕ = k - n in
              let sum : n + j ≡ k = omega arith in
              ap (λ i. set (ahead dir p i)) (sym sum) ∙ ap set (sym (further j))
              ∙ turn.1.stays j (omega arith) ∙ here ∙ sym start
          | inr within ↦ v.1.stays k within ∙ sym start
        ];
      },
    )

-- with no further turn up to the end, nothing differs up to there
stays_to_end : (t : Tree Meaning) (dir : Dir) (p end place : ℤ) (passed : ℕ)
    → HasVisited t dir p end place passed → ((k : ℕ) → IsUpTo dir end (ahead dir place k)
    → seen (is_member t) dir place k ≡ is_member t place) → (k : ℕ) → IsUpTo dir end (ahead dir p k)
    → seen (is_member t) dir p k ≡ is_member t p
stays_to_end t dir p end place passed v none k near =
    let set = is_member t in
    let n = v.0 in
    let further = λ (j : ℕ). ap (λ z. ahead dir z j) v.1.place_is ∙ ahead-ahead dir p n j in
    let here : set place ≡ set p = ap set v.1.place_is ∙ v.1.stays n (omega arith) in
    elim (cases_lt n k) [
      | inl past ↦
          let j : ℕ = k - n in
          let sum : n + j ≡ k = omega arith in
          let e : ahead dir p k ≡ ahead dir place j =
          ap (ahead dir p) (sym sum) ∙ sym (further j) in
          let U : ℤ → Type 0 = λ z. IsUpTo dir end z in
          ap set e ∙ none j (subst U e near) ∙ here
      | inr within ↦ v.1.stays k within
    ]

window_end_in_range : (dir : Dir) (p : ℤ) (w : Window) → IsWindowPast dir p w
    → IsCalendarPosition (end_of dir (Never w))
window_end_in_range Fore p w lies = lies.high
window_end_in_range Back p w lies = lies.low

abbrev IsEnd : Dir → ℤ → ℤ → Type 0
IsEnd dir p end = IsUpTo dir end p × IsCalendarPosition end

range-end : (dir : Dir) (p : ℤ) → IsCalendarPosition p → IsEnd dir p (end_of dir Edge)
range-end Fore p here = (here.1, (omega (arith, ints), omega (arith, ints)))
range-end Back p here = (here.0, (omega (arith, ints), omega (arith, ints)))

pub end_is : WindowsLie → (o : Option Frame) (window : Option Window) (dir : Dir) (p end : ℤ)
    → IsCalendarPosition p → window ≡ window_if_framed o dir p → end ≡ end_of dir (unchanged window)
    → IsUpTo dir end p × IsCalendarPosition end
end_is lie o (Some w) dir p end here e f =
    let P : ℤ → Type 0 = λ z. IsEnd dir p z in
    let lies = lie o dir p w (sym e) in
    subst P (sym f) (lies.past, window_end_in_range dir p w lies)
end_is lie o None dir p end here e f =
    let P : ℤ → Type 0 = λ z. IsEnd dir p z in
    subst P (sym f) (range-end dir p here)

up_to_range : (dir : Dir) (q : ℤ) → IsCalendarPosition q → IsUpTo dir (end_of dir Edge) q
up_to_range Fore q h = h.1
up_to_range Back q h = h.0

pub nothing_differs : WindowsKeep → FramesHavePeriods → TreesRepeat → (t : Tree Meaning)
    → AreLawful t → (window : Option Window) (dir : Dir) (p end place : ℤ) (passed : ℕ)
    (answer : Answer) → window ≡ window_if_framed (frame_of_tree t) dir p
    → end ≡ end_of dir (unchanged window) → HasVisited t dir p end place passed
    → ((k : ℕ) → IsUpTo dir end (ahead dir place k) → seen (is_member t) dir place k ≡ is_member t
    place) → answer ≡ unchanged window → IsFound (is_member t) (window_if_framed (frame_of_tree t)
    dir p) dir p answer
nothing_differs keep period repeats t law (Some w) dir p end place passed answer e f v none is =
    let P : ℤ → Type 0 =
    λ z. (k : ℕ) → IsUpTo dir z (ahead dir p k) → seen (is_member t) dir p k ≡ is_member t p in
    let Q : Answer → Type 0 =
    λ a. IsFound (is_member t) (window_if_framed (frame_of_tree t) dir p) dir p a in
    let stays = subst P f (stays_to_end t dir p end place passed v none) in
    subst Q (sym is) (
      (λ k h. keep (is_member t) (frame_of_tree t) dir p w (period t law) (repeats t law) (sym e)
          stays k),
      sym e,
    )
nothing_differs keep period repeats t law None dir p end place passed answer e f v none is =
    let P : ℤ → Type 0 =
    λ z. (k : ℕ) → IsUpTo dir z (ahead dir p k) → seen (is_member t) dir p k ≡ is_member t p in
    let Q : Answer → Type 0 =
    λ a. IsFound (is_member t) (window_if_framed (frame_of_tree t) dir p) dir p a in
    let stays = subst P f (stays_to_end t dir p end place passed v none) in
    subst Q (sym is) ((λ k h. stays k (up_to_range dir (ahead dir p k) h)), sym e)

-- a place before which nothing differs is not past the answer
before_answer : (set : ℤ → Bool) (window : Option Window) (dir : Dir) (p end place : ℤ) (n : ℕ)
    → place ≡ ahead dir p n → ((k : ℕ) → k < n → seen set dir p k ≡ set p)
    → end ≡ end_of dir (unchanged window) → IsUpTo dir end place → (a : Answer)
    → IsFound set window dir p a → IsUpTo dir (end_of dir a) place
before_answer set window dir p end place n e stays f near (At q) found =
    let m = found.0.0 in
    elim (cases_lt m n) [
      | inl within ↦ absurd (not_both (seen set dir p 0) (seen-zero set dir p ∙ sym (stays m within)
          ∙ found.0.2.differs))
      | inr past ↦
          let P : ℤ → Type 0 = λ z. IsUpTo dir q.0 z in
          let Q : ℤ → Type 0 = λ z. IsUpTo dir z (ahead dir p n) in
          subst P (sym e) (subst Q (sym found.0.1) (steps_in_order dir p n m past))
    ]
before_answer set window dir p end place n e stays f near (Never w) found =
    let P : ℤ → Type 0 = λ z. IsUpTo dir z place in
    subst P (f ∙ ap (λ o. end_of dir (unchanged o)) found.1) near
before_answer set window dir p end place n e stays f near Edge found =
    let P : ℤ → Type 0 = λ z. IsUpTo dir z place in
    subst P (f ∙ ap (λ o. end_of dir (unchanged o)) found.1) near
before_answer set window dir p end place n e stays f near (Budget s) found = absurd found

-- after so many candidates the search may stop at a place past its start
counted-cover : PlacesAreFewer → (t : Tree Meaning) (dir : Dir) (p : ℤ) (n : ℕ)
    → counted_to (count_between (is_candidate t)) dir p n ≤ counted_to (candidates t) dir p n
counted-cover cover t Fore p n = cover t p (p +ℤ pos n)
counted-cover cover t Back p n = cover t (p -ℤ pos n) p

pub stops : PlacesAreFewer → (t : Tree Meaning) (window : Option Window) (dir : Dir) (p end : ℤ)
    (passed budget : ℕ) (place : Pos) → window ≡ window_if_framed (frame_of_tree t) dir p
    → end ≡ end_of dir (unchanged window) → HasVisited t dir p end place.0 passed → 1 ≤ budget
    → budget ≤ passed → IsCalendarPosition place.0 → IsDue t dir p budget (record {
      at = place;
      node = 0;
    })
stops cover t window dir p end passed budget place e f v some used here =
    let n = v.0 in
    let W : Option Window → Type 0 =
    λ o. (a : Answer) → IsFound (is_member t) o dir p a → IsUpTo dir (end_of dir a) place.0 in
    inl (
      n,
      record {
        search = refl;
        later = elim (cases_lt 0 n) [
          | inl past ↦ past
          | inr zero ↦ let none : passed ≡ 0 = v.1.begun (omega arith) in absurd (omega arith)
        ];
        place = v.1.place_is;
        in_range = here;
        stays = v.1.stays;
        within =
            subst W e (before_answer (is_member t) window dir p end place.0 n v.1.place_is
            (λ k h. v.1.stays k (omega arith)) f v.1.within);
        used =
            (let most : passed ≤ counted_to (count_between (is_candidate t)) dir p n =
            v.1.counted in let few = counted-cover cover t dir p n in omega arith);
      },
    )

-- looking back from the search's place may stop
on_the_way : (t : Tree Meaning) (window : Option Window) (dir : Dir) (p end place : ℤ)
    (budget n : ℕ) (s : Stop) → window ≡ window_if_framed (frame_of_tree t) dir p
    → end ≡ end_of dir (unchanged window) → place ≡ ahead dir p n → ((k : ℕ) → k < n
    → seen (is_member t) dir p k ≡ is_member t p) → IsUpTo dir end place
    → IsDueInTest t place budget s → IsDue t dir p budget s
on_the_way t window dir p end place budget n s e f at stays near due =
    let W : Option Window → Type 0 =
    λ o. (a : Answer) → IsFound (is_member t) o dir p a → IsUpTo dir (end_of dir a) place in
    let within : W (window_if_framed (frame_of_tree t) dir p) =
    subst W e (before_answer (is_member t) window dir p end place n at stays f near) in
    inr (
      n,
      record {
        within = λ a found. subst (λ z. IsUpTo dir (end_of dir a) z) at (within a found);
        due = subst (λ z. IsDueInTest t z budget s) at due;
      },
    )

-- where the search begins
pub stops_here : (t : Tree Meaning) (window : Option Window) (dir : Dir) (p end : ℤ) (budget : ℕ)
    (s : Stop) → window ≡ window_if_framed (frame_of_tree t) dir p
    → end ≡ end_of dir (unchanged window) → IsUpTo dir end p → IsDueInTest t p budget s
    → IsDue t dir p budget s
stops_here t window dir p end budget s e f near due =
    on_the_way t window dir p end p budget 0 s e f (sym (ahead-zero dir p))
    (λ k h. absurd (omega arith)) near due

-- and at a turn
pub stops_there : (t : Tree Meaning) (window : Option Window) (dir : Dir) (p end place : ℤ)
    (passed budget : ℕ) (next : Turn) (s : Stop) → window ≡ window_if_framed (frame_of_tree t) dir p
    → end ≡ end_of dir (unchanged window) → HasVisited t dir p end place passed
    → IsTurn (is_member t) dir place end (Some next) → IsDueInTest t next.place.0 budget s
    → IsDue t dir p budget s
stops_there t window dir p end place passed budget next s e f v turn due =
    let set = is_member t in
    let n = v.0 in
    let m = turn.0 in
    let further = λ (j : ℕ). ap (λ z. ahead dir z j) v.1.place_is ∙ ahead-ahead dir p n j in
    let here : set place ≡ set p = ap set v.1.place_is ∙ v.1.stays n (omega arith) in
    on_the_way t window dir p end next.place.0 budget (n + (m + 1)) s e f (turn.1.place
    ∙ further (m + 1))
    (λ k h. elim (cases_lt n k) [
      | inl past ↦
          let j : ℕ = k - n in
          let sum : n + j ≡ k = omega arith in
          ap (λ i. set (ahead dir p i)) (sym sum) ∙ ap set (sym (further j))
          ∙ turn.1.stays j (omega arith) ∙ here
      | inr within ↦ v.1.stays k within
    ]) turn.1.within due

-- the steps that are left fall from turn to turn
abbrev pub steps_left : Dir → ℤ → ℤ → ℕ
steps_left Fore place end = unsigned_abs (end -ℤ place)
steps_left Back place end = unsigned_abs (place -ℤ end)

pub steps_left-falls : (dir : Dir) (place q end : ℤ) (n : ℕ) → q ≡ ahead dir place (n + 1)
    → IsUpTo dir end q → steps_left dir q end < steps_left dir place end
steps_left-falls Fore place q end n e h = omega (arith, ints)
steps_left-falls Back place q end n e h = omega (arith, ints)

-- what a search found is an answer
pub IsAnswer-found : (t : Tree Meaning) (dir : Dir) (p : ℤ) (budget : ℕ) (a : Answer)
    → IsFound (is_member t) (window_if_framed (frame_of_tree t) dir p) dir p a
    → IsAnswer (is_member t) (IsDue t) (window_if_framed (frame_of_tree t)) dir p budget a
IsAnswer-found t dir p budget (At q) h = h
IsAnswer-found t dir p budget (Never w) h = h
IsAnswer-found t dir p budget Edge h = h
IsAnswer-found t dir p budget (Budget s) h = absurd h

-- two memberships that were compared
pub turned : (there here x y : Bool) → there ≡ x → here ≡ y → not (beq there here) ≡ true
    → x ≡ not y
turned true true x y e f h = absurd cc
turned true false x y e f h = sym e ∙ ap not f
turned false true x y e f h = sym e ∙ ap not f
turned false false x y e f h = absurd cc

pub kept : (there here x y : Bool) → there ≡ x → here ≡ y → not (beq there here) ≡ false → x ≡ y
kept true true x y e f h = sym e ∙ f
kept true false x y e f h = absurd cc
kept false true x y e f h = absurd cc
kept false false x y e f h = sym e ∙ f
