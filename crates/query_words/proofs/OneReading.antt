-- No words have two answers.
use Rattle.std.proofs.Common.{◌≡◌, ◌<◌, ◌∷◌, ℕ, suc, List, true, Ok, Err, Option, Some, None, inl, inr, length, take, drop, get_or, refl, sym, ◌∙◌, ap, subst, arith}
use Rattle.std.proofs.lemmas.Bool.{cases_lt, true≢false}
use Rattle.std.proofs.lemmas.List.{get_or-take, length-take-le}
use Rattle.std.proofs.lemmas.Option.{slice_get-get_or}
use Rattle.std.specs.List.{slice_get}
use Rattle.moment_core.specs.declared.line.Dir.TheVariants.{Fore}
use Rattle.moment_core.specs.declared.line.Stamp.{Stamp}
use Rattle.moment_text.specs.Laws.{LiteralsTellMomentsApart}
use Rattle.token_text.specs.Laws.{TextsTellTokensApart}
use Rattle.token_text.specs.Texts.{Means as IsToken}
use Rattle.moment_text.specs.Literal.{IsStamp}
use Rattle.query_words.specs.declared.commands.Command.{Command}
use Rattle.query_words.specs.declared.commands.Command.TheVariants.{Walk, Resume, Show}
use Rattle.query_words.specs.declared.commands.Key.{Key}
use Rattle.query_words.specs.declared.commands.Key.TheVariants.{At, From, To, Dir as DirOf, Limit, Budget, Token as TokenOf}
use Rattle.query_words.specs.declared.queries.Neighbour.{Neighbour}
use Rattle.query_words.specs.declared.queries.Neighbour.TheVariants as neighbours
use Rattle.query_words.specs.declared.queries.Query.{Query}
use Rattle.query_words.specs.declared.queries.Query.TheVariants.{Near, Walk as Walking, Resume as Resuming, Show as Showing}
use Rattle.query_words.specs.declared.queries.WordsFault.{WordsFault}
use Rattle.query_words.specs.declared.queries.WordsFault.TheVariants.{Bad}
use Rattle.query_words.specs.Commands.{name_of, is_built}
use Rattle.query_words.specs.Laws.{WordsAreReadOnce}
use Rattle.query_words.specs.Neighbours.{command_of, neighbour_of}
use Rattle.query_words.specs.Words.{word_of, command_of_query, Gives, Lacks, IsBudget, IsDir, IsLimit, IsNumber, IsBad, unfit, IsFirstBad, AreGood, SayEach, Says, SaysBudget, SaysLimit, SaysOr, Tells, given, by_default, Asks, IsRefused, no_command, unbuilt, bad}
use Rattle.query_words.proofs.Asking.{built}
use Rattle.query_words.proofs.Positions.{cut_at}
use Rattle.query_words.proofs.Stamps.{one_dir, one_stamp}
use Rattle.query_words.proofs.WordLemmas.{one_key, one_value, one_command}

one_name : (words later rest : List (List ℕ)) (c d : Command) → words ≡ name_of c ∷ later → words
    ≡ name_of d ∷ rest → c ≡ d
one_name words later rest c d e f =
    let same : name_of c ≡ name_of d = (let whole = sym e ∙ f in cc) in
    one_command c d same

one_rest : (words later rest : List (List ℕ)) (c d : Command) → words ≡ name_of c ∷ later → words
    ≡ name_of d ∷ rest → later ≡ rest
one_rest words later rest c d e f = let whole = sym e ∙ f in cc

-- good words don't give a key twice
given_again : (command : Command) (later : List (List ℕ)) (key : Key) (v w : List ℕ) (j k : ℕ)
    → AreGood command later → j < k → k < length later → get_or later j (word_of key v)
    ≡ word_of key v → get_or later k (word_of key w) ≡ word_of key w → ⊥
given_again command later key v w j k good less within first second =
    let size : length (take k later) ≡ k = length-take-le k later (omega (arith, within)) in
    let before : Gives (take k later) key v =
    (j, omega (arith, size, less), get_or-take k later j (word_of key v) less ∙ first) in
    good (suc (length (take k later)))
    (unfit (take k later) (word_of key w) (drop (suc k) later)
    (cut_at later k (word_of key w) within second)
    (λ fits. subst (Lacks (take k later)) (one_key fits.key key fits.value w (sym fits.word_is))
    fits.first v before))

one_given : (command : Command) (later : List (List ℕ)) (key : Key) (v w : List ℕ)
    → AreGood command later → Gives later key v → Gives later key w → v ≡ w
one_given command later key v w good (j, inside, first) (k, within, second) =
    elim (cases_lt j k) [
      | inl less ↦ absurd (given_again command later key v w j k good less within first second)
      | inr up ↦ elim (cases_lt k j) [
        | inl more ↦ absurd (given_again command later key w v k j good more inside second first)
        | inr down ↦ (let same : j ≡ k = omega (arith, up, down) in
            let found : slice_get later j ≡ Some (word_of key v) = slice_get-get_or later j
            (word_of key v) inside ∙ ap Some first in
            let also : slice_get later k ≡ Some (word_of key w) = slice_get-get_or later k
            (word_of key w) within ∙ ap Some second in
            let moved : slice_get later k ≡ Some (word_of key v) =
            subst (λ i. slice_get later i ≡ Some (word_of key v)) same found in
            let whole : word_of key v ≡ word_of key w = cc in
            one_value key key v w whole)
      ]
    ]

asked_again : (side : Neighbour) → neighbour_of (command_of side) ≡ Some side
asked_again neighbours.Next = refl
asked_again neighbours.Previous = refl
asked_again neighbours.Current = refl
asked_again neighbours.Closest = refl
asked_again neighbours.Contains = refl

one_side : (a b : Neighbour) → command_of a ≡ command_of b → a ≡ b
one_side a b e =
    let same : Some a ≡ Some b = sym (asked_again a) ∙ ap neighbour_of e ∙ asked_again b in
    cc

not_near : (side : Neighbour) (command : Command) → neighbour_of command ≡ None → command_of side
    ≡ command → ⊥
not_near side command none e =
    let some : Some side ≡ None = sym (asked_again side) ∙ ap neighbour_of e ∙ none in
    cc

one_number : (least most : ℕ) (text : List ℕ) (n m : ℕ) → IsNumber least most text n
    → IsNumber least most text m → n ≡ m
one_number least most text n m a b = sym a.value ∙ b.value

module _ (apart : LiteralsTellMomentsApart) (tokens : TextsTellTokensApart) (command : Command)
    (later : List (List ℕ)) (good : AreGood command later) where
  -- good words say one thing of a key whose texts have one meaning
  one_said : {X : Type 0} (key : Key) (Is : List ℕ → X → Type 0)
      → ((text : List ℕ) (x y : X) → Is text x → Is text y → x ≡ y) → (x y : X)
      → Says later key Is x → Says later key Is y → x ≡ y
  one_said key Is one x y a b =
      let same : b.value ≡ a.value = one_given command later key b.value a.value good b.given
      a.given in
      one a.value x y a.is (subst (λ v. Is v y) same b.is)

  one_told : {X : Type 0} (key : Key) (Is : List ℕ → X → Type 0)
      → ((text : List ℕ) (x y : X) → Is text x → Is text y → x ≡ y) → (o u : Option X)
      → Tells later key Is o → Tells later key Is u → o ≡ u
  one_told key Is one None None a b = refl
  one_told key Is one None (Some y) a b = absurd (a b.value b.given)
  one_told key Is one (Some x) None a b = absurd (b a.value a.given)
  one_told {X = X} key Is one (Some x) (Some y) a b = ap (λ (z : X). Some z)
      (one_said key Is one x y a b)

  one_or : {X : Type 0} (key : Key) (Is : List ℕ → X → Type 0) (default : X)
      → ((text : List ℕ) (x y : X) → Is text x → Is text y → x ≡ y) → (x y : X)
      → SaysOr later key Is default x → SaysOr later key Is default y → x ≡ y
  one_or key Is default one x y (given _ a) (given _ b) = one_said key Is one x y a b
  one_or key Is default one x y (given _ a) (by_default lacks) = absurd (lacks a.value a.given)
  one_or key Is default one x y (by_default lacks) (given _ b) = absurd (lacks b.value b.given)
  one_or key Is default one x y (by_default lacks) (by_default also) = refl

  stamp_or_none : (key : Key) (o u : Option Stamp) → Tells later key IsStamp o
      → Tells later key IsStamp u → o ≡ u
  stamp_or_none key o u = one_told key IsStamp (one_stamp apart) o u

  one_limit : (n m : ℕ) → SaysLimit later n → SaysLimit later m → n ≡ m
  one_limit n m = one_or Limit IsLimit 1_000 (one_number 1 1_000_000) n m

  one_budget : (n m : ℕ) → SaysBudget later n → SaysBudget later m → n ≡ m
  one_budget n m = one_or Budget IsBudget 100_000_000 (one_number 1 1_000_000_000_000) n m

  -- so they say one query of the command
  pub one_asked : (p q : Query) → command_of_query p ≡ command_of_query q → SayEach later p
      → SayEach later q → p ≡ q
  one_asked (Near side at budget) (Near other also pays) e a b =
      let sides = one_side side other e in
      let moments = one_said At IsStamp (one_stamp apart) at also a.0 b.0 in
      let budgets = one_budget budget pays a.1 b.1 in
      cc
  one_asked (Walking from to dir limit budget) (Walking first last way most pays) e a b =
      let firsts = stamp_or_none From from first a.0 b.0 in
      let lasts = stamp_or_none To to last a.1 b.1 in
      let ways = one_or DirOf IsDir Fore one_dir dir way a.2 b.2 in
      let limits = one_limit limit most a.3 b.3 in
      let budgets = one_budget budget pays a.4 b.4 in
      cc
  one_asked (Resuming token limit budget) (Resuming place most pays) e a b =
      let places = one_said TokenOf IsToken tokens token place a.0 b.0 in
      let limits = one_limit limit most a.1 b.1 in
      let budgets = one_budget budget pays a.2 b.2 in
      cc
  one_asked Showing Showing e a b = refl
  one_asked (Near side at budget) (Walking from to dir limit pays) e a b =
      absurd (not_near side Walk refl e)
  one_asked (Near side at budget) (Resuming token limit pays) e a b =
      absurd (not_near side Resume refl e)
  one_asked (Near side at budget) Showing e a b = absurd (not_near side Show refl e)
  one_asked (Walking from to dir limit pays) (Near side at budget) e a b =
      absurd (not_near side Walk refl (sym e))
  one_asked (Resuming token limit pays) (Near side at budget) e a b =
      absurd (not_near side Resume refl (sym e))
  one_asked Showing (Near side at budget) e a b = absurd (not_near side Show refl (sym e))
  one_asked (Walking from to dir limit budget) (Resuming token most pays) e a b = absurd cc
  one_asked (Walking from to dir limit budget) Showing e a b = absurd cc
  one_asked (Resuming token limit budget) (Walking from to dir most pays) e a b = absurd cc
  one_asked (Resuming token limit budget) Showing e a b = absurd cc
  one_asked Showing (Walking from to dir most pays) e a b = absurd cc
  one_asked Showing (Resuming token most pays) e a b = absurd cc

one_query : LiteralsTellMomentsApart → TextsTellTokensApart → (words : List (List ℕ)) (p q : Query)
    → Asks words p → Asks words q → p ≡ q
one_query apart tokens words p q a b =
    let commands : command_of_query p ≡ command_of_query q = one_name words a.later b.later
    (command_of_query p) (command_of_query q) a.is b.is in
    let rest : b.later ≡ a.later = one_rest words b.later a.later (command_of_query q)
    (command_of_query p) b.is a.is in
    one_asked apart tokens (command_of_query p) a.later a.good p q commands a.says
    (subst (λ later. SayEach later q) rest b.says)

-- words that ask have a built command, and good words behind it
record HasGood (words : List (List ℕ)) : Type 0 where
  command : Command
  later : List (List ℕ)
  is : words ≡ name_of command ∷ later
  built : is_built command ≡ true
  good : AreGood command later

asks_good : (words : List (List ℕ)) (query : Query) → Asks words query → HasGood words
asks_good words query asks = record {
  command = command_of_query query;
  later = asks.later;
  is =
      asks.is;
  built = built query;
  good = asks.good;
}

moved_bad : (c d : Command) (later rest : List (List ℕ)) (n : ℕ) → c ≡ d → later ≡ rest
    → IsBad c later n → IsBad d rest n
moved_bad c d later rest n e f h = subst (λ x. IsBad x rest n) e (subst (λ l. IsBad c l n) f h)

refused_not_good : (words : List (List ℕ)) {f : WordsFault} → HasGood words → IsRefused words f → ⊥
refused_not_good words h (no_command none) = none h.command h.later h.is
refused_not_good words h (unbuilt c l e not_built) =
    true≢false (sym h.built ∙ ap is_built (one_name words h.later l h.command c h.is e) ∙ not_built)
refused_not_good words h (bad c l n e built first) =
    h.good n (moved_bad c h.command l h.later n (one_name words l h.later c h.command e h.is)
    (one_rest words l h.later c h.command e h.is) first.bad)

one_first : (command : Command) (later : List (List ℕ)) (n m : ℕ) → IsFirstBad command later n
    → IsFirstBad command later m → n ≡ m
one_first command later n m a b =
    elim (cases_lt n m) [
      | inl less ↦ absurd (b.before n less a.bad)
      | inr up ↦ elim (cases_lt m n) [
        | inl more ↦ absurd (a.before m more b.bad)
        | inr down ↦ omega (arith, up, down)
      ]
    ]

one_fault : (words : List (List ℕ)) {f g : WordsFault} → IsRefused words f → IsRefused words g → f
    ≡ g
one_fault words (no_command none) (no_command also) = refl
one_fault words (no_command none) (unbuilt c l e not_built) = absurd (none c l e)
one_fault words (no_command none) (bad c l n e built first) = absurd (none c l e)
one_fault words (unbuilt c l e not_built) (no_command none) = absurd (none c l e)
one_fault words (unbuilt c l e not_built) (unbuilt d r f also) = refl
one_fault words (unbuilt c l e not_built) (bad d r n f built first) =
    absurd (true≢false (sym built ∙ ap is_built (one_name words r l d c f e) ∙ not_built))
one_fault words (bad c l n e built first) (no_command none) = absurd (none c l e)
one_fault words (bad c l n e built first) (unbuilt d r f not_built) =
    absurd (true≢false (sym built ∙ ap is_built (one_name words l r c d e f) ∙ not_built))
one_fault words (bad c l n e built first) (bad d r m f also second) =
    let moved : IsFirstBad c l m = subst (λ x. IsFirstBad x l m) (one_name words r l d c f e)
    (subst (λ y. IsFirstBad d y m) (one_rest words r l d c f e) second) in
    ap Bad (one_first c l n m first moved)

pub words_are_read_once : LiteralsTellMomentsApart → TextsTellTokensApart → WordsAreReadOnce
words_are_read_once apart tokens words (Ok p) (Ok q) a b =
    ap Ok (one_query apart tokens words p q a b)
words_are_read_once apart tokens words (Ok p) (Err f) a b =
    absurd (refused_not_good words (asks_good words p a) b)
words_are_read_once apart tokens words (Err f) (Ok q) a b =
    absurd (refused_not_good words (asks_good words q b) a)
words_are_read_once apart tokens words (Err f) (Err g) a b = ap Err (one_fault words a b)
