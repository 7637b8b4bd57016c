-- Words by their places, and the first bad one.
use Rattle.std.proofs.Common.{◌≡◌, ◌<◌, ◌≤◌, ◌+◌, ◌++◌, ◌∷◌, [], ℕ, suc, List, Contains, inl, inr, length, map, take, drop, get_or, refl, sym, ◌∙◌, ap, subst, arith, length-append, drop-cons}
use Rattle.std.proofs.lemmas.Bool.{cases_lt}
use Rattle.std.proofs.lemmas.List.{take-append-drop, get_or-map, length-map, length-take-le}
use Rattle.std.proofs.Math.Seq.{take-suc}
use Rattle.query_words.specs.declared.commands.Command.{Command}
use Rattle.query_words.specs.declared.commands.Key.{Key}
use Rattle.query_words.specs.Commands.{required}
use Rattle.query_words.specs.Reading.{FitBelow}
use Rattle.query_words.specs.Words.{Fits, IsBad, unfit, missing, IsFirstBad, AreGood, Lacks}

-- a list is cut in one way at each place
pub one_front : {X : Type 0} (a b : List X) (x y : X) (xs ys : List X) → length a ≡ length b → a
    ++ x ∷ xs ≡ b ++ y ∷ ys → a ≡ b
one_front [] [] x y xs ys l e = refl
one_front [] (d ∷ b) x y xs ys l e = absurd (omega (arith, l))
one_front (c ∷ a) [] x y xs ys l e = absurd (omega (arith, l))
one_front (c ∷ a) (d ∷ b) x y xs ys l e =
    let l' : length a ≡ length b = omega (arith, l) in
    let e' : a ++ x ∷ xs ≡ b ++ y ∷ ys = cc in
    let head : c ≡ d = cc in
    let tail = one_front a b x y xs ys l' e' in
    cc

pub one_at : {X : Type 0} (a b : List X) (x y : X) (xs ys : List X) → length a ≡ length b → a
    ++ x ∷ xs ≡ b ++ y ∷ ys → x ≡ y
one_at [] [] x y xs ys l e = cc
one_at [] (d ∷ b) x y xs ys l e = absurd (omega (arith, l))
one_at (c ∷ a) [] x y xs ys l e = absurd (omega (arith, l))
one_at (c ∷ a) (d ∷ b) x y xs ys l e =
    let l' : length a ≡ length b = omega (arith, l) in
    let e' : a ++ x ∷ xs ≡ b ++ y ∷ ys = cc in
    one_at a b x y xs ys l' e'

pub cut_at : {X : Type 0} (xs : List X) (i : ℕ) (x : X) → i < length xs → get_or xs i x ≡ x → xs
    ≡ take i xs ++ x ∷ drop (suc i) xs
cut_at xs i x less is = sym (take-append-drop i xs) ∙ ap (λ ys. take i xs ++ ys)
    (drop-cons xs i x less ∙ ap (λ y. y ∷ drop (suc i) xs) is)

pub take_next : {X : Type 0} (xs : List X) (i : ℕ) (x : X) → i < length xs → get_or xs i x ≡ x
    → take (suc i) xs ≡ take i xs ++ x ∷ []
take_next xs i x less is = take-suc xs i x less ∙ ap (λ y. take i xs ++ y ∷ []) is

pub fits_one_more : (command : Command) (words before after : List (List ℕ)) (word : List ℕ) (n : ℕ)
    → words ≡ before ++ word ∷ after → length before ≡ n → FitBelow command words n
    → Fits command before word → FitBelow command words (n + 1)
fits_one_more command words before after word n e l fit fits front w rest is less =
    elim (cases_lt (length front) n) [
      | inl below ↦ fit front w rest is below
      | inr up ↦ (let same : length before ≡ length front = omega (arith, l, less, up) in
          let whole = sym e ∙ is in
          subst (λ f. Fits command f w) (one_front before front word w after rest same whole)
          (subst (Fits command before) (one_at before front word w after rest same whole) fits))
    ]

none_bad : (command : Command) (words : List (List ℕ)) (n : ℕ) → n ≤ length words
    → FitBelow command words n → (k : ℕ) → k < n + 1 → ¬ (IsBad command words k)
none_bad command words n within fit k less (unfit b w a e misfit) =
    misfit (fit b w a e (omega arith))
none_bad command words n within fit k less (missing key needs lacks) = absurd (omega arith)

-- the first word that doesn't fit is the first bad one
pub unfit_first : (command : Command) (words before after : List (List ℕ)) (word : List ℕ) (n : ℕ)
    → words ≡ before ++ word ∷ after → length before ≡ n → FitBelow command words n
    → ¬ (Fits command before word) → IsFirstBad command words (n + 1)
unfit_first command words before after word n e l fit misfit =
    let size : length words ≡ length before + suc (length after) = ap length e
    ∙ length-append before (word ∷ after) in
    let place : suc (length before) ≡ n + 1 = omega (arith, l) in
    record {
      bad = subst (IsBad command words) place (unfit before word after e misfit);
      before = none_bad command words n (omega (arith, size, l)) fit;
    }

-- where each word fits, the end is bad if a required key is missing
pub missing_first : (command : Command) (words : List (List ℕ)) (key : Key) → FitBelow command words
    (length words) → Contains (required command) key → Lacks words key → IsFirstBad command words
    (length words + 1)
missing_first command words key fit needs lacks =
    let place : suc (length words) ≡ length words + 1 = omega arith in
    record {
      bad = subst (IsBad command words) place (missing key needs lacks);
      before = none_bad command words (length words) (omega arith) fit;
    }

-- and else the words are good
pub all_good : (command : Command) (words : List (List ℕ)) → FitBelow command words (length words)
    → ((key : Key) → Contains (required command) key → ¬ (Lacks words key)) → AreGood command words
all_good command words fit has n (unfit b w a e misfit) =
    let size : length words ≡ length b + suc (length a) = ap length e ∙ length-append b (w ∷ a) in
    misfit (fit b w a e (omega (arith, size)))
all_good command words fit has n (missing key needs lacks) = has key needs lacks

-- the word at a place
pub record StandsAt (words : List (List ℕ)) (i : ℕ) (word : List ℕ) : Type 0 where
  pub cut : words ≡ take i words ++ word ∷ drop (suc i) words
  pub size : length (take i words) ≡ i
  pub next : take (i + 1) words ≡ take i words ++ word ∷ []

pub stands_at : {X : Type 0} (bytes : X → List ℕ) (xs : List X) (i : ℕ) (x : X) (word : List ℕ)
    → i < length xs → x ≡ get_or xs i x → word ≡ bytes x → StandsAt (map bytes xs) i word
stands_at bytes xs i x word less is same =
    let words = map bytes xs in
    let within : i < length words = omega (arith, less, length-map xs bytes) in
    let there : get_or words i word ≡ word = get_or-map bytes xs i x word less ∙ ap bytes (sym is)
    ∙ sym same in
    let after : i + 1 ≡ suc i = omega arith in
    record {
      cut = cut_at words i word within there;
      size = length-take-le i words (omega (arith, within));
      next = ap (λ n. take n words) after ∙ take_next words i word within there;
    }
