-- What is listed with commas is read back, one after the other.
use Rattle.std.proofs.Common.{◌≡◌, ℕ, ◌+◌, ◌<◌, true, List, [], ◌∷◌, ◌++◌, length, take, get_or, map, Option, Some, refl, sym, ap, ◌∙◌, append_assoc}
use Rattle.std.specs.Prelude.{is_some}
use Rattle.std.specs.List.{list_all, flat_map, filter_map}
use Rattle.std.proofs.lemmas.Bool.{and_from}
use Rattle.std.proofs.lemmas.List.{append-nil, take_more}
use Rattle.std.proofs.lemmas.List.Concat.{flat_map-append}
use Rattle.std.proofs.lemmas.List.Folds.{list_all-append}
use Rattle.moment_core.proofs.Lists.{all_weaker}
use Rattle.rrule_values.specs.Laws.{IsBack, is_value_byte}
use Rattle.rrule_values.specs.Splitting.{behind, is_other, split_at}
use Rattle.rrule_values.specs.Writing.{list_text, next_text}
use Rattle.rrule_values.proofs.Splitting.{joined_cut}
use Rattle.rrule_values.proofs.Words.{no_comma, word, word_plain}

module _ {X : Type 0} (text : X → List ℕ) (read : List ℕ → Option X) where
  -- its text is a word, and is read back
  pub record IsWord (x : X) : Type 0 where
    pub words : list_all word (text x) ≡ true
    pub back : read (text x) ≡ Some x

  pub word_back : (x : X) → IsWord x → IsBack text read x
  word_back x w = record {
    back = w.back;
    plain = all_weaker word is_value_byte word_plain (text x)
        w.words;
  }

  abbrev pub AreWords : List X → Type 0
  AreWords [] = Unit {0}
  AreWords (x ∷ xs) = IsWord x × AreWords xs

  more : (xs : List X) → flat_map (next_text text) xs ≡ flat_map (behind 44) (map text xs)
  more [] = refl
  more (x ∷ xs) = ap (λ (y : List ℕ). next_text text x ++ y) (more xs)

  all_lack : (xs : List X) → AreWords xs → list_all (λ t. list_all (is_other 44) t) (map text xs)
      ≡ true
  all_lack [] each = refl
  all_lack (x ∷ xs) each =
      and_from (list_all (is_other 44) (text x)) (list_all (λ t. list_all (is_other 44) t)
      (map text xs)) (all_weaker word (is_other 44) no_comma (text x) each.0.words)
      (all_lack xs each.1)

  pub cut : (x : X) (xs : List X) → AreWords (x ∷ xs) → split_at 44 (list_text text (x ∷ xs))
      ≡ map text (x ∷ xs)
  cut x xs each = rw (more xs) (joined_cut 44 (text x) (map text xs) (all_lack (x ∷ xs) each))

  pub all_some : (xs : List X) → AreWords xs → list_all (λ t. is_some (read t)) (map text xs) ≡ true
  all_some [] each = refl
  all_some (x ∷ xs) each = rw (each.0.back, all_some xs each.1) refl

  pub all_read : (xs : List X) → AreWords xs → filter_map read (map text xs) ≡ xs
  all_read [] each = refl
  all_read (x ∷ xs) each = rw (each.0.back, all_read xs each.1) refl

  more_plain : (xs : List X) → AreWords xs → list_all is_value_byte (flat_map (next_text text) xs)
      ≡ true
  more_plain [] each = refl
  more_plain (x ∷ xs) each =
      list_all-append is_value_byte (text x) (flat_map (next_text text) xs)
      ∙ and_from (list_all is_value_byte (text x)) _ (word_back x each.0).plain
      (more_plain xs each.1)

  pub list_plain : (x : X) (xs : List X) → AreWords (x ∷ xs) → list_all is_value_byte
      (list_text text (x ∷ xs)) ≡ true
  list_plain x xs each =
      list_all-append is_value_byte (text x) (flat_map (next_text text) xs)
      ∙ and_from (list_all is_value_byte (text x)) _ (word_back x each.0).plain
      (more_plain xs each.1)

-- what is written of one more
pub put_next : {X : Type 0} (text : X → List ℕ) (xs : List X) (i : ℕ) (x : X) (o0 o1 o2 : List ℕ)
    → x ≡ get_or xs i x → i < length xs
    → o1 ≡ o0 ++ flat_map (next_text text) (take i xs) → o2 ≡ o1 ++ next_text text x
    → o2 ≡ o0 ++ flat_map (next_text text) (take (i + 1) xs)
put_next text xs i x o0 o1 o2 at lt e1 e2 =
    let more : flat_map (next_text text) (take (i + 1) xs) ≡ flat_map (next_text text) (take i xs)
    ++ next_text text x =
    ap (λ ys. flat_map (next_text text) ys) (take_more xs i x lt) ∙ flat_map-append (next_text text)
    (take i xs) (get_or xs i x ∷ []) ∙ rw (sym at, append-nil (text x)) refl in
    e2 ∙ rw (e1, more) (append_assoc o0 (flat_map (next_text text) (take i xs)) (next_text text x))
