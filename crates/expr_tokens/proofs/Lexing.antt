-- Reading tokens one after the other, as a loop does.
use Rattle.std.proofs.Common.{◌≡◌, ℕ, zero, suc, ◌≤◌, true, false, List, [], ◌∷◌, ◌++◌, length, Some, None, Ok, Err, refl, sym, ap, ◌∙◌, append_assoc, arith}
use Rattle.std.proofs.lemmas.List.{append-nil}
use Rattle.std.specs.Prelude.{map}
use Rattle.std.specs.List.{AllZip}
use Rattle.expr_tokens.specs.declared.class.Class.TheVariants as classes
use Rattle.expr_tokens.specs.declared.token.Token.{Token as Placed}
use Rattle.expr_tokens.specs.Plain.{Token, plain, plains}
use Rattle.expr_tokens.specs.Class.{holds}
use Rattle.expr_tokens.specs.Reading.{Found, IsFound, AreFound, LeavesAt, with_token, token_at, reading_from, reading_of, alone, tokens_of}

-- the tokens that were found before, and what is still to be read
abbrev pub with_tokens : List (Token × ℕ) → Found → Found
with_tokens found (Ok others) = Ok (found ++ others)
with_tokens found (Err left) = Err left

pub record GoesOn (found : List (Token × ℕ)) (rest : List ℕ) (total : Found) : Type 0 where
  pub steps : ℕ
  pub enough : length rest ≤ steps
  pub so_far : with_tokens found (reading_from steps rest) ≡ total

pub regroup : (found : List (Token × ℕ)) (x : Token × ℕ) (read : Found)
    → with_tokens found (with_token x read) ≡ with_tokens (found ++ x ∷ []) read
regroup found x (Ok others) = ap (λ (y : List (Token × ℕ)). Ok y) (simp append_assoc)
regroup found x (Err left) = refl

pub whole : (read : Found) → with_tokens [] read ≡ read
whole (Ok others) = refl
whole (Err left) = refl

pub starts : (text : List ℕ) → GoesOn [] text (reading_of text)
unfolding reading_of
starts text = record {
  steps = length text;
  enough = omega arith;
  so_far =
      whole (reading_from (length text) text);
}

module _ (found : List (Token × ℕ)) (b : ℕ) (after : List ℕ) (total : Found) where
  blank_from : (n : ℕ) → holds classes.Blank b ≡ true → length (b ∷ after) ≤ n
      → with_tokens found (reading_from n (b ∷ after)) ≡ total → GoesOn found after total
  unfolding reading_from
  blank_from zero h enough so_far = absurd (omega arith)
  blank_from (suc n) h enough so_far = record {
    steps = n;
    enough = omega arith;
    so_far =
        rw h at so_far;
  }

  pub goes_past_blank : holds classes.Blank b ≡ true → GoesOn found (b ∷ after) total
      → GoesOn found after total
  goes_past_blank h on = blank_from on.steps h on.enough on.so_far

  token_from : (n : ℕ) (t : Token) (behind : List ℕ) → holds classes.Blank b ≡ false
      → token_at b after ≡ Some (t, behind) → length behind ≤ length after
      → length (b ∷ after) ≤ n → with_tokens found (reading_from n (b ∷ after)) ≡ total
      → GoesOn (found ++ (t, suc (length after)) ∷ []) behind total
  unfolding reading_from
  token_from zero t behind h read shorter enough so_far = absurd (omega arith)
  token_from (suc n) t behind h read shorter enough so_far =
      record {
        steps = n;
        enough = omega arith;
        so_far =
            sym (regroup found (t, suc (length after)) (reading_from n behind))
            ∙ (rw (h, read) at so_far);
      }

  pub goes_past_token : (t : Token) (behind : List ℕ) → holds classes.Blank b ≡ false
      → token_at b after ≡ Some (t, behind) → length behind ≤ length after
      → GoesOn found (b ∷ after) total → GoesOn (found ++ (t, suc (length after)) ∷ []) behind total
  goes_past_token t behind h read shorter on = token_from on.steps t behind h read shorter on.enough
      on.so_far

  none_from : (n : ℕ) → holds classes.Blank b ≡ false → token_at b after ≡ None
      → length (b ∷ after) ≤ n → with_tokens found (reading_from n (b ∷ after)) ≡ total → total
      ≡ Err (suc (length after))
  unfolding reading_from
  none_from zero h read enough so_far = absurd (omega arith)
  none_from (suc n) h read enough so_far = sym (rw (h, read) at so_far)

  pub no_token : holds classes.Blank b ≡ false → token_at b after ≡ None → GoesOn found (b ∷ after)
      total → total ≡ Err (suc (length after))
  no_token h read on = none_from on.steps h read on.enough on.so_far

pub nothing_from : (n : ℕ) → reading_from n [] ≡ Ok []
unfolding reading_from
nothing_from zero = refl
nothing_from (suc n) = refl

pub ends : (found : List (Token × ℕ)) (total : Found) → GoesOn found [] total → total ≡ Ok found
ends found total on = sym on.so_far ∙ ap (with_tokens found) (nothing_from on.steps)
    ∙ ap (λ (x : List (Token × ℕ)). Ok x) (append-nil found)

-- The code's tokens, as they were found in a text of so many bytes.
pub record Kept (total : ℕ) (ts : List Placed) (rest : List ℕ) (reading : Found) : Type 0 where
  pub found : List (Token × ℕ)
  pub goes_on : GoesOn found rest reading
  pub each : AllZip (IsFound total) ts found

push_each : (total : ℕ) (ts : List Placed) (found : List (Token × ℕ)) (t : Placed) (x : Token × ℕ)
    → AllZip (IsFound total) ts found → IsFound total t x → AllZip (IsFound total) (ts ++ t ∷ [])
    (found ++ x ∷ [])
push_each total [] [] t x each one = (one, each)
push_each total [] (y ∷ ys) t x each one = absurd each
push_each total (s ∷ ts) [] t x each one = absurd each
push_each total (s ∷ ts) (y ∷ ys) t x each one = (each.0, push_each total ts ys t x each.1 one)

alone_of : (total : ℕ) (ts : List Placed) (found : List (Token × ℕ)) → AllZip (IsFound total) ts
    found → map (λ (x : Token × ℕ). x.0) found ≡ plains ts
alone_of total [] [] each = refl
alone_of total [] (y ∷ ys) each = absurd each
alone_of total (s ∷ ts) [] each = absurd each
alone_of total (s ∷ ts) (y ∷ ys) each = rw (each.0.same, alone_of total ts ys each.1) refl

module _ (text : List ℕ) where
  pub starts_kept : Kept (length text) [] text (reading_of text)
  starts_kept = record { found = []; goes_on = starts text; each = tt }

  module _ (ts : List Placed) (b : ℕ) (after : List ℕ) where
    pub past_blank : holds classes.Blank b ≡ true → Kept (length text) ts (b ∷ after)
        (reading_of text) → Kept (length text) ts after (reading_of text)
    past_blank h kept = record {
      found = kept.found;
      goes_on = goes_past_blank kept.found b after
          (reading_of text) h kept.goes_on;
      each = kept.each;
    }

    pub past_token : (t : Placed) (behind : List ℕ) → holds classes.Blank b ≡ false
        → token_at b after ≡ Some (plain t, behind) → length behind ≤ length after
        → LeavesAt (length text) (suc (length after)) t → Kept (length text) ts (b ∷ after)
        (reading_of text) → Kept (length text) (ts ++ t ∷ []) behind (reading_of text)
    past_token t behind h read shorter place kept = record {
      found = kept.found ++ (plain t, suc (length after)) ∷ [];
      goes_on = goes_past_token kept.found b after (reading_of text) (plain t) behind h read shorter
          kept.goes_on;
      each = push_each (length text) ts kept.found t (plain t, suc (length after)) kept.each
          (record { same = refl; place = place });
    }

    pub no_token_kept : holds classes.Blank b ≡ false → token_at b after ≡ None
        → Kept (length text) ts (b ∷ after) (reading_of text) → reading_of text
        ≡ Err (suc (length after))
    no_token_kept h read kept = no_token kept.found b after (reading_of text) h read kept.goes_on

  pub ends_kept : (ts : List Placed) → Kept (length text) ts [] (reading_of text) → AreFound text ts
  ends_kept ts kept = record {
    found = kept.found;
    read = ends kept.found (reading_of text)
        kept.goes_on;
    each = kept.each;
  }

  pub found_alone : (ts : List Placed) → AreFound text ts → tokens_of text ≡ Ok (plains ts)
  unfolding tokens_of
  found_alone ts are = ap alone are.read ∙ ap (λ (x : List Token). Ok x)
      (alone_of (length text) ts are.found are.each)
