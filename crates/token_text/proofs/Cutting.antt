-- A text is cut at its first colon.
use Rattle.std.proofs.Common.{◌≡◌, ℕ, ◌+◌, true, not, List, [], ◌∷◌, ◌++◌, length, take, drop, Option, Some, None, IsSomeAnd, Bor, refl, ap, ◌∙◌, arith, length-append, append_assoc, one-add}
use Rattle.std.specs.List.{position_or_len}
use Rattle.std.proofs.lemmas.Bool.{and_parts, not-true}
use Rattle.std.proofs.lemmas.Grind.{common_steps}
use Rattle.std.proofs.lemmas.Str.Pattern.{split_once_first, IsSplitOnceResult}
use Rattle.token_text.specs.Parts.{is_colon, lacks_colon}
use Rattle.token_text.specs.Texts.{with_colon}

colon_at : (a b : List ℕ) → lacks_colon a ≡ true → position_or_len is_colon (a ++ 58 ∷ b) ≡ length a
colon_at [] b lacks = refl
colon_at (x ∷ a) b lacks =
    let parts = and_parts (not (is_colon x)) (lacks_colon a) lacks in
    rw (not-true (is_colon x) parts.0) (ap (λ n. 1 + n) (colon_at a b parts.1)
    ∙ one-add (length a))

pub cut_at : (a b text : List ℕ) (r : Option (Bor (List ℕ) × Bor (List ℕ))) → IsSplitOnceResult 58
    text r → lacks_colon a ≡ true
    → text ≡ with_colon a b → IsSomeAnd r (λ x. (x.0.now ≡ a) × (x.1.now ≡ b))
cut_at a b text None split lacks whole =
    let is : text ≡ a ++ 58 ∷ b = whole ∙ append_assoc a (58 ∷ []) b in
    let none = split_once_first 58 text None split (omega arith) in
    let at = ap (position_or_len is_colon) is ∙ colon_at a b lacks in
    let size = ap length is ∙ length-append a (58 ∷ b) in
    absurd (omega (arith, none, at, size))
cut_at a b text (Some x) split lacks whole =
    let is : text ≡ a ++ 58 ∷ b = whole ∙ append_assoc a (58 ∷ []) b in
    let parts = split_once_first 58 text (Some x) split (omega arith) in
    let at = ap (position_or_len is_colon) is ∙ colon_at a b lacks in
    let front : take (length a) (a ++ 58 ∷ b) ≡ a = grind (arith, common_steps) in
    let back : drop (length a + 1) (a ++ 58 ∷ b) ≡ b = grind (arith, common_steps) in (
      parts.1 ∙ ap (λ n. take n text) at ∙ ap (take (length a)) is ∙ front,
      parts.2 ∙ ap (λ n. drop (n + 1) text) at ∙ ap (drop (length a + 1)) is ∙ back,
    )
