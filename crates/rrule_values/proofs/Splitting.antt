-- Texts with a sign between them are cut at the sign again.
use Rattle.std.proofs.Common.{◌≡◌, ℕ, true, ◌==◌, List, [], ◌∷◌, ◌++◌, refl, ap, ◌∙◌, arith}
use Rattle.std.specs.List.{flat_map, list_all}
use Rattle.std.proofs.lemmas.Bool.{and_parts, not-true}
use Rattle.std.proofs.lemmas.Bool.Decides.{nat_tests}
use Rattle.std.proofs.lemmas.List.{append-nil}
use Rattle.rrule_values.specs.Laws.{JoinedAreCut}
use Rattle.rrule_values.specs.Splitting.{behind, is_other, split_at}

split_none : (c : ℕ) (x : List ℕ) → list_all (is_other c) x ≡ true → split_at c x ≡ x ∷ []
split_none c [] each = refl
split_none c (b ∷ x) each =
    let parts = and_parts (is_other c b) (list_all (is_other c) x) each in
    rw (not-true (b == c) parts.0, split_none c x parts.1) refl

split_cut : (c : ℕ) (x rest : List ℕ) → list_all (is_other c) x ≡ true → split_at c (x ++ c ∷ rest)
    ≡ x ∷ split_at c rest
split_cut c [] rest each = rw (same c) refl
  where
    same : (n : ℕ) → (n == n) ≡ true
    same n = grind (arith, nat_tests)
split_cut c (b ∷ x) rest each =
    let parts = and_parts (is_other c b) (list_all (is_other c) x) each in
    rw (not-true (b == c) parts.0, split_cut c x rest parts.1) refl

pub joined_cut : JoinedAreCut
joined_cut c x [] each =
    rw (append-nil x) (split_none c x (and_parts (list_all (is_other c) x) true each).0)
joined_cut c x (p ∷ ps) each =
    let parts = and_parts (list_all (is_other c) x) (list_all (λ t. list_all (is_other c) t)
    (p ∷ ps)) each in
    split_cut c x (p ++ flat_map (behind c) ps) parts.0 ∙ ap (λ (y : List (List ℕ)). x ∷ y)
    (joined_cut c p ps parts.1)
