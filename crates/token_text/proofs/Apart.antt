-- No two tokens have one text.
use Rattle.std.proofs.Common.{◌≡◌, ℕ, true, not, List, [], ◌∷◌, ◌++◌, Option, Some, None, refl, sym, ap, ◌∙◌, arith, append_assoc, get_or}
use Rattle.std.specs.Fmt.{signed_decimal}
use Rattle.std.proofs.lemmas.Bool.{and_parts, true≢false}
use Rattle.std.proofs.lemmas.Fmt.{signed_decimal_injective}
use Rattle.std.proofs.lemmas.Int.{ints}
use Rattle.moment_core.specs.declared.line.Dir.{Dir}
use Rattle.moment_core.specs.declared.line.Dir.TheVariants.{Fore, Back}
use Rattle.moment_core.specs.declared.line.Pos.{Pos}
use Rattle.span_core.specs.declared.answers.Token.{Token}
use Rattle.token_text.specs.Laws.{TextsTellTokensApart}
use Rattle.token_text.specs.Parts.{is_colon, lacks_colon, IsNearIfGiven, IsNearRange}
use Rattle.token_text.specs.Texts.{begun_text, dir_text, with_colon}
use Rattle.token_text.proofs.Numerals.{begun_lacks, dir_lacks, fit_near, no_dash, number_lacks}

colon_behind : (x : ℕ) (a : List ℕ) → lacks_colon (x ∷ a) ≡ true → x ≡ 58 → ⊥
colon_behind x a lacks e =
    let colon : is_colon x ≡ true = ap is_colon e in
    true≢false (sym (and_parts (not (is_colon x)) (lacks_colon a) lacks).0 ∙ ap not colon)

-- texts with a colon between them are cut in one way
one_cut : (a b c d : List ℕ) → lacks_colon a ≡ true → lacks_colon c ≡ true → a ++ 58 ∷ b ≡ c
    ++ 58 ∷ d → (a ≡ c) × (b ≡ d)
one_cut [] b [] d first second e = (refl, let tails : b ≡ d = cc in tails)
one_cut [] b (y ∷ c) d first second e =
    absurd (colon_behind y c second (let heads : y ≡ 58 = cc in heads))
one_cut (x ∷ a) b [] d first second e =
    absurd (colon_behind x a first (let heads : x ≡ 58 = cc in heads))
one_cut (x ∷ a) b (y ∷ c) d first second e =
    let heads : x ≡ y = cc in
    let tails : a ++ 58 ∷ b ≡ c ++ 58 ∷ d = cc in
    let (fronts, backs) = one_cut a b c d (and_parts (not (is_colon x)) (lacks_colon a) first).1
    (and_parts (not (is_colon y)) (lacks_colon c) second).1 tails in
    (let all : x ∷ a ≡ y ∷ c = cc in all, backs)

cut_in_one_way : (a b c d : List ℕ) → lacks_colon a ≡ true → lacks_colon c ≡ true → with_colon a b
    ≡ with_colon c d → (a ≡ c) × (b ≡ d)
cut_in_one_way a b c d first second e = one_cut a b c d first second
    (sym (append_assoc a (58 ∷ []) b) ∙ e ∙ append_assoc c (58 ∷ []) d)

one_dir : (a b : Dir) → dir_text a ≡ dir_text b → a ≡ b
one_dir Fore Fore e = refl
one_dir Back Back e = refl
one_dir Fore Back e = let first : 102 ≡ 98 = ap (λ (x : List ℕ). get_or x 0 0) e in
    absurd (omega (arith, first))
one_dir Back Fore e = let first : 98 ≡ 102 = ap (λ (x : List ℕ). get_or x 0 0) e in
    absurd (omega (arith, first))

one_pos : (a b : Pos) → IsNearRange a → IsNearRange b → signed_decimal a.0 ≡ signed_decimal b.0 → a
    ≡ b
one_pos a b near also e =
    let same : a.0 ≡ b.0 = signed_decimal_injective a.0 b.0 (grind (arith, ints))
    (grind (arith, ints)) e in
    ap (λ z. record { 0 = z }) same

one_begun : (a b : Option Pos) → IsNearIfGiven a → IsNearIfGiven b → begun_text a ≡ begun_text b → a
    ≡ b
one_begun None None near also e = refl
one_begun None (Some q) near also e = absurd (no_dash q also (sym e))
one_begun (Some p) None near also e = absurd (no_dash p near e)
one_begun (Some p) (Some q) near also e = ap (λ (x : Pos). Some x) (one_pos p q near also e)

same_parts : (d dir : Dir) (p place : Pos) (b begun : Option Pos) (e end : Pos) → d ≡ dir → p
    ≡ place → b ≡ begun → e ≡ end
    → Path Token (record { dir = d; place = p; begun = b; end = e })
    (record { dir = dir; place = place; begun = begun; end = end })
same_parts d dir p place b begun e end dirs places begins ends = cc

pub tokens_apart : TextsTellTokensApart
tokens_apart text s t first second =
    let near = fit_near s first.1 in
    let also = fit_near t second.1 in
    let (dir, behind) = cut_in_one_way (dir_text s.dir) _ (dir_text t.dir) _ (dir_lacks s.dir)
    (dir_lacks t.dir) (sym first.0 ∙ second.0) in
    let (place, later) = cut_in_one_way (signed_decimal s.place.0) _ (signed_decimal t.place.0) _
    (number_lacks s.place near.0) (number_lacks t.place also.0) behind in
    let (begun, end) = cut_in_one_way (begun_text s.begun) _ (begun_text t.begun) _
    (begun_lacks s.begun near.2) (begun_lacks t.begun also.2) later in
    same_parts s.dir t.dir s.place t.place s.begun t.begun s.end t.end (one_dir s.dir t.dir dir)
    (one_pos s.place t.place near.0 also.0 place)
    (one_begun s.begun t.begun near.2 also.2 begun) (one_pos s.end t.end near.1 also.1 end)
